use Rattle.std.proofs.Common.{◌∙◌, ap, length, refl, arith}
use Rattle.std.proofs.lemmas.List.{length_push}
use Rattle.effect_cells.proofs.TouchedCells.{blank_more}
use Rattle.effect_cells.proofs.pending.nothing_pending.Goals as goal

pub loop-state-preserved : goal.loop-state-preserved
loop-state-preserved c = record {
  blank = rw c.in_ok-push.ensures.items (blank_more c.loop-state.pending.items _ refl c.loop-state.invariant.blank);
  same = ap length c.in_ok-push.ensures.items ∙ length_push c.loop-state.pending.items _ ∙ omega (arith, c.loop-state.invariant.same);
}
