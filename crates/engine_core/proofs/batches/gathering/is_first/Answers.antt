-- A frame with none before it, or one of another path, is the first of its path.
use Rattle.std.proofs.Common.{◌∙◌, sym, arith}
use Rattle.std.proofs.lemmas.Bool.{false≢true, not-true}
use Rattle.engine_core.proofs.ChildPositions.{first_at_zero, first_by_before}
use Rattle.engine_core.proofs.batches.gathering.is_first.Goals as goal

pub returns-then-at-eq0 : goal.returns-then-at-eq0
returns-then-at-eq0 c = λ yes. first_at_zero c.args.frames.now c.args.at (omega (arith, c.if-at-eq0.true))

pub returns-else-at-eq0 : goal.returns-else-at-eq0
returns-else-at-eq0 c = λ apart.
    first_by_before c.args.frames.now c.args.at c.index-frames-at.result c.index-frames-at-else-at-eq0.result c.requires.order (λ zero. omega (arith, c.if-at-eq0.false, zero)) c.requires.at
    c.index-frames-at.is c.index-frames-at-else-at-eq0.is
    (λ same. false≢true (sym (not-true c.is_same.result apart) ∙ c.is_same.ensures.1 (c.path.ensures ∙ same ∙ sym c.path-else-at-eq0.ensures)))
