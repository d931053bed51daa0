use Rattle.std.proofs.Common.{◌∙◌, sym}
use Rattle.effect_cells.proofs.Listed.{none_listed}
use Rattle.effect_cells.proofs.gathering.Gathering.new.Goals as goal

pub invariant_of-result : goal.invariant_of-result
invariant_of-result c = c.in_ok-touched.ensures.items ∙ sym (none_listed 0 _ c.in_ok-pending.ensures.blank)
