use Rattle.std.proofs.Common.{List, ℕ, subst}
use Rattle.span_table.specs.KnownTasks.{IsChild}
use Rattle.span_table.proofs.NumberedPaths.{maker_there}
use Rattle.span_table.proofs.numbering.maker_near.Goals as goal

pub returns-then-is_child : goal.returns-then-is_child
returns-then-is_child c =
    maker_there _ c.in_ok-here.here _ _ _ c.in_ok-other.ensures.entry
    (subst (λ (maker : List ℕ). IsChild maker c.args.path.now) c.get.ensures (c.is_child.ensures c.if-is_child.true))
