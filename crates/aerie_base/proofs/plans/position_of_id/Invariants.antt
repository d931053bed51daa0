-- In front of what is left ids are smaller, behind it they are greater.
use Rattle.std.proofs.Common.{◌-◌, ◌≤◌, length}
use Rattle.aerie_base.proofs.PlanSearch.{AreBelow, AreAbove}
use Rattle.aerie_base.proofs.plans.position_of_id.Given as goal

abbrev pub invariant-loop-from : goal.invariant-loop-from
invariant-loop-from g l = record {
  ordered : l.from ≤ l.to;
  within : l.to ≤ length l.directives;
  below : AreBelow (g.D.HasIds.as_directives l.directives) l.from l.id;
  above : AreAbove (g.D.HasIds.as_directives l.directives) l.to l.id;
}

abbrev pub decreases-loop-from : goal.decreases-loop-from
decreases-loop-from g l = l.to - l.from
