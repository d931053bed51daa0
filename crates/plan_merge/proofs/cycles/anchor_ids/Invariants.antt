-- The ids to which those so far are anchored.
use Rattle.std.proofs.Common.{◌≡◌, map, take}
use Rattle.aerie_base.specs.plans.OfModel.{anchored_to}
use Rattle.plan_merge.proofs.cycles.anchor_ids.Given as goal

abbrev pub invariant-loop-at : goal.invariant-loop-at
invariant-loop-at g l = l.ids.items ≡ map anchored_to (take l.at (g.D.HasIds.as_directives l.directives))
