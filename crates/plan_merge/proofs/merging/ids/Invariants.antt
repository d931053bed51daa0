-- The ids of those so far.
use Rattle.std.proofs.Common.{◌≡◌, take}
use Rattle.aerie_base.specs.plans.OfModel.{ids_of}
use Rattle.plan_merge.proofs.merging.ids.Given as goal

abbrev pub invariant-loop-at : goal.invariant-loop-at
invariant-loop-at l = l.ids ≡ ids_of (take l.at l.fn.directives)
