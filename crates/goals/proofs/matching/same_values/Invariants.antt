-- The values passed are the same.
use Rattle.std.proofs.Common.{◌≡◌, drop}
use Rattle.plan_merge.specs.Table.{same_values as equal_values}
use Rattle.goals.proofs.matching.same_values.Given as goal

abbrev pub invariant-loop-at : goal.invariant-loop-at
invariant-loop-at l = equal_values (drop l.at l.values) (drop l.at l.others) ≡ equal_values l.values l.others
