-- The ids so far and those still to be given are all, and few have been given.
use Rattle.std.proofs.Common.{◌≡◌, ◌≤◌, ◌+◌, ◌++◌, drop}
use Rattle.plan_merge.proofs.Renames.{ids_given}
use Rattle.plan_merge.proofs.renaming.new_ids.Given as goal

abbrev pub invariant-loop-directive : goal.invariant-loop-directive
invariant-loop-directive l = record {
  given : l.ids.items ++ ids_given l.fn.base l.next (drop l.directive-index l.source) ≡ ids_given l.fn.base l.fn.first l.source;
  few : l.next ≤ l.fn.first + l.directive-index;
}
