-- The segments of all entries are those so far and those of the entries that are left.
use Rattle.std.proofs.Common.{◌≡◌, ◌++◌, map, drop}
use Rattle.dataset_in.specs.Levels.{before, constant}
use Rattle.dataset_in.proofs.series.whole_before.Given as goal

abbrev pub invariant-loop-entry : goal.invariant-loop-entry
invariant-loop-entry l = before l.fn.reach (map constant l.entries) ≡ l.segments.items ++ before l.fn.reach (map constant (drop l.entry-index l.entries))
