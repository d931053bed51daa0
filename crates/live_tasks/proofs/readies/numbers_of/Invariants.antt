use Rattle.std.proofs.Common.{◌≡◌, ◌++◌, drop}
use Rattle.live_tasks.specs.Readies.{numbers_of_tasks}
use Rattle.live_tasks.proofs.readies.numbers_of.Given as goal

abbrev pub invariant-loop-one : goal.invariant-loop-one
invariant-loop-one l = l.numbers.items ++ numbers_of_tasks (drop l.one-index l.ready) ≡ numbers_of_tasks l.ready
