use Rattle.std.proofs.Common.{◌≡◌, ◌++◌, drop}
use Rattle.live_tasks.specs.Readies.{ready_tasks}
use Rattle.live_tasks.proofs.readies.of_numbers.Given as goal

abbrev pub invariant-loop-number : goal.invariant-loop-number
invariant-loop-number l = l.ready.items ++ ready_tasks l.slots.slots (drop l.number-index l.numbers) ≡ ready_tasks l.slots.slots l.numbers
