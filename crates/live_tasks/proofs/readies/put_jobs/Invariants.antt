use Rattle.std.proofs.Common.{◌≡◌, ◌++◌, drop}
use Rattle.run_data.specs.Tasks.{ready_jobs}
use Rattle.live_tasks.specs.Readies.{entries_at}
use Rattle.live_tasks.proofs.readies.put_jobs.Given as goal

abbrev pub invariant-loop-number : goal.invariant-loop-number
invariant-loop-number l = l.jobs ++ ready_jobs l.view (entries_at l.slots.slots (drop l.number-index l.numbers)) ≡ ready_jobs l.view (entries_at l.slots.slots l.numbers)
