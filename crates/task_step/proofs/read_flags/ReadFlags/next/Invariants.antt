use Rattle.std.proofs.Common.{◌≤◌, ◌-◌, min}
use Rattle.task_step.proofs.FlagWords.{NoneFrom}
use Rattle.task_step.proofs.read_flags.ReadFlags.next.Given as goal

-- none of the cells so far was read
abbrev pub invariant-loop-at : goal.invariant-loop-at
invariant-loop-at l = record {
  after : l.fn.from ≤ l.at;
  none : NoneFrom l.self (l.fn.from) (min l.at l.self-inside.cells);
}

abbrev pub decreases-loop-at : goal.decreases-loop-at
decreases-loop-at l = l.self-inside.cells - l.at
