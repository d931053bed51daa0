use Rattle.std.proofs.Common.{◌≤◌, ◌*◌}
use Rattle.task_step.proofs.read_flags.ReadFlags.count.Given as goal

abbrev pub invariant-loop-word : goal.invariant-loop-word
invariant-loop-word l = l.count ≤ l.word-index * 64
