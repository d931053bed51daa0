use Rattle.std.proofs.Common.{◌≡◌, ◌<◌, length}
use Rattle.aerie_base.specs.statements.Places.{left}
use Rattle.run_data.specs.TaskStates.{body_of}
use Rattle.task_step.specs.Moves.{rank}
use Rattle.task_step.proofs.running.land.Given as goal

abbrev pub invariant-loop-to : goal.invariant-loop-to
invariant-loop-to l = record {
  place : l.at < length l.code;
  same : left (body_of l.model l.fn.kind) l.at ≡ left (body_of l.model l.fn.kind) l.initial.at;
}

abbrev pub decreases-loop-to : goal.decreases-loop-to
decreases-loop-to l = rank l.code l.at
