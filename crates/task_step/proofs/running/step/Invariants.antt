use Rattle.std.proofs.Common.{◌≡◌, ◌<◌, ◌≤◌, ◌-◌, length}
use Rattle.aerie_base.specs.statements.Places.{left}
use Rattle.run_data.specs.StepStates.{starting}
use Rattle.run_data.specs.Jobs.{AreCellsOf}
use Rattle.run_data.specs.Steps.{steps}
use Rattle.run_data.specs.TaskStates.{body_of}
use Rattle.run_data.specs.Typed.{AreLeft}
use Rattle.task_step.specs.Doable.{cells_of}
use Rattle.task_step.proofs.running.step.Given as goal

-- what is left of the step, and the places, cells and bounds with which it goes on
abbrev pub invariant-places : goal.invariant-places
invariant-places l = record {
  place : l.at < length l.code;
  same : steps l.job.state.kind l.fuel (left (body_of l.model l.job.state.kind) l.job.state.at) (starting l.job.view l.job.state.locals)
      ≡ steps l.job.state.kind (l.fuel - l.so_far.cost) (left (body_of l.model l.job.state.kind) l.at) l.so_far;
  paid : l.so_far.cost ≤ l.fuel;
  few : length l.so_far.items ≤ l.so_far.cost;
  left_there : AreLeft l.model l.job.state.kind (left (body_of l.model l.job.state.kind) l.at) l.so_far.locals;
  cells : AreCellsOf l.model (cells_of l.so_far);
}

abbrev pub decreases-places : goal.decreases-places
decreases-places l = l.fuel - l.so_far.cost
