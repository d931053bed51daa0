use Rattle.run_data.specs.Transitions.{more, begins}
use Rattle.run_data.specs.Fresh.{SimulationState, start, next_state}
use Rattle.run_data.specs.declared.runs.Run.{Run}
use Rattle.run_data.specs.laws.Iteration.{transitions_come}
use Rattle.run_data.proofs.laws.runs.transitions_stand.Goals as goal

pub returns : goal.returns
returns c = λ model plan bound count. transitions_come SimulationState Run (next_state model plan bound) count (start model plan) (more (start model plan)) begins
