use Rattle.run_data.specs.Fresh.{SimulationState, start, next_state}
use Rattle.run_data.specs.declared.runs.Run.{Run}
use Rattle.run_data.specs.laws.Iteration.{same_result}
use Rattle.run_data.proofs.laws.runs.one_fresh_run.Goals as goal

pub returns : goal.returns
returns c = λ model plan bound run other. same_result SimulationState Run (next_state model plan bound) (start model plan) run other
