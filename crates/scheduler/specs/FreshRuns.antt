-- The fresh run of a plan, as a function of it.
use Rattle.std.specs.Prelude.{ℕ, []}
use Rattle.aerie_base.specs.declared.models.model.Parts.{Parts}
use Rattle.aerie_base.specs.declared.plans.Plan.{Plan}
use Rattle.run_data.specs.declared.runs.Run.{Run}
use Rattle.run_data.specs.declared.runs.Outcome.TheVariants.{StepLimit}
use Rattle.run_data.specs.Fresh.{SimulationState, after_transitions}
use Rattle.run_data.specs.KeptRuns.{KeptRun}
use Rattle.run_data.specs.Transitions.{Next, more, finished}
use Rattle.run_data.specs.laws.Ending.{enough_transitions}

-- the run of a simulation that has ended; one that has not stands for no run
abbrev pub run_in : Plan → ℕ → Next SimulationState Run → Run
run_in plan bound (finished run) = run
run_in plan bound (more at) = record { plan = plan; bound = bound; instants = []; reach = 0; outcome = StepLimit 0 }

-- the run after so many transitions
abbrev pub run_after : ℕ → Parts → ℕ → Plan → Run
run_after iterations model bound plan = run_in plan bound (after_transitions model plan bound iterations)

-- the fresh run of a plan: the simulation has ended after so many transitions
unfoldable pub fresh_run : Parts → ℕ → Plan → Run
fresh_run model bound plan = run_after (enough_transitions model plan bound) model bound plan

-- it is kept beside its model
abbrev pub kept_run : Parts → ℕ → Plan → KeptRun
kept_run model bound plan = record { model = model; run = fresh_run model bound plan }
