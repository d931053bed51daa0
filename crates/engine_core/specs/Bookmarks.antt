-- A simulation that was set aside at the beginning of an instant, and copies of it.
use Rattle.std.specs.Prelude.{◌≡◌, ℕ, List, [], None}
use Rattle.aerie_base.specs.declared.models.model.Parts.{Parts}
use Rattle.run_data.specs.declared.runs.Instant.{Instant}
use Rattle.run_data.specs.declared.runs.Run.{Run}
use Rattle.run_data.specs.Fresh.{SimulationState}
use Rattle.run_data.specs.Transitions.{Next, more, finished}
use Rattle.live_tasks.specs.InStep.{table_in, IsInStep}
use Rattle.live_tasks.specs.Waking.{KeepsWakes}
use Rattle.engine_core.specs.EngineStates.{jobs_in, batches_in}
use Rattle.engine_core.specs.Simulations.{point_in, IsOnCourse}
use Rattle.engine_core.specs.declared.present.Present.{Present}
use Rattle.engine_core.specs.declared.simulation.Request.{Request}
use Rattle.engine_core.specs.declared.simulation.Simulation.{Simulation}

-- it is on course, a job is ready, and no batch of this instant has been run
pub record IsSetAside (model : Parts) (simulation : Simulation) : Type 0 where
  pub course : IsOnCourse model simulation
  pub job : jobs_in (point_in simulation) ≡ [] → ⊥
  pub begins : batches_in (point_in simulation) ≡ []

-- the same time, costs, cells and tasks; and what is known of the wake times in one is known in the other
pub record IsCopyOf (present copy : Present) : Type 0 where
  pub time : copy.time ≡ present.time
  pub spent : copy.spent ≡ present.spent
  pub cells : copy.cells ≡ present.cells
  pub table : table_in copy.tasks ≡ table_in present.tasks
  pub in_step : IsInStep copy.tasks
  pub kept : KeepsWakes present.tasks copy.tasks

-- a simulation that has not ended stands where another does, for another request
pub record IsCopyFor (of : Request) (simulation copy : Simulation) : Type 0 where
  pub request : copy.request ≡ of
  pub history : copy.history ≡ simulation.history
  pub present : IsCopyOf simulation.present copy.present
  pub open_ : copy.ending ≡ None

-- a point behind other instants, at other costs
abbrev pub point_behind : List Instant → ℕ → Next SimulationState Run → Next SimulationState Run
point_behind instants spent (more at) = more (record at { instants = instants; spent = spent })
point_behind instants spent (finished run) = finished run
