-- Where an instant is settled and time passes.
use Rattle.std.specs.Prelude.{◌≡◌, ℕ, ◌-◌, ◌≤◌, Bool, true, false, List, Option, None, Result, OnOk}
use Rattle.std.specs.List.{list_any}
use Rattle.aerie_base.specs.declared.models.CellStart.{CellStart}
use Rattle.aerie_base.specs.declared.models.CellStart.TheVariants.{Counter, Register, Accumulator}
use Rattle.aerie_base.specs.declared.models.model.Parts.{Parts}
use Rattle.aerie_base.specs.declared.plans.Plan.{Plan}
use Rattle.effect_cells.specs.declared.cells.OutOfRange.{OutOfRange}
use Rattle.effect_cells.specs.declared.effects.CellState.{CellState}
use Rattle.effect_cells.specs.Cells.{passed, first_out, verdict, AreInRange}
use Rattle.run_data.specs.declared.runs.Run.{Run}
use Rattle.run_data.specs.Jobs.{AreCellsOf}
use Rattle.run_data.specs.Fresh.{SimulationState, moved, to_time, to_end, below, least_due}
use Rattle.run_data.specs.Transitions.{Next, more, finished}
use Rattle.run_data.specs.laws.PrunedStates.{pruned_point}
use Rattle.live_tasks.specs.InStep.{IsInStep}
use Rattle.live_tasks.specs.Waking.{AreFound}
use Rattle.engine_core.specs.Simulations.{state_of}
use Rattle.engine_core.specs.declared.simulation.Simulation.{Simulation}

-- the next time at which some task goes on by itself, if it is below the plan's end
abbrev pub next_due : Plan → SimulationState → Option ℕ
next_due plan at = below plan.duration (least_due at.time plan.duration at.cells at.table)

-- where time passes to that time, or to the plan's end
abbrev pub point_moved : Parts → Plan → ℕ → SimulationState → Next SimulationState Run
point_moved model plan bound at = moved model plan bound at (next_due plan at)

-- where time passes to a time below the plan's end
abbrev pub point_at_time : Parts → Plan → ℕ → SimulationState → ℕ → Next SimulationState Run
point_at_time model plan bound at time =
    let cells = passed at.cells (time - at.time) in to_time model plan bound at time cells (first_out cells)

-- where it passes to the plan's end
abbrev pub point_at_end : Parts → Plan → ℕ → SimulationState → Next SimulationState Run
point_at_end model plan bound at = to_end model plan bound at (first_out (passed at.cells (plan.duration - at.time)))

-- whether a cell changes with time by itself
abbrev pub is_accumulator : CellStart → Bool
is_accumulator (Counter number) = false
is_accumulator (Register kind value) = false
is_accumulator (Accumulator volume rate) = true

-- whether some cell of a model does
abbrev pub has_accumulator : Parts → Bool
has_accumulator model = list_any (λ cell. is_accumulator cell.1) model.cells

-- a time has passed on the cells, or the first that would leave its range is named
pub record HasPassed (dt : ℕ) (before after : List CellState) (end : Result (Unit {0}) OutOfRange) : Type 0 where
  pub answer : end ≡ verdict (passed before dt)
  pub moved : OnOk end (after ≡ passed before dt)

-- a simulation that goes on does so no earlier than at this time
abbrev pub GoesOnFrom : ℕ → Next SimulationState Run → Type 0
GoesOnFrom time (more later) = time ≤ later.time
GoesOnFrom time (finished run) = Unit {0}

-- ---- of a simulation

-- it goes on, its cells are those of the model and in range, and its wake times are found
pub record IsOpen (model : Parts) (simulation : Simulation) : Type 0 where
  pub open_ : simulation.ending ≡ None
  pub cells : AreCellsOf model simulation.present.cells
  pub range : AreInRange simulation.present.cells
  pub in_step : IsInStep simulation.present.tasks
  pub found : AreFound simulation.present.time simulation.request.plan.duration simulation.present.cells simulation.present.tasks

abbrev pub next_due_of : Simulation → Option ℕ
next_due_of simulation = next_due simulation.request.plan (state_of simulation.history simulation.present)

-- where time passes to its next time, to a time, and to the end, what has ended being left out
abbrev pub point_of_next : Parts → Simulation → Next SimulationState Run
point_of_next model simulation =
    pruned_point (point_moved model simulation.request.plan simulation.request.bound (state_of simulation.history simulation.present))

abbrev pub point_then : Parts → Simulation → ℕ → Next SimulationState Run
point_then model simulation time =
    pruned_point (point_at_time model simulation.request.plan simulation.request.bound (state_of simulation.history simulation.present) time)

abbrev pub point_last : Parts → Simulation → Next SimulationState Run
point_last model simulation =
    pruned_point (point_at_end model simulation.request.plan simulation.request.bound (state_of simulation.history simulation.present))
