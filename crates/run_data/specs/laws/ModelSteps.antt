-- A step of a job of a valid model leaves all of the model: the state from which the task goes on, what it waits
-- for, its children and the cells.
use Rattle.std.specs.Prelude.{◌≡◌, ℕ, IsTrue, List, [], ◌∷◌, Some}
use Rattle.std.specs.List.{All}
use Rattle.aerie_base.specs.declared.conditions.Cond.{Cond}
use Rattle.aerie_base.specs.declared.models.model.Parts.{Parts}
use Rattle.aerie_base.specs.models.Cells.{read_kind}
use Rattle.aerie_base.specs.models.ValidModel.{valid_model}
use Rattle.effect_cells.specs.Reads.{kind_on}
use Rattle.effect_cells.specs.Solvable.{may_be_solved}
use Rattle.effect_cells.specs.declared.effects.CellState.{CellState}
use Rattle.run_data.specs.declared.frames.Item.{Item}
use Rattle.run_data.specs.declared.frames.Item.TheVariants as item
use Rattle.run_data.specs.declared.frames.Status.{Status}
use Rattle.run_data.specs.declared.frames.Status.TheVariants.{Delayed, Waiting, Calling, Done, Faulted}
use Rattle.run_data.specs.declared.jobs.Job.{Job}
use Rattle.run_data.specs.StepStates.{StepState, after_items}
use Rattle.run_data.specs.Frames.{job_step}
use Rattle.run_data.specs.Jobs.{is_state_of, AreCellsOf, IsJobOf}
use Rattle.run_data.specs.TaskStates.{activity_begun}
use Rattle.run_data.specs.Numbers.{HasNumber}
use Rattle.run_data.specs.laws.Typing.{NextIsOfModel}

-- each child begins in a state of the model
abbrev pub AreChildrenOf : Parts → List Item → Type 0
AreChildrenOf model [] = Unit {0}
AreChildrenOf model (item.Emit cell effect ∷ rest) = AreChildrenOf model rest
AreChildrenOf model (item.Child kind arguments ∷ rest) =
    IsTrue (is_state_of model (activity_begun model kind arguments)) × AreChildrenOf model rest

-- A condition that the task waits for has no locals and is well typed by the cells of the model, its linear forms within
-- their limits where the locals' numbers are in range.
abbrev pub WaitsWell : Parts → Status → Type 0
WaitsWell model (Waiting condition next) = All HasNumber next.locals → IsTrue (may_be_solved (read_kind model.cells) condition)
WaitsWell model (Delayed by next) = Unit {0}
WaitsWell model (Calling into next) = Unit {0}
WaitsWell model (Done result) = Unit {0}
WaitsWell model (Faulted fault) = Unit {0}

-- what a step leaves, by how it ended and what it did
pub record StaysOfModel (model : Parts) (status : Status) (so_far : StepState) : Type 0 where
  pub next : NextIsOfModel model so_far.items status
  pub waits : WaitsWell model status
  pub children : AreChildrenOf model so_far.items
  pub cells : AreCellsOf model (after_items so_far.view so_far.items)

abbrev pub StepsKeepModel : Type 0
StepsKeepModel =
    (model : Parts) (budget : ℕ) (job : Job) (status : Status) (so_far : StepState) → IsTrue (valid_model model) → IsJobOf model job →
    job_step model budget job ≡ Some (status, so_far) →
    StaysOfModel model status so_far × (so_far.view ≡ job.view)

-- on cells of the model the same conditions may be waited for as by the types of the model's cells
abbrev pub WaitsGoByCells : Type 0
WaitsGoByCells =
    (model : Parts) (cells : List CellState) (condition : Cond) → AreCellsOf model cells →
    may_be_solved (read_kind model.cells) condition ≡ may_be_solved (kind_on cells) condition
