-- The frames of a committed batch of a reached state: each is of a ready task or of a new child of another of them.
use Rattle.std.specs.Prelude.{◌≡◌, ◌⊎◌, ℕ, ◌+◌, ◌-◌, ◌<◌, ◌≤◌, IsTrue, List, [], ◌∷◌, Option, Some, None}
use Rattle.aerie_base.specs.declared.models.model.Parts.{Parts}
use Rattle.aerie_base.specs.declared.plans.Plan.{Plan}
use Rattle.aerie_base.specs.models.ValidModel.{valid_model}
use Rattle.aerie_base.specs.Paths.{child_path}
use Rattle.aerie_base.specs.plans.OfModel.{IsPlanOf}
use Rattle.effect_cells.specs.declared.effects.CellState.{CellState}
use Rattle.run_data.specs.TaskFrames.{Frame}
use Rattle.run_data.specs.declared.frames.Status.TheVariants.{Calling}
use Rattle.run_data.specs.declared.tasks.TaskState.{TaskState}
use Rattle.run_data.specs.Batches.{committed, batch}
use Rattle.run_data.specs.Fresh.{SimulationState, IsReached}
use Rattle.run_data.specs.Tasks.{ready, Task, Table, task_at, children_made, children_in, ready_jobs}
use Rattle.run_data.specs.Transitions.{more}
use Rattle.run_data.specs.laws.Orders.{EachOf}

-- some frame of these
abbrev pub AnyFrame : (Frame → Type 0) → List Frame → Type 0
AnyFrame P [] = ⊥
AnyFrame P (frame ∷ rest) = P frame ⊎ AnyFrame P rest

abbrev pub Among : Frame → List Frame → Type 0
Among frame = AnyFrame (λ one. one ≡ frame)

abbrev pub HasPath : List ℕ → List Frame → Type 0
HasPath path = AnyFrame (λ one. one.path ≡ path)

-- no path comes twice
abbrev pub Differ : List Frame → Type 0
Differ [] = Unit {0}
Differ (frame ∷ rest) = (HasPath frame.path rest → ⊥) × Differ rest

-- a frame of a ready task of the table before
pub record OfReady (table : Table) (frame : Frame) : Type 0 where
  pub task : Task
  pub there : task_at table frame.path ≡ Some task
  pub phase : task.phase ≡ ready frame.before

-- the first frame of a child that another of these frames made, by its number; there was no such task before
pub record OfChild (table : Table) (all : List Frame) (frame : Frame) : Type 0 where
  pub maker : Frame
  pub among : Among maker all
  pub number : ℕ
  pub below : number < children_in maker.items
  pub is : frame.path ≡ child_path maker.path (children_made (task_at table maker.path) + number)
  pub fresh : task_at table frame.path ≡ None

-- Each frame of a committed batch is of a ready task or of a new child, no two are of one path, and each made no more
-- children than it cost.
pub record AreFramesOf (table : Table) (frames : List Frame) : Type 0 where
  pub differ : Differ frames
  pub origin : EachOf (λ frame. OfReady table frame ⊎ OfChild table frames frame) frames
  pub few : EachOf (λ frame. children_in frame.items ≤ frame.cost) frames
  -- the child that one of them calls has a frame too
  pub calls : (frame : Frame) → Among frame frames → (into : Option ℕ) (next : TaskState) → frame.status ≡ Calling into next →
      HasPath (child_path frame.path (children_made (task_at table frame.path) + children_in frame.items - 1)) frames

abbrev pub BatchFrames : Type 0
BatchFrames =
    (model : Parts) (plan : Plan) (bound : ℕ) (at : SimulationState) (cells : List CellState) (touched : List ℕ) (frames : List Frame) →
    IsTrue (valid_model model) → IsPlanOf model plan → IsReached model plan bound (more at) →
    batch model bound at.spent at.cells (ready_jobs at.cells at.table) ≡ committed cells touched frames →
    AreFramesOf at.table frames
