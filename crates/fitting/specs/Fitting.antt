-- Frames of an old batch that fit the jobs of a new one.
use Rattle.std.specs.Prelude.{◌≡◌, ℕ, zero, suc, ◌+◌, ◌*◌, ◌-◌, Bool, true, false, List, ◌++◌, Option, Some, None}
use Rattle.aerie_base.specs.Paths.{child_limit}
use Rattle.aerie_base.specs.Ranges.{number_limit, step_limit}
use Rattle.aerie_base.specs.declared.models.model.Parts.{Parts}
use Rattle.effect_cells.specs.declared.effects.CellState.{CellState}
use Rattle.run_data.specs.TaskFrames.{Frame}
use Rattle.run_data.specs.declared.frames.Item.{Item}
use Rattle.run_data.specs.declared.frames.Item.TheVariants as item
use Rattle.run_data.specs.declared.jobs.Job.{Job}
use Rattle.effect_cells.specs.Cells.{emitted}
use Rattle.run_data.specs.Frames.{child_job, room_of}
use Rattle.run_data.specs.Records.{IsValid, record_of}
use Rattle.run_data.specs.laws.BatchFrames.{Among, Differ}
use Rattle.run_data.specs.laws.FittingFrames.{AreOfEach, FitTree, FitAll}
use Rattle.run_data.specs.laws.Orders.{EachOf}
use Rattle.run_data.specs.laws.SmallSteps.{IsJobWithin}
use Rattle.live_tasks.specs.FrameOrders.{AreByPath}

-- the job that a frame may be of: that of its task from its state, in a view
abbrev pub job_of_frame : Frame → List CellState → Job
job_of_frame frame view = record { path = frame.path; state = frame.before; view = view }

-- frames that fit a child of a task whose path has room for so many numbers
abbrev pub FitChild : Parts → ℕ → ℕ → Job → List Frame → Type 0
FitChild model bound zero child frames = ⊥
FitChild model bound (suc room) child frames = FitTree model bound room 0 child frames

abbrev pub FitChildren : Parts → ℕ → ℕ → List Job → List Frame → Type 0
FitChildren model bound room children frames = AreOfEach (FitChild model bound room) children frames

-- frames that may be looked up for a new batch: valid records in order of path
pub record IsOldBatch (model : Parts) (old : List Frame) : Type 0 where
  pub valid : EachOf (λ frame. IsValid model (record_of frame)) old
  pub order : AreByPath old

-- ---- what is found

-- all of these frames are among the old ones
abbrev pub AreAmong : List Frame → List Frame → Type 0
AreAmong old frames = EachOf (λ frame. Among frame old) frames

-- no frames with a property are all among the old ones, where no two of these are of one path
abbrev pub Lacks : (List Frame → Type 0) → List Frame → Type 0
Lacks Fit old = Differ old → (frames : List Frame) → Fit frames → AreAmong old frames → ⊥

-- frames with a property stand behind others
abbrev pub Finds : (List Frame → Type 0) → List Frame → List Frame → Type 0
Finds Fit before after = (frames : List Frame) × (after ≡ before ++ frames) × Fit frames

abbrev pub FindsOrLacks : (List Frame → Type 0) → List Frame → Bool → List Frame → List Frame → Type 0
FindsOrLacks Fit old true before after = Finds Fit before after
FindsOrLacks Fit old false before after = Lacks Fit old

-- the same of the frames of a job whose task made so many children before, of those of a child, and of those of children
abbrev pub FindsTree : Parts → ℕ → ℕ → Job → List Frame → Bool → List Frame → List Frame → Type 0
FindsTree model bound number job = FindsOrLacks (FitTree model bound (room_of job.path) number job)

abbrev pub FindsChild : Parts → ℕ → List ℕ → Job → List Frame → Bool → List Frame → List Frame → Type 0
FindsChild model bound maker child = FindsOrLacks (FitChild model bound (room_of maker) child)

abbrev pub FindsChildren : Parts → ℕ → List ℕ → List Job → List Frame → Bool → List Frame → List Frame → Type 0
FindsChildren model bound maker children = FindsOrLacks (FitChildren model bound (room_of maker) children)

-- An item of a maker, where the next child has a number and sees this. An effect is put on what is seen; of a child the frames
-- are found, or one of them is not there. With it comes the number of the next child behind it.
abbrev pub FitsItem : Parts → ℕ → List ℕ → List Frame → Item → ℕ → List CellState → Option ℕ → List CellState → List Frame → List Frame → Type 0
FitsItem model bound maker old (item.Emit cell effect) number seen None after found with_ = ⊥
FitsItem model bound maker old (item.Emit cell effect) number seen (Some later) after found with_ =
    (later ≡ number) × (after ≡ emitted seen cell effect) × (with_ ≡ found)
FitsItem model bound maker old (item.Child kind arguments) number seen None after found with_ =
    Lacks (FitChild model bound (room_of maker) (child_job model maker number seen kind arguments)) old
FitsItem model bound maker old (item.Child kind arguments) number seen (Some later) after found with_ =
    (later ≡ number + 1) × (after ≡ seen) × Finds (FitChild model bound (room_of maker) (child_job model maker number seen kind arguments)) found with_

-- frames that fit the jobs of a batch, or none that fit are all among the old ones
abbrev pub FindsBatch : Parts → ℕ → List (ℕ × Job) → List Frame → Option (List Frame) → Type 0
FindsBatch model bound jobs old (Some frames) = FitAll model bound jobs frames
FindsBatch model bound jobs old None = Lacks (FitAll model bound jobs) old

-- ---- views

-- how far from 0 the numbers are that a task sees whose path has room for so many numbers: each task above it cost at most
-- the greatest bound
abbrev pub reach_with : ℕ → ℕ
reach_with room = number_limit + (child_limit - room) * (step_limit * number_limit)

-- a job that may be looked for
abbrev pub MaySee : Parts → ℕ → Job → Type 0
MaySee model room job = IsJobWithin model (reach_with room) job

-- the jobs of the children of such a one, which cost at most the greatest bound
abbrev pub MaySeeChildren : Parts → ℕ → List Job → Type 0
MaySeeChildren model room children = EachOf (IsJobWithin model (reach_with room + step_limit * number_limit)) children

-- ---- items

abbrev pub is_child : Item → Bool
is_child (item.Emit cell effect) = false
is_child (item.Child kind arguments) = true
