-- The frames of a batch a generation at a time: first the steps of the ready tasks, then those of all children that they
-- make, then those of the children of these, until there is none left.
use Rattle.std.specs.Prelude.{◌≡◌, ℕ, zero, suc, ◌+◌, List, [], ◌∷◌, ◌++◌, map, Option, Some, None}
use Rattle.std.specs.List.Sorted.{IsPermutation}
use Rattle.aerie_base.specs.Paths.{child_limit}
use Rattle.aerie_base.specs.declared.faults.Fault.TheVariants.{TooDeep}
use Rattle.aerie_base.specs.declared.models.model.Parts.{Parts}
use Rattle.effect_cells.specs.declared.effects.CellState.{CellState}
use Rattle.effect_cells.specs.Cells.{emitted}
use Rattle.run_data.specs.declared.jobs.Job.{Job}
use Rattle.run_data.specs.TaskFrames.{Frame}
use Rattle.run_data.specs.declared.frames.Item.{Item}
use Rattle.run_data.specs.declared.frames.Item.TheVariants as item
use Rattle.run_data.specs.declared.frames.Status.TheVariants.{Faulted}
use Rattle.run_data.specs.Batches.{cost_of, least_fault, by_path}
use Rattle.run_data.specs.Steps.{Stepped}
use Rattle.run_data.specs.Frames.{Making, job_step, frame_of, child_job, room_of, made_by_all}
use Rattle.run_data.specs.laws.Orders.{EachTwo, AreApart}

-- a step that is due: how many numbers more its path may have, how many children its task made before, and its job
pub record PendingStep : Type 0 where
  pub room : ℕ
  pub number : ℕ
  pub job : Job

-- the jobs of the children that items make, in order
abbrev pub child_jobs : Parts → List ℕ → ℕ → List CellState → List Item → List Job
child_jobs model maker number view [] = []
child_jobs model maker number view (item.Emit cell effect ∷ rest) = child_jobs model maker number (emitted view cell effect) rest
child_jobs model maker number view (item.Child kind arguments ∷ rest) =
    child_job model maker number view kind arguments ∷ child_jobs model maker (number + 1) view rest

-- the frame of a child whose path would be too long
abbrev pub deep_frame : List ℕ → Job → Frame
deep_frame maker child = record { path = maker; before = child.state; reads = []; items = []; status = Faulted TooDeep; cost = 0 }

-- ---- one generation

-- the frames of a generation and the steps that are then due, or none where the cost of one passes what it may
abbrev pub Generation : Type 0
Generation = Option (List Frame × List PendingStep)

-- the frame of a step, and its children, which are due or too deep
abbrev pub with_children : ℕ → List ℕ → Frame → List Job → Generation
with_children zero maker frame children = Some (frame ∷ map (deep_frame maker) children, [])
with_children (suc room) maker frame children = Some (frame ∷ [], map (λ child. record { room = room; number = 0; job = child }) children)

abbrev pub step_generation : Parts → PendingStep → Stepped → Generation
step_generation model due None = None
step_generation model due (Some (status, so_far)) =
    with_children due.room due.job.path (frame_of due.job status so_far) (child_jobs model due.job.path due.number due.job.view so_far.items)

abbrev pub beside_generation : Generation → Generation → Generation
beside_generation None rest = None
beside_generation (Some first) None = None
beside_generation (Some first) (Some rest) = Some (first.0 ++ rest.0, first.1 ++ rest.1)

abbrev pub generation : Parts → ℕ → List PendingStep → Generation
generation model budget [] = Some ([], [])
generation model budget (due ∷ rest) = beside_generation (step_generation model due (job_step model budget due.job)) (generation model budget rest)

-- ---- one after another

abbrev pub beside_frames : Option (List Frame) → Option (List Frame) → Option (List Frame)
beside_frames None rest = None
beside_frames (Some first) None = None
beside_frames (Some first) (Some rest) = Some (first ++ rest)

abbrev pub further : Generation → (List PendingStep → Option (List Frame)) → Option (List Frame)
further None go = None
further (Some here) go = beside_frames (Some here.0) (go here.1)

-- the frames of so many generations
abbrev pub generations : Parts → ℕ → ℕ → List PendingStep → Option (List Frame)
generations model budget zero dues = Some []
generations model budget (suc count) dues = further (generation model budget dues) (generations model budget count)

-- ---- the law

abbrev pub frames_in : Making → Option (List Frame)
frames_in None = None
frames_in (Some made) = Some made.frames

abbrev pub pending_of : ℕ × Job → PendingStep
pending_of (number, job) = record { room = room_of job.path; number = number; job = job }

-- the same frames in some order, or none on either side
abbrev pub SameFrames : Option (List Frame) → Option (List Frame) → Type 0
SameFrames None None = Unit {0}
SameFrames None (Some frames) = ⊥
SameFrames (Some frames) None = ⊥
SameFrames (Some frames) (Some others) = IsPermutation frames others

-- job by job and a generation at a time a batch makes the same frames
abbrev pub SameByGenerations : Type 0
SameByGenerations =
    (model : Parts) (budget : ℕ) (jobs : List (ℕ × Job)) →
    SameFrames (frames_in (made_by_all model budget jobs)) (generations model budget (child_limit + 1) (map pending_of jobs))

-- frames that cost as much together, have the same least fault and come to the same in order of path
pub record AreEquivalentFrames (frames others : List Frame) : Type 0 where
  pub cost : cost_of frames ≡ cost_of others
  pub fault : least_fault frames ≡ least_fault others
  pub sorted : by_path frames ≡ by_path others

abbrev pub AlikeFrames : Option (List Frame) → Option (List Frame) → Type 0
AlikeFrames None None = Unit {0}
AlikeFrames None (Some frames) = ⊥
AlikeFrames (Some frames) None = ⊥
AlikeFrames (Some frames) (Some others) = AreEquivalentFrames frames others

-- Where no job is yet to make another nor a task above it, the frames that a batch makes in these two ways are alike in all
-- that a batch is judged by.
abbrev pub AlikeByGenerations : Type 0
AlikeByGenerations =
    (model : Parts) (budget : ℕ) (jobs : List (ℕ × Job)) → EachTwo AreApart jobs →
    AlikeFrames (frames_in (made_by_all model budget jobs)) (generations model budget (child_limit + 1) (map pending_of jobs))
