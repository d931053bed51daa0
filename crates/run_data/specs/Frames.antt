-- The frames of a job: that of its own step, and those of the children that it makes, down to the last. With them comes
-- the tree of its frame: its effects, each before what stands behind it, and the tree of each child beside the rest.
use Rattle.std.specs.Prelude.{ℕ, zero, suc, ◌+◌, ◌-◌, Bool, List, [], ◌∷◌, ◌++◌, length, Option, Some, None, if◌then◌else◌}
use Rattle.aerie_base.specs.declared.values.Value.{Value}
use Rattle.aerie_base.specs.declared.faults.Fault.TheVariants.{TooDeep}
use Rattle.aerie_base.specs.declared.models.model.Parts.{Parts}
use Rattle.aerie_base.specs.Paths.{child_path, child_limit, children_of}
use Rattle.effect_cells.specs.declared.effects.CellState.{CellState}
use Rattle.effect_cells.specs.declared.effects.Effect.{Effect}
use Rattle.effect_cells.specs.declared.trees.Part.{Part, Emit, Child}
use Rattle.effect_cells.specs.Cells.{emitted}
use Rattle.run_data.specs.declared.jobs.Job.{Job}
use Rattle.run_data.specs.declared.frames.Item.{Item}
use Rattle.run_data.specs.declared.frames.Item.TheVariants as item
use Rattle.run_data.specs.declared.frames.Status.{Status}
use Rattle.run_data.specs.declared.frames.Status.TheVariants.{Faulted}
use Rattle.run_data.specs.TaskFrames.{Frame}
use Rattle.run_data.specs.StepStates.{StepState}
use Rattle.run_data.specs.Steps.{Stepped, step_of}
use Rattle.run_data.specs.TaskStates.{body_of, activity_begun}

-- ---- one frame

-- the cells that were read, in order of number, each with its state as the step began
abbrev pub read_from : ℕ → List Bool → List CellState → List (ℕ × CellState)
read_from cell [] states = []
read_from cell (read_flags ∷ rest) [] = []
read_from cell (read_flags ∷ rest) (state ∷ states) =
    if read_flags then (cell, state) ∷ read_from (cell + 1) rest states else read_from (cell + 1) rest states

-- the step of a job, which may cost so much
abbrev pub job_step : Parts → ℕ → Job → Stepped
job_step model budget job = step_of (body_of model job.state.kind) job.state job.view budget

abbrev pub frame_of : Job → Status → StepState → Frame
frame_of job status so_far = record {
  path = job.path;
  before = job.state;
  reads = read_from 0 so_far.read_flags so_far.view;
  items = so_far.items;
  status = status;
  cost = so_far.cost;
}

-- the frame of a job whose step gives this
abbrev pub framed : Job → Stepped → Option Frame
framed job None = None
framed job (Some (status, so_far)) = Some (frame_of job status so_far)

-- the frame of a job whose step costs at most so much, without those of its children, or none where it costs more
abbrev pub job_frame : Parts → ℕ → Job → Option Frame
job_frame model fuel job = framed job (job_step model fuel job)

-- ---- the frames of a job

-- frames, and the tree that comes with them
pub record Made : Type 0 where
  pub frames : List Frame
  pub tree : List Part

-- none where the cost of a step passes what it may
abbrev pub Making : Type 0
Making = Option Made

abbrev pub nothing_made : Making
nothing_made = Some (record { frames = []; tree = [] })

abbrev pub with_effect : ℕ → Effect → Making → Making
with_effect cell effect None = None
with_effect cell effect (Some made) = Some (record made { tree = Emit cell effect ∷ made.tree })

-- what a child makes, beside the rest
abbrev pub with_child : Making → Making → Making
with_child None rest = None
with_child (Some child) None = None
with_child (Some child) (Some rest) = Some (record { frames = child.frames ++ rest.frames; tree = Child (record { items = child.tree }) ∷ rest.tree })

abbrev pub with_frame : Frame → Making → Making
with_frame frame None = None
with_frame frame (Some made) = Some (record made { frames = frame ∷ made.frames })

-- the job of a child: it sees the maker's view with the effects that the maker emitted before it
abbrev pub child_job : Parts → List ℕ → ℕ → List CellState → ℕ → List Value → Job
child_job model maker number view kind arguments = record {
  path = child_path maker number;
  state = activity_begun model kind arguments;
  view = view;
}

-- what the items of a step make: `of_child` says what a child makes, and `number` is that of the next one
abbrev pub of_items : Parts → (Job → Making) → List ℕ → ℕ → List CellState → List Item → Making
of_items model of_child maker number view [] = nothing_made
of_items model of_child maker number view (item.Emit cell effect ∷ rest) =
    with_effect cell effect (of_items model of_child maker number (emitted view cell effect) rest)
of_items model of_child maker number view (item.Child kind arguments ∷ rest) =
    with_child (of_child (child_job model maker number view kind arguments)) (of_items model of_child maker (number + 1) view rest)

-- a child whose path would be too long has no step: its frame stands under its maker's path
abbrev pub too_deep : List ℕ → Job → Making
too_deep maker child = Some (record {
  frames = record { path = maker; before = child.state; reads = []; items = []; status = Faulted TooDeep; cost = 0 } ∷ [];
  tree = [];
})

abbrev pub of_step : Parts → (Job → Making) → Job → ℕ → Stepped → Making
of_step model of_child job number None = None
of_step model of_child job number (Some (status, so_far)) =
    with_frame (frame_of job status so_far) (of_items model of_child job.path number job.view so_far.items)

-- what a job makes whose path has room for so many numbers more, and whose task made so many children before
abbrev pub made_within : Parts → ℕ → ℕ → ℕ → Job → Making
made_within model budget zero number job = of_step model (too_deep job.path) job number (job_step model budget job)
made_within model budget (suc room) number job =
    of_step model (made_within model budget room 0) job number (job_step model budget job)

-- how many numbers more a path may have
abbrev pub room_of : List ℕ → ℕ
room_of path = child_limit - length (children_of path)

-- what a job makes whose task made so many children before, each step of which may cost so much
abbrev pub made_by : Parts → ℕ → ℕ × Job → Making
made_by model budget (number, job) = made_within model budget (room_of job.path) number job

-- what the ready jobs of a batch make, each beside the others
abbrev pub made_by_all : Parts → ℕ → List (ℕ × Job) → Making
made_by_all model budget [] = nothing_made
made_by_all model budget (job ∷ rest) = with_child (made_by model budget job) (made_by_all model budget rest)
