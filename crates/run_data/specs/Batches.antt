-- What a batch does: the steps of all ready tasks and of the children that they make, on the same cells.
use Rattle.std.specs.Prelude.{ℕ, ◌+◌, Bool, true, false, List, [], ◌∷◌, Option, Some, None, if◌then◌else◌, nat_lt}
use Rattle.std.specs.declared.cmp.Ordering.{Ordering}
use Rattle.std.specs.declared.cmp.Ordering.TheVariants.{Less, Equal, Greater}
use Rattle.aerie_base.specs.declared.faults.Fault.{Fault}
use Rattle.aerie_base.specs.declared.faults.Fault.TheVariants.{Range}
use Rattle.aerie_base.specs.declared.models.model.Parts.{Parts}
use Rattle.aerie_base.specs.Paths.{path_cmp}
use Rattle.effect_cells.specs.declared.effects.CellState.{CellState}
use Rattle.effect_cells.specs.declared.trees.Tree.{Tree}
use Rattle.effect_cells.specs.Cells.{committed_cells, first_out}
pub use Rattle.effect_cells.specs.Touched.{touched_from}
use Rattle.run_data.specs.declared.jobs.Job.{Job}
use Rattle.run_data.specs.declared.frames.Status.{Status}
use Rattle.run_data.specs.declared.frames.Status.TheVariants.{Delayed, Waiting, Calling, Done, Faulted}
use Rattle.run_data.specs.TaskFrames.{Frame}
use Rattle.run_data.specs.declared.runs.Who.{Who}
use Rattle.run_data.specs.declared.runs.Who.TheVariants as who
use Rattle.run_data.specs.Frames.{Made, Making, made_by_all}

-- ---- costs and faults

-- the costs of frames together
abbrev pub cost_of : List Frame → ℕ
cost_of [] = 0
cost_of (frame ∷ rest) = frame.cost + cost_of rest

abbrev pub fault_in : Status → Option Fault
fault_in (Delayed by next) = None
fault_in (Waiting condition next) = None
fault_in (Calling into next) = None
fault_in (Done result) = None
fault_in (Faulted fault) = Some fault

-- a faulted path
abbrev pub Blame : Type 0
Blame = List ℕ × Fault

abbrev pub first_unless_greater : Ordering → Blame → Blame → Blame
first_unless_greater Less first other = first
first_unless_greater Equal first other = first
first_unless_greater Greater first other = other

-- the lesser path; of two frames under one path, which are a task and its children that are too deep, the task's
abbrev pub lesser : Blame → Option Blame → Option Blame
lesser first None = Some first
lesser first (Some other) = Some (first_unless_greater (path_cmp first.0 other.0) first other)

abbrev pub blamed : List ℕ → Option Fault → Option Blame → Option Blame
blamed path None rest = rest
blamed path (Some fault) rest = lesser (path, fault) rest

-- the least faulted path with its fault, where there is one
abbrev pub least_fault : List Frame → Option Blame
least_fault [] = None
least_fault (frame ∷ rest) = blamed frame.path (fault_in frame.status) (least_fault rest)

-- ---- order

abbrev pub in_front_unless_greater : Ordering → Frame → Frame → List Frame → List Frame → List Frame
in_front_unless_greater Less frame first rest put = frame ∷ first ∷ rest
in_front_unless_greater Equal frame first rest put = frame ∷ first ∷ rest
in_front_unless_greater Greater frame first rest put = first ∷ put

-- a frame put among frames in order of path
abbrev pub put_by_path : Frame → List Frame → List Frame
put_by_path frame [] = frame ∷ []
put_by_path frame (first ∷ rest) =
    in_front_unless_greater (path_cmp frame.path first.path) frame first rest (put_by_path frame rest)

-- frames in order of path
abbrev pub by_path : List Frame → List Frame
by_path [] = []
by_path (frame ∷ rest) = put_by_path frame (by_path rest)

-- ---- the batch

-- the tree of all that was made
abbrev pub tree_of : Made → Tree
tree_of made = record { items = made.tree }

-- how a batch ends: its costs pass the bound, a task or a cell fails, or it is committed, with the cells after it, the
-- numbers of those on which it had an effect, and its frames in order of path
pub data Batch : Type 0 where
  limit : Batch
  failed : Who → Fault → Batch
  committed : List CellState → List ℕ → List Frame → Batch

-- each cell with the tree's effect on it applied, unless one leaves its range
abbrev pub unless_out : Option ℕ → Made → List CellState → List CellState → Batch
unless_out None made cells next = committed next (touched_from 0 (tree_of made) cells) (by_path made.frames)
unless_out (Some cell) made cells next = failed (who.Cell cell) Range

abbrev pub when_no_fault : Option Blame → Made → List CellState → Batch
when_no_fault None made cells =
    let next = committed_cells cells (tree_of made) in unless_out (first_out next) made cells next
when_no_fault (Some (path, fault)) made cells = failed (who.Task path) fault

abbrev pub when_within : Bool → Made → List CellState → Batch
when_within true made cells = when_no_fault (least_fault made.frames) made cells
when_within false made cells = limit

abbrev pub judged : ℕ → ℕ → List CellState → Making → Batch
judged bound spent cells None = limit
judged bound spent cells (Some made) = when_within (if nat_lt bound (spent + cost_of made.frames) then false else true) made cells

-- What a batch of ready jobs does where so much of the bound is spent: first the costs are judged, then faults, then
-- cells. A step that alone passes the bound passes it together with the others, so no step goes further than the bound,
-- and one that never ends needs no word of its own.
abbrev pub batch : Parts → ℕ → ℕ → List CellState → List (ℕ × Job) → Batch
batch model bound spent cells jobs = judged bound spent cells (made_by_all model bound jobs)
