-- The tree of a batch by its frames: each task's effects in their order, and beside what stands behind it the tree of each
-- child, whose frame is looked up by the child's number.
use Rattle.std.specs.Prelude.{◌≡◌, ℕ, zero, suc, ◌+◌, List, [], ◌∷◌, Option, Some, None, if◌then◌else◌}
use Rattle.std.specs.BTreeMap.{is_at}
use Rattle.aerie_base.specs.Paths.{child_path, path_cmp}
use Rattle.aerie_base.specs.declared.models.model.Parts.{Parts}
use Rattle.effect_cells.specs.declared.effects.CellState.{CellState}
use Rattle.effect_cells.specs.declared.trees.Part.{Part, Emit, Child}
use Rattle.effect_cells.specs.declared.trees.Tree.{Tree}
use Rattle.effect_cells.specs.Cells.{committed_cells}
use Rattle.run_data.specs.declared.jobs.Job.{Job}
use Rattle.run_data.specs.TaskFrames.{Frame}
use Rattle.run_data.specs.declared.frames.Item.{Item}
use Rattle.run_data.specs.declared.frames.Item.TheVariants as item
use Rattle.run_data.specs.Batches.{batch, committed, by_path, least_fault, touched_from, tree_of}
use Rattle.run_data.specs.Frames.{Made, made_by_all, room_of}
use Rattle.run_data.specs.laws.Orders.{EachTwo, AreApart}

-- the first frame of a path
abbrev pub frame_at : List Frame → List ℕ → Option Frame
frame_at [] path = None
frame_at (frame ∷ rest) path = if is_at (path_cmp path) frame.path then Some frame else frame_at rest path

-- the parts that items make: `of_child` gives those of a child by its path, and `number` is that of the next one
abbrev pub parts_by : (List ℕ → List Part) → List ℕ → ℕ → List Item → List Part
parts_by of_child maker number [] = []
parts_by of_child maker number (item.Emit cell effect ∷ rest) = Emit cell effect ∷ parts_by of_child maker number rest
parts_by of_child maker number (item.Child kind arguments ∷ rest) =
    Child (record { items = of_child (child_path maker number) }) ∷ parts_by of_child maker (number + 1) rest

abbrev pub parts_of : (List ℕ → List Part) → List ℕ → ℕ → Option Frame → List Part
parts_of of_child path number None = []
parts_of of_child path number (Some frame) = parts_by of_child path number frame.items

-- the parts of a task, by its path, which may have so many numbers more, and by how many children it made before
abbrev pub rebuilt : List Frame → ℕ → ℕ → List ℕ → List Part
rebuilt frames zero number path = parts_of (λ child. []) path number (frame_at frames path)
rebuilt frames (suc room) number path = parts_of (rebuilt frames room 0) path number (frame_at frames path)

abbrev pub rebuilt_all : List Frame → List (ℕ × Job) → List Part
rebuilt_all frames [] = []
rebuilt_all frames (job ∷ rest) =
    Child (record { items = rebuilt frames (room_of job.1.path) job.0 job.1.path }) ∷ rebuilt_all frames rest

-- the tree of the jobs of a batch by its frames
abbrev pub tree_by_frames : List Frame → List (ℕ × Job) → Tree
tree_by_frames frames jobs = record { items = rebuilt_all frames jobs }

-- Where no frame has faulted, what jobs of different tasks make has the tree that their frames in order of path give.
abbrev pub TreeOfFrames : Type 0
TreeOfFrames =
    (model : Parts) (budget : ℕ) (jobs : List (ℕ × Job)) (made : Made) → EachTwo AreApart jobs →
    made_by_all model budget jobs ≡ Some made → least_fault made.frames ≡ None → tree_by_frames (by_path made.frames) jobs ≡ tree_of made

-- So a batch that is committed leaves the cells with the effects of the tree that its frames give, on the cells that this
-- tree touches.
abbrev pub CommittedByFrames : Type 0
CommittedByFrames =
    (model : Parts) (bound spent : ℕ) (cells next : List CellState) (jobs : List (ℕ × Job)) (touched : List ℕ) (frames : List Frame) → EachTwo AreApart jobs →
    batch model bound spent cells jobs ≡ committed next touched frames →
    (next ≡ committed_cells cells (tree_by_frames frames jobs)) × (touched ≡ touched_from 0 (tree_by_frames frames jobs) cells)
