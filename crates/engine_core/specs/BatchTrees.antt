-- The tree of a batch as its frames are looked up, and how its effects are gathered.
use Rattle.std.specs.Prelude.{◌≡◌, ℕ, zero, suc, ◌+◌, ◌≤◌, true, List, [], ◌∷◌, length}
use Rattle.aerie_base.specs.Paths.{child_path}
use Rattle.aerie_base.specs.Ranges.{step_limit}
use Rattle.effect_cells.specs.declared.effects.CellState.{CellState}
use Rattle.effect_cells.specs.declared.trees.Part.{Part, Emit, Child}
use Rattle.effect_cells.specs.declared.trees.Tree.{Tree}
use Rattle.effect_cells.specs.Cells.{fits_cells}
use Rattle.effect_cells.specs.Gathered.{Gathered, IsGathered, IsReady, HasRoom}
use Rattle.effect_cells.specs.Worth.{magnitude_of, worth_of}
use Rattle.run_data.specs.TaskFrames.{Frame}
use Rattle.run_data.specs.declared.frames.Item.{Item}
use Rattle.run_data.specs.declared.frames.Item.TheVariants as item
use Rattle.run_data.specs.Frames.{room_of}
use Rattle.run_data.specs.laws.Orders.{EachOf}
use Rattle.run_data.specs.laws.Trees.{rebuilt}
use Rattle.live_tasks.specs.declared.ready_jobs.Root.{Root}

-- the parts of a child of a path that has room for so many numbers
abbrev pub parts_below : List Frame → ℕ → List ℕ → List Part
parts_below frames zero child = []
parts_below frames (suc room) child = rebuilt frames room 0 child

-- the part of an item: `of_child` gives the parts of a child by its path, and `number` is that of the next one
abbrev pub part_by : (List ℕ → List Part) → List ℕ → ℕ → Item → Part
part_by of_child maker number (item.Emit cell effect) = Emit cell effect
part_by of_child maker number (item.Child kind arguments) = Child (record { items = of_child (child_path maker number) })

-- how many children an item makes
abbrev pub children_by : Item → ℕ
children_by (item.Emit cell effect) = 0
children_by (item.Child kind arguments) = 1

-- no frame has more effects and children than the greatest bound
abbrev pub HaveFewItems : List Frame → Type 0
HaveFewItems frames = EachOf (λ frame. length frame.items ≤ step_limit) frames

-- how many children items make
abbrev pub children_among : List Item → ℕ
children_among [] = 0
children_among (item ∷ rest) = children_by item + children_among rest

-- ---- the ready tasks

-- the parts of ready tasks, which are concurrent
abbrev pub rebuilt_roots : List Frame → List Root → List Part
rebuilt_roots frames [] = []
rebuilt_roots frames (root ∷ rest) = Child (record { items = rebuilt frames (room_of root.path) root.made root.path }) ∷ rebuilt_roots frames rest

-- ---- gathering

abbrev pub tree_with : List Part → Tree
tree_with parts = record { items = parts }

-- parts of a tree are gathered
abbrev pub AreGathered : List CellState → List Part → Gathered → Gathered → Type 0
AreGathered cells parts before after = IsGathered cells (worth_of (tree_with parts)) (magnitude_of (tree_with parts)) before after

-- parts of a tree may be gathered
pub record MayGather (cells : List CellState) (parts : List Part) (gathered : Gathered) : Type 0 where
  pub fits : fits_cells cells (tree_with parts) ≡ true
  pub ready : IsReady cells gathered
  pub room : HasRoom (magnitude_of (tree_with parts)) gathered
