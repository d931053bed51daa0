-- What is gathered of a batch before it is committed: its effects from the last to the first, on each cell.
use Rattle.std.specs.Prelude.{◌≡◌, ℕ, ◌+◌, ◌<◌, ◌≤◌, List, [], ◌∷◌, length, Option, None, is_some, if◌then◌else◌}
use Rattle.effect_cells.specs.Sums.{sum_limit}
use Rattle.effect_cells.specs.Worth.{beside, magnitude, magnitude_if_any, magnitude_of, worth_of}
use Rattle.effect_cells.specs.Gathering.{GatherAll, AreReady, AreBlank, HaveRoom, pending_at}
use Rattle.effect_cells.specs.declared.effects.Effect.{Effect}
use Rattle.effect_cells.specs.declared.effects.CellState.{CellState}
use Rattle.effect_cells.specs.declared.pending.Pending.{Pending}
use Rattle.effect_cells.specs.declared.trees.Tree.{Tree}

-- what is pending on each cell, and the clock
pub record Gathered : Type 0 where
  pub pending : List Pending
  pub clock : ℕ

-- the cells on which something is pending, in order; the first is cell `from`
abbrev pub listed_from : ℕ → List Pending → List ℕ
listed_from from [] = []
listed_from from (one ∷ rest) = if is_some one.effect then from ∷ listed_from (from + 1) rest else listed_from (from + 1) rest

-- what is pending is on cells of these kinds, and was gathered before the clock
pub record IsReady (cells : List CellState) (gathered : Gathered) : Type 0 where
  pub pending : AreReady cells gathered.clock gathered.pending
  pub same : length gathered.pending ≡ length cells

-- Effects are gathered besides, with which so much is pending on each cell, before or beside what was pending on it: their
-- worth. Their numbers add up to some size.
pub record IsGathered (cells : List CellState) (worth : ℕ → Option Effect) (size : ℕ) (before after : Gathered) : Type 0 where
  pub on_each : GatherAll cells before.clock after.clock worth size before.pending after.pending
  pub same : length after.pending ≡ length cells

-- nothing is gathered yet
pub record HasBegun (cells : List CellState) (gathered : Gathered) : Type 0 where
  pub blank : AreBlank gathered.pending
  pub same : length gathered.pending ≡ length cells

-- a tree is gathered, and nothing besides
pub record IsWhole (cells : List CellState) (tree : Tree) (gathered : Gathered) : Type 0 where
  pub begun : Gathered
  pub nothing : HasBegun cells begun
  pub all : IsGathered cells (worth_of tree) (magnitude_of tree) begun gathered

-- some tree of little numbers is gathered
abbrev pub IsSomeTree : List CellState → Gathered → Type 0
IsSomeTree cells gathered = (tree : Tree) × (magnitude_of tree < sum_limit) × IsWhole cells tree gathered

-- an effect is on one of the cells, and its numbers with what is pending there stay below 2^120 in magnitude
pub record CanGather (cell : ℕ) (effect : Effect) (gathered : Gathered) : Type 0 where
  pub within : cell < length gathered.pending
  pub small : magnitude effect + magnitude_if_any (pending_at gathered.pending cell).effect < sum_limit

-- numbers that add up to so much may be gathered besides
abbrev pub HasRoom : ℕ → Gathered → Type 0
HasRoom size gathered = HaveRoom size sum_limit gathered.pending

-- ---- laws, for whoever walks over a tree

-- as it begins, a tree may be entered, whose numbers are little
abbrev pub BeginsReady : Type 0
BeginsReady = (cells : List CellState) (size : ℕ) (gathered : Gathered) → HasBegun cells gathered → size < sum_limit →
    IsReady cells gathered × HasRoom size gathered

-- as a tree is entered, it has nothing yet
abbrev pub EntersWithNothing : Type 0
EntersWithNothing = (cells : List CellState) (gathered : Gathered) → IsReady cells gathered → IsGathered cells (λ cell. None) 0 gathered gathered

-- a child that is gathered next is beside what is gathered
abbrev pub ChildIsBeside : Type 0
ChildIsBeside = (cells : List CellState) (worth child : ℕ → Option Effect) (size more : ℕ) (before middle after : Gathered) →
    IsGathered cells worth size before middle → IsGathered cells child more middle after →
    IsGathered cells (λ cell. beside (child cell) (worth cell)) (more + size) before after

-- then the next tree may be entered, and there is room for what was left
abbrev pub StaysReady : Type 0
StaysReady = (cells : List CellState) (worth : ℕ → Option Effect) (size : ℕ) (before after : Gathered) → IsGathered cells worth size before after →
    IsReady cells after × ((more whole : ℕ) → more + size ≤ whole → HasRoom whole before → HasRoom more after)
