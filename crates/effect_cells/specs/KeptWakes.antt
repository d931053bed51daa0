-- Laws of wake times that are kept: what they depend on, and how long they stay right.
use Rattle.std.specs.Prelude.{◌≡◌, ℕ, ◌+◌, ◌<◌, ◌≤◌, ◌↔◌, true, false, List, Option, Some, None, option_map}
use Rattle.aerie_base.specs.declared.conditions.Cond.{Cond}
use Rattle.effect_cells.specs.Cells.{passed, committed_cells}
use Rattle.effect_cells.specs.ReadCells.{reads_cell, AgreeOn}
use Rattle.effect_cells.specs.WakeTimes.{holds_on, wake_time}
use Rattle.effect_cells.specs.Worth.{has_effect_on}
use Rattle.effect_cells.specs.declared.trees.Tree.{Tree}
use Rattle.effect_cells.specs.declared.effects.CellState.{CellState}

-- to pass a time and then another is to pass both
abbrev pub PassesInParts : Type 0
PassesInParts = (cells : List CellState) (a b : ℕ) → passed (passed cells a) b ≡ passed cells (a + b)

-- whether a condition holds depends on the cells that it reads alone
abbrev pub HoldsByCellsRead : Type 0
HoldsByCellsRead = (condition : Cond) (cells others : List CellState) → AgreeOn (reads_cell condition) cells others →
    holds_on cells condition ≡ holds_on others condition

-- and so does its wake time
abbrev pub WakesByCellsRead : Type 0
WakesByCellsRead = (condition : Cond) (cells others : List CellState) (limit : ℕ) → AgreeOn (reads_cell condition) cells others →
    wake_time cells condition limit ≡ wake_time others condition limit

-- a condition holds now exactly where its wake time is now
abbrev pub HoldsWhereItWakesNow : Type 0
HoldsWhereItWakesNow = (condition : Cond) (cells : List CellState) (limit : ℕ) → 0 < limit →
    (holds_on cells condition ≡ true) ↔ (wake_time cells condition limit ≡ Some 0)

-- there is no wake time before this
abbrev pub IsNotBefore : ℕ → Option ℕ → Type 0
IsNotBefore time None = Unit {0}
IsNotBefore time (Some found) = time ≤ found

-- a wake time that is counted from a time, counted from so many microseconds before it
abbrev pub counted_before : ℕ → Option ℕ → Option ℕ
counted_before time = option_map (λ found. time + found)

-- A wake time stays right while only time passes, up to the wake time itself: what is found then is the same moment.
abbrev pub StaysWhileTimePasses : Type 0
StaysWhileTimePasses = (condition : Cond) (cells : List CellState) (time limit : ℕ) → IsNotBefore time (wake_time cells condition (time + limit)) →
    wake_time cells condition (time + limit) ≡ counted_before time (wake_time (passed cells time) condition limit)

-- and through a batch that has no effect on a cell that the condition reads
abbrev pub StaysThroughBatches : Type 0
StaysThroughBatches = (condition : Cond) (cells : List CellState) (tree : Tree) (limit : ℕ) → ((cell : ℕ) → reads_cell condition cell ≡ true → has_effect_on tree cell ≡ false) →
    wake_time (committed_cells cells tree) condition limit ≡ wake_time cells condition limit
