-- When waiting tasks wake: what is kept of that, and how it stays right.
use Rattle.std.specs.Prelude.{◌≡◌, ℕ, ◌+◌, ◌≤◌, false, IsTrue, List, Option, Some, length, slice_get}
use Rattle.aerie_base.specs.declared.conditions.Cond.{Cond}
use Rattle.aerie_base.specs.declared.operands.CellRead.{CellRead}
use Rattle.aerie_base.specs.declared.values.Kind.{Kind}
use Rattle.effect_cells.specs.declared.effects.CellState.{CellState}
use Rattle.effect_cells.specs.Cells.{passed}
use Rattle.effect_cells.specs.Solvable.{may_be_solved}
use Rattle.effect_cells.specs.TouchedCells.{is_cell_among}
use Rattle.run_data.specs.Tasks.{Task, Table, task_at}
use Rattle.run_data.specs.laws.NextTimes.{least_wake}
use Rattle.live_tasks.specs.declared.tasks.LiveTasks.{LiveTasks}
use Rattle.live_tasks.specs.LeastTimes.{IsUpToTime}
use Rattle.live_tasks.specs.ListedSlots.{AreWaitsKept, AreWaitsFound}
use Rattle.live_tasks.specs.Phases.{condition_of_wait}
use Rattle.live_tasks.specs.InStep.{table_in, IsInStep}

-- the wake times that are kept are right at a time, up to a horizon, but for those that are to be found anew
abbrev pub AreKept : ℕ → ℕ → List CellState → LiveTasks → Type 0
AreKept now horizon cells tasks = AreWaitsKept now horizon cells tasks.tables

-- and none is to be found anew
abbrev pub AreFound : ℕ → ℕ → List CellState → LiveTasks → Type 0
AreFound now horizon cells tasks = AreWaitsFound now horizon cells tasks.tables

-- they are right whatever the horizon and the states of so many cells
abbrev pub AreKeptFor : ℕ → ℕ → LiveTasks → Type 0
AreKeptFor now count tasks = (horizon : ℕ) (cells : List CellState) → length cells ≡ count → AreKept now horizon cells tasks

-- ---- changes

-- cells that are not among these have the same state in both
pub record AgreeBut (touched : List ℕ) (cells others : List CellState) : Type 0 where
  pub same : (cell : ℕ) → is_cell_among cell touched ≡ false → slice_get cells cell ≡ slice_get others cell
  pub long : length others ≡ length cells

-- wherever they are right before, they are after
abbrev pub KeepsWakes : LiveTasks → LiveTasks → Type 0
KeepsWakes before after = (now horizon : ℕ) (cells : List CellState) → AreKept now horizon cells before → AreKept now horizon cells after

-- in other cells, which differ at most where they were touched
abbrev pub KeepsWakesBut : List ℕ → LiveTasks → LiveTasks → Type 0
KeepsWakesBut touched before after =
    (now horizon : ℕ) (cells others : List CellState) → AreKept now horizon cells before → AgreeBut touched cells others → AreKept now horizon others after

-- ---- finding

-- the wake time of each waiting task can be computed
abbrev pub AreSolvable : (CellRead → Option Kind) → Table → Type 0
AreSolvable kinds table =
    (path : List ℕ) (task : Task) (condition : Cond) → task_at table path ≡ Some task → condition_of_wait task.phase ≡ Some condition → IsTrue (may_be_solved kinds condition)

-- the least time at which a waiting task wakes, where the wake times are found
abbrev pub IsLeastWake : LiveTasks → Option ℕ → Type 0
IsLeastWake tasks wake = (now horizon : ℕ) (cells : List CellState) → AreFound now horizon cells tasks → wake ≡ least_wake now horizon cells (table_in tasks)

-- as time passes up to the least wake time, the kept ones stay right
abbrev pub WakesPass : Type 0
WakesPass =
    (now dt horizon : ℕ) (cells : List CellState) (tasks : LiveTasks) → IsInStep tasks → AreFound now horizon cells tasks →
    IsUpToTime (now + dt) (least_wake now horizon cells (table_in tasks)) → now + dt ≤ horizon → AreKept (now + dt) horizon (passed cells dt) tasks
