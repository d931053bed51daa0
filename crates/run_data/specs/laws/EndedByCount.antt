-- Whether a task has ended, by a count of its live children.
use Rattle.std.specs.Prelude.{◌≡◌, ◌↔◌, ℕ, zero, suc, ◌+◌, true, false, List, Some, if◌then◌else◌}
use Rattle.aerie_base.specs.Paths.{child_path}
use Rattle.run_data.specs.Endings.{is_open, has_ended}
use Rattle.run_data.specs.Tasks.{Task, Table, task_at}
use Rattle.run_data.specs.laws.LiveParts.{live}
use Rattle.run_data.specs.laws.OrderedTables.{IsOrderedTable}
use Rattle.run_data.specs.laws.ReachedStates.{ComesFrom}

-- how many of the children below a number are live
abbrev pub live_children : Table → List ℕ → ℕ → ℕ
live_children table path zero = 0
live_children table path (suc number) =
    (if has_ended table (child_path path number) then 0 else 1) + live_children table path number

-- a table in order, each task of which is a directive's, a daemon's, or one that a task of the table made
pub record HasMakers (table : Table) : Type 0 where
  pub order : IsOrderedTable table
  pub makers : (path : List ℕ) (task : Task) → task_at table path ≡ Some task → ComesFrom table path

-- a task has ended exactly where its body is over and none of the children that it made is live
abbrev pub EndedByCount : Type 0
EndedByCount =
    (table : Table) (path : List ℕ) (task : Task) → HasMakers table → task_at table path ≡ Some task →
    (has_ended table path ≡ true) ↔ ((is_open task.phase ≡ false) × (live_children table path task.made ≡ 0))

-- so it is in the live part of a table alone
abbrev pub LiveHasMakers : Type 0
LiveHasMakers = (table : Table) → HasMakers table → HasMakers (live table)
