-- Tables in order of path, and what stands at a path after one task or all of them are changed.
use Rattle.std.specs.Prelude.{◌≡◌, ℕ, List, [], ◌∷◌, Some, cond}
use Rattle.std.specs.BTreeMap.{is_at}
use Rattle.std.specs.declared.cmp.Ordering.TheVariants.{Less}
use Rattle.aerie_base.specs.Paths.{path_cmp}
use Rattle.run_data.specs.Tasks.{Task, Table, task_at, with_task, on_each}

-- a path stands before all of a table
abbrev pub Above : List ℕ → Table → Type 0
Above path [] = Unit {0}
Above path (entry ∷ rest) = (path_cmp path entry.0 ≡ Less) × Above path rest

-- a table is in order of path, each path once
abbrev pub IsOrderedTable : Table → Type 0
IsOrderedTable [] = Unit {0}
IsOrderedTable (entry ∷ rest) = Above entry.0 rest × IsOrderedTable rest

-- a table stays in order where a task is put, and where each is changed
abbrev pub PutKeepsOrder : Type 0
PutKeepsOrder = (table : Table) (path : List ℕ) (task : Task) → IsOrderedTable table → IsOrderedTable (with_task table path task)

abbrev pub ChangesKeepOrder : Type 0
ChangesKeepOrder = (change : List ℕ → Task → Task) (table : Table) → IsOrderedTable table → IsOrderedTable (on_each change table)

-- what was put is there, and the other tasks are as they were
abbrev pub PutIsThere : Type 0
PutIsThere =
    (table : Table) (path other : List ℕ) (task : Task) →
    task_at (with_task table path task) other ≡ cond (is_at (path_cmp other) path) (Some task) (task_at table other)

-- of two tasks put at one path the later stands
abbrev pub LaterPutStands : Type 0
LaterPutStands =
    (table : Table) (path : List ℕ) (first second : Task) →
    with_task (with_task table path first) path second ≡ with_task table path second

-- two tasks of different paths may be put in either order
abbrev pub PutsExchange : Type 0
PutsExchange =
    (table : Table) (path other : List ℕ) (task second : Task) → (path ≡ other → ⊥) →
    with_task (with_task table path task) other second ≡ with_task (with_task table other second) path task

-- a task that is put and then changed with all others is the changed task put
abbrev pub PutThenChanged : Type 0
PutThenChanged =
    (change : List ℕ → Task → Task) (table : Table) (path : List ℕ) (task : Task) →
    on_each change (with_task table path task) ≡ with_task (on_each change table) path (change path task)
