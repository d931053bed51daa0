-- Tasks by number, in the order in which they came, and the table that they are.
use Rattle.std.specs.Prelude.{◌≡◌, ℕ, List, [], ◌∷◌, ◌++◌, Some, None, slice_get, slice_set}
use Rattle.run_data.specs.Tasks.{Task, Table, task_at, with_task, on_each}
use Rattle.run_data.specs.laws.OrderedTables.{IsOrderedTable}

-- the tasks put in order of path
abbrev pub sorted_tasks : Table → Table
sorted_tasks [] = []
sorted_tasks (entry ∷ rest) = with_task (sorted_tasks rest) entry.0 entry.1

-- no path comes twice
abbrev pub Distinct : Table → Type 0
Distinct tasks =
    (number other : ℕ) (entry second : List ℕ × Task) → slice_get tasks number ≡ Some entry → slice_get tasks other ≡ Some second →
    entry.0 ≡ second.0 → number ≡ other

-- no task has this path
abbrev pub IsNew : Table → List ℕ → Type 0
IsNew tasks path = (number : ℕ) (entry : List ℕ × Task) → slice_get tasks number ≡ Some entry → path ≡ entry.0 → ⊥

-- tasks put in order are in order, and a table in order has each path once and is itself put in order
abbrev pub AreInOrder : Type 0
AreInOrder = (tasks : Table) → IsOrderedTable (sorted_tasks tasks)

abbrev pub OrderIsDistinct : Type 0
OrderIsDistinct = (table : Table) → IsOrderedTable table → Distinct table

abbrev pub OrderIsItself : Type 0
OrderIsItself = (table : Table) → IsOrderedTable table → sorted_tasks table ≡ table

-- the task of a number stands at its path
abbrev pub FoundByNumber : Type 0
FoundByNumber =
    (tasks : Table) (number : ℕ) (path : List ℕ) (task : Task) → Distinct tasks → slice_get tasks number ≡ Some (path, task) →
    task_at (sorted_tasks tasks) path ≡ Some task

-- at a path that no task has stands none
abbrev pub NewIsNotThere : Type 0
NewIsNotThere = (tasks : Table) (path : List ℕ) → IsNew tasks path → task_at (sorted_tasks tasks) path ≡ None

-- another task at the number of a path is that task put at the path
abbrev pub SetByNumber : Type 0
SetByNumber =
    (tasks : Table) (number : ℕ) (path : List ℕ) (old new : Task) → Distinct tasks → slice_get tasks number ≡ Some (path, old) →
    sorted_tasks (slice_set tasks number (path, new)) ≡ with_task (sorted_tasks tasks) path new

-- one task more is that task put at its path
abbrev pub PushedByNumber : Type 0
PushedByNumber =
    (tasks : Table) (path : List ℕ) (new : Task) → IsNew tasks path →
    sorted_tasks (tasks ++ (path, new) ∷ []) ≡ with_task (sorted_tasks tasks) path new

-- both leave each path once
abbrev pub SetKeepsDistinct : Type 0
SetKeepsDistinct =
    (tasks : Table) (number : ℕ) (path : List ℕ) (old new : Task) → Distinct tasks → slice_get tasks number ≡ Some (path, old) →
    Distinct (slice_set tasks number (path, new))

abbrev pub PushKeepsDistinct : Type 0
PushKeepsDistinct = (tasks : Table) (path : List ℕ) (new : Task) → Distinct tasks → IsNew tasks path → Distinct (tasks ++ (path, new) ∷ [])

-- each task is changed by number as it is in the table
abbrev pub ChangedByNumber : Type 0
ChangedByNumber =
    (change : List ℕ → Task → Task) (tasks : Table) → on_each change (sorted_tasks tasks) ≡ sorted_tasks (on_each change tasks)

-- a task that a change of all leaves as another makes no difference to that change
abbrev pub ChangedInTurn : Type 0
ChangedInTurn =
    (change : List ℕ → Task → Task) (tasks : Table) (number : ℕ) (path : List ℕ) (old new : Task) →
    slice_get tasks number ≡ Some (path, old) → change path new ≡ change path old →
    on_each change (slice_set tasks number (path, new)) ≡ on_each change tasks
