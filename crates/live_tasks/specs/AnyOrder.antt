-- The frames of a batch may be taken in any order.
use Rattle.std.specs.Prelude.{◌≡◌, ℕ, List}
use Rattle.run_data.specs.TaskFrames.{Frame}
use Rattle.run_data.specs.Batches.{by_path}
use Rattle.run_data.specs.Endings.{after_batch}
use Rattle.run_data.specs.Tasks.{Table}
use Rattle.run_data.specs.laws.BatchFrames.{Differ, AreFramesOf}
use Rattle.run_data.specs.laws.OrderedTables.{IsOrderedTable}

-- frames of different paths leave the same table in order of path and as they were made
abbrev pub SameInAnyOrder : Type 0
SameInAnyOrder =
    (now : ℕ) (frames : List Frame) (table : Table) → IsOrderedTable table → Differ frames →
    after_batch now (by_path frames) table ≡ after_batch now frames table

-- they are of the tasks of a table in either order
abbrev pub OfTasksInAnyOrder : Type 0
OfTasksInAnyOrder = (table : Table) (frames : List Frame) → AreFramesOf table (by_path frames) → AreFramesOf table frames
