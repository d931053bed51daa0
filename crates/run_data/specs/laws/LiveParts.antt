-- The live part of a table of tasks: what is left once all that has ended is left out.
use Rattle.std.specs.Prelude.{◌≡◌, ◌⊎◌, ℕ, Bool, false, not, List, [], ◌∷◌, if◌then◌else◌}
use Rattle.run_data.specs.Endings.{has_ended}
use Rattle.run_data.specs.Tasks.{Table, task_at}
use Rattle.run_data.specs.laws.OrderedTables.{IsOrderedTable}

-- the entries whose paths pass a test
abbrev pub part : (List ℕ → Bool) → Table → Table
part keep [] = []
part keep (entry ∷ rest) = if keep entry.0 then entry ∷ part keep rest else part keep rest

-- a task is live until it has ended: while its body is open, or one under it is
abbrev pub is_live : Table → List ℕ → Bool
is_live table path = not (has_ended table path)

abbrev pub live : Table → Table
live table = part (is_live table) table

-- what has ended in a table has ended in its live part
abbrev pub SameHasEnded : Type 0
SameHasEnded = (table : Table) (path : List ℕ) → IsOrderedTable table → has_ended (live table) path ≡ has_ended table path

-- tables have the same live part where each path that is live in one of them has the same task in both
abbrev pub LiveByPaths : Type 0
LiveByPaths =
    (table other : Table) → IsOrderedTable table → IsOrderedTable other →
    ((path : List ℕ) → (has_ended table path ≡ false) ⊎ (has_ended other path ≡ false) → task_at table path ≡ task_at other path) →
    live table ≡ live other
