-- A file of lemmas: what it proves need not be read to trust a clause.
--
-- What holds of what each task does, through the changes of a table.
use Rattle.std.proofs.Common.{ℕ, List, [], ◌∷◌}
use Rattle.std.specs.declared.cmp.Ordering.{Ordering}
use Rattle.std.specs.declared.cmp.Ordering.TheVariants.{Less, Equal, Greater}
use Rattle.std.specs.Ordering.{match_ordering}
use Rattle.aerie_base.specs.Paths.{path_cmp}
use Rattle.run_data.specs.Tasks.{TaskPhase, Task, Table, with_task, on_each}

abbrev pub Each : (TaskPhase → Type 0) → Table → Type 0
Each P [] = Unit {0}
Each P (entry ∷ rest) = P entry.1.phase × Each P rest

pub each_with : (P : TaskPhase → Type 0) (table : Table) (path : List ℕ) (task : Task) → Each P table → P task.phase → Each P (with_task table path task)
each_with P [] path task each here = (here, tt)
each_with P (entry ∷ rest) path task each here = by (path_cmp path entry.0) (each_with P rest path task each.1 here)
  where
    by : (order : Ordering) → Each P (with_task rest path task) →
        Each P (match_ordering order ((path, task) ∷ entry ∷ rest) ((entry.0, task) ∷ rest) (entry ∷ with_task rest path task))
    by Less further = (here, each)
    by Equal further = (here, each.1)
    by Greater further = (each.0, further)

pub each_changed : (P Q : TaskPhase → Type 0) (change : List ℕ → Task → Task) → ((path : List ℕ) (task : Task) → P task.phase → Q (change path task).phase) →
    (table : Table) → Each P table → Each Q (on_each change table)
each_changed P Q change kept [] each = tt
each_changed P Q change kept (entry ∷ rest) each = (kept entry.0 entry.1 each.0, each_changed P Q change kept rest each.1)

pub each_both : (P Q R : TaskPhase → Type 0) → ((phase : TaskPhase) → P phase → Q phase → R phase) → (table : Table) → Each P table → Each Q table → Each R table
each_both P Q R gives [] each other = tt
each_both P Q R gives (entry ∷ rest) each other = (gives entry.1.phase each.0 other.0, each_both P Q R gives rest each.1 other.1)
