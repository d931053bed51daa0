-- The ready tasks by their index.
use Rattle.std.proofs.Common.{◌≡◌, ℕ, suc, Bool, true, false, cond, List, [], ◌∷◌, Option, Some, None, refl, sym, ap, ◌∙◌, if◌then◌else◌}
use Rattle.std.specs.Cmp.Lexicographic.{nat_list_cmp_total}
use Rattle.std.specs.declared.cmp.Ordering.TheVariants.{Less}
use Rattle.std.specs.List.{slice_get, list_any, AllByRecursion}
use Rattle.std.specs.List.Sorted.{IsStrictlySortedBy}
use Rattle.std.specs.Map.{keys_of, lookup}
use Rattle.std.specs.BTreeMap.{is_at}
use Rattle.std.proofs.lemmas.Cmp.{eq_by_cmp_equiv}
use Rattle.std.proofs.lemmas.Map.{lookup-none}
use Rattle.std.proofs.lemmas.Map.Lookups.{btree_set_from_contains, exact_bytes}
use Rattle.std.proofs.lemmas.Map.Keys.{sorted_tail, IsDistinct-from_sorted}
use Rattle.std.proofs.lemmas.Map.Entries.{none_past_head, btree_map_get_place, lookup_from_place}
use Rattle.aerie_base.specs.Paths.{path_cmp}
use Rattle.effect_cells.specs.declared.effects.CellState.{CellState}
use Rattle.run_data.specs.declared.jobs.Job.{Job}
use Rattle.run_data.specs.Tasks.{TaskPhase, anchored, ready, delayed, waiting, calling, over, Task, Table, task_at, ready_jobs, job_if_ready}
use Rattle.run_data.specs.laws.NumberedTasks.{sorted_tasks}
use Rattle.run_data.specs.laws.OrderedTables.{Above, IsOrderedTable}
use Rattle.run_data.specs.laws.ReadyTasks.{is_ready_phase, is_ready, jobs_by, ReadyByIndex}
use Rattle.run_data.specs.NumberLaws.{at_number, in_order_sorted}

abbrev IsSorted : Table → Type 0
IsSorted table = IsStrictlySortedBy path_cmp (keys_of table)

all_above : (path : List ℕ) (table : Table) → Above path table → AllByRecursion (λ y. path_cmp path y ≡ Less) (keys_of table)
all_above path [] above = tt
all_above path (entry ∷ rest) above = (above.0, all_above path rest above.1)

sorted_from : (table : Table) → IsOrderedTable table → IsSorted table
unfolding IsStrictlySortedBy
sorted_from [] order = tt
sorted_from (entry ∷ rest) order = (all_above entry.0 rest order.0, sorted_from rest order.1)

abbrev ready_paths : Table → List (List ℕ)
ready_paths [] = []
ready_paths (entry ∷ rest) = if is_ready_phase entry.1.phase then entry.0 ∷ ready_paths rest else ready_paths rest

any_ready : (q : List ℕ) (table : Table) → IsSorted table → list_any (is_at (path_cmp q)) (ready_paths table) ≡ is_ready (task_at table q)
any_ready q [] s = refl
any_ready q (entry ∷ rest) s = by (is_at (path_cmp q) entry.0) (is_ready_phase entry.1.phase) refl refl (any_ready q rest (sorted_tail path_cmp entry.0 (keys_of rest) s))
  where
    by : (a b : Bool) → is_at (path_cmp q) entry.0 ≡ a → is_ready_phase entry.1.phase ≡ b → list_any (is_at (path_cmp q)) (ready_paths rest) ≡ is_ready (task_at rest q) →
        list_any (is_at (path_cmp q)) (cond b (entry.0 ∷ ready_paths rest) (ready_paths rest)) ≡ is_ready (cond a (Some entry.1) (task_at rest q))
    by true true x y further = rw (x, y) refl
    by true false x y further =
        let k = lookup-none (is_at (path_cmp q)) rest (none_past_head (eq_by_cmp_equiv nat_list_cmp_total) q entry rest (IsDistinct-from_sorted path_cmp (keys_of (entry ∷ rest)) s) x) in rw (further, k, y) refl
    by false true x y further = rw x further
    by false false x y further = further

below_ready : (k : List ℕ) (table : Table) → AllByRecursion (λ y. path_cmp k y ≡ Less) (keys_of table) → AllByRecursion (λ y. path_cmp k y ≡ Less) (ready_paths table)
below_ready k [] h = tt
below_ready k (entry ∷ rest) h = go (below_ready k rest h.1) (is_ready_phase entry.1.phase)
  where
    go : AllByRecursion (λ y. path_cmp k y ≡ Less) (ready_paths rest) → (b : Bool) → AllByRecursion (λ y. path_cmp k y ≡ Less) (cond b (entry.0 ∷ ready_paths rest) (ready_paths rest))
    go further true = (h.0, further)
    go further false = further

sorted_ready : (table : Table) → IsSorted table → IsStrictlySortedBy path_cmp (ready_paths table)
unfolding IsStrictlySortedBy
sorted_ready [] s = s
sorted_ready (entry ∷ rest) s = go (sorted_ready rest s.1) (is_ready_phase entry.1.phase)
  where
    go : IsStrictlySortedBy path_cmp (ready_paths rest) → (b : Bool) → IsStrictlySortedBy path_cmp (cond b (entry.0 ∷ ready_paths rest) (ready_paths rest))
    go further true = (below_ready entry.0 rest s.0, further)
    go further false = further

-- ---- keys

any_key : (q : List ℕ) (es : List (List ℕ × ℕ)) (n : ℕ) → lookup (is_at (path_cmp q)) es ≡ Some n → list_any (is_at (path_cmp q)) (keys_of es) ≡ true
any_key q [] n h = absurd (cc)
any_key q (e ∷ es) n h = by (is_at (path_cmp q) e.0) refl h (any_key q es n)
  where
    by : (b : Bool) → is_at (path_cmp q) e.0 ≡ b → cond b (Some e.1) (lookup (is_at (path_cmp q)) es) ≡ Some n →
        (lookup (is_at (path_cmp q)) es ≡ Some n → list_any (is_at (path_cmp q)) (keys_of es) ≡ true) → list_any (is_at (path_cmp q)) (keys_of (e ∷ es)) ≡ true
    by true x h further = rw x refl
    by false x h further = rw x (further h)

key_found : (q : List ℕ) (es : List (List ℕ × ℕ)) → list_any (is_at (path_cmp q)) (keys_of es) ≡ true → (n : ℕ) × (lookup (is_at (path_cmp q)) es ≡ Some n)
key_found q [] h = absurd (cc)
key_found q (e ∷ es) h = by (is_at (path_cmp q) e.0) refl (key_found q es)
  where
    by : (b : Bool) → is_at (path_cmp q) e.0 ≡ b → (list_any (is_at (path_cmp q)) (keys_of es) ≡ true → (n : ℕ) × (lookup (is_at (path_cmp q)) es ≡ Some n)) →
        (n : ℕ) × (lookup (is_at (path_cmp q)) (e ∷ es) ≡ Some n)
    by true x further = rw x (e.1, refl)
    by false x further = rw x (further (let k : list_any (is_at (path_cmp q)) (keys_of es) ≡ true = (let g = rw x at h in g) in k))

-- ---- jobs

abbrev job_look : List CellState → List ℕ → Option Task → List (ℕ × Job) → List (ℕ × Job)
job_look cells path None rest = rest
job_look cells path (Some task) rest = job_if_ready cells path task task.phase rest

abbrev jobs_from : List CellState → (List ℕ → Option Task) → List (List ℕ) → List (ℕ × Job)
jobs_from cells look [] = []
jobs_from cells look (path ∷ rest) = job_look cells path (look path) (jobs_from cells look rest)

from_table : (cells : List CellState) (look : List ℕ → Option Task) (table : Table) → ((i : ℕ) (path : List ℕ) (task : Task) → slice_get table i ≡ Some (path, task) → look path ≡ Some task) →
    ready_jobs cells table ≡ jobs_from cells look (ready_paths table)
from_table cells look [] places = refl
from_table cells look (entry ∷ rest) places = by entry.1.phase refl (from_table cells look rest (λ i path task at. places (suc i) path task at))
  where
    here : look entry.0 ≡ Some entry.1
    here = places 0 entry.0 entry.1 refl

    by : (phase : TaskPhase) → entry.1.phase ≡ phase → ready_jobs cells rest ≡ jobs_from cells look (ready_paths rest) →
        job_if_ready cells entry.0 entry.1 phase (ready_jobs cells rest) ≡ jobs_from cells look (if is_ready_phase phase then entry.0 ∷ ready_paths rest else ready_paths rest)
    by (ready state) e further = rw (here, e, further) refl
    by (anchored to edge start state) e further = further
    by (delayed until state) e further = further
    by (waiting condition state) e further = further
    by (calling child into state) e further = further
    by (over result) e further = further

from_index : (cells : List CellState) (tasks : Table) (look : List ℕ → Option Task) (es : List (List ℕ × ℕ)) →
    ((i : ℕ) (path : List ℕ) (number : ℕ) → slice_get es i ≡ Some (path, number) → (task : Task) × (slice_get tasks number ≡ Some (path, task)) × (look path ≡ Some task)) →
    jobs_from cells look (keys_of es) ≡ jobs_by cells tasks es
from_index cells tasks look [] places = refl
from_index cells tasks look (e ∷ es) places =
    let k = places 0 e.0 e.1 refl in
    rw (k.1, k.2) (ap (job_if_ready cells e.0 k.0 k.0.phase) (from_index cells tasks look es (λ i path number at. places (suc i) path number at)))

pub ready_by_index : ReadyByIndex
ready_by_index cells tasks readies distinct sorted holds has =
    from_table cells look table places ∙ ap (jobs_from cells look) (sym same) ∙ from_index cells tasks look readies.entries index
  where
    table : Table
    table = sorted_tasks tasks

    table_sorted : IsSorted (sorted_tasks tasks)
    table_sorted = sorted_from (sorted_tasks tasks) (in_order_sorted tasks)

    look : List ℕ → Option Task
    look path = task_at (sorted_tasks tasks) path

    places : (i : ℕ) (path : List ℕ) (task : Task) → slice_get (sorted_tasks tasks) i ≡ Some (path, task) → task_at (sorted_tasks tasks) path ≡ Some task
    places i path task at = lookup_from_place (eq_by_cmp_equiv nat_list_cmp_total) (sorted_tasks tasks) i path task (IsDistinct-from_sorted path_cmp (keys_of (sorted_tasks tasks)) table_sorted) at

    ready_some : (path : List ℕ) (task : Task) → task_at (sorted_tasks tasks) path ≡ Some task → is_ready_phase task.phase ≡ true → is_ready (task_at (sorted_tasks tasks) path) ≡ true
    ready_some path task e r = rw e r

    tells : (q : List ℕ) → list_any (is_at (path_cmp q)) (keys_of readies.entries) ≡ list_any (is_at (path_cmp q)) (ready_paths (sorted_tasks tasks))
    tells q = by (list_any (is_at (path_cmp q)) (keys_of readies.entries)) (is_ready (task_at (sorted_tasks tasks) q)) refl refl ∙ sym (any_ready q (sorted_tasks tasks) table_sorted)
      where
        by : (a b : Bool) → list_any (is_at (path_cmp q)) (keys_of readies.entries) ≡ a → is_ready (task_at (sorted_tasks tasks) q) ≡ b → a ≡ b
        by true true x y = refl
        by false false x y = refl
        by true false x y =
            let f = key_found q readies.entries x in
            let t = holds q f.0 f.1 in
            let r = ready_some q t.0 (at_number tasks f.0 q t.0 distinct t.1) t.2 in absurd (cc)
        by false true x y = let f = has q y in let k = any_key q readies.entries f.0 f.1 in absurd (cc)

    same : keys_of readies.entries ≡ ready_paths (sorted_tasks tasks)
    same = btree_set_from_contains nat_list_cmp_total (record { keys = keys_of readies.entries }) (record { keys = ready_paths (sorted_tasks tasks) }) sorted (sorted_ready (sorted_tasks tasks) table_sorted) tells exact_bytes

    index : (i : ℕ) (path : List ℕ) (number : ℕ) → slice_get readies.entries i ≡ Some (path, number) → (task : Task) × (slice_get tasks number ≡ Some (path, task)) × (task_at (sorted_tasks tasks) path ≡ Some task)
    index i path number at =
        let t = holds path number (btree_map_get_place nat_list_cmp_total readies i path number sorted at) in
        (t.0, t.1, at_number tasks number path t.0 distinct t.1)
