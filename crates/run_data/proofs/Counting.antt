-- How many tasks of a table are open, through its changes. Tables are in order of path.
use Rattle.std.proofs.Common.{◌≡◌, ℕ, ◌+◌, true, List, [], ◌∷◌, Option, Some, None, refl, sym, ap, ◌∙◌, subst, arith}
use Rattle.std.specs.Cmp.Lexicographic.{nat_list_cmp_total}
use Rattle.std.specs.declared.cmp.Ordering.{Ordering}
use Rattle.std.specs.declared.cmp.Ordering.TheVariants.{Less, Equal, Greater}
use Rattle.std.specs.Ordering.{match_ordering}
use Rattle.aerie_base.specs.Paths.{path_cmp}
use Rattle.effect_cells.specs.declared.effects.CellState.{CellState}
use Rattle.run_data.specs.declared.jobs.Job.{Job}
use Rattle.run_data.specs.Endings.{is_open}
use Rattle.run_data.specs.Tasks.{TaskPhase, anchored, ready, delayed, waiting, calling, over, Task, Table, with_task, on_each, ready_jobs, job_if_ready}
use Rattle.run_data.specs.laws.OrderedTables.{Above, IsOrderedTable}
use Rattle.run_data.specs.laws.Weights.{one_if, opens}
use Rattle.run_data.specs.TableLaws.{path_itself, path_same, reversed}

-- ---- open tasks

pub opens_each : (change : List ℕ → Task → Task) → ((path : List ℕ) (task : Task) → is_open (change path task).phase ≡ is_open task.phase) →
    (table : Table) → opens (on_each change table) ≡ opens table
opens_each change same [] = refl
opens_each change same (entry ∷ rest) = λ i. one_if (same entry.0 entry.1 i) + opens_each change same rest i

-- the task where a new one of this path would go
abbrev pub standing : List ℕ → Table → Option Task
standing path [] = None
standing path (entry ∷ rest) = match_ordering (path_cmp path entry.0) None (Some entry.1) (standing path rest)

abbrev pub open_there : Option Task → ℕ
open_there None = 0
open_there (Some task) = one_if (is_open task.phase)

pub opens_with : (table : Table) (path : List ℕ) (task : Task) → opens (with_task table path task) + open_there (standing path table) ≡ opens table + one_if (is_open task.phase)
opens_with [] path task = omega arith
opens_with (entry ∷ rest) path task = by (path_cmp path entry.0) (opens_with rest path task)
  where
    by : (order : Ordering) → opens (with_task rest path task) + open_there (standing path rest) ≡ opens rest + one_if (is_open task.phase) →
        opens (match_ordering order ((path, task) ∷ entry ∷ rest) ((entry.0, task) ∷ rest) (entry ∷ with_task rest path task))
        + open_there (match_ordering order None (Some entry.1) (standing path rest)) ≡ one_if (is_open entry.1.phase) + opens rest + one_if (is_open task.phase)
    by Less further = omega arith
    by Equal further = omega arith
    by Greater further = omega (arith, further)

-- ---- another task changes

module _ (path other : List ℕ) (task : Task) (apart : path_cmp path other ≡ Equal → ⊥) where
  standing_empty : (order : Ordering) → path_cmp path other ≡ order → match_ordering order None (Some task) None ≡ None
  standing_empty Less e = refl
  standing_empty Equal e = absurd (apart e)
  standing_empty Greater e = refl

  standing_before : (entry : List ℕ × Task) (rest : Table) → path_cmp other entry.0 ≡ Less → (order : Ordering) → path_cmp path other ≡ order →
      match_ordering order None (Some task) (standing path (entry ∷ rest)) ≡ standing path (entry ∷ rest)
  standing_before entry rest less Less e =
      ap (λ r. match_ordering r None (Some entry.1) (standing path rest)) (sym (nat_list_cmp_total.trans path other entry.0 e less))
  standing_before entry rest less Equal e = absurd (apart e)
  standing_before entry rest less Greater e = refl

  standing_in_place : (entry : List ℕ × Task) (rest : Table) → path_cmp other entry.0 ≡ Equal → (order : Ordering) → path_cmp path entry.0 ≡ order →
      match_ordering order None (Some task) (standing path rest) ≡ match_ordering order None (Some entry.1) (standing path rest)
  standing_in_place entry rest equal Less e = refl
  standing_in_place entry rest equal Equal e = absurd (apart (subst (λ p. path_cmp path p ≡ Equal) (sym (path_same other entry.0 equal)) e))
  standing_in_place entry rest equal Greater e = refl

  pub standing_still : (table : Table) → standing path (with_task table other task) ≡ standing path table
  standing_still [] = standing_empty (path_cmp path other) refl
  standing_still (entry ∷ rest) = by (path_cmp other entry.0) refl (standing_still rest)
    where
      by : (order : Ordering) → path_cmp other entry.0 ≡ order → standing path (with_task rest other task) ≡ standing path rest →
          standing path (match_ordering order ((other, task) ∷ entry ∷ rest) ((entry.0, task) ∷ rest) (entry ∷ with_task rest other task)) ≡ standing path (entry ∷ rest)
      by Less e further = standing_before entry rest e (path_cmp path other) refl
      by Equal e further = standing_in_place entry rest e (path_cmp path entry.0) refl
      by Greater e further = ap (match_ordering (path_cmp path entry.0) None (Some entry.1)) further

-- ---- the first ready task

pub record Found (path : List ℕ) (table : Table) : Type 0 where
  pub task : Task
  pub stands : standing path table ≡ Some task
  pub is_open : is_open task.phase ≡ true
  pub above : (other : List ℕ) → Above other table → path_cmp other path ≡ Less

found_further : (entry : List ℕ × Task) (rest : Table) (path : List ℕ) → Above entry.0 rest → Found path rest → Found path (entry ∷ rest)
found_further entry rest path above found = record {
  task = found.task;
  stands = ap (λ order. match_ordering order None (Some entry.1) (standing path rest)) (reversed entry.0 path Less (found.above entry.0 above)) ∙ found.stands;
  is_open = found.is_open;
  above = λ other over_all. found.above other over_all.1;
}

found_here : (entry : List ℕ × Task) (rest : Table) → is_open entry.1.phase ≡ true → Found entry.0 (entry ∷ rest)
found_here entry rest open_ = record {
  task = entry.1;
  stands = ap (λ order. match_ordering order None (Some entry.1) (standing entry.0 rest)) (path_itself entry.0);
  is_open = open_;
  above = λ other over_all. over_all.0;
}

-- whatever the first of these jobs is, its task is open
abbrev pub FirstFound : Table → List (ℕ × Job) → Type 0
FirstFound table [] = Unit {0}
FirstFound table (job ∷ rest) = Found job.1.path table

first_further : (entry : List ℕ × Task) (rest : Table) (jobs : List (ℕ × Job)) → Above entry.0 rest → FirstFound rest jobs → FirstFound (entry ∷ rest) jobs
first_further entry rest [] above found = tt
first_further entry rest (job ∷ jobs) above found = found_further entry rest job.1.path above found

first_if : (cells : List CellState) (entry : List ℕ × Task) (rest : Table) (phase : TaskPhase) (jobs : List (ℕ × Job)) → entry.1.phase ≡ phase → Above entry.0 rest → FirstFound rest jobs →
    FirstFound (entry ∷ rest) (job_if_ready cells entry.0 entry.1 phase jobs)
first_if cells entry rest (ready state) jobs e above found = found_here entry rest (ap is_open e)
first_if cells entry rest (anchored to edge start state) jobs e above found = first_further entry rest jobs above found
first_if cells entry rest (delayed until state) jobs e above found = first_further entry rest jobs above found
first_if cells entry rest (waiting condition state) jobs e above found = first_further entry rest jobs above found
first_if cells entry rest (calling child into state) jobs e above found = first_further entry rest jobs above found
first_if cells entry rest (over result) jobs e above found = first_further entry rest jobs above found

pub first_found : (cells : List CellState) (table : Table) → IsOrderedTable table → FirstFound table (ready_jobs cells table)
first_found cells [] order = tt
first_found cells (entry ∷ rest) order =
    first_if cells entry rest entry.1.phase (ready_jobs cells rest) refl order.0 (first_found cells rest order.1)
