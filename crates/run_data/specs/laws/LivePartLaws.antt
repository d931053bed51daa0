-- A file of lemmas: what it proves need not be read to trust a clause.
--
-- The live part of a table.
use Rattle.std.proofs.Common.{◌≡◌, ℕ, Bool, true, false, not, ◌||◌, List, Some, None, refl, sym, ap, ◌∙◌, slice_get}
use Rattle.aerie_base.specs.Paths.{is_prefix}
use Rattle.effect_cells.specs.declared.effects.CellState.{CellState}
use Rattle.run_data.specs.Endings.{is_open, has_ended}
use Rattle.run_data.specs.Fresh.{due_time, least_due}
use Rattle.run_data.specs.Tasks.{TaskPhase, anchored, ready, delayed, waiting, calling, over, Task, Table, task_at, on_each, ready_jobs}
use Rattle.run_data.specs.laws.OrderedTables.{IsOrderedTable}
use Rattle.run_data.specs.laws.ReadyTasks.{is_ready_phase}
use Rattle.run_data.specs.laws.EndedTaskLaws.{open_stops, stands_at}
use Rattle.run_data.specs.laws.PathsUnder.{under_itself}
use Rattle.run_data.specs.laws.QuietTasks.{ended_each}
use Rattle.run_data.specs.laws.LiveParts.{is_live, live}
use Rattle.run_data.specs.laws.TableParts.{order_part, part_at, part_none, ended_part, ready_part, due_part, same_tables, each_at, changed_at}

-- the same has ended, and what has not is the same
pub record SameLive (table other : Table) : Type 0 where
  pub ended : (path : List ℕ) → has_ended table path ≡ has_ended other path
  pub tasks : (path : List ℕ) → has_ended table path ≡ false → task_at table path ≡ task_at other path

-- ---- what is left out is over

closed_by : (phase : TaskPhase) (ended : Bool) → (is_open phase ≡ true → ended ≡ false) → not ended ≡ false → is_open phase ≡ false
closed_by phase false stops e = absurd (cc)
closed_by phase true stops e = by (is_open phase) stops
  where
    by : (open_ : Bool) → (open_ ≡ true → true ≡ false) → open_ ≡ false
    by true h = let k = h refl in absurd (cc)
    by false h = refl

module _ (table : Table) (order : IsOrderedTable table) where
  pub open_live : (path : List ℕ) (task : Task) → task_at table path ≡ Some task → is_open task.phase ≡ true → has_ended table path ≡ false
  open_live path task there open_ = open_stops path path task (under_itself path) open_ table there

  dead_closed : (number : ℕ) (path : List ℕ) (task : Task) → slice_get table number ≡ Some (path, task) → is_live table path ≡ false → is_open task.phase ≡ false
  dead_closed number path task at dead = closed_by task.phase (has_ended table path) (open_live path task (stands_at table number path task order at)) dead

  closed_stays : (b : Bool) (phase : TaskPhase) → is_open phase ≡ false → (not b || not (is_open phase)) ≡ true
  closed_stays true phase e = ap not e
  closed_stays false phase e = refl

  pub ended_live : (path : List ℕ) → has_ended (live table) path ≡ has_ended table path
  ended_live path = ended_part (is_live table) path table (λ number other task at dead. closed_stays (is_prefix path other) task.phase (dead_closed number other task at dead))

  closed_not_ready : (phase : TaskPhase) → is_open phase ≡ false → is_ready_phase phase ≡ false
  closed_not_ready (ready state) e = absurd (cc)
  closed_not_ready (anchored to edge start state) e = refl
  closed_not_ready (delayed until state) e = refl
  closed_not_ready (waiting condition state) e = refl
  closed_not_ready (calling child into state) e = refl
  closed_not_ready (over result) e = refl

  pub ready_live : (cells : List CellState) → ready_jobs cells (live table) ≡ ready_jobs cells table
  ready_live cells = ready_part (is_live table) cells table (λ number path task at dead. closed_not_ready task.phase (dead_closed number path task at dead))

  closed_not_due : (now horizon : ℕ) (cells : List CellState) (phase : TaskPhase) → is_open phase ≡ false → due_time now horizon cells phase ≡ None
  closed_not_due now horizon cells (ready state) e = absurd (cc)
  closed_not_due now horizon cells (anchored to edge start state) e = absurd (cc)
  closed_not_due now horizon cells (delayed until state) e = absurd (cc)
  closed_not_due now horizon cells (waiting condition state) e = absurd (cc)
  closed_not_due now horizon cells (calling child into state) e = absurd (cc)
  closed_not_due now horizon cells (over result) e = refl

  pub due_live : (now horizon : ℕ) (cells : List CellState) → least_due now horizon cells (live table) ≡ least_due now horizon cells table
  due_live now horizon cells = due_part (is_live table) now horizon cells table (λ number path task at dead. closed_not_due now horizon cells task.phase (dead_closed number path task at dead))

-- ---- the same live part

module _ (table other : Table) (order : IsOrderedTable table) (second : IsOrderedTable other) where
  pub same_of : live table ≡ live other → SameLive table other
  same_of e = record {
    ended = ended;
    tasks = λ path h.
        sym (part_at (is_live table) table path (ap not h)) ∙ ap (λ t. task_at t path) e
        ∙ part_at (is_live other) other path (ap not (sym (ended path) ∙ h));
  }
    where
      ended : (path : List ℕ) → has_ended table path ≡ has_ended other path
      ended path = sym (ended_live table order path) ∙ ap (λ t. has_ended t path) e ∙ ended_live other second path

  pub live_of : SameLive table other → live table ≡ live other
  live_of same = same_tables (live table) (live other) (order_part (is_live table) table order) (order_part (is_live other) other second) (λ path. by path (has_ended table path) refl)
    where
      by : (path : List ℕ) (ended : Bool) → has_ended table path ≡ ended → task_at (live table) path ≡ task_at (live other) path
      by path true e = part_none (is_live table) table path (ap not e) ∙ sym (part_none (is_live other) other path (ap not (sym (same.ended path) ∙ e)))
      by path false e =
          part_at (is_live table) table path (ap not e) ∙ same.tasks path e
          ∙ sym (part_at (is_live other) other path (ap not (sym (same.ended path) ∙ e)))

  pub same_ready : SameLive table other → (cells : List CellState) → ready_jobs cells table ≡ ready_jobs cells other
  same_ready same cells = sym (ready_live table order cells) ∙ ap (ready_jobs cells) (live_of same) ∙ ready_live other second cells

  pub same_due : SameLive table other → (now horizon : ℕ) (cells : List CellState) → least_due now horizon cells table ≡ least_due now horizon cells other
  same_due same now horizon cells = sym (due_live table order now horizon cells) ∙ ap (least_due now horizon cells) (live_of same) ∙ due_live other second now horizon cells

-- a change of each task by itself, which leaves bodies open
pub same_each : (change : List ℕ → Task → Task) → ((path : List ℕ) (task : Task) → is_open (change path task).phase ≡ is_open task.phase) → ((path : List ℕ) (task : Task) → (change path task).begun ≡ task.begun) →
    (table other : Table) → SameLive table other → SameLive (on_each change table) (on_each change other)
same_each change open_ begun table other same = record {
  ended = λ path. ended_each change open_ begun table path ∙ same.ended path ∙ sym (ended_each change open_ begun other path);
  tasks = λ path h.
      each_at change table path ∙ ap (changed_at change path) (same.tasks path (sym (ended_each change open_ begun table path) ∙ h)) ∙ sym (each_at change other path);
}
