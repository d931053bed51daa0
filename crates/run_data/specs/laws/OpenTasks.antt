-- A file of lemmas: what it proves need not be read to trust a clause.
--
-- A table of tasks stays in order through a batch, and what goes on or wakes is open where it was.
use Rattle.std.proofs.Common.{◌≡◌, ℕ, zero, suc, ◌+◌, Bool, true, false, List, [], ◌∷◌, if◌then◌else◌, nat_eq, refl}
use Rattle.aerie_base.specs.Paths.{child_path}
use Rattle.effect_cells.specs.declared.effects.CellState.{CellState}
use Rattle.effect_cells.specs.WakeTimes.{holds_on}
use Rattle.run_data.specs.TaskFrames.{Frame}
use Rattle.run_data.specs.declared.tasks.TaskState.{TaskState}
use Rattle.run_data.specs.Endings.{is_open, after_batch, gone_on, due_phase, back, has_ended, has_come, result_of, with_result}
use Rattle.run_data.specs.Tasks.{TaskPhase, anchored, ready, delayed, waiting, calling, over, Table, task_at, children_made, children_in, after_delay, task_after, after_frame, after_frames, woken_phase, rested_phase}
use Rattle.run_data.specs.laws.OrderedTables.{IsOrderedTable}
use Rattle.run_data.specs.TableLaws.{order_with, order_each}

pub order_frames : (now : ℕ) (frames : List Frame) (table : Table) → IsOrderedTable table → IsOrderedTable (after_frames now frames table)
order_frames now [] table order = order
order_frames now (frame ∷ rest) table order = order_frames now rest (after_frame now frame table) (order_with table frame.path (task_after now frame.status (children_made (task_at table frame.path) + children_in frame.items)) order)

pub order_batch : (now : ℕ) (frames : List Frame) (table : Table) → IsOrderedTable table → IsOrderedTable (after_batch now frames table)
order_batch now frames table order = order_each (gone_on (after_frames now frames table) now) (after_frames now frames table) (order_frames now frames table order)

pub back_open : (table : Table) (path : List ℕ) (phase : TaskPhase) → is_open (back table path phase) ≡ is_open phase
back_open table path (calling child into state) = by (has_ended table (child_path path child))
  where
    by : (ended : Bool) → is_open (if ended then ready (with_result into (result_of (task_at table (child_path path child))) state) else calling child into state) ≡ true
    by true = refl
    by false = refl
back_open table path (anchored to edge start state) = refl
back_open table path (ready state) = refl
back_open table path (delayed until state) = refl
back_open table path (waiting condition state) = refl
back_open table path (over result) = refl

delayed_open : (now by : ℕ) (state : TaskState) → is_open (after_delay now by state) ≡ true
delayed_open now zero state = refl
delayed_open now (suc less) state = refl

pub due_open : (table : Table) (now : ℕ) (phase : TaskPhase) → is_open (due_phase table now phase) ≡ is_open phase
due_open table now (anchored to edge start state) = by (has_come table to edge)
  where
    by : (come : Bool) → is_open (if come then after_delay now start state else anchored to edge start state) ≡ true
    by true = delayed_open now start state
    by false = refl
due_open table now (ready state) = refl
due_open table now (delayed until state) = refl
due_open table now (waiting condition state) = refl
due_open table now (calling child into state) = refl
due_open table now (over result) = refl

pub woken_open : (cells : List CellState) (phase : TaskPhase) → is_open (woken_phase cells phase) ≡ is_open phase
woken_open cells (waiting condition state) = by (holds_on cells condition)
  where
    by : (holds : Bool) → is_open (if holds then ready state else waiting condition state) ≡ true
    by true = refl
    by false = refl
woken_open cells (anchored to edge start state) = refl
woken_open cells (ready state) = refl
woken_open cells (delayed until state) = refl
woken_open cells (calling child into state) = refl
woken_open cells (over result) = refl

pub rested_open : (now : ℕ) (phase : TaskPhase) → is_open (rested_phase now phase) ≡ is_open phase
rested_open now (delayed until state) = by (nat_eq until now)
  where
    by : (same : Bool) → is_open (if same then ready state else delayed until state) ≡ true
    by true = refl
    by false = refl
rested_open now (anchored to edge start state) = refl
rested_open now (ready state) = refl
rested_open now (waiting condition state) = refl
rested_open now (calling child into state) = refl
rested_open now (over result) = refl
