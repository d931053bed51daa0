-- A file of lemmas: what it proves need not be read to trust a clause.
--
-- What holds of the times at which delays end, through the changes of a table.
use Rattle.std.proofs.Common.{ℕ, ◌+◌, Bool, true, false, List, [], ◌∷◌, if◌then◌else◌, nat_abs}
use Rattle.aerie_base.specs.Paths.{child_path}
use Rattle.effect_cells.specs.declared.effects.CellState.{CellState}
use Rattle.effect_cells.specs.WakeTimes.{holds_on}
use Rattle.run_data.specs.TaskFrames.{Frame}
use Rattle.run_data.specs.declared.frames.Status.{Status}
use Rattle.run_data.specs.declared.frames.Status.TheVariants as status
use Rattle.run_data.specs.declared.tasks.TaskState.{TaskState}
use Rattle.run_data.specs.Endings.{after_batch, gone_on, due_phase, back, has_ended, has_come, result_of, with_result}
use Rattle.run_data.specs.TaskLaws.{Each, each_with, each_changed}
use Rattle.run_data.specs.Tasks.{TaskPhase, anchored, ready, delayed, waiting, calling, over, Table, task_at, children_made, children_in, after_delay, phase_after, task_after, after_frame, after_frames, woken_phase}

-- where a delay ends, this holds
abbrev pub EndsWhere : (ℕ → Type 0) → TaskPhase → Type 0
EndsWhere P (delayed until state) = P until
EndsWhere P (anchored to edge start state) = Unit {0}
EndsWhere P (ready state) = Unit {0}
EndsWhere P (waiting condition state) = Unit {0}
EndsWhere P (calling child into state) = Unit {0}
EndsWhere P (over result) = Unit {0}

module _ (P : ℕ → Type 0) where
  pub woken_ends : (cells : List CellState) (phase : TaskPhase) → EndsWhere P phase → EndsWhere P (woken_phase cells phase)
  woken_ends cells (waiting condition state) h = by (holds_on cells condition)
    where
      by : (holds : Bool) → EndsWhere P (if holds then ready state else waiting condition state)
      by true = tt
      by false = tt
  woken_ends cells (anchored to edge start state) h = tt
  woken_ends cells (ready state) h = tt
  woken_ends cells (delayed until state) h = h
  woken_ends cells (calling child into state) h = tt
  woken_ends cells (over result) h = tt

  -- where it holds of each delay that begins now
  module _ (now : ℕ) (starts : (by : ℕ) (state : TaskState) → EndsWhere P (after_delay now by state)) where
    status_ends : (made : ℕ) (ending : Status) → EndsWhere P (phase_after now made ending)
    status_ends made (status.Delayed by state) = starts (nat_abs by) state
    status_ends made (status.Waiting condition state) = tt
    status_ends made (status.Calling into state) = tt
    status_ends made (status.Done result) = tt
    status_ends made (status.Faulted fault) = tt

    frames_end : (frames : List Frame) (table : Table) → Each (EndsWhere P) table → Each (EndsWhere P) (after_frames now frames table)
    frames_end [] table each = each
    frames_end (frame ∷ rest) table each =
        frames_end rest (after_frame now frame table)
        (each_with (EndsWhere P) table frame.path (task_after now frame.status (children_made (task_at table frame.path) + children_in frame.items)) each
        (status_ends (children_made (task_at table frame.path) + children_in frame.items) frame.status))

    back_ends : (table : Table) (path : List ℕ) (phase : TaskPhase) → EndsWhere P phase → EndsWhere P (back table path phase)
    back_ends table path (calling child into state) h = by (has_ended table (child_path path child))
      where
        by : (ended : Bool) → EndsWhere P (if ended then ready (with_result into (result_of (task_at table (child_path path child))) state) else calling child into state)
        by true = tt
        by false = tt
    back_ends table path (anchored to edge start state) h = tt
    back_ends table path (ready state) h = tt
    back_ends table path (delayed until state) h = h
    back_ends table path (waiting condition state) h = tt
    back_ends table path (over result) h = tt

    due_ends : (table : Table) (phase : TaskPhase) → EndsWhere P phase → EndsWhere P (due_phase table now phase)
    due_ends table (anchored to edge start state) h = by (has_come table to edge)
      where
        by : (come : Bool) → EndsWhere P (if come then after_delay now start state else anchored to edge start state)
        by true = starts start state
        by false = tt
    due_ends table (ready state) h = tt
    due_ends table (delayed until state) h = h
    due_ends table (waiting condition state) h = tt
    due_ends table (calling child into state) h = tt
    due_ends table (over result) h = tt

    pub batch_ends : (frames : List Frame) (table : Table) → Each (EndsWhere P) table → Each (EndsWhere P) (after_batch now frames table)
    batch_ends frames table each =
        let whole = after_frames now frames table in
        each_changed (EndsWhere P) (EndsWhere P) (gone_on whole now)
        (λ path task h. due_ends whole (back whole path task.phase) (back_ends whole path task.phase h)) whole (frames_end frames table each)
