-- When tasks have ended, and what then goes on: callers, and directives that are anchored.
use Rattle.std.specs.Prelude.{ℕ, Bool, true, false, not, ◌&&◌, ◌||◌, List, [], ◌∷◌, Option, Some, None, slice_set, if◌then◌else◌}
use Rattle.aerie_base.specs.declared.values.Value.{Value}
use Rattle.aerie_base.specs.declared.plans.Edge.{Edge}
use Rattle.aerie_base.specs.declared.plans.Edge.TheVariants.{Start, End}
use Rattle.aerie_base.specs.Paths.{root, child_path, is_prefix}
use Rattle.run_data.specs.declared.tasks.TaskState.{TaskState}
use Rattle.run_data.specs.TaskFrames.{Frame}
use Rattle.run_data.specs.Tasks.{TaskPhase, anchored, ready, delayed, waiting, calling, over, Task, Table, task_at, on_each, after_delay, after_frames}

-- whether a task's body has not ended
abbrev pub is_open : TaskPhase → Bool
is_open (over result) = false
is_open (anchored to edge start state) = true
is_open (ready state) = true
is_open (delayed until state) = true
is_open (waiting condition state) = true
is_open (calling child into state) = true

-- a task has ended where its body has ended and each of its children has: no open body is its own or under it
abbrev pub has_ended : Table → List ℕ → Bool
has_ended [] path = true
has_ended (entry ∷ rest) path = (not (is_prefix path entry.0) || not (is_open entry.1.phase)) && has_ended rest path

-- ---- callers

abbrev pub result_of_phase : TaskPhase → Option Value
result_of_phase (over result) = result
result_of_phase (anchored to edge start state) = None
result_of_phase (ready state) = None
result_of_phase (delayed until state) = None
result_of_phase (waiting condition state) = None
result_of_phase (calling child into state) = None

abbrev pub result_of : Option Task → Option Value
result_of None = None
result_of (Some task) = result_of_phase task.phase

-- the caller's state with the callee's result in the local that takes it
abbrev pub with_result : Option ℕ → Option Value → TaskState → TaskState
with_result None result state = state
with_result (Some slot) None state = state
with_result (Some slot) (Some value) state = record state { locals = slice_set state.locals slot value }

-- a caller is ready once its callee has ended
abbrev pub back : Table → List ℕ → TaskPhase → TaskPhase
back table path (calling child into state) =
    if has_ended table (child_path path child)
    then ready (with_result into (result_of (task_at table (child_path path child))) state)
    else calling child into state
back table path (anchored to edge start state) = anchored to edge start state
back table path (ready state) = ready state
back table path (delayed until state) = delayed until state
back table path (waiting condition state) = waiting condition state
back table path (over result) = over result

-- ---- anchors

abbrev pub has_begun : Option Task → Bool
has_begun None = false
has_begun (Some task) = task.begun

-- whether that edge of the directive with an id has come
abbrev pub has_come : Table → ℕ → Edge → Bool
has_come table to Start = has_begun (task_at table (root to))
has_come table to End = has_ended table (root to)

-- an anchored directive has its due time from the batch on in which its anchor began, or after which it had ended
abbrev pub due_phase : Table → ℕ → TaskPhase → TaskPhase
due_phase table now (anchored to edge start state) =
    if has_come table to edge then after_delay now start state else anchored to edge start state
due_phase table now (ready state) = ready state
due_phase table now (delayed until state) = delayed until state
due_phase table now (waiting condition state) = waiting condition state
due_phase table now (calling child into state) = calling child into state
due_phase table now (over result) = over result

-- ---- after a batch

abbrev pub gone_on : Table → ℕ → List ℕ → Task → Task
gone_on table now path task = record task { phase = due_phase table now (back table path task.phase) }

-- the tasks after the frames of a batch, callers and anchored directives being judged on all of them
abbrev pub after_batch : ℕ → List Frame → Table → Table
after_batch now frames table = let whole = after_frames now frames table in on_each (gone_on whole now) whole
