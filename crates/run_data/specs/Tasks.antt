-- The tasks of a run: what each is doing, by path.
use Rattle.std.specs.Prelude.{ℕ, zero, suc, ◌+◌, ◌-◌, Bool, true, false, List, [], ◌∷◌, map, Option, Some, None, nat_eq, nat_abs, if◌then◌else◌}
use Rattle.std.specs.Map.{lookup}
use Rattle.std.specs.BTreeMap.{is_at, insert_entry}
use Rattle.aerie_base.specs.declared.values.Value.{Value}
use Rattle.aerie_base.specs.declared.conditions.Cond.{Cond}
use Rattle.aerie_base.specs.declared.models.Daemon.{Daemon}
use Rattle.aerie_base.specs.declared.models.model.Parts.{Parts}
use Rattle.aerie_base.specs.declared.plans.Anchor.{Anchor}
use Rattle.aerie_base.specs.declared.plans.Edge.{Edge}
use Rattle.aerie_base.specs.declared.plans.Directive.{Directive}
use Rattle.aerie_base.specs.Paths.{root, daemon_root, path_cmp}
use Rattle.effect_cells.specs.declared.effects.CellState.{CellState}
use Rattle.run_data.specs.declared.tasks.TaskState.{TaskState}
use Rattle.run_data.specs.declared.jobs.Job.{Job}
use Rattle.run_data.specs.declared.frames.Item.{Item}
use Rattle.run_data.specs.declared.frames.Item.TheVariants as item
use Rattle.run_data.specs.declared.frames.Status.{Status}
use Rattle.run_data.specs.declared.frames.Status.TheVariants as status
use Rattle.run_data.specs.TaskFrames.{Frame}
use Rattle.run_data.specs.TaskStates.{activity_begun, daemon_begun}
use Rattle.effect_cells.specs.WakeTimes.{holds_on}

-- ---- tasks

-- What a task is doing. A directive that has not begun is delayed until its due time; while it has none it is anchored.
pub data TaskPhase : Type 0 where
  -- to the start or the end of the directive with this id, so much before it begins
  anchored : ℕ → Edge → ℕ → TaskState → TaskPhase
  ready : TaskState → TaskPhase
  -- until this time
  delayed : ℕ → TaskState → TaskPhase
  waiting : Cond → TaskState → TaskPhase
  -- for the child with this number, whose result goes into this slot
  calling : ℕ → Option ℕ → TaskState → TaskPhase
  -- its body has ended, with this result
  over : Option Value → TaskPhase

pub record Task : Type 0 where
  pub phase : TaskPhase
  -- how many children it has made
  pub made : ℕ
  -- whether its body has begun
  pub begun : Bool

-- ---- tables

-- the tasks in order of path, each once
abbrev pub Table : Type 0
Table = List (List ℕ × Task)

abbrev pub task_at : Table → List ℕ → Option Task
task_at table path = lookup (is_at (path_cmp path)) table

abbrev pub with_task : Table → List ℕ → Task → Table
with_task table path task = insert_entry path_cmp table path task

-- each task changed
abbrev pub on_each : (List ℕ → Task → Task) → Table → Table
on_each change table = map (λ entry. (entry.0, change entry.0 entry.1)) table

-- ---- the tasks of a plan

abbrev pub planned : Option Anchor → ℕ → TaskState → TaskPhase
planned None start state = delayed start state
planned (Some anchor) start state = anchored anchor.to anchor.edge start state

abbrev pub with_directives : Parts → List Directive → Table → Table
with_directives model [] table = table
with_directives model (directive ∷ rest) table =
    with_directives model rest (with_task table (root directive.id) (record {
      phase = planned directive.anchor directive.start (activity_begun model directive.kind directive.arguments);
      made = 0;
      begun = false;
    }))

abbrev pub with_daemons : ℕ → List Daemon → Table → Table
with_daemons number [] table = table
with_daemons number (daemon ∷ rest) table =
    with_daemons (number + 1) rest (with_task table (daemon_root number) (record {
      phase = delayed 0 (daemon_begun number daemon);
      made = 0;
      begun = false;
    }))

-- ---- what a step does to its task

abbrev pub children_made : Option Task → ℕ
children_made None = 0
children_made (Some task) = task.made

abbrev pub children_in : List Item → ℕ
children_in [] = 0
children_in (item.Emit cell effect ∷ rest) = children_in rest
children_in (item.Child kind arguments ∷ rest) = children_in rest + 1

-- after so much time: a task that has not to wait for it is ready in the next batch
abbrev pub after_delay : ℕ → ℕ → TaskState → TaskPhase
after_delay now zero state = ready state
after_delay now (suc less) state = delayed (now + suc less) state

-- by the number of children that it has made with this step, of which the last is called
abbrev pub phase_after : ℕ → ℕ → Status → TaskPhase
phase_after now made (status.Delayed by next) = after_delay now (nat_abs by) next
phase_after now made (status.Waiting condition next) = waiting condition next
phase_after now made (status.Calling into next) = calling (made - 1) into next
phase_after now made (status.Done result) = over result
phase_after now made (status.Faulted fault) = over None

abbrev pub task_after : ℕ → Status → ℕ → Task
task_after now status made = record { phase = phase_after now made status; made = made; begun = true }

abbrev pub after_frame : ℕ → Frame → Table → Table
after_frame now frame table =
    with_task table frame.path (task_after now frame.status (children_made (task_at table frame.path) + children_in frame.items))

abbrev pub after_frames : ℕ → List Frame → Table → Table
after_frames now [] table = table
after_frames now (frame ∷ rest) table = after_frames now rest (after_frame now frame table)

-- ---- ready tasks

abbrev pub job_if_ready : List CellState → List ℕ → Task → TaskPhase → List (ℕ × Job) → List (ℕ × Job)
job_if_ready cells path task (ready state) rest = (task.made, record { path = path; state = state; view = cells }) ∷ rest
job_if_ready cells path task (anchored to edge start state) rest = rest
job_if_ready cells path task (delayed until state) rest = rest
job_if_ready cells path task (waiting condition state) rest = rest
job_if_ready cells path task (calling child into state) rest = rest
job_if_ready cells path task (over result) rest = rest

-- the steps of the ready tasks, in order of path, each with the number of children that its task has made
abbrev pub ready_jobs : List CellState → Table → List (ℕ × Job)
ready_jobs cells [] = []
ready_jobs cells (entry ∷ rest) = job_if_ready cells entry.0 entry.1 entry.1.phase (ready_jobs cells rest)

-- a waiting task is ready where its condition holds
abbrev pub woken_phase : List CellState → TaskPhase → TaskPhase
woken_phase cells (waiting condition state) = if holds_on cells condition then ready state else waiting condition state
woken_phase cells (anchored to edge start state) = anchored to edge start state
woken_phase cells (ready state) = ready state
woken_phase cells (delayed until state) = delayed until state
woken_phase cells (calling child into state) = calling child into state
woken_phase cells (over result) = over result

abbrev pub woken : List CellState → List ℕ → Task → Task
woken cells path task = record task { phase = woken_phase cells task.phase }

-- a delayed task is ready at the end of its delay
abbrev pub rested_phase : ℕ → TaskPhase → TaskPhase
rested_phase now (delayed until state) = if nat_eq until now then ready state else delayed until state
rested_phase now (anchored to edge start state) = anchored to edge start state
rested_phase now (ready state) = ready state
rested_phase now (waiting condition state) = waiting condition state
rested_phase now (calling child into state) = calling child into state
rested_phase now (over result) = over result

abbrev pub rested : ℕ → List ℕ → Task → Task
rested now path task = record task { phase = rested_phase now task.phase }
