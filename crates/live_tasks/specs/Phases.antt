-- What a task is doing, as the engine has it, and what is asked of it.
use Rattle.std.specs.Prelude.{ℕ, Bool, true, false, ◌&&◌, List, Option, Some, None, nat_eq, if◌then◌else◌}
use Rattle.aerie_base.specs.declared.values.Value.{Value}
use Rattle.aerie_base.specs.declared.conditions.Cond.{Cond}
use Rattle.aerie_base.specs.declared.plans.Anchor.{Anchor}
use Rattle.aerie_base.specs.declared.plans.Edge.{Edge}
use Rattle.aerie_base.specs.declared.plans.Edge.TheVariants.{Start, End}
use Rattle.run_data.specs.declared.frames.Item.{Item}
use Rattle.run_data.specs.declared.frames.Item.TheVariants as item
use Rattle.run_data.specs.Tasks.{TaskPhase, anchored, ready, delayed, waiting, calling, over, Task, after_delay}
use Rattle.run_data.specs.Endings.{with_result}
use Rattle.live_tasks.specs.declared.phases.LivePhase.{LivePhase}
use Rattle.live_tasks.specs.declared.phases.LivePhase.TheVariants as kept

abbrev pub task_phase_of : LivePhase → TaskPhase
task_phase_of (kept.Anchored to edge start state) = anchored to edge start state
task_phase_of (kept.Ready state) = ready state
task_phase_of (kept.Delayed until state) = delayed until state
task_phase_of (kept.Waiting condition state) = waiting condition state
task_phase_of (kept.Calling child into state) = calling child into state
task_phase_of (kept.Over result) = over result

-- whether a task waits for a condition
abbrev pub waits_for_condition : TaskPhase → Bool
waits_for_condition (waiting condition state) = true
waits_for_condition (anchored to edge start state) = false
waits_for_condition (ready state) = false
waits_for_condition (delayed until state) = false
waits_for_condition (calling child into state) = false
waits_for_condition (over result) = false

-- what a task waits for
abbrev pub condition_of_wait : TaskPhase → Option Cond
condition_of_wait (waiting condition state) = Some condition
condition_of_wait (anchored to edge start state) = None
condition_of_wait (ready state) = None
condition_of_wait (delayed until state) = None
condition_of_wait (calling child into state) = None
condition_of_wait (over result) = None

-- the child that a task calls
abbrev pub called_child : TaskPhase → Option ℕ
called_child (calling child into state) = Some child
called_child (anchored to edge start state) = None
called_child (ready state) = None
called_child (delayed until state) = None
called_child (waiting condition state) = None
called_child (over result) = None

-- what a task's start is counted from
abbrev pub anchor_of_start : TaskPhase → Option Anchor
anchor_of_start (anchored to edge start state) = Some (record { to = to; edge = edge })
anchor_of_start (ready state) = None
anchor_of_start (delayed until state) = None
anchor_of_start (waiting condition state) = None
anchor_of_start (calling child into state) = None
anchor_of_start (over result) = None

-- ---- going on

abbrev pub is_same_edge : Edge → Edge → Bool
is_same_edge Start Start = true
is_same_edge End End = true
is_same_edge Start End = false
is_same_edge End Start = false

-- where a task calls the child with this number, it goes on with what that returned
abbrev pub phase_with_return : ℕ → Option Value → TaskPhase → TaskPhase
phase_with_return own result (calling child into state) = if nat_eq child own then ready (with_result into result state) else calling child into state
phase_with_return own result (anchored to edge start state) = anchored to edge start state
phase_with_return own result (ready state) = ready state
phase_with_return own result (delayed until state) = delayed until state
phase_with_return own result (waiting condition state) = waiting condition state
phase_with_return own result (over value) = over value

-- where a task is anchored to this edge of the directive with this id, it has its due time
abbrev pub phase_when_due : ℕ → ℕ → Edge → TaskPhase → TaskPhase
phase_when_due now id at (anchored to edge start state) = if nat_eq to id && is_same_edge edge at then after_delay now start state else anchored to edge start state
phase_when_due now id at (ready state) = ready state
phase_when_due now id at (delayed until state) = delayed until state
phase_when_due now id at (waiting condition state) = waiting condition state
phase_when_due now id at (calling child into state) = calling child into state
phase_when_due now id at (over result) = over result

abbrev pub task_with_return : ℕ → Option Value → Task → Task
task_with_return own result task = record task { phase = phase_with_return own result task.phase }

abbrev pub fall_due : ℕ → ℕ → Edge → Task → Task
fall_due now id at task = record task { phase = phase_when_due now id at task.phase }

-- a task that waits for a condition goes on
abbrev pub phase_after_wait : TaskPhase → TaskPhase
phase_after_wait (waiting condition state) = ready state
phase_after_wait (anchored to edge start state) = anchored to edge start state
phase_after_wait (ready state) = ready state
phase_after_wait (delayed until state) = delayed until state
phase_after_wait (calling child into state) = calling child into state
phase_after_wait (over result) = over result

abbrev pub after_wait : List ℕ → Task → Task
after_wait path task = record task { phase = phase_after_wait task.phase }

-- whether an item is a child
abbrev pub is_child_item : Item → Bool
is_child_item (item.Emit cell effect) = false
is_child_item (item.Child kind arguments) = true
