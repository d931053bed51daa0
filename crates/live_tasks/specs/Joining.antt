-- While directives are exchanged: tasks of which some have begun, and directives that join them.
use Rattle.std.specs.Prelude.{◌≡◌, ℕ, false, List, Option, Some}
use Rattle.run_data.specs.declared.tasks.TaskState.{TaskState}
use Rattle.run_data.specs.Tasks.{calling, Task, Table, with_task}
use Rattle.live_tasks.specs.declared.slots.Slot.{Slot}
use Rattle.live_tasks.specs.declared.tasks.LiveTasks.{LiveTasks}
use Rattle.live_tasks.specs.Endings.{slot_has_ended, HasCalledChild}
use Rattle.live_tasks.specs.Followers.{AreFollowers}
use Rattle.live_tasks.specs.ListedSlots.{ListsAll}
use Rattle.live_tasks.specs.PlannedTasks.{HasNoTask, HasPathToo}
use Rattle.live_tasks.specs.Slots.{slot_at, IsForest, AreTable}

-- The tasks are those of a table, and none has ended; who waits for a child waits for one that is there. Whether those whom
-- others follow are there is not said.
pub record AreUnderWay (table : Table) (tasks : LiveTasks) : Type 0 where
  pub forest : IsForest tasks.tables.slots.slots
  pub are : AreTable tasks.tables.slots.slots table
  pub calls : (number : ℕ) (slot : Slot) → slot_at tasks.tables.slots.slots number ≡ Some slot → (child : ℕ) (into : Option ℕ) (state : TaskState) →
      slot.task.phase ≡ calling child into state → HasCalledChild tasks.tables.slots.slots number child
  pub settled : (number : ℕ) (slot : Slot) → slot_at tasks.tables.slots.slots number ≡ Some slot → slot_has_ended (Some slot) ≡ false
  pub followers_ : AreFollowers tasks.tables.slots.slots tasks.followers.items
  pub listed : ListsAll tasks.tables

-- a task of a path joins others, of which none has the path
pub record IsJoinedBy (path : List ℕ) (task : Task) (before after : LiveTasks) : Type 0 where
  pub more : HasPathToo path before after
  pub joined : (table : Table) → AreUnderWay table before → HasNoTask before path → AreUnderWay (with_task table path task) after

-- some tasks join others
abbrev pub AreJoinedBy : (Table → Table) → LiveTasks → LiveTasks → Type 0
AreJoinedBy with_all before after = (table : Table) → AreUnderWay table before → AreUnderWay (with_all table) after
