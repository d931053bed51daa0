-- The tasks of a plan before it begins.
use Rattle.std.specs.Prelude.{◌≡◌, ◌⊎◌, ℕ, false, List, [], ◌∷◌, Option, Some, None}
use Rattle.aerie_base.specs.declared.models.Daemon.{Daemon}
use Rattle.aerie_base.specs.declared.models.model.Parts.{Parts}
use Rattle.aerie_base.specs.declared.plans.Anchor.{Anchor}
use Rattle.aerie_base.specs.declared.plans.Directive.{Directive}
use Rattle.aerie_base.specs.declared.plans.Edge.{Edge}
use Rattle.run_data.specs.TaskStates.{activity_begun, daemon_begun}
use Rattle.run_data.specs.declared.tasks.TaskState.{TaskState}
use Rattle.run_data.specs.Tasks.{TaskPhase, anchored, delayed, Task, Table, planned, with_task}
use Rattle.live_tasks.specs.Followers.{Follows}
use Rattle.live_tasks.specs.ListedSlots.{ListsAll}
use Rattle.live_tasks.specs.Slots.{slot_at, IsRoot, HasSlot, AreTable}
use Rattle.live_tasks.specs.declared.followers.Follower.{Follower}
use Rattle.live_tasks.specs.declared.slots.Slot.{Slot}
use Rattle.live_tasks.specs.declared.tasks.LiveTasks.{LiveTasks}

-- ---- one task

-- a directive before it begins: due at its start, or anchored
abbrev pub planned_task : Option Anchor → ℕ → TaskState → Task
planned_task anchor start state = record { phase = planned anchor start state; made = 0; begun = false }

-- the task of a directive
abbrev pub directive_task : Parts → Directive → Task
directive_task model directive = planned_task directive.anchor directive.start (activity_begun model directive.kind directive.arguments)

-- the task of a daemon, due at time 0
abbrev pub daemon_task : ℕ → Daemon → Task
daemon_task number daemon = record { phase = delayed 0 (daemon_begun number daemon); made = 0; begun = false }

-- what a task does that has an anchor, or none: it is delayed or anchored to that
abbrev pub IsPlannedBy : Option Anchor → TaskPhase → Type 0
IsPlannedBy None phase = (until : ℕ) × (state : TaskState) × (phase ≡ delayed until state)
IsPlannedBy (Some anchor) phase = (start : ℕ) × (state : TaskState) × (phase ≡ anchored anchor.to anchor.edge start state)

-- the task with a number as a follower, if it has an anchor
abbrev pub follower_of : Option Anchor → ℕ → List Follower
follower_of None number = []
follower_of (Some anchor) number = record { to = anchor.to; number = number } ∷ []

-- the slot of a directive or daemon
abbrev pub slot_of_root : List ℕ → Task → Slot
slot_of_root path task = record { path = path; task = task; parent = None; own = 0; live_below = 0 }

-- a directive or daemon that has not begun
pub record IsUnbegun (slot : Slot) : Type 0 where
  pub path : IsRoot slot.path
  pub parent : slot.parent ≡ None
  pub below : slot.live_below ≡ 0
  pub begun : slot.task.begun ≡ false
  pub phase : (anchor : Option Anchor) × IsPlannedBy anchor slot.task.phase

-- ---- all of them

-- the tasks are those of a table, none has begun, and those that are anchored are among the followers, in whatever order
pub record ArePlanned (table : Table) (tasks : LiveTasks) : Type 0 where
  pub distinct : (number other : ℕ) (slot second : Slot) → slot_at tasks.tables.slots.slots number ≡ Some slot → slot_at tasks.tables.slots.slots other ≡ Some second →
      slot.path ≡ second.path → number ≡ other
  pub are : AreTable tasks.tables.slots.slots table
  pub unbegun : (number : ℕ) (slot : Slot) → slot_at tasks.tables.slots.slots number ≡ Some slot → IsUnbegun slot
  pub follow : (number : ℕ) (slot : Slot) → slot_at tasks.tables.slots.slots number ≡ Some slot → (to : ℕ) (edge : Edge) (start : ℕ) (state : TaskState) →
      slot.task.phase ≡ anchored to edge start state → Follows number to tasks.followers.items
  pub listed : ListsAll tasks.tables

-- no task has a path
abbrev pub HasNoTask : LiveTasks → List ℕ → Type 0
HasNoTask tasks path = HasSlot tasks.tables.slots.slots path → ⊥

-- the paths of the tasks are those of others, and one more
abbrev pub HasPathToo : List ℕ → LiveTasks → LiveTasks → Type 0
HasPathToo path before after =
    (other : List ℕ) → HasSlot after.tables.slots.slots other → (other ≡ path) ⊎ HasSlot before.tables.slots.slots other

-- a planned task of a path comes to others, of which none has the path
pub record Plans (path : List ℕ) (task : Task) (before after : LiveTasks) : Type 0 where
  pub more : HasPathToo path before after
  pub planned_ : (table : Table) → ArePlanned table before → HasNoTask before path → ArePlanned (with_task table path task) after

-- some tasks come to others
abbrev pub PlansAll : (Table → Table) → LiveTasks → LiveTasks → Type 0
PlansAll with_all before after = (table : Table) → ArePlanned table before → ArePlanned (with_all table) after
