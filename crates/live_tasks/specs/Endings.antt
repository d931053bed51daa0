-- Tasks that have ended are left out, and tell those who wait for them.
use Rattle.std.specs.Prelude.{◌≡◌, ◌⊎◌, ℕ, ◌+◌, ◌-◌, ◌<◌, nat_eq, Bool, true, false, not, ◌&&◌, List, [], ◌∷◌, length, Option, Some, None, option_map, slice_get, take, ◌^◌}
use Rattle.aerie_base.specs.declared.values.Value.{Value}
use Rattle.aerie_base.specs.declared.plans.Edge.{Edge}
use Rattle.aerie_base.specs.declared.plans.Edge.TheVariants.{Start, End}
use Rattle.aerie_base.specs.Paths.{root, child_path, comes_from_daemon, id_of}
use Rattle.run_data.specs.TaskFrames.{Frame}
use Rattle.run_data.specs.declared.tasks.TaskState.{TaskState}
use Rattle.run_data.specs.laws.BatchFrames.{HasPath, AreFramesOf}
use Rattle.run_data.specs.laws.OrderedTables.{IsOrderedTable}
use Rattle.run_data.specs.laws.ReadyTasks.{is_ready_phase}
use Rattle.run_data.specs.Endings.{is_open, has_ended, has_begun, result_of_phase, gone_on, after_batch}
use Rattle.run_data.specs.Tasks.{anchored, calling, Task, Table, task_at, task_after, children_made, children_in, after_frame, after_frames}
use Rattle.run_data.specs.laws.LiveParts.{live}
use Rattle.live_tasks.specs.declared.slots.Slot.{Slot}
use Rattle.live_tasks.specs.declared.origins.Origin.{Origin}
use Rattle.live_tasks.specs.declared.origins.Origin.TheVariants.{Ready, Child}
use Rattle.live_tasks.specs.Phases.{task_with_return, fall_due}
use Rattle.live_tasks.specs.Slots.{Slots, slot_at, Becomes, IsForest, HasSlot, AreTable, table_of}

-- ---- one task

-- a task that has ended: its body is over and no child is live
abbrev pub slot_has_ended : Option Slot → Bool
slot_has_ended None = false
slot_has_ended (Some slot) = not (is_open slot.task.phase) && nat_eq slot.live_below 0

-- the parent of a task that has ended with this result: one child less is live, and if it waits for that one, it goes on
abbrev pub slot_after_child_end : ℕ → Option Value → Slot → Slot
slot_after_child_end own result above = record above { live_below = above.live_below - 1; task = task_with_return own result above.task }

abbrev pub slot_when_due : ℕ → ℕ → Edge → Slot → Slot
slot_when_due now to edge slot = record slot { task = fall_due now to edge slot.task }

-- each that is anchored to an edge of a directive has its due time
abbrev pub FallDue : ℕ → ℕ → Edge → Slots → Slots → Type 0
FallDue now to edge old new = (number : ℕ) → slot_at new number ≡ option_map (slot_when_due now to edge) (slot_at old number)

-- what a root that begins leaves: those who are anchored to its start fall due
abbrev pub RootStarts : ℕ → List ℕ → Slots → Slots → Type 0
RootStarts now path old new = (to : ℕ) → path ≡ root to → FallDue now to Start old new

-- what a root that has ended leaves: with a directive those who are anchored to its end fall due
abbrev pub RootEnds : ℕ → List ℕ → Slots → Slots → Type 0
RootEnds now path old new = (comes_from_daemon path ≡ true → new ≡ old) × (comes_from_daemon path ≡ false → FallDue now (id_of path) End old new)

-- what the end of a task leaves, where it is taken out: its parent is told
abbrev pub LeavesBehind : ℕ → Slot → Option ℕ → Slots → Slots → Type 0
LeavesBehind now slot None out new = RootEnds now slot.path out new
LeavesBehind now slot (Some parent) out new =
    (above : Slot) → slot_at out parent ≡ Some above → Becomes out new parent (Some (slot_after_child_end slot.own (result_of_phase slot.task.phase) above))

-- the task of a number, if it has ended, is taken out; its parent is the next that may have ended
pub record OneEnds (now : ℕ) (old : Slots) (number : ℕ) (new : Slots) (next : Option ℕ) : Type 0 where
  pub stays : slot_has_ended (slot_at old number) ≡ false → (new ≡ old) × (next ≡ None)
  pub ends : (slot : Slot) → slot_at old number ≡ Some slot → slot_has_ended (Some slot) ≡ true →
      (out : Slots) × Becomes old out number None × (next ≡ slot.parent) × LeavesBehind now slot slot.parent out new

-- ---- between the frames of a batch and its end

abbrev pub IsNumberAmong : ℕ → List ℕ → Type 0
IsNumberAmong number [] = ⊥
IsNumberAmong number (first ∷ rest) = (number ≡ first) ⊎ IsNumberAmong number rest

abbrev pub with_next : Option ℕ → List ℕ → List ℕ
with_next None todo = todo
with_next (Some number) todo = number ∷ todo

-- a task stands in the table with all frames, and has gone on or is yet to
pub record IsOf (now : ℕ) (whole : Table) (slot : Slot) : Type 0 where
  pub first : Task
  pub there : task_at whole slot.path ≡ Some first
  pub same : gone_on whole now slot.path slot.task ≡ gone_on whole now slot.path first

pub record HasCalledChild (slots : Slots) (parent child : ℕ) : Type 0 where
  pub number : ℕ
  pub slot : Slot
  pub there : slot_at slots number ≡ Some slot
  pub parent_is : slot.parent ≡ Some parent
  pub own_is : slot.own ≡ child

-- All that is live in the table with all frames is there; who waits for a child or for the end of a directive waits for one
-- that is there. Of these frames nobody was told yet that a directive has begun, and of these numbers a task may have ended.
pub record IsEnding (now : ℕ) (whole : Table) (frames : List Frame) (todo : List ℕ) (slots : Slots) : Type 0 where
  pub order : IsOrderedTable whole
  pub forest : IsForest slots
  pub tasks : (number : ℕ) (slot : Slot) → slot_at slots number ≡ Some slot → IsOf now whole slot
  pub kept : (path : List ℕ) (task : Task) → task_at whole path ≡ Some task → has_ended whole path ≡ false → HasSlot slots path
  pub calls : (number : ℕ) (slot : Slot) → slot_at slots number ≡ Some slot → (child : ℕ) (into : Option ℕ) (state : TaskState) →
      slot.task.phase ≡ calling child into state → HasCalledChild slots number child
  pub follows : (number : ℕ) (slot : Slot) → slot_at slots number ≡ Some slot → (to start : ℕ) (state : TaskState) →
      slot.task.phase ≡ anchored to End start state → HasSlot slots (root to)
  pub starts : (number : ℕ) (slot : Slot) → slot_at slots number ≡ Some slot → (to start : ℕ) (state : TaskState) →
      slot.task.phase ≡ anchored to Start start state → (has_begun (task_at whole (root to)) ≡ false) ⊎ HasPath (root to) frames
  pub settled : (number : ℕ) (slot : Slot) → slot_at slots number ≡ Some slot → (slot_has_ended (Some slot) ≡ false) ⊎ IsNumberAmong number todo

-- what an operation makes of tasks
abbrev pub Settles : ℕ → List Frame → List ℕ → List Frame → List ℕ → Slots → Slots → Type 0
Settles now frames todo later rest old new = (whole : Table) → IsEnding now whole frames todo old → IsEnding now whole later rest new

-- ---- between batches

-- The tasks are those of a table, and all are live; who waits for a child or an edge waits for one that is there and not come.
pub record AreLive (table : Table) (slots : Slots) : Type 0 where
  pub forest : IsForest slots
  pub are : AreTable slots table
  pub calls : (number : ℕ) (slot : Slot) → slot_at slots number ≡ Some slot → (child : ℕ) (into : Option ℕ) (state : TaskState) →
      slot.task.phase ≡ calling child into state → HasCalledChild slots number child
  pub follows : (number : ℕ) (slot : Slot) → slot_at slots number ≡ Some slot → (to start : ℕ) (state : TaskState) →
      slot.task.phase ≡ anchored to End start state → HasSlot slots (root to)
  pub starts : (number : ℕ) (slot : Slot) → slot_at slots number ≡ Some slot → (to start : ℕ) (state : TaskState) →
      slot.task.phase ≡ anchored to Start start state → has_begun (task_at table (root to)) ≡ false
  pub settled : (number : ℕ) (slot : Slot) → slot_at slots number ≡ Some slot → slot_has_ended (Some slot) ≡ false

-- ---- while the frames of a batch are taken

-- the task of a number stands where it stood before
pub record StaysThere (slots : Slots) (number : ℕ) (slot : Slot) : Type 0 where
  pub next : Slot
  pub there : slot_at slots number ≡ Some next
  pub path : next.path ≡ slot.path
  pub own : next.own ≡ slot.own
  pub parent : next.parent ≡ slot.parent

-- The tasks are those of a table with some of the frames, which have these numbers; none was taken out.
pub record IsTaking (first : Slots) (numbers : List ℕ) (table : Table) (slots : Slots) : Type 0 where
  pub forest : IsForest slots
  pub are : AreTable slots table
  pub grown : (number : ℕ) (slot : Slot) → slot_at first number ≡ Some slot → StaysThere slots number slot
  pub settled : (number : ℕ) (slot : Slot) → slot_at slots number ≡ Some slot → (slot_has_ended (Some slot) ≡ false) ⊎ IsNumberAmong number numbers

abbrev pub slot_after_step : ℕ → Frame → Slot → Slot
slot_after_step now frame slot = record slot { task = task_after now frame.status (slot.task.made + children_in frame.items) }

-- the task of a number, after a frame of it
abbrev pub StepsOne : ℕ → Frame → Slots → Slots → ℕ → Type 0
StepsOne now frame old new number = (slot : Slot) → slot_at old number ≡ Some slot → Becomes old new number (Some (slot_after_step now frame slot))

-- the task of a number may make so many children more
abbrev pub MayMake : Slots → ℕ → ℕ → Type 0
MayMake slots number children = (slot : Slot) → slot_at slots number ≡ Some slot → slot.task.made + children < 2 ^ 32

abbrev pub slot_with_child : Slot → Slot
slot_with_child above = record above { live_below = above.live_below + 1 }

-- a child of the task of a number, after its first frame
pub record IsFirst (now : ℕ) (frame : Frame) (parent own : ℕ) (child : Slot) : Type 0 where
  pub path : child.path ≡ frame.path
  pub task : child.task ≡ task_after now frame.status (children_in frame.items)
  pub parent_is : child.parent ≡ Some parent
  pub own_is : child.own ≡ own
  pub none : child.live_below ≡ 0

-- it is put at a number where none was, and its parent counts it
pub record BeginsChild (now : ℕ) (frame : Frame) (parent own : ℕ) (old new : Slots) (number : ℕ) : Type 0 where
  pub between : Slots
  pub child : Slot
  pub first : IsFirst now frame parent own child
  pub vacant : slot_at old number ≡ None
  pub inserted : Becomes old between number (Some child)
  pub counted : (above : Slot) → slot_at between parent ≡ Some above → Becomes between new parent (Some (slot_with_child above))

-- ---- what operations promise, whatever the table

-- a frame was taken, whose task has this number; the others stand where they stood
pub record HasTakenFrame (now : ℕ) (first : Slots) (numbers : List ℕ) (table : Table) (frame : Frame) (old new : Slots) (number : ℕ) : Type 0 where
  pub taking : IsTaking first (number ∷ numbers) (after_frame now frame table) new
  pub still : (other : ℕ) (slot : Slot) → slot_at old other ≡ Some slot → StaysThere new other slot
  pub slot : Slot
  pub there : slot_at new number ≡ Some slot
  pub path : slot.path ≡ frame.path

-- a frame is taken: of a task that is there, or the first of a child
abbrev pub TakesStep : ℕ → ℕ → Frame → Slots → Slots → Type 0
TakesStep now number frame old new =
    (first : Slots) (numbers : List ℕ) (table : Table) → IsTaking first numbers table old → (slot : Slot) → slot_at old number ≡ Some slot → slot.path ≡ frame.path →
    HasTakenFrame now first numbers table frame old new number

abbrev pub TakesChild : ℕ → ℕ → ℕ → Frame → Slots → Slots → ℕ → Type 0
TakesChild now parent own frame old new number =
    (first : Slots) (numbers : List ℕ) (table : Table) → IsTaking first numbers table old → (above : Slot) → slot_at old parent ≡ Some above → frame.path ≡ child_path above.path own →
    task_at table frame.path ≡ None → HasTakenFrame now first numbers table frame old new number

-- the end of a batch: what is left is the live part of the table after it
abbrev pub EndsBatch : ℕ → List Frame → List ℕ → Slots → Slots → Type 0
EndsBatch now frames numbers old new =
    (table : Table) (first : Slots) → AreLive table first → AreFramesOf table frames → IsTaking first numbers (after_frames now frames table) old →
    (table_of new ≡ live (after_batch now frames table)) × AreLive (table_of new) new

-- ---- where the frames of a batch come from

-- a frame of the ready task of that number, or the first of a child that the frame at that place made
abbrev pub IsOrigin : Slots → List Frame → ℕ → Frame → Origin → Type 0
IsOrigin first frames place frame (Ready number) =
    (slot : Slot) × (slot_at first number ≡ Some slot) × (slot.path ≡ frame.path) × (is_ready_phase slot.task.phase ≡ true)
IsOrigin first frames place frame (Child maker own) =
    (maker < place) × (made : Frame) × (slice_get frames maker ≡ Some made) × (frame.path ≡ child_path made.path own) × (task_at (table_of first) frame.path ≡ None)

pub record AreOrigins (first : Slots) (frames : List Frame) (origins : List Origin) : Type 0 where
  pub long : length origins ≡ length frames
  pub each : (place : ℕ) (frame : Frame) (origin : Origin) → slice_get frames place ≡ Some frame → slice_get origins place ≡ Some origin → IsOrigin first frames place frame origin

-- no task makes so many children that the next has no number
abbrev pub ChildrenAreFew : Table → Type 0
ChildrenAreFew table = (path : List ℕ) → children_made (task_at table path) < 2 ^ 32

-- all frames were taken, and these are the numbers of their tasks
abbrev pub HasTakenAll : ℕ → List Frame → Slots → List ℕ → Slots → Type 0
HasTakenAll now frames first numbers slots = IsTaking first numbers (after_frames now frames (table_of first)) slots

-- the frames up to a place were taken, and these are the numbers of their tasks
pub record HasTakenUpTo (now : ℕ) (first : Slots) (frames : List Frame) (place : ℕ) (numbers : List ℕ) (slots : Slots) : Type 0 where
  pub taking : IsTaking first numbers (after_frames now (take place frames) (table_of first)) slots
  pub long : length numbers ≡ place
  pub at : (other number : ℕ) → slice_get numbers other ≡ Some number → (frame : Frame) → slice_get frames other ≡ Some frame → (slot : Slot) × (slot_at slots number ≡ Some slot) × (slot.path ≡ frame.path)

pub record MayTake (now : ℕ) (first : Slots) (frames : List Frame) (origins : List Origin) : Type 0 where
  pub live_ : AreLive (table_of first) first
  pub are : AreFramesOf (table_of first) frames
  pub origins_ : AreOrigins first frames origins
  pub small : ChildrenAreFew (after_frames now frames (table_of first))

-- this holds of the task that a frame is of, if that was ready
abbrev pub IfReady : Origin → (ℕ → Type 0) → Type 0
IfReady origin holds = (number : ℕ) → origin ≡ Ready number → holds number

abbrev pub TakesOne : ℕ → Frame → Origin → List ℕ → Slots → Slots → ℕ → Type 0
TakesOne now frame (Ready mine) numbers old new number = (number ≡ mine) × TakesStep now mine frame old new
TakesOne now frame (Child maker own) numbers old new number = (parent : ℕ) → slice_get numbers maker ≡ Some parent → TakesChild now parent own frame old new number
