-- The live tasks as a table, and what their parts owe one another between batches.
use Rattle.std.specs.Prelude.{◌≡◌, ℕ}
use Rattle.slab.specs.Slab.{slab_len}
use Rattle.run_data.specs.Tasks.{Table}
use Rattle.run_data.specs.laws.LiveParts.{live}
use Rattle.live_tasks.specs.declared.tasks.LiveTasks.{LiveTasks}
use Rattle.live_tasks.specs.Endings.{AreLive}
use Rattle.live_tasks.specs.Followers.{AreFollowers}
use Rattle.live_tasks.specs.ListedSlots.{ListsExactly}
use Rattle.live_tasks.specs.Slots.{Slots, table_of}

-- the live tasks by number, and how many there are
abbrev pub slots_in : LiveTasks → Slots
slots_in tasks = tasks.tables.slots.slots

abbrev pub live_count : LiveTasks → ℕ
live_count tasks = slab_len tasks.tables.slots

-- the live tasks in order of path
abbrev pub table_in : LiveTasks → Table
table_in tasks = table_of tasks.tables.slots.slots

-- all tasks are live; the followers are those who are anchored or were; the lists name the ready tasks and the delays
pub record IsInStep (tasks : LiveTasks) : Type 0 where
  pub live_ : AreLive (table_in tasks) tasks.tables.slots.slots
  pub followers_ : AreFollowers tasks.tables.slots.slots tasks.followers.items
  pub listed : ListsExactly tasks.tables

-- live tasks are the live part of their table
abbrev pub StandForThemselves : Type 0
StandForThemselves = (tasks : LiveTasks) → IsInStep tasks → live (table_in tasks) ≡ table_in tasks
