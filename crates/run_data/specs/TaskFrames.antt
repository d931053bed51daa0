-- The frames of a run: what contracts see of a step that was run.
use Rattle.std.specs.Prelude.{ℕ, List}
use Rattle.effect_cells.specs.declared.effects.CellState.{CellState}
use Rattle.run_data.specs.declared.tasks.TaskState.{TaskState}
use Rattle.run_data.specs.declared.frames.Item.{Item}
use Rattle.run_data.specs.declared.frames.Status.{Status}
use Rattle.run_data.specs.declared.frames.Record.{Record}

-- a step of the task of a path: the state before it, the cells that it read, each once and in order of number, as they were when
-- it began, what it did, how it ended, and how many statements and tests it ran
pub record Frame : Type 0 where
  pub path : List ℕ
  pub before : TaskState
  pub reads : List (ℕ × CellState)
  pub items : List Item
  pub status : Status
  pub cost : ℕ

-- the frame of a path with a step
abbrev pub frame_with : List ℕ → Record → Frame
frame_with path step = record {
  path = path;
  before = step.before;
  reads = step.reads;
  items = step.items;
  status = step.status;
  cost = step.cost;
}
