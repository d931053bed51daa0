-- Worked cases: an instant of two batches, and what touches it.
use Rattle.std.specs.Prelude.{◌≡◌, ℕ, pos, Bool, true, false, List, [], ◌∷◌, None, refl}
use Rattle.aerie_base.specs.Paths.{root, directive_path}
use Rattle.effect_cells.specs.declared.effects.CellState.{CellState}
use Rattle.effect_cells.specs.declared.effects.CellState.TheVariants.{Counter}
use Rattle.run_data.specs.declared.frames.Status.TheVariants.{Done}
use Rattle.run_data.specs.declared.runs.Instant.{Instant}
use Rattle.run_data.specs.declared.tasks.BodyId.TheVariants.{Activity}
use Rattle.run_data.specs.TaskFrames.{Frame}
use Rattle.change_set.specs.Differences.{Differences, touches_instant}

-- a step to the end of a body, which read some cells
abbrev last_step : List ℕ → List (ℕ × CellState) → Frame
last_step path reads = record {
  path = path;
  before = record { kind = Activity 0; at = 0; locals = [] };
  reads = reads;
  items = [];
  status = Done None;
  cost = 1;
}

-- first the tasks of the directives 1 and 2, then that of 3, which read the cell 1
abbrev at_five : Instant
at_five = record {
  time = 5;
  batches = (last_step (root 1) [] ∷ last_step (root 2) [] ∷ []) ∷ (last_step (root 3) ((1, Counter (pos 7)) ∷ []) ∷ []) ∷ [];
  changed = (0, Counter (pos 4)) ∷ [];
}

abbrev noting : List Bool → List (List ℕ) → Differences
noting cells tasks = record { cells = cells; tasks = tasks }

pub nothing_is_noted : touches_instant (noting [] []) at_five ≡ false
nothing_is_noted = refl

pub a_cell_that_was_read : touches_instant (noting (false ∷ true ∷ []) []) at_five ≡ true
a_cell_that_was_read = refl

-- what the instant did to a cell is no read of it
pub a_cell_that_was_not_read : touches_instant (noting (true ∷ false ∷ true ∷ []) []) at_five ≡ false
a_cell_that_was_not_read = refl

pub a_task_of_the_second_batch : touches_instant (noting [] (root 9 ∷ root 3 ∷ [])) at_five ≡ true
a_task_of_the_second_batch = refl

pub a_child_is_another_task : touches_instant (noting [] (directive_path 3 (0 ∷ []) ∷ [])) at_five ≡ false
a_child_is_another_task = refl
