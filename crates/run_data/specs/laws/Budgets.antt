-- What a step may cost decides whether it is run to its end, and nothing else.
use Rattle.std.specs.Prelude.{◌≡◌, ℕ, ◌≤◌, List, Some}
use Rattle.aerie_base.specs.declared.statements.Stmt.{Stmt}
use Rattle.effect_cells.specs.declared.effects.CellState.{CellState}
use Rattle.run_data.specs.declared.tasks.TaskState.{TaskState}
use Rattle.run_data.specs.declared.frames.Status.{Status}
use Rattle.run_data.specs.StepStates.{StepState}
use Rattle.run_data.specs.Steps.{step_of}

-- a step costs no more than it may
abbrev pub CostIsWithin : Type 0
CostIsWithin =
    (body : List Stmt) (state : TaskState) (view : List CellState) (budget : ℕ) (status : Status) (so_far : StepState) →
    step_of body state view budget ≡ Some (status, so_far) → so_far.cost ≤ budget

-- it is the same step wherever it may cost as much as it does
abbrev pub SameWithinCost : Type 0
SameWithinCost =
    (body : List Stmt) (state : TaskState) (view : List CellState) (budget other : ℕ) (status : Status) (so_far : StepState) →
    step_of body state view budget ≡ Some (status, so_far) → so_far.cost ≤ other →
    step_of body state view other ≡ Some (status, so_far)
