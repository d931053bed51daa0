-- Where one statement or test of flat code leads.
use Rattle.std.specs.Prelude.{◌≡◌, ℕ, suc, ◌+◌, ◌<◌, ◌≤◌, List, Some, length}
use Rattle.aerie_base.specs.declared.models.model.Parts.{Parts}
use Rattle.aerie_base.specs.statements.Places.{left}
use Rattle.body_code.specs.declared.instructions.Instruction.{Instruction}
use Rattle.run_data.specs.declared.tasks.BodyId.{BodyId}
use Rattle.run_data.specs.StepStates.{StepState}
use Rattle.run_data.specs.Jobs.{AreCellsOf}
use Rattle.run_data.specs.Steps.{steps}
use Rattle.run_data.specs.TaskStates.{body_of}
use Rattle.run_data.specs.Typed.{AreLeft}
use Rattle.task_step.specs.declared.running.Way.{Way}
use Rattle.task_step.specs.declared.running.Way.TheVariants.{Onward, Ended}
use Rattle.task_step.specs.Doable.{cells_of}
use Rattle.task_step.specs.Ends.{status_of}

-- the step from a place of a body is, at a cost of one, the step from another place, where the step may go on
pub record Leads (model : Parts) (code : List Instruction) (kind : BodyId) (at : ℕ) (before : StepState) (to : ℕ) (behind : StepState) : Type 0 where
  pub place : to < length code
  pub view : behind.view ≡ before.view
  pub cost : behind.cost ≡ before.cost + 1
  pub items : length behind.items ≤ length before.items + 1
  pub left_there : AreLeft model kind (left (body_of model kind) to) behind.locals
  pub cells : AreCellsOf model (cells_of behind)
  pub same : (budget : ℕ) → steps kind (suc budget) (left (body_of model kind) at) before ≡ steps kind budget (left (body_of model kind) to) behind

-- what a way means: the step goes on, or it ends so
abbrev pub TakesWay : Parts → List Instruction → BodyId → ℕ → StepState → Way → StepState → Type 0
TakesWay model code kind at before (Onward to) behind = Leads model code kind at before to behind
TakesWay model code kind at before (Ended end) behind =
    (budget : ℕ) → steps kind (suc budget) (left (body_of model kind) at) before ≡ Some (status_of end kind at behind, behind)
