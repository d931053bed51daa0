-- A step that begins meets the invariant of its loop.
use Rattle.std.proofs.Common.{◌≡◌, ℕ, ◌-◌, ◌≤◌, IsTrue, length, sym, ap, subst, arith}
use Rattle.aerie_base.specs.declared.models.model.Parts.{Parts}
use Rattle.aerie_base.specs.models.ValidModel.{valid_model}
use Rattle.aerie_base.specs.statements.Places.{left}
use Rattle.run_data.specs.declared.jobs.Job.{Job}
use Rattle.run_data.specs.StepStates.{StepState, starting}
use Rattle.run_data.specs.Jobs.{AreCellsOf, IsJobOf}
use Rattle.run_data.specs.Steps.{steps}
use Rattle.run_data.specs.TaskStates.{body_of}
use Rattle.run_data.specs.Typed.{AreLeft}
use Rattle.run_data.specs.laws.Typing.{StatesBegin}
use Rattle.task_step.specs.Doable.{cells_of}

-- what holds of the state of a step at the state of its job
pub record Begins (model : Parts) (job : Job) (fuel : ℕ) (so_far : StepState) : Type 0 where
  pub same : steps job.state.kind fuel (left (body_of model job.state.kind) job.state.at) (starting job.view job.state.locals)
      ≡ steps job.state.kind (fuel - so_far.cost) (left (body_of model job.state.kind) job.state.at) so_far
  pub paid : so_far.cost ≤ fuel
  pub few : length so_far.items ≤ so_far.cost
  pub left_there : AreLeft model job.state.kind (left (body_of model job.state.kind) job.state.at) so_far.locals
  pub cells : AreCellsOf model (cells_of so_far)

fresh_begins : (model : Parts) (job : Job) (fuel : ℕ) → StatesBegin → IsTrue (valid_model model) → IsJobOf model job → Begins model job fuel (starting job.view job.state.locals)
fresh_begins model job fuel begins valid of_model =
    let none_paid : fuel ≡ fuel - 0 = omega arith in
    record {
      same = ap (λ n. steps job.state.kind n (left (body_of model job.state.kind) job.state.at) (starting job.view job.state.locals)) none_paid;
      paid = omega arith;
      few = omega arith;
      left_there = begins model job.state valid of_model.state;
      cells = of_model.view;
    }

pub starts : (model : Parts) (job : Job) (fuel : ℕ) (so_far : StepState) → StatesBegin → IsTrue (valid_model model) → IsJobOf model job → so_far ≡ starting job.view job.state.locals → Begins model job fuel so_far
starts model job fuel so_far begins valid of_model e = subst (Begins model job fuel) (sym e) (fresh_begins model job fuel begins valid of_model)
