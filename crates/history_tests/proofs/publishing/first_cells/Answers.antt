use Rattle.std.proofs.Common.{List, subst, sym}
use Rattle.effect_cells.specs.declared.effects.CellState.{CellState}
use Rattle.run_data.specs.Fresh.{start}
use Rattle.run_data.specs.Jobs.{AreCellsOf}
use Rattle.run_data.specs.Transitions.{begins}
use Rattle.history_tests.proofs.publishing.first_cells.Goals as goal

-- the simulation of a plan begins with these cells, and wherever it comes the cells are of the model
pub returns : goal.returns
returns c =
    let model = c.args.model.now in
    let plan = c.empty_plan-plan.result in
    subst (λ (cells : List CellState). AreCellsOf model cells) (sym c.in_ok-cells.ensures.value)
    (c.reached_states_are_of_the_model.ensures model plan 0 (start model plan) c.name-valid.ensures.valid (c.empty_plan-plan.ensures.plan model) begins).cells
