use Rattle.std.proofs.Common.{◌≡◌, ◌≤◌, length, arith, ◌∙◌, ap}
use Rattle.std.proofs.lemmas.List.{length-map}
use Rattle.effect_cells.specs.Cells.{first_state}
use Rattle.effect_cells.proofs.ModelCells.{model_begins, few_cells}
use Rattle.effect_cells.proofs.cells.Cells.initial.Goals as goal

pub first_states-requires : goal.first_states-requires
first_states-requires c = rw c.cells-starts.ensures.value (model_begins c.args.model.now c.cells-starts.ensures.valid)

pub invariant_of-result : goal.invariant_of-result
invariant_of-result c =
    let few : length c.args.model.now.cells ≤ 256 = few_cells c.args.model.now c.cells-starts.ensures.valid in
    let states : length c.in_ok-states.states.items ≡ length c.args.model.now.cells =
    ap length c.in_ok-states.ensures.value ∙ length-map c.cells-starts.result.now (λ cell. first_state cell.1) ∙ ap length c.cells-starts.ensures.value in
    (omega arith, c.in_ok-room.ensures.blank)
