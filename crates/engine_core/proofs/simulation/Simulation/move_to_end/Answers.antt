use Rattle.std.proofs.Common.{◌∙◌, ap, sym, length, refl}
use Rattle.engine_core.proofs.PassedPoints.{stands_out_at_end, stands_completed}
use Rattle.engine_core.proofs.simulation.Simulation.move_to_end.Goals as goal

pub settle-requires : goal.settle-requires
settle-requires c = ap (λ l. length l) c.cells-count.ensures.value ∙ sym c.requires.open.cells.count ∙ ap (λ l. length l) (sym c.get.ensures)

pub pass-requires-clause-cells : goal.pass-requires-clause-cells
pass-requires-clause-cells c = c.requires.open.cells

pub pass-requires-clause-range : goal.pass-requires-clause-range
pass-requires-clause-range c = c.requires.open.range

pub returns-in-Ok : goal.returns-in-Ok
returns-in-Ok c =
    stands_completed c.args.model.now c.args.self.now _ refl (rw c.get.ensures at c.in_ok-settle.ensures.instants) c.end-end.result c.until.result c.end-end.ensures c.until.ensures
    (sym c.in-Ok.is ∙ c.in_ok-passed.ensures.answer) refl

pub returns-in-Err : goal.returns-in-Err
returns-in-Err c =
    rw c.end_by_cell.ensures
    (stands_out_at_end c.args.model.now c.args.self.now _ refl (rw c.get.ensures at c.in_ok-settle.ensures.instants) c.end-end.result c.until.result c.in-Err.out c.end-end.ensures c.until.ensures
    (sym c.in-Err.is ∙ c.in_ok-passed.ensures.answer) refl)
