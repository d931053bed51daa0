use Rattle.std.proofs.Common.{◌∙◌, ap, sym, length, refl}
use Rattle.live_tasks.specs.InStep.{table_in}
use Rattle.engine_core.proofs.PassedPoints.{stands_out, stands_passed}
use Rattle.engine_core.proofs.PassingTime.{at_next_time}
use Rattle.engine_core.proofs.simulation.Simulation.move_to.Goals as goal

pub settle-requires : goal.settle-requires
settle-requires c = ap (λ l. length l) c.cells-count.ensures.value ∙ sym c.requires.open.cells.count ∙ ap (λ l. length l) (sym c.get.ensures)

pub pass-requires-clause-cells : goal.pass-requires-clause-cells
pass-requires-clause-cells c = c.requires.open.cells

pub pass-requires-clause-range : goal.pass-requires-clause-range
pass-requires-clause-range c = c.requires.open.range

pub rest-requires-clause-in_step : goal.rest-requires-clause-in_step
rest-requires-clause-in_step c = c.requires.open.in_step

pub rest-requires-clause-due : goal.rest-requires-clause-due
rest-requires-clause-due c =
    (at_next_time c.due_splits.ensures.splits c.args.self.now.present.time c.args.self.now.request.plan.duration c.args.time c.args.self.now.present.cells
    (table_in c.args.self.now.present.tasks) c.requires.next).0

pub returns-in_ok-rest-in-Ok : goal.returns-in_ok-rest-in-Ok
returns-in_ok-rest-in-Ok c =
    let next = at_next_time c.due_splits.ensures.splits c.args.self.now.present.time c.args.self.now.request.plan.duration c.args.time c.args.self.now.present.cells
    (table_in c.args.self.now.present.tasks) c.requires.next in
    stands_passed c.args.model.now c.args.self.now
    (record { request = c.args.self.now.request; history = c.settle.new.self; present = record c.args.self.now.present { time = c.args.time; cells = c.pass.new.cells; tasks = c.rest.new.self }; ending = c.args.self.now.ending })
    refl (rw c.get.ensures at c.in_ok-settle.ensures.instants) c.in_ok-settle.ensures.batches c.in_ok-settle.ensures.touched c.requires.open.open_ c.args.time c.until.result c.until.ensures
    (sym c.in-Ok.is ∙ c.in_ok-passed.ensures.answer) refl refl (rw c.in-Ok.is at c.in_ok-passed.ensures.moved) c.in_ok-rest-in-Ok.ensures.table c.in_ok-rest-in-Ok.ensures.in_step
    (c.live_tasks_are_live.ensures c.rest.new.self c.in_ok-rest-in-Ok.ensures.in_step) c.in_ok-rest-in-Ok.ensures.waits c.wakes_pass.ensures c.requires.open.in_step c.requires.open.found next.1 next.2
    c.requires.onward

pub returns-in-Err : goal.returns-in-Err
returns-in-Err c =
    rw c.end_by_cell.ensures
    (stands_out c.args.model.now c.args.self.now _ refl (rw c.get.ensures at c.in_ok-settle.ensures.instants) c.args.time c.until.result c.in-Err.out c.until.ensures
    (sym c.in-Err.is ∙ c.in_ok-passed.ensures.answer) refl)
