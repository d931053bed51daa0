use Rattle.std.proofs.Common.{◌∙◌, sym, ap}
use Rattle.std.specs.Prelude.{slice_get}
use Rattle.task_step.specs.Overlays.{written_state}
use Rattle.task_step.proofs.WrittenPlaces.{state_at}
use Rattle.task_step.proofs.written_cells.WrittenCells.state.Goals as goal

pub returns-in-Some : goal.returns-in-Some
returns-in-Some c =
    let there = c.in-Some.ensures.there in
    sym (ap (written_state c.args.cell) (sym c.self.view_is)
    ∙ state_at c.self.inside.cells.items c.self.invariant.once.0 c.args.cell c.in-Some.place there.0 c.index.result.now c.self.invariant.once.1
    (ap (λ l. slice_get l c.in-Some.place) c.self.view_is ∙ there.1) c.index.ensures)
