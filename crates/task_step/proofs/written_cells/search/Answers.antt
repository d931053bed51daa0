use Rattle.std.proofs.Common.{◌∙◌, sym, ap}
use Rattle.task_step.proofs.WrittenPlaces.{found, passed_by, none_found}
use Rattle.task_step.proofs.written_cells.search.Goals as goal

pub returns-then-cells-place-clause-there : goal.returns-then-cells-place-clause-there
returns-then-cells-place-clause-there c =
    found c.args.cells.now c.args.cell c.loop-place.place c.index-cells-place.result c.loop-place-test.true c.index-cells-place.is (ap (λ p. p.0) c.index-cells-place.is ∙ c.if-cells-place.true)

pub loop-place-preserved : goal.loop-place-preserved
loop-place-preserved c =
    passed_by c.args.cells.now c.args.cell c.loop-place.place c.index-cells-place.result _ c.loop-place-test.true c.index-cells-place.is
    (λ e. c.if-cells-place.false (sym (ap (λ p. p.0) c.index-cells-place.is) ∙ e)) c.loop-place.invariant

pub returns-clause-none : goal.returns-clause-none
returns-clause-none c = λ _. none_found c.args.cells.now c.args.cell c.loop-place.place c.loop-place-test.false c.loop-place.invariant
