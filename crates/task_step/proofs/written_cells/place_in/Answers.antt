use Rattle.std.proofs.Common.{◌∙◌, sym, ap, arith, get_or}
use Rattle.task_step.proofs.WrittenPlaces.{found, past, another, too_high}
use Rattle.task_step.proofs.written_cells.place_in.Goals as goal

pub returns-clause-there : goal.returns-clause-there
returns-clause-there c = found c.args.cells.now c.args.cell c.from-place.result c.index-cells-place.result (omega (arith, c.if-place-cells.false)) c.index-cells-place.is (ap (λ p. p.0) c.index-cells-place.is ∙ c.if-cells-place.false)

pub returns-then-at-ge-MOST_CELLS-clause-none : goal.returns-then-at-ge-MOST_CELLS-clause-none
returns-then-at-ge-MOST_CELLS-clause-none c = λ _. too_high c.args.cells.now c.args.places.now c.args.cell c.requires (omega (arith, c.if-at-ge-MOST_CELLS.true, c.from-at.ensures))

pub returns-then-place-cells-clause-none : goal.returns-then-place-cells-clause-none
returns-then-place-cells-clause-none c = λ _.
    past c.args.cells.now c.args.places.now c.args.cell c.from-place.result c.requires (omega (arith, c.if-at-ge-MOST_CELLS.false, c.from-at.ensures))
    (c.from-place.ensures ∙ ap (λ i. get_or c.args.places.now i 0) c.from-at.ensures) (omega (arith, c.if-place-cells.true))

pub returns-then-cells-place-clause-none : goal.returns-then-cells-place-clause-none
returns-then-cells-place-clause-none c = λ _.
    another c.args.cells.now c.args.places.now c.args.cell c.from-place.result c.index-cells-place.result c.requires (omega (arith, c.if-at-ge-MOST_CELLS.false, c.from-at.ensures))
    (c.from-place.ensures ∙ ap (λ i. get_or c.args.places.now i 0) c.from-at.ensures) c.index-cells-place.is (λ e. c.if-cells-place.true (sym (ap (λ p. p.0) c.index-cells-place.is) ∙ e))
