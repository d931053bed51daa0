use Rattle.std.proofs.Common.{ℕ, ◌<◌, length, sym, ap, ◌∙◌, arith}
use Rattle.effect_cells.specs.declared.effects.CellState.{CellState}
use Rattle.std.proofs.lemmas.List.{length-map, take_more_same}
use Rattle.record_book.specs.Ways.{cells_read}
use Rattle.record_book.proofs.Probing.{cell_is}
use Rattle.record_book.proofs.ways.are_cells_of.Goals as goal

pub loop-at-preserved : goal.loop-at-preserved
loop-at-preserved c =
    let within : c.loop-at.at < length c.args.cells.now = omega arith in
    let read_within : c.loop-at.at < length c.args.reads.now = omega arith in
    let cell_within : c.loop-at.at < length (cells_read c.args.reads.now) = omega (arith, length-map c.args.reads.now (λ r. r.0)) in
    take_more_same c.args.cells.now (cells_read c.args.reads.now) c.loop-at.at 0 within cell_within c.loop-at.invariant
    (c.if-cells-at.false ∙ ap (λ (read : ℕ × CellState). read.0) (sym c.index-reads-at.is) ∙ sym (cell_is c.args.reads.now c.loop-at.at 0 c.index-reads-at.result read_within c.index-reads-at.is))
