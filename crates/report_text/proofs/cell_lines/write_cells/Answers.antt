-- The array is written item by item.
use Rattle.std.proofs.Common.{ℕ, List, ◌++◌, ◌<◌, ◌∙◌, ap, arith, length, min, subst, sym}
use Rattle.std.specs.List.{zip}
use Rattle.std.proofs.lemmas.Slice.Zip.{length-zip}
use Rattle.std.proofs.lemmas.Result.{IfOk-equal}
use Rattle.aerie_base.specs.declared.models.CellStart.{CellStart}
use Rattle.json_line.specs.Parts.{data_tokens}
use Rattle.report_text.specs.Details.{cell_data, named_cell_data}
use Rattle.report_text.proofs.Arrays.{begins, goes_on, is_whole}
use Rattle.report_text.proofs.Zipped.{pair_at, zip_within}
use Rattle.report_text.proofs.cell_lines.write_cells.Goals as goal

pub loop-number-init : goal.loop-number-init
loop-number-init c =
    begins (named_cell_data c.args.wording.now) (zip c.args.cells.now c.args.states.now) c.args.line.now c.begin_array.new.self c.in_ok-begin_array.ensures

pub loop-number-preserved : goal.loop-number-preserved
loop-number-preserved c =
    let cells = c.args.cells.now in
    let states = c.args.states.now in
    let number = c.loop-number.number in
    let cell = c.index-cells-number.result in
    let state = c.index-states-number.result in
    let fits : number < min (length cells) (length states) = subst (λ (n : ℕ). number < n) c.min-number-end.ensures c.loop-number-test.true in
    goes_on (named_cell_data c.args.wording.now) (zip cells states) c.args.line.now c.loop-number.line c.write_cell.new.line number (cell, state)
    (zip_within cells states number fits)
    (pair_at cells states number cell state (omega (arith, fits)) (omega (arith, fits)) c.index-cells-number.is c.index-states-number.is)
    (c.in_ok-write_cell.ensures
    ∙ ap (λ (named : List ℕ × CellStart). c.loop-number.line ++ data_tokens (cell_data c.args.wording.now named.0 state)) (sym c.index-cells-number.is))
    c.loop-number.invariant

pub returns : goal.returns
returns c =
    let cells = c.args.cells.now in
    let states = c.args.states.now in
    let long = length-zip cells states ∙ sym c.min-number-end.ensures in
    IfOk-equal _ _ _ _ c.end_array.ensures
    (is_whole (named_cell_data c.args.wording.now) (zip cells states) c.args.line.now c.loop-number.line c.loop-number.number
    (omega (arith, long, c.loop-number.auto.number-end)) (omega (arith, long, c.loop-number-test.false)) c.loop-number.invariant)
