-- What is written, with the cells that are left, makes the whole array.
use Rattle.std.proofs.Common.{◌≡◌}
use Rattle.std.specs.List.{zip}
use Rattle.report_text.specs.Details.{named_cell_data}
use Rattle.report_text.proofs.Arrays.{whole, with_left}
use Rattle.report_text.proofs.cell_lines.write_cells.Given as goal

abbrev pub invariant-loop-number : goal.invariant-loop-number
invariant-loop-number l =
    with_left (named_cell_data l.wording) (zip l.cells l.states) l.line l.number ≡ whole (named_cell_data l.wording) (zip l.cells l.states) l.fn.line
