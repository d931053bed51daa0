-- The array is its items between its brackets.
use Rattle.std.proofs.Common.{sym}
use Rattle.std.specs.Prelude.{flat_map}
use Rattle.std.proofs.lemmas.Result.{IfOk-equal}
use Rattle.json_line.proofs.Steps.{array_listed}
use Rattle.report_text.specs.Violations.{constraint_data}
use Rattle.report_text.proofs.violation_lines.write_violations.Goals as goal

pub returns : goal.returns
returns c =
    IfOk-equal _ _ _ _ c.end_array.ensures
    (rw (c.in_ok-write_constraints.ensures, c.in_ok-begin_array.ensures)
    (sym (array_listed c.args.line.now (flat_map (constraint_data c.args.detail c.args.wording.now c.args.run.now) c.args.constraints.now))))
