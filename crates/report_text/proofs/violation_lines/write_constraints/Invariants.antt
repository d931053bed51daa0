-- What is written, with the violations of the constraints that are left, makes the whole.
use Rattle.std.proofs.Common.{◌≡◌, ◌++◌, drop}
use Rattle.std.specs.Prelude.{flat_map}
use Rattle.json_line.specs.Parts.{listed_tokens}
use Rattle.report_text.specs.Violations.{constraint_data}
use Rattle.report_text.proofs.violation_lines.write_constraints.Given as goal

abbrev pub invariant-loop-number : goal.invariant-loop-number
invariant-loop-number l =
    l.line ++ listed_tokens (flat_map (constraint_data l.detail l.wording l.run) (drop l.number l.constraints))
    ≡ l.fn.line ++ listed_tokens (flat_map (constraint_data l.detail l.wording l.run) l.constraints)
