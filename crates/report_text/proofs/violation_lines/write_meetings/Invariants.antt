-- What is written, with the violations that are left, makes the whole.
use Rattle.std.proofs.Common.{◌≡◌, ◌++◌}
use Rattle.std.specs.Prelude.{map}
use Rattle.json_line.specs.Parts.{listed_tokens}
use Rattle.report_text.specs.Violations.{meeting_violation_data}
use Rattle.report_text.proofs.Violated.{one_by_one}
use Rattle.report_text.proofs.violation_lines.write_meetings.Given as goal

abbrev pub invariant-loop-violation : goal.invariant-loop-violation
invariant-loop-violation l =
    one_by_one (meeting_violation_data l.wording l.run l.constraint l.types.0 l.types.1) l.found l.line l.violation-index
    ≡ l.fn.line ++ listed_tokens (map (meeting_violation_data l.wording l.run l.constraint l.types.0 l.types.1) l.found)
