-- The violations are written one by one.
use Rattle.std.proofs.Common.{◌++◌, ◌∙◌}
use Rattle.std.specs.Prelude.{map}
use Rattle.json_line.specs.Parts.{listed_tokens}
use Rattle.report_text.specs.Violations.{meeting_violation_data}
use Rattle.report_text.proofs.Violated.{one_ends, one_goes_on}
use Rattle.report_text.proofs.violation_lines.write_meetings.Goals as goal

pub loop-violation-preserved : goal.loop-violation-preserved
loop-violation-preserved c =
    one_goes_on (meeting_violation_data c.args.wording.now c.args.run.now c.args.constraint.now c.args.types.0 c.args.types.1) c.args.found.now
    c.loop-violation.line c.write_meeting.new.line c.loop-violation.violation-index c.violation-item.result c.loop-violation-test.true c.violation-item.is
    c.in_ok-write_meeting.ensures
    ∙ c.loop-violation.invariant

pub returns : goal.returns
returns c =
    let form = meeting_violation_data c.args.wording.now c.args.run.now c.args.constraint.now c.args.types.0 c.args.types.1 in
    one_ends form c.args.found.now c.loop-violation.line (c.args.line.now ++ listed_tokens (map form c.args.found.now))
    c.loop-violation.violation-index c.loop-violation.auto.violation-index-end c.loop-violation-test.false c.loop-violation.invariant
