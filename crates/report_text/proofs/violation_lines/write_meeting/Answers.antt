-- The intervals that are written are those of the run's spans.
use Rattle.std.proofs.Common.{◌≡◌, ◌++◌, ◌∙◌, List, OnOk, ap, subst}
use Rattle.aerie_base.specs.declared.models.model.Parts.{Parts}
use Rattle.findings.specs.MeetingPairs.{paired_intervals}
use Rattle.findings.specs.declared.pairs.PairedInterval.{PairedInterval}
use Rattle.json_line.specs.Parts.{data_tokens}
use Rattle.report_text.specs.Violations.{paired_list_data, violation_by}
use Rattle.run_data.specs.Spans.{spans_of}
use Rattle.report_text.proofs.violation_lines.write_meeting.Goals as goal

pub returns : goal.returns
returns c =
    let violation = c.args.violation.now in
    let run = c.args.run.now in
    subst (λ (intervals : List PairedInterval).
    OnOk c.write_paired.result (c.write_paired.new.line ≡ c.args.line.now ++ data_tokens (violation_by c.args.constraint.now violation.path (paired_list_data intervals))))
    (c.in_ok-intervals.ensures
    ∙ ap (λ (model : Parts). paired_intervals run.reach c.args.types.0 c.args.types.1 (spans_of model run) violation.intervals.intervals) c.model-model.ensures)
    c.write_paired.ensures
