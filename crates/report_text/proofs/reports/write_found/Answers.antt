-- The object is written part by part.
use Rattle.std.proofs.lemmas.Result.{IfOk-equal}
use Rattle.json_line.proofs.Steps.{part_by_part}
use Rattle.report_text.proofs.reports.write_found.Goals as goal

pub returns : goal.returns
returns c =
    IfOk-equal _ _ _ _ c.end_object.ensures
    (simp part_by_part
    (rw (c.in_ok-write_violations_member.ensures, c.in_ok-member_if.ensures, c.in_ok-write_start_told.ensures, c.in_ok-write_spans_member.ensures, c.in_ok-member-4.ensures, c.in_ok-member-3.ensures, c.in_ok-write_profiles_member.ensures, c.in_ok-member_in.ensures, c.in_ok-write_name_told.ensures, c.in_ok-write_details_told.ensures, c.in_ok-member-2.ensures, c.in_ok-member.ensures, c.in_ok-begin_object.ensures, c.model.ensures, c.requires.constraints, c.requires.run, c.requires.start)))
