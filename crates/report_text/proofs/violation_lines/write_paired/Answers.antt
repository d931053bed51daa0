-- The object is written part by part.
use Rattle.std.proofs.lemmas.Result.{IfOk-equal}
use Rattle.json_line.proofs.Steps.{part_by_part}
use Rattle.report_text.proofs.violation_lines.write_paired.Goals as goal

pub returns : goal.returns
returns c =
    IfOk-equal _ _ _ _ c.end_object.ensures
    (simp part_by_part
    (rw (c.in_ok-member-2.ensures, c.in_ok-member_in.ensures, c.in_ok-member.ensures, c.in_ok-begin_object.ensures)))
