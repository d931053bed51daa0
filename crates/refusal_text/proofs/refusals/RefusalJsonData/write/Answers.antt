-- The object is written part by part.
use Rattle.std.proofs.lemmas.Result.{IfOk-equal}
use Rattle.json_line.proofs.Steps.{part_by_part}
use Rattle.refusal_text.proofs.refusals.RefusalJsonData.write.Goals as goal

pub returns : goal.returns
returns c =
    IfOk-equal _ _ _ _ c.end_object.ensures
    (simp part_by_part
    (rw (c.in_ok-member_if-6.ensures, c.in_ok-member_if-5.ensures, c.in_ok-member_if-4.ensures, c.in_ok-member.ensures, c.in_ok-member_if-3.ensures, c.row_in.ensures, c.in_ok-member_if_in-2.ensures, c.in_ok-member_if_in.ensures, c.in_ok-member_if-2.ensures, c.column_in.ensures, c.in_ok-member_if.ensures, c.in_ok-begin_object.ensures)))
