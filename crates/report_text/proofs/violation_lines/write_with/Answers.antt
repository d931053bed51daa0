-- The array is written part by part.
use Rattle.std.proofs.lemmas.Result.{IfOk-equal}
use Rattle.json_line.proofs.Steps.{part_by_part}
use Rattle.report_text.proofs.violation_lines.write_with.Goals as goal

pub returns : goal.returns
returns g c =
    IfOk-equal _ _ _ _ c.end_array.ensures
    (simp part_by_part
    (rw (c.in_ok-write_in.ensures, c.in_ok-write-2.ensures, c.in_ok-write.ensures, c.in_ok-begin_array.ensures)))
