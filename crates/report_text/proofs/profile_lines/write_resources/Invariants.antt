-- What is written, with the resources that are left, makes the whole array.
use Rattle.std.proofs.Common.{◌≡◌}
use Rattle.report_text.specs.ProfileLines.{resource_data}
use Rattle.report_text.proofs.Arrays.{whole, with_left}
use Rattle.report_text.proofs.profile_lines.write_resources.Given as goal

abbrev pub invariant-loop-number : goal.invariant-loop-number
invariant-loop-number l =
    with_left (resource_data l.wording l.run) l.resources l.line l.number ≡ whole (resource_data l.wording l.run) l.resources l.fn.line
