-- What is written, with the members that are left, makes the whole object.
use Rattle.std.proofs.Common.{◌≡◌, ◌++◌, drop, map}
use Rattle.serde_json.specs.Data.{object}
use Rattle.json_line.specs.Parts.{members_from, data_tokens, with_members}
use Rattle.json_line.proofs.lines.JsonLine.members.Given as goal

abbrev pub invariant-loop-member : goal.invariant-loop-member
invariant-loop-member g l =
    with_members l.self (members_from (map g.T.JsonMember.as_member (drop l.member-index l.members))) ≡ l.fn.self ++ data_tokens (object (members_from (map g.T.JsonMember.as_member l.members)))
