-- What is written, with the arguments that are left, makes the whole object.
use Rattle.std.proofs.Common.{◌≡◌, ◌++◌, drop, map}
use Rattle.serde_json.specs.Data.{object}
use Rattle.json_line.specs.Parts.{data_tokens, members_from, with_members}
use Rattle.plan_edit.specs.ShownPlan.{argument_fields}
use Rattle.report_text.proofs.ArgumentOrders.{field_numbered}
use Rattle.report_text.proofs.arguments.write_in_order.Given as goal

abbrev pub invariant-loop-number : goal.invariant-loop-number
invariant-loop-number l =
    with_members l.line (members_from (map (field_numbered (argument_fields l.wording.enums l.parameters l.values)) (drop l.number-index l.order)))
    ≡ l.fn.line ++ data_tokens (object (members_from (map (field_numbered (argument_fields l.wording.enums l.parameters l.values)) l.order)))
