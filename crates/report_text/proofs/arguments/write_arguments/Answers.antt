-- Parameters without a value give no field.
use Rattle.std.proofs.Common.{◌++◌, ◌<◌, ◌∙◌, ℕ, ap, length, subst, sym, take}
use Rattle.std.specs.Prelude.{List}
use Rattle.std.specs.List.{All}
use Rattle.std.proofs.lemmas.Result.{IfOk-equal}
use Rattle.json_line.specs.Json.{object_of}
use Rattle.json_line.specs.Parts.{data_tokens}
use Rattle.report_text.proofs.ArgumentOrders.{given_fields, order_within}
use Rattle.report_text.proofs.arguments.write_arguments.Goals as goal

pub write_in_order-requires-clause-within : goal.write_in_order-requires-clause-within
write_in_order-requires-clause-within c =
    subst (λ (order : List ℕ). All (λ number. number < length c.args.parameters.now) order) (sym c.requires.order) (order_within c.args.parameters.now)

pub write_in_order-requires-2-clause-within : goal.write_in_order-requires-2-clause-within
write_in_order-requires-2-clause-within c =
    let given = take (length c.args.values.now) c.args.parameters.now in
    subst (λ (order : List ℕ). All (λ number. number < length given) order) (sym (c.as_slice.ensures ∙ c.in_ok-order.ensures)) (order_within given)

pub returns : goal.returns
returns c =
    IfOk-equal _ _ _ _ c.write_in_order-2.ensures
    (ap (λ fields. c.args.line.now ++ data_tokens (object_of fields)) (sym (given_fields c.args.wording.now.enums c.args.parameters.now c.args.values.now)))
