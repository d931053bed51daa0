-- The arguments are written in the order of their names.
use Rattle.std.proofs.Common.{◌≡◌, ◌<◌, ◌≤◌, ◌+◌, ◌++◌, ◌∷◌, ◌∙◌, [], ℕ, ap, arith, drop, get_or, length, map, suc, sym}
use Rattle.std.specs.Prelude.{List}
use Rattle.std.proofs.Math.Seq.{drop-cons, drop-length}
use Rattle.std.proofs.lemmas.Result.{IfOk-equal}
use Rattle.serde_json.specs.Data.{Data, Members, object}
use Rattle.json_line.specs.Parts.{data_tokens, member_tokens, members_from, with_members}
use Rattle.json_line.proofs.Steps.{member_next, object_ends, object_opens}
use Rattle.plan_edit.specs.ShownPlan.{argument_fields, json_of_value}
use Rattle.report_text.proofs.ArgumentOrders.{field_given, field_numbered, in_order}
use Rattle.report_text.proofs.arguments.write_in_order.Goals as goal

pub loop-number-init : goal.loop-number-init
loop-number-init c =
    let all = members_from (map (field_numbered (argument_fields c.args.wording.now.enums c.args.parameters.now c.args.values.now)) c.args.order.now) in
    ap (λ front. with_members front all) c.in_ok-begin_object.ensures ∙ sym (object_opens c.args.line.now all)

next_dropped : (order : List ℕ) (at : ℕ) → at < length order → drop at order ≡ get_or order at 0 ∷ drop (at + 1) order
next_dropped order at within =
    let next : suc at ≡ at + 1 = omega arith in
    drop-cons order at 0 within ∙ ap (λ (k : ℕ). get_or order at 0 ∷ drop k order) next

all_dropped : (order : List ℕ) (at : ℕ) → at ≤ length order → length order ≤ at → drop at order ≡ []
all_dropped order at below above =
    let end : at ≡ length order = omega (arith, below, above) in
    ap (λ (k : ℕ). drop k order) end ∙ drop-length order

pub loop-number-preserved : goal.loop-number-preserved
loop-number-preserved c =
    let enums = c.args.wording.now.enums in
    let fields = argument_fields enums c.args.parameters.now c.args.values.now in
    let at = c.loop-number.number-index in
    let order = c.args.order.now in
    let number = get_or order at 0 in
    let later = members_from (map (field_numbered fields) (drop (at + 1) order)) in
    let field = field_numbered fields number in
    let given = field_given enums c.args.parameters.now c.args.values.now number c.index-parameters-number.result c.index-values-number.result c.requires.values
    (c.requires.within at 0 c.loop-number-test.true) in
    ap (λ front. with_members front later) c.in_ok-member_in.ensures
    ∙ ap (λ (name : List ℕ). with_members (c.loop-number.line ++ member_tokens name (json_of_value enums c.index-values-number.result)) later) c.as_str.ensures.text
    ∙ ap (λ value. with_members (c.loop-number.line ++ member_tokens (get_or c.args.parameters.now number c.index-parameters-number.result).name (json_of_value enums value)) later) c.index-values-number.is
    ∙ ap (λ (one : List ℕ × Data). with_members (c.loop-number.line ++ member_tokens one.0 one.1) later) (sym given)
    ∙ sym (member_next c.loop-number.line field.0 field.1 later)
    ∙ ap (λ (left : List ℕ). with_members c.loop-number.line (members_from (map (field_numbered fields) left))) (sym (next_dropped order at c.loop-number-test.true))
    ∙ c.loop-number.invariant

pub returns : goal.returns
returns c =
    let enums = c.args.wording.now.enums in
    let fields = argument_fields enums c.args.parameters.now c.args.values.now in
    let line = c.loop-number.line in
    IfOk-equal _ _ _ _ c.end_object.ensures
    (sym (object_ends line)
    ∙ ap (λ (left : List ℕ). with_members line (members_from (map (field_numbered fields) left)))
    (sym (all_dropped c.args.order.now c.loop-number.number-index c.loop-number.auto.number-index-end c.loop-number-test.false))
    ∙ c.loop-number.invariant
    ∙ ap (λ (order : List ℕ). c.args.line.now ++ data_tokens (object (members_from (map (field_numbered fields) order)))) c.requires.order
    ∙ ap (λ (members : Members). c.args.line.now ++ data_tokens (object members)) (sym (in_order enums c.args.parameters.now c.args.values.now c.requires.values)))
