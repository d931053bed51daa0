-- The `require`s of a type are few, and well typed for values of its parameters.
use Rattle.std.proofs.Common.{◌≡◌, ◌≤◌, IsTrue, List, Option, Some, length, slice_get, sym, ap, subst, ◌∙◌}
use Rattle.std.specs.List.{list_all}
use Rattle.std.specs.Prelude.{option_copied}
use Rattle.aerie_base.specs.declared.expressions.Expr.{Expr}
use Rattle.aerie_base.specs.declared.models.Activity.{Activity}
use Rattle.aerie_base.specs.models.Limits.{require_limit}
use Rattle.aerie_base.specs.plans.OfModel.{takes}
use Rattle.plan_edit.specs.Requires.{is_typed_for}
use Rattle.plan_edit.proofs.Types.{type_good, requires_typed}
use Rattle.plan_edit.proofs.unmet.unmet_require.Goals as goal

pub first_unmet-requires-clause-typed : goal.first_unmet-requires-clause-typed
first_unmet-requires-clause-typed c =
    let model = c.args.model.now in
    let activity = c.in-Some.activity.now in
    let there : slice_get model.activities c.args.kind ≡ Some activity = ap (slice_get model.activities) (sym c.from.ensures) ∙ ap (λ all. slice_get all c.from.result) (sym c.activities.ensures.value) ∙ sym c.item_at.ensures ∙ ap option_copied c.in-Some.is in
    let given = subst (λ (found : Option Activity). IsTrue (takes model.enums found c.args.values.now)) there c.requires in
    subst (λ (exprs : List Expr). IsTrue (list_all (is_typed_for c.args.values.now) exprs)) (sym c.as_slice.ensures)
    (requires_typed model activity c.args.values.now given (type_good model c.activities.ensures.valid c.args.kind activity there))

pub first_unmet-requires-clause-few : goal.first_unmet-requires-clause-few
first_unmet-requires-clause-few c =
    let model = c.args.model.now in
    let activity = c.in-Some.activity.now in
    let there : slice_get model.activities c.args.kind ≡ Some activity = ap (slice_get model.activities) (sym c.from.ensures) ∙ ap (λ all. slice_get all c.from.result) (sym c.activities.ensures.value) ∙ sym c.item_at.ensures ∙ ap option_copied c.in-Some.is in
    subst (λ (exprs : List Expr). length exprs ≤ require_limit) (sym c.as_slice.ensures) (type_good model c.activities.ensures.valid c.args.kind activity there).few
