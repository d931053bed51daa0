use Rattle.std.proofs.Common.{◌≡◌, ℕ, ◌<◌, IsTrue, List, Option, length, slice_get, slice_set, ap, sym, subst, ◌∙◌, arith}
use Rattle.std.specs.List.{list_all}
use Rattle.aerie_base.specs.declared.models.Activity.{Activity}
use Rattle.aerie_base.specs.declared.models.Parameter.{Parameter}
use Rattle.aerie_base.specs.declared.values.Value.{Value}
use Rattle.aerie_base.specs.models.Signatures.{parameter_kinds}
use Rattle.aerie_base.specs.plans.OfModel.{takes}
use Rattle.std.proofs.lemmas.List.{length-map}
use Rattle.plan_edit.specs.Arguments.{parameter_position, value_for}
use Rattle.plan_edit.specs.Requires.{is_typed_for}
use Rattle.plan_edit.proofs.Settings.{as_many, values_set}
use Rattle.plan_edit.proofs.Types.{type_good, requires_typed}
use Rattle.plan_edit.proofs.setting.arguments_set.Goals as goal

less : (position count kinds values : ℕ) → position < count → kinds ≡ count → kinds ≡ values → position < values
less position count kinds values h e f = omega (arith, h, e, f)

pub with_value-requires : goal.with_value-requires
with_value-requires c =
    let model = c.args.model.now in
    let activity = c.in-Some.activity.now in
    let there = c.in-Some.ensures ∙ ap (λ (all : List Activity). slice_get all c.from.result) c.activities.ensures.value ∙ ap (slice_get model.activities) c.from.ensures in
    let good = subst (λ (found : Option Activity). IsTrue (takes model.enums found c.args.arguments.now)) (sym there) c.requires in
    let within = subst (λ (ps : List Parameter). c.in-Some-Some.position < length ps) c.as_slice-parameters.ensures c.in-Some-Some.ensures.within in
    let copied = ap length c.in_ok-values-in-Some-Some.ensures in
    let many = as_many model.enums (parameter_kinds activity) c.args.arguments.now good in
    let count = length-map activity.parameters (λ (parameter : Parameter). parameter.kind) in
    less c.in-Some-Some.position (length activity.parameters) (length (parameter_kinds activity)) (length c.in_ok-values-in-Some-Some.values) within count (many ∙ sym copied)

pub if_met-requires-clause-typed : goal.if_met-requires-clause-typed
if_met-requires-clause-typed c =
    let model = c.args.model.now in
    let activity = c.in-Some.activity.now in
    let there = c.in-Some.ensures ∙ ap (λ (all : List Activity). slice_get all c.from.result) c.activities.ensures.value ∙ ap (slice_get model.activities) c.from.ensures in
    let good = subst (λ (found : Option Activity). IsTrue (takes model.enums found c.args.arguments.now)) (sym there) c.requires in
    subst (λ (vs : List Value). IsTrue (list_all (is_typed_for vs) activity.requires_))
    (sym (c.with_value.ensures ∙ ap (λ (vs : List Value). slice_set vs c.in-Some-Some.position c.in-Some-Some.value) c.in_ok-values-in-Some-Some.ensures))
    (requires_typed model activity (slice_set c.args.arguments.now c.in-Some-Some.position c.in-Some-Some.value)
    (values_set model.enums activity c.args.arguments.now c.args.parameter.now c.args.value.now c.in-Some-Some.position c.in-Some-Some.value good
    (sym (c.in-Some-Some.ensures.position ∙ ap (λ (ps : List Parameter). parameter_position ps c.args.parameter.now) c.as_slice-parameters.ensures))
    (sym (c.in-Some-Some.ensures' ∙ ap (λ (ps : List Parameter). value_for model.enums ps c.args.parameter.now c.args.value.now) c.as_slice-parameters.ensures)))
    (type_good model c.activities.ensures.valid c.args.kind activity (sym there)))

pub if_met-requires-clause-few : goal.if_met-requires-clause-few
if_met-requires-clause-few c =
    let model = c.args.model.now in
    let there = c.in-Some.ensures ∙ ap (λ (all : List Activity). slice_get all c.from.result) c.activities.ensures.value ∙ ap (slice_get model.activities) c.from.ensures in
    (type_good model c.activities.ensures.valid c.args.kind c.in-Some.activity.now (sym there)).few
