-- What is known of the activity types of a valid model, and of values of their parameters.
use Rattle.std.proofs.Common.{◌≡◌, ℕ, zero, suc, ◌≤◌, ◌&&◌, ◌++◌, Bool, true, false, IsTrue, List, [], ◌∷◌, Option, Some, None, is_some, length, slice_get, nat_le, not, refl, sym, ap, subst, ◌∙◌, leb-true, eqb-true, true≢false, if◌then◌else◌}
use Rattle.std.specs.List.{list_all}
use Rattle.std.proofs.lemmas.Option.{none-some, same_Some}
use Rattle.aerie_base.specs.declared.values.Kind.{Kind}
use Rattle.aerie_base.specs.declared.values.Kind.TheVariants.{Int, Truth, Enum}
use Rattle.aerie_base.specs.declared.values.Value.{Value}
use Rattle.aerie_base.specs.declared.expressions.Expr.{Expr}
use Rattle.aerie_base.specs.declared.models.EnumType.{EnumType}
use Rattle.aerie_base.specs.declared.models.Activity.{Activity}
use Rattle.aerie_base.specs.declared.models.model.Parts.{Parts}
use Rattle.aerie_base.specs.expressions.Arithmetic.{value_kind}
use Rattle.aerie_base.specs.expressions.Typing.{kind_of, slot_kinds, same_kind}
use Rattle.aerie_base.specs.expressions.Soundness.{Within, more_known}
use Rattle.aerie_base.specs.models.Activities.{is_parameter, are_parameters, parameter_names, is_require, are_requires, is_result, is_activity, activity_setting}
use Rattle.aerie_base.specs.models.Bodies.{is_body}
use Rattle.aerie_base.specs.models.Expressions.{typed, has_literals, expr_depth, is_kind_of}
use Rattle.aerie_base.specs.models.Limits.{parameter_limit, require_limit, type_limit, depth_limit}
use Rattle.aerie_base.specs.models.Names.{are_distinct, is_name_among}
use Rattle.aerie_base.specs.models.Signatures.{parameter_kinds, signatures_of}
use Rattle.aerie_base.specs.models.Values.{is_value_of, is_value}
use Rattle.aerie_base.specs.models.ValidModel.{valid_model, has_good_activities, enum_names, cell_names}
use Rattle.aerie_base.specs.models.ValidParts.{are_good}
use Rattle.aerie_base.specs.plans.OfModel.{are_values_of}
use Rattle.aerie_base.specs.plans.RisingIds.{and_too, both}
use Rattle.plan_edit.specs.Requires.{no_kinds, is_typed_for}

-- what holds of each holds of one
pub each : {A : Type 0} (test : A → Bool) (xs : List A) (at : ℕ) (x : A) → IsTrue (list_all test xs) → slice_get xs at ≡ Some x → IsTrue (test x)
each test [] at x all here = absurd (none-some x here)
each test (first ∷ rest) zero x all here = subst (λ y. IsTrue (test y)) (same_Some first x here) (both (test first) (list_all test rest) all).0
each test (first ∷ rest) (suc at) x all here = each test rest at x (both (test first) (list_all test rest) all).1 here

-- what is known of one activity type
pub record IsTypeOf (model : Parts) (activity : Activity) : Type 0 where
  pub parameters : IsTrue (list_all (is_parameter model.enums) activity.parameters)
  pub few : length activity.requires_ ≤ require_limit
  pub requires_ : IsTrue (list_all (is_require model.enums activity) activity.requires_)

front : (a b c d : Bool) → IsTrue (a && b && c && d) → IsTrue a × IsTrue b
front a b c d h =
    let three = both (a && b && c) d h in
    both a b (both (a && b) c three.0).0

pub few_types : (model : Parts) → IsTrue (valid_model model) → length model.activities ≤ type_limit
unfolding has_good_activities
few_types model valid =
    let taken = enum_names model ++ cell_names model in
    let all = both (nat_le (length model.activities) type_limit) (list_all (is_activity model.enums model.cells (signatures_of model.activities) taken) model.activities) (are_good model valid).activities in
    leb-true (length model.activities) type_limit all.0

pub type_good : (model : Parts) → IsTrue (valid_model model) → (kind : ℕ) (activity : Activity) → slice_get model.activities kind ≡ Some activity → IsTypeOf model activity
unfolding has_good_activities is_activity
type_good model valid kind activity here =
    let taken = enum_names model ++ cell_names model in
    let all = both (nat_le (length model.activities) type_limit) (list_all (is_activity model.enums model.cells (signatures_of model.activities) taken) model.activities) (are_good model valid).activities in
    let is = each (is_activity model.enums model.cells (signatures_of model.activities) taken) model.activities kind activity all.1 here in
    let parts = front (are_parameters model.enums taken activity) (are_requires model.enums activity) (is_result model.enums activity.result activity.body)
    (is_body (activity_setting model.enums model.cells (signatures_of model.activities) activity) (parameter_kinds activity) activity.slots activity.body) is in
    let needs = both (nat_le (length activity.requires_) require_limit) (list_all (is_require model.enums activity) activity.requires_) parts.1 in
    let given = front (nat_le (length activity.parameters) parameter_limit) (list_all (is_parameter model.enums) activity.parameters)
    (are_distinct (parameter_names activity)) (list_all (λ name. not (is_name_among name taken)) (parameter_names activity)) parts.0 in
    record { parameters = given.1; few = leb-true (length activity.requires_) require_limit needs.0; requires_ = needs.1 }

-- ---- types of values

pub kinds_agree : (a b : Kind) → IsTrue (same_kind a b) → a ≡ b
kinds_agree Int Int h = refl
kinds_agree Int Truth h = absurd (true≢false (sym h))
kinds_agree Int (Enum b) h = absurd (true≢false (sym h))
kinds_agree Truth Int h = absurd (true≢false (sym h))
kinds_agree Truth Truth h = refl
kinds_agree Truth (Enum b) h = absurd (true≢false (sym h))
kinds_agree (Enum a) Int h = absurd (true≢false (sym h))
kinds_agree (Enum a) Truth h = absurd (true≢false (sym h))
kinds_agree (Enum a) (Enum b) h = ap Enum (eqb-true a b h)

-- values of the parameters have the parameters' types
pub within : (enums : List EnumType) (kinds : List Kind) (values : List Value) → IsTrue (are_values_of enums kinds values) → Within (slice_get kinds) (slot_kinds values)
within enums [] values good slot of here = absurd (none-some of here)
within enums (kind ∷ kinds) [] good slot of here = absurd (true≢false (sym good))
within enums (kind ∷ kinds) (value ∷ values) good zero of here =
    let parts = both (is_value_of enums kind value) (are_values_of enums kinds values) good in
    let same = both (same_kind (value_kind value) kind) (is_value enums value) parts.0 in
    ap Some (kinds_agree (value_kind value) kind same.0) ∙ here
within enums (kind ∷ kinds) (value ∷ values) good (suc slot) of here =
    within enums kinds values (both (is_value_of enums kind value) (are_values_of enums kinds values) good).1 slot of here

kind_is : (found : Option Kind) (of : Kind) → IsTrue (is_kind_of found of) → found ≡ Some of
kind_is None of h = absurd (true≢false (sym h))
kind_is (Some found) of h = ap Some (kinds_agree found of h)

typed_kind : (enums : List EnumType) (kinds : ℕ → Option Kind) (expr : Expr) (of : Kind) → typed enums kinds no_kinds expr ≡ Some of → kind_of expr kinds no_kinds ≡ Some of
unfolding typed
typed_kind enums kinds expr of h = go (has_literals enums expr && nat_le (expr_depth expr) depth_limit) h
  where
    go : (t : Bool) → (if t then kind_of expr kinds no_kinds else None) ≡ Some of → kind_of expr kinds no_kinds ≡ Some of
    go true h = h
    go false h = absurd (none-some of h)

-- the `require`s are well typed for them
module _ (model : Parts) (activity : Activity) (values : List Value) (good : IsTrue (are_values_of model.enums (parameter_kinds activity) values)) where
  one_typed : (expr : Expr) → IsTrue (is_require model.enums activity expr) → IsTrue (is_typed_for values expr)
  one_typed expr is =
      let of = typed_kind model.enums (slice_get (parameter_kinds activity)) expr Truth (kind_is (typed model.enums (slice_get (parameter_kinds activity)) no_kinds expr) Truth is) in
      ap is_some (more_known expr (slice_get (parameter_kinds activity)) (slot_kinds values) no_kinds no_kinds Truth (within model.enums (parameter_kinds activity) values good) (λ what of h. h) of)

  all_typed : (requires_ : List Expr) → IsTrue (list_all (is_require model.enums activity) requires_) → IsTrue (list_all (is_typed_for values) requires_)
  all_typed [] are = refl
  all_typed (expr ∷ rest) are =
      let parts = both (is_require model.enums activity expr) (list_all (is_require model.enums activity) rest) are in
      and_too (is_typed_for values expr) (list_all (is_typed_for values) rest) (one_typed expr parts.0) (all_typed rest parts.1)

  pub requires_typed : IsTypeOf model activity → IsTrue (list_all (is_typed_for values) activity.requires_)
  requires_typed type = all_typed activity.requires_ type.requires_
