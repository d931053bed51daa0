-- A directive with another value of one argument is of the model again.
use Rattle.std.proofs.Common.{◌≡◌, ℕ, zero, suc, ◌<◌, ◌&&◌, Bool, true, false, IsTrue, List, [], ◌∷◌, Option, Some, None, option_map, option_and_then, if◌then◌else◌, nat_eq, Ok, length, map, slice_get, slice_set, nat_lt, refl, sym, ap, subst, ◌∙◌, true≢false}
use Rattle.std.proofs.lemmas.Option.{none-some, same_Some, slice_get-map}
use Rattle.aerie_base.specs.declared.values.Kind.{Kind}
use Rattle.aerie_base.specs.declared.values.Value.{Value}
use Rattle.aerie_base.specs.declared.arguments.RawValue.{RawValue}
use Rattle.aerie_base.specs.declared.models.EnumType.{EnumType}
use Rattle.aerie_base.specs.declared.models.Parameter.{Parameter}
use Rattle.aerie_base.specs.declared.models.Activity.{Activity}
use Rattle.aerie_base.specs.declared.models.model.Parts.{Parts}
use Rattle.aerie_base.specs.declared.plans.Directive.{Directive}
use Rattle.aerie_base.specs.declared.plans.Plan.{Plan}
use Rattle.aerie_base.specs.models.Signatures.{parameter_kinds}
use Rattle.aerie_base.specs.models.Values.{is_value_of}
use Rattle.aerie_base.specs.plans.OfModel.{are_values_of, takes, with_id, anchored_to, is_there, is_directive_of, IsPlanOf}
use Rattle.aerie_base.specs.plans.RisingIds.{and_too, both}
use Rattle.plan_edit.specs.Answers.{then_made_of}
use Rattle.plan_edit.specs.Arguments.{value_for_parameter, value_for, parameter_position}
use Rattle.plan_edit.specs.Editing.{argument_set, arguments_set, with_arguments, changed_where, with_changed, of_directive, set_of}
use Rattle.plan_edit.proofs.Given.{value_good}
use Rattle.plan_edit.proofs.Additions.{met_is, found_good}
use Rattle.plan_edit.proofs.Changes.{leads_same, changed_so, one_changed}
use Rattle.plan_edit.proofs.Trails.{acyclic_still}

module _ (enums : List EnumType) where
  pub as_many : (kinds : List Kind) (values : List Value) → IsTrue (are_values_of enums kinds values) → length kinds ≡ length values
  as_many [] [] good = refl
  as_many [] (value ∷ values) good = absurd (true≢false (sym good))
  as_many (kind ∷ kinds) [] good = absurd (true≢false (sym good))
  as_many (kind ∷ kinds) (value ∷ values) good = ap suc (as_many kinds values (both (is_value_of enums kind value) (are_values_of enums kinds values) good).1)

  -- another value of the type at a position
  pub set_good : (kinds : List Kind) (values : List Value) (position : ℕ) (kind : Kind) (value : Value) → IsTrue (are_values_of enums kinds values) → slice_get kinds position ≡ Some kind →
      IsTrue (is_value_of enums kind value) → IsTrue (are_values_of enums kinds (slice_set values position value))
  set_good [] values position kind value good here is = absurd (none-some kind here)
  set_good (first ∷ kinds) [] position kind value good here is = absurd (true≢false (sym good))
  set_good (first ∷ kinds) (old ∷ values) zero kind value good here is =
      let parts = both (is_value_of enums first old) (are_values_of enums kinds values) good in
      and_too (is_value_of enums first value) (are_values_of enums kinds values) (subst (λ (k : Kind). IsTrue (is_value_of enums k value)) (sym (same_Some first kind here)) is) parts.1
  set_good (first ∷ kinds) (old ∷ values) (suc position) kind value good here is =
      let parts = both (is_value_of enums first old) (are_values_of enums kinds values) good in
      and_too (is_value_of enums first old) (are_values_of enums kinds (slice_set values position value)) parts.0 (set_good kinds values position kind value parts.1 here is)

  -- the value that is given for the parameter at a position is of its type
  given_there : (parameters : List Parameter) (position : ℕ) (given : RawValue) (value : Value) → value_for_parameter enums (slice_get parameters position) given ≡ Some value →
      (kind : Kind) × ((slice_get (map (λ (parameter : Parameter). parameter.kind) parameters) position ≡ Some kind) × IsTrue (is_value_of enums kind value))
  given_there parameters position given value h = go (slice_get parameters position) refl h
    where
      go : (parameter : Option Parameter) → slice_get parameters position ≡ parameter → value_for_parameter enums parameter given ≡ Some value →
          (kind : Kind) × ((slice_get (map (λ (parameter : Parameter). parameter.kind) parameters) position ≡ Some kind) × IsTrue (is_value_of enums kind value))
      go None is k = absurd (none-some value k)
      go (Some parameter) is k = (
        parameter.kind,
        (
          slice_get-map (λ (parameter : Parameter). parameter.kind) parameters position ∙ ap (option_map (λ (parameter : Parameter). parameter.kind)) is,
          value_good enums parameter.kind given value k,
        ),
      )

  -- with it, the values are still values of the parameters
  pub values_set : (activity : Activity) (arguments : List Value) (name : List ℕ) (given : RawValue) (position : ℕ) (value : Value) → IsTrue (are_values_of enums (parameter_kinds activity) arguments) →
      parameter_position activity.parameters name ≡ Some position → value_for enums activity.parameters name given ≡ Some value →
      IsTrue (are_values_of enums (parameter_kinds activity) (slice_set arguments position value))
  values_set activity arguments name given position value good is found =
      let one = given_there activity.parameters position given value
      (sym (ap (λ (o : Option ℕ). value_for_parameter enums (option_and_then (slice_get activity.parameters) o) given) is) ∙ found) in
      set_good (parameter_kinds activity) arguments position one.0 value good one.1.0 one.1.1

module _ (model : Parts) where
  pub set_takes : (found : Option Activity) (arguments : List Value) (name : List ℕ) (given : RawValue) (values : List Value) → IsTrue (takes model.enums found arguments) →
      arguments_set model arguments name given found ≡ Ok values → IsTrue (takes model.enums found values)
  set_takes None arguments name given values good h = absurd (cc)
  set_takes (Some activity) arguments name given values good h =
      go (parameter_position activity.parameters name) refl (value_for model.enums activity.parameters name given) refl h
    where
      go : (position : Option ℕ) → parameter_position activity.parameters name ≡ position → (value : Option Value) → value_for model.enums activity.parameters name given ≡ value →
          argument_set activity arguments name position value ≡ Ok values → IsTrue (are_values_of model.enums (parameter_kinds activity) values)
      go None is value found k = absurd (cc)
      go (Some position) is None found k = absurd (cc)
      go (Some position) is (Some value) found k =
          subst (λ (vs : List Value). IsTrue (are_values_of model.enums (parameter_kinds activity) vs)) (met_is activity (slice_set arguments position value) values k)
          (values_set model.enums activity arguments name given position value good is found)

  -- ---- what `set_argument` does

  module _ (plan : Plan) (of : IsPlanOf model plan) (at id : ℕ) (within : at < length plan.directives) (same : slice_get plan.directives at ≡ with_id plan.directives id)
      (read : Directive) (here : slice_get plan.directives at ≡ Some read) (name : List ℕ) (given : RawValue) (values : List Value)
      (set : arguments_set model read.arguments name given (slice_get model.activities read.kind) ≡ Ok values) (made : List Directive)
      (is : (one : Directive) → slice_get plan.directives at ≡ Some one → made ≡ slice_set plan.directives at (with_arguments values one)) where
    by_id : with_id plan.directives id ≡ Some read
    by_id = sym same ∙ here

    changed_is : made ≡ map (changed_where id (with_arguments values)) plan.directives
    changed_is = changed_so (with_arguments values) plan.directives at id read made (plan.next_id, of.ids) here by_id is

    pub set_so : set_of model plan id name given ≡ Ok (record plan { directives = made })
    set_so =
        ap (of_directive (λ directive. then_made_of (λ values. Ok (with_changed plan id (with_arguments values)))
        (arguments_set model directive.arguments name given (slice_get model.activities directive.kind)))) by_id
        ∙ ap (then_made_of (λ values. Ok (with_changed plan id (with_arguments values)))) set
        ∙ ap (λ (ds : List Directive). Ok (record plan { directives = ds })) (sym changed_is)

    kept : (d : Directive) → (changed_where id (with_arguments values) d).id ≡ d.id
    kept d = go (nat_eq d.id id)
      where
        go : (t : Bool) → (if t then with_arguments values d else d).id ≡ d.id
        go true = refl
        go false = refl

    tied : (d : Directive) → (changed_where id (with_arguments values) d).anchor ≡ d.anchor
    tied d = go (nat_eq d.id id)
      where
        go : (t : Bool) → (if t then with_arguments values d else d).anchor ≡ d.anchor
        go true = refl
        go false = refl

    pub set_plan : IsPlanOf model (record plan { directives = made })
    set_plan =
        let good = found_good (is_directive_of model plan) plan.directives id read of.directives by_id in
        let parts = both (takes model.enums (slice_get model.activities read.kind) read.arguments && nat_lt read.start plan.duration) (is_there plan.directives (anchored_to read)) good in
        let own = both (takes model.enums (slice_get model.activities read.kind) read.arguments) (nat_lt read.start plan.duration) parts.0 in
        subst (λ (ds : List Directive). IsPlanOf model (record plan { directives = ds })) (sym changed_is)
        (one_changed model plan of id read by_id (with_arguments values) (λ d. refl)
        (and_too (takes model.enums (slice_get model.activities read.kind) values && nat_lt read.start plan.duration) (is_there plan.directives (anchored_to read))
        (and_too (takes model.enums (slice_get model.activities read.kind) values) (nat_lt read.start plan.duration)
        (set_takes (slice_get model.activities read.kind) read.arguments name given values own.0 set) own.1) parts.1)
        (acyclic_still (map (changed_where id (with_arguments values)) plan.directives) plan.directives
        (λ from to h. sym (leads_same (changed_where id (with_arguments values)) kept tied plan.directives from) ∙ h) of.anchors))
