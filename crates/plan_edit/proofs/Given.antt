-- What is given: refusals on their way out, and values of arguments, which are values of the parameters.
use Rattle.std.proofs.Common.{◌≡◌, ℕ, ℤ, ◌<◌, ◌&&◌, Bool, true, false, IsTrue, IfSome, List, [], ◌∷◌, Option, Some, None, is_some, option_map, option_and_then, find, Result, Ok, Err, length, map, slice_get, get_or, nat_lt, refl, sym, ap, subst, ◌∙◌, true≢false, lt-ltb, eq-eqb, if◌then◌else◌}
use Rattle.std.specs.List.{list_all}
use Rattle.std.proofs.lemmas.Option.{none-some, same_Some, slice_get_read}
use Rattle.std.proofs.lemmas.List.Quantifiers.{position-Some}
use Rattle.aerie_base.specs.Ranges.{is_number, checked_number}
use Rattle.aerie_base.specs.declared.values.Kind.{Kind}
use Rattle.aerie_base.specs.declared.values.Kind.TheVariants.{Int, Truth, Enum}
use Rattle.aerie_base.specs.declared.values.Value.{Value}
use Rattle.aerie_base.specs.declared.values.Value.TheVariants as value
use Rattle.aerie_base.specs.declared.arguments.RawValue.{RawValue}
use Rattle.aerie_base.specs.declared.arguments.RawValue.TheVariants as raw
use Rattle.aerie_base.specs.declared.arguments.RawArgument.{RawArgument}
use Rattle.aerie_base.specs.declared.models.EnumType.{EnumType}
use Rattle.aerie_base.specs.declared.models.Parameter.{Parameter}
use Rattle.aerie_base.specs.declared.models.Activity.{Activity}
use Rattle.aerie_base.specs.declared.models.model.Parts.{Parts}
use Rattle.aerie_base.specs.declared.plans.Directive.{Directive}
use Rattle.aerie_base.specs.expressions.Typing.{same_kind}
use Rattle.aerie_base.specs.models.Activities.{is_parameter, is_default}
use Rattle.aerie_base.specs.models.Names.{same_name}
use Rattle.aerie_base.specs.models.Signatures.{parameter_kinds}
use Rattle.aerie_base.specs.models.Values.{is_kind, is_value_of, variant_count, variants_of}
use Rattle.aerie_base.specs.plans.OfModel.{with_id, are_values_of}
use Rattle.aerie_base.specs.plans.FoundById.{at_place}
use Rattle.aerie_base.specs.plans.RisingIds.{and_too, both}
use Rattle.plan_edit.specs.declared.errors.EditError.{EditError}
use Rattle.plan_edit.specs.declared.errors.EditError.TheVariants.{NoDirective, UnknownType, BadArgument, Invalid, OutsidePlan, TooMany, NotAPlan, OutOfMemory, NoAnchor, Cycle, Anchored}
use Rattle.plan_edit.specs.declared.arguments.Given.{Given}
use Rattle.plan_edit.specs.Answers.{then_made_of, IsRefusal, IsMade}
use Rattle.plan_edit.specs.Arguments.{written_variant, variant_written, value_given, value_or_default, parameter_value, value_in_front, values_filled, first_bad, unless_bad, arguments_of}
use Rattle.plan_edit.proofs.Types.{IsTypeOf}
use Rattle.plan_edit.specs.Editing.{if_met, given_to}

-- ---- answers

-- a part's refusal is that of what is made of it
pub refused_on : {A B : Type 0} (make : A → Result B EditError) (made : Result A EditError) (refusal : EditError) → IsRefusal made refusal → IsRefusal (then_made_of make made) refusal
refused_on make made NoDirective h = ap (then_made_of make) h
refused_on make made UnknownType h = ap (then_made_of make) h
refused_on make made (BadArgument parameter) h = ap (then_made_of make) h
refused_on make made (Invalid number) h = ap (then_made_of make) h
refused_on make made OutsidePlan h = ap (then_made_of make) h
refused_on make made TooMany h = ap (then_made_of make) h
refused_on make made NotAPlan h = ap (then_made_of make) h
refused_on make made OutOfMemory h = tt
refused_on make made NoAnchor h = ap (then_made_of make) h
refused_on make made Cycle h = ap (then_made_of make) h
refused_on make made (Anchored by) h = ap (then_made_of make) h

-- what is made of a part that is made
pub made_on : {A B : Type 0} (make : A → Result B EditError) (made : Result A EditError) (part : A) (result : Result B EditError) → made ≡ Ok part →
    IsMade (make part) result → IsMade (then_made_of make made) result
made_on make made part result is h = subst (λ m. IsMade (then_made_of make m) result) (sym is) h

-- what was made was made of a part
pub part_of : {A B : Type 0} (make : A → Result B EditError) (made : Result A EditError) (all : B) → then_made_of make made ≡ Ok all → (part : A) × ((made ≡ Ok part) × (make part ≡ Ok all))
part_of make (Ok part) all h = (part, (refl, h))
part_of make (Err refusal) all h = absurd (cc)

-- a part that is refused refuses the whole
pub refused_too : {A B : Type 0} (part : Result A EditError) (whole : Result B EditError) (refusal : EditError) → ((r : EditError) → part ≡ Err r → whole ≡ Err r) → IsRefusal part refusal → IsRefusal whole refusal
refused_too part whole NoDirective same h = same NoDirective h
refused_too part whole UnknownType same h = same UnknownType h
refused_too part whole (BadArgument parameter) same h = same (BadArgument parameter) h
refused_too part whole (Invalid number) same h = same (Invalid number) h
refused_too part whole OutsidePlan same h = same OutsidePlan h
refused_too part whole TooMany same h = same TooMany h
refused_too part whole NotAPlan same h = same NotAPlan h
refused_too part whole OutOfMemory same h = tt
refused_too part whole NoAnchor same h = same NoAnchor h
refused_too part whole Cycle same h = same Cycle h
refused_too part whole (Anchored by) same h = same (Anchored by) h

-- ---- a search by id

pub found_is : (directives : List Directive) (found : Option ℕ) (id : ℕ) → option_and_then (slice_get directives) found ≡ with_id directives id → IfSome found (λ at. at < length directives) →
    is_some found ≡ is_some (with_id directives id)
found_is directives None id same within = ap is_some same
found_is directives (Some at) id same within =
    let one = at_place directives at id within same in
    sym (ap is_some one.1.0) ∙ ap is_some same

-- ---- values

itself : (kind : Kind) → IsTrue (same_kind kind kind)
itself Int = refl
itself Truth = refl
itself (Enum kind) = eq-eqb kind kind refl

number_good : (enums : List EnumType) (number : ℤ) (found : Value) → option_map value.Int (checked_number number) ≡ Some found → IsTrue (is_value_of enums Int found)
number_good enums number found h = go (is_number number) refl h
  where
    go : (t : Bool) → is_number number ≡ t → option_map value.Int (if t then Some number else None) ≡ Some found → IsTrue (is_value_of enums Int found)
    go true is h = subst (λ (v : Value). IsTrue (is_value_of enums Int v)) (same_Some (value.Int number) found h) is
    go false is h = absurd (none-some found h)

variant_good : (enums : List EnumType) (kind : ℕ) (word : List ℕ) (found : Value) →
    option_map (value.Variant kind) (variant_written (slice_get enums kind) word) ≡ Some found → IsTrue (is_value_of enums (Enum kind) found)
variant_good enums kind word found h = go (slice_get enums kind) refl h
  where
    there : (enum : EnumType) → slice_get enums kind ≡ Some enum → (position : Option ℕ) → variant_written (Some enum) word ≡ position → option_map (value.Variant kind) position ≡ Some found →
        IsTrue (is_value_of enums (Enum kind) found)
    there enum is None at h = absurd (none-some found h)
    there enum is (Some number) at h =
        let less = (position-Some (λ (variant : List ℕ). same_name (written_variant enum variant) word) enum.variants number [] at).0 in
        subst (λ (v : Value). IsTrue (is_value_of enums (Enum kind) v)) (same_Some (value.Variant kind number) found h)
        (and_too (same_kind (Enum kind) (Enum kind)) (nat_lt number (variant_count enums kind)) (itself (Enum kind))
        (ap (λ (o : Option EnumType). nat_lt number (variants_of o)) is ∙ lt-ltb number (length enum.variants) less))

    go : (enum : Option EnumType) → slice_get enums kind ≡ enum → option_map (value.Variant kind) (variant_written enum word) ≡ Some found → IsTrue (is_value_of enums (Enum kind) found)
    go None is h = absurd (none-some found h)
    go (Some enum) is h = there enum is (variant_written (Some enum) word) refl h

pub value_good : (enums : List EnumType) (kind : Kind) (given : RawValue) (found : Value) → value_given enums kind given ≡ Some found → IsTrue (is_value_of enums kind found)
value_good enums Int (raw.Int number) found h = number_good enums number found h
value_good enums Int (raw.Truth truth) found h = absurd (none-some found h)
value_good enums Int (raw.Word word) found h = absurd (none-some found h)
value_good enums Truth (raw.Int number) found h = absurd (none-some found h)
value_good enums Truth (raw.Truth truth) found h = subst (λ (v : Value). IsTrue (is_value_of enums Truth v)) (same_Some (value.Truth truth) found h) refl
value_good enums Truth (raw.Word word) found h = absurd (none-some found h)
value_good enums (Enum kind) (raw.Int number) found h = absurd (none-some found h)
value_good enums (Enum kind) (raw.Truth truth) found h = absurd (none-some found h)
value_good enums (Enum kind) (raw.Word word) found h = variant_good enums kind word found h

module _ (enums : List EnumType) (arguments : List RawArgument) where
  default_good : (kind : Kind) (default : Option Value) (found : Value) → IsTrue (is_default enums kind default) → default ≡ Some found → IsTrue (is_value_of enums kind found)
  default_good kind None found good h = absurd (none-some found h)
  default_good kind (Some value) found good h = subst (λ (v : Value). IsTrue (is_value_of enums kind v)) (same_Some value found h) good

  one_good : (parameter : Parameter) (found : Value) → IsTrue (is_parameter enums parameter) → parameter_value enums arguments parameter ≡ Some found → IsTrue (is_value_of enums parameter.kind found)
  one_good parameter found good h = go (find (λ (argument : RawArgument). same_name argument.name parameter.name) arguments) h
    where
      go : (argument : Option RawArgument) → value_or_default enums parameter argument ≡ Some found → IsTrue (is_value_of enums parameter.kind found)
      go None h = default_good parameter.kind parameter.default found (both (is_kind enums parameter.kind) (is_default enums parameter.kind parameter.default) good).1 h
      go (Some argument) h = value_good enums parameter.kind argument.value found h

  pub filled_good : (parameters : List Parameter) (values : List Value) → IsTrue (list_all (is_parameter enums) parameters) → values_filled enums arguments parameters ≡ Ok values →
      IsTrue (are_values_of enums (map (λ (parameter : Parameter). parameter.kind) parameters) values)
  filled_good [] [] good h = refl
  filled_good [] (value ∷ values) good h = absurd (cc)
  filled_good (parameter ∷ rest) values good h =
      let parts = both (is_parameter enums parameter) (list_all (is_parameter enums) rest) good in
      go values (values_filled enums arguments rest) refl (filled_good rest) parts.1 (parameter_value enums arguments parameter) refl (one_good parameter) parts.0 h
    where
      go : (values : List Value) (others : Result (List Value) EditError) → values_filled enums arguments rest ≡ others →
          ((vs : List Value) → IsTrue (list_all (is_parameter enums) rest) → values_filled enums arguments rest ≡ Ok vs → IsTrue (are_values_of enums (map (λ (parameter : Parameter). parameter.kind) rest) vs)) →
          IsTrue (list_all (is_parameter enums) rest) → (found : Option Value) → parameter_value enums arguments parameter ≡ found →
          ((v : Value) → IsTrue (is_parameter enums parameter) → parameter_value enums arguments parameter ≡ Some v → IsTrue (is_value_of enums parameter.kind v)) →
          IsTrue (is_parameter enums parameter) → value_in_front parameter.name others found ≡ Ok values →
          IsTrue (are_values_of enums (parameter.kind ∷ map (λ (parameter : Parameter). parameter.kind) rest) values)
      go values (Ok vs) are more goods None is one good h = absurd (cc)
      go values (Err refusal) are more goods None is one good h = absurd (cc)
      go values (Err refusal) are more goods (Some v) is one good h = absurd (cc)
      go values (Ok vs) are more goods (Some v) is one good h =
          let same : v ∷ vs ≡ values = cc in
          subst (λ (l : List Value). IsTrue (are_values_of enums (parameter.kind ∷ map (λ (parameter : Parameter). parameter.kind) rest) l)) same
          (and_too (is_value_of enums parameter.kind v) (are_values_of enums (map (λ (parameter : Parameter). parameter.kind) rest) vs) (one v good is) (more vs goods are))

  pub arguments_good : (parameters : List Parameter) (values : List Value) → IsTrue (list_all (is_parameter enums) parameters) → arguments_of enums parameters arguments ≡ Ok values →
      IsTrue (are_values_of enums (map (λ (parameter : Parameter). parameter.kind) parameters) values)
  arguments_good parameters values good h = go (first_bad enums parameters [] arguments) h
    where
      go : (bad : Option (List ℕ)) → unless_bad bad (values_filled enums arguments parameters) ≡ Ok values → IsTrue (are_values_of enums (map (λ (parameter : Parameter). parameter.kind) parameters) values)
      go None h = filled_good parameters values good h
      go (Some name) h = absurd (cc)

-- ---- a type and its arguments

-- an item that was read
pub item_read : {A : Type 0} (items all : List A) (at : ℕ) (item : A) → items ≡ all → at < length all → item ≡ get_or items at item → slice_get all at ≡ Some item
item_read items all at item same less here =
    ap (λ xs. slice_get xs at) (sym same) ∙ slice_get_read items (length items) at item refl (subst (λ xs. at < length xs) (sym same) less) here

-- an item that was read of a list in a value
module _ (model : Parts) (kind : ℕ) (arguments : List RawArgument) (activity : Activity) (parameters : List Parameter) (values : List Value)
    (there : slice_get model.activities kind ≡ Some activity) (same : parameters ≡ activity.parameters) (made : arguments_of model.enums parameters arguments ≡ Ok values) where
  -- what is made of the values
  so_far : given_to model kind arguments (slice_get model.activities kind) ≡ then_made_of (λ values. Ok (record { kind = kind; arguments = values })) (if_met activity values)
  so_far =
      ap (given_to model kind arguments) there
      ∙ ap (λ (m : Result (List Value) EditError). then_made_of (λ values. Ok (record { kind = kind; arguments = values })) (then_made_of (if_met activity) m))
      (ap (λ (ps : List Parameter). arguments_of model.enums ps arguments) (sym same) ∙ made)

  pub given_refused : (refusal : EditError) → IsRefusal (if_met activity values) refusal → IsRefusal (given_to model kind arguments (slice_get model.activities kind)) refusal
  given_refused refusal h =
      subst (λ (m : Result Given EditError). IsRefusal m refusal) (sym so_far) (refused_on (λ values. Ok (record { kind = kind; arguments = values })) (if_met activity values) refusal h)

  pub given_made : (met : List Value) → if_met activity values ≡ Ok met → given_to model kind arguments (slice_get model.activities kind) ≡ Ok (record { kind = kind; arguments = met })
  given_made met h = so_far ∙ ap (then_made_of (λ values. Ok (record { kind = kind; arguments = values }))) h

  pub values_good : IsTypeOf model activity → IsTrue (are_values_of model.enums (parameter_kinds activity) values)
  values_good type =
      arguments_good model.enums arguments activity.parameters values type.parameters (ap (λ (ps : List Parameter). arguments_of model.enums ps arguments) (sym same) ∙ made)
