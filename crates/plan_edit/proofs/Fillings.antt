-- Values one behind another, and where values are of.
use Rattle.std.proofs.Common.{◌≡◌, ℕ, zero, suc, ◌+◌, ◌<◌, ◌≤◌, ◌&&◌, IsTrue, List, [], ◌∷◌, ◌++◌, append_assoc, drop, drop-cons, get_or, length, Option, Some, None, Result, Ok, Err, slice_get, nat_le, refl, sym, ap, ◌∙◌, add-one, subst, leb-true}
use Rattle.std.proofs.lemmas.Option.{none-some, same_Some}
use Rattle.std.specs.List.{list_all}
use Rattle.aerie_base.specs.declared.values.Value.{Value}
use Rattle.aerie_base.specs.declared.arguments.RawArgument.{RawArgument}
use Rattle.aerie_base.specs.declared.models.EnumType.{EnumType}
use Rattle.aerie_base.specs.declared.models.Parameter.{Parameter}
use Rattle.aerie_base.specs.declared.models.model.Parts.{Parts}
use Rattle.aerie_base.specs.models.Limits.{variant_limit, enum_limit}
use Rattle.aerie_base.specs.models.Names.{are_distinct}
use Rattle.aerie_base.specs.models.ValidModel.{valid_model, has_good_enums, is_enum}
use Rattle.aerie_base.specs.models.ValidParts.{are_good}
use Rattle.aerie_base.specs.plans.RisingIds.{both}
use Rattle.plan_edit.specs.declared.errors.EditError.{EditError}
use Rattle.plan_edit.specs.declared.errors.EditError.TheVariants.{BadArgument}
use Rattle.plan_edit.specs.Arguments.{values_filled, value_in_front, parameter_value}

abbrev pub behind : List Value → Result (List Value) EditError → Result (List Value) EditError
behind values (Ok rest) = Ok (values ++ rest)
behind values (Err refusal) = Err refusal

pub behind_none : (rest : Result (List Value) EditError) → rest ≡ behind [] rest
behind_none (Ok rest) = refl
behind_none (Err refusal) = refl

in_front_behind : (values : List Value) (name : List ℕ) (value : Value) (rest : Result (List Value) EditError) →
    behind values (value_in_front name rest (Some value)) ≡ behind (values ++ value ∷ []) rest
in_front_behind values name value (Ok rest) = ap Ok (sym (append_assoc values (value ∷ []) rest))
in_front_behind values name value (Err refusal) = refl

-- the item with this number, and those behind it
pub cut : {A : Type 0} (xs : List A) (at : ℕ) (x : A) → at < length xs → x ≡ get_or xs at x → drop at xs ≡ x ∷ drop (at + 1) xs
cut xs at x within is = rw (add-one, drop-cons xs at x) (ap (λ y. y ∷ drop (suc at) xs) (sym is))

module _ (enums : List EnumType) (arguments : List RawArgument) where
  -- a value more
  pub one_more : (values : List Value) (parameters : List Parameter) (at : ℕ) (parameter : Parameter) (value : Value) → at < length parameters →
      parameter ≡ get_or parameters at parameter → Some value ≡ parameter_value enums arguments parameter →
      behind values (values_filled enums arguments (drop at parameters)) ≡ behind (values ++ value ∷ []) (values_filled enums arguments (drop (at + 1) parameters))
  one_more values parameters at parameter value within is found =
      ap (λ (left : List Parameter). behind values (values_filled enums arguments left)) (cut parameters at parameter within is)
      ∙ ap (λ (o : Option Value). behind values (value_in_front parameter.name (values_filled enums arguments (drop (at + 1) parameters)) o)) (sym found)
      ∙ in_front_behind values parameter.name value (values_filled enums arguments (drop (at + 1) parameters))

  -- none here
  pub missing : (values : List Value) (parameters : List Parameter) (at : ℕ) (parameter : Parameter) → at < length parameters →
      parameter ≡ get_or parameters at parameter → None ≡ parameter_value enums arguments parameter →
      behind values (values_filled enums arguments (drop at parameters)) ≡ Err (BadArgument parameter.name)
  missing values parameters at parameter within is found =
      ap (λ (left : List Parameter). behind values (values_filled enums arguments left)) (cut parameters at parameter within is)
      ∙ ap (λ (o : Option Value). behind values (value_in_front parameter.name (values_filled enums arguments (drop (at + 1) parameters)) o)) (sym found)

-- an enumeration of a valid model has few variants
each_good : (enums : List EnumType) (kind : ℕ) (enum : EnumType) → IsTrue (list_all is_enum enums) → slice_get enums kind ≡ Some enum → length enum.variants ≤ variant_limit
each_good [] kind enum good here = absurd (none-some enum here)
each_good (first ∷ rest) zero enum good here =
    let parts = both (is_enum first) (list_all is_enum rest) good in
    let two = both (nat_le 1 (length first.variants) && nat_le (length first.variants) variant_limit) (are_distinct first.variants) parts.0 in
    let bounds = both (nat_le 1 (length first.variants)) (nat_le (length first.variants) variant_limit) two.0 in
    let few : length first.variants ≤ variant_limit = leb-true (length first.variants) variant_limit bounds.1 in
    subst (λ (e : EnumType). length e.variants ≤ variant_limit) (same_Some first enum here) few
each_good (first ∷ rest) (suc kind) enum good here = each_good rest kind enum (both (is_enum first) (list_all is_enum rest) good).1 here

pub few_variants : (model : Parts) (kind : ℕ) (enum : EnumType) → IsTrue (valid_model model) → slice_get model.enums kind ≡ Some enum → length enum.variants ≤ variant_limit
unfolding has_good_enums
few_variants model kind enum valid here =
    each_good model.enums kind enum (both (nat_le (length model.enums) enum_limit) (list_all is_enum model.enums) (are_good model valid).enums).1 here
