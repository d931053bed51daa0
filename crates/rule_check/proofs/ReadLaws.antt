-- Types, windows and literals that are read without a refusal are of the model.
use Rattle.std.proofs.Common.{◌≡◌, ℕ, ℤ, pos, Bool, true, false, ◌&&◌, IsTrue, [], Option, Some, None, is_some, option_map, length, slice_get, nat_eq, nat_lt, refl, subst, ap, ◌∙◌, arith, if◌then◌else◌}
use Rattle.std.proofs.lemmas.Option.{same_Some, slice_get_within}
use Rattle.aerie_base.specs.Ranges.{is_number}
use Rattle.aerie_base.specs.declared.models.Activity.{Activity}
use Rattle.aerie_base.specs.declared.models.EnumType.{EnumType}
use Rattle.aerie_base.specs.declared.models.model.Parts.{Parts}
use Rattle.aerie_base.specs.declared.values.Kind.{Kind}
use Rattle.aerie_base.specs.declared.values.Kind.TheVariants.{Int, Truth, Enum}
use Rattle.aerie_base.specs.models.Limits.{type_limit, enum_limit}
use Rattle.aerie_base.specs.models.Names.{same_name}
use Rattle.aerie_base.specs.models.ValidModel.{valid_model}
use Rattle.aerie_base.specs.models.Values.{is_value_of, variants_of}
use Rattle.model_reader.specs.declared.raw.literals.RawLiteralKind.TheVariants as literal
use Rattle.model_reader.specs.declared.raw.names.RawName.{RawName}
use Rattle.rule_check.specs.WindowMeaning.{number_or_first, number_within, variant_in}
use Rattle.rule_check.specs.ReadParts.{NamedTypesStand, ReadTypesAreOf, ReadWindowsAreOf, ReadLiteralsAreOf}
use Rattle.rule_check.specs.RuleLiterals.{refusals_of_named_variant, literal_value}
use Rattle.diagnostics.specs.ShortNumbers.{short}
use Rattle.rule_check.specs.RuleNames.{position_of_enum, variant_position}
use Rattle.rule_check.proofs.Finding.{short_is, placed, position_within}
use Rattle.rule_check.proofs.Meant.{not_wrong, type_is, few_types, few_enums, small, variant_is}
use Rattle.rule_check.proofs.MeantWindows.{window_is, speaks_not}

pub named_stands : NamedTypesStand
named_stands model name activity valid here =
    let test = λ (one : Activity). same_name one.name name.name in
    let there = placed test model.activities activity here in
    let less = slice_get_within model.activities there.at activity there.there in
    ap (λ place. slice_get model.activities (number_or_first place)) there.is
    ∙ ap (slice_get model.activities) (short_is there.at (small there.at (length model.activities) type_limit less (few_types model valid) (omega arith)))
    ∙ there.there

pub read_type_is : ReadTypesAreOf
read_type_is model name valid e = type_is model [] valid refl name e

pub read_window_is : ReadWindowsAreOf
read_window_is model datasets raw valid series e = rw (window_is model datasets valid series None raw e, speaks_not model datasets valid series raw) refl

itself : (n : ℕ) → nat_eq n n ≡ true
itself n = grind arith

number_good : (number : ℤ) → is_number (number_within number) ≡ true
number_good number = go (is_number number) refl
  where
    go : (v : Bool) → is_number number ≡ v → is_number (if v then number else pos 0) ≡ true
    go true e = e
    go false e = refl

variant_good : (model : Parts) (enum variant : RawName) (kind : Kind) → valid_model model ≡ true
    → refusals_of_named_variant model (position_of_enum model.enums enum.name) enum variant ≡ []
    → option_map (λ place. Enum (short place)) (position_of_enum model.enums enum.name) ≡ Some kind
    → is_value_of model.enums kind (variant_in model (position_of_enum model.enums enum.name) variant) ≡ true
variant_good model enum variant kind valid e of = go (position_of_enum model.enums enum.name) refl e of
  where
    go : (place : Option ℕ) → position_of_enum model.enums enum.name ≡ place → refusals_of_named_variant model place enum variant ≡ []
        → option_map (λ (at : ℕ). Enum (short at)) place ≡ Some kind → is_value_of model.enums kind (variant_in model place variant) ≡ true
    go None h e of = cc
    go (Some number) h e of =
        let less = position_within (λ (one : EnumType). same_name one.name enum.name) model.enums number h in
        let is_short = short_is number (small number (length model.enums) enum_limit less (few_enums model valid) (omega arith)) in
        let there = variant_is model [] valid refl number variant.name (slice_get model.enums number) refl (not_wrong (is_some (variant_position model.enums number variant.name)) _ variant.at e) in
        let chosen = number_or_first (variant_position model.enums number variant.name) in
        subst (λ (k : Kind). is_value_of model.enums k (variant_in model (Some number) variant) ≡ true) (same_Some (Enum (short number)) kind of)
        (ap (λ (v : Bool). v && nat_lt chosen (variants_of (slice_get model.enums (short number)))) (itself (short number))
        ∙ ap (λ (n : ℕ). nat_lt chosen (variants_of (slice_get model.enums n))) is_short ∙ there)

pub read_literal_is : ReadLiteralsAreOf
read_literal_is model (literal.Number number) kind valid e of =
    subst (λ (k : Kind). IsTrue (is_value_of model.enums k (literal_value model (literal.Number number)))) (same_Some Int kind of) (number_good number)
read_literal_is model (literal.Truth truth) kind valid e of =
    subst (λ (k : Kind). IsTrue (is_value_of model.enums k (literal_value model (literal.Truth truth)))) (same_Some Truth kind of) refl
read_literal_is model (literal.Variant enum variant) kind valid e of = variant_good model enum variant kind valid e of
