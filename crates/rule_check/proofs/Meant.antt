-- What is read without a refusal is of the model.
use Rattle.std.proofs.Common.{◌≡◌, ℕ, zero, suc, ℤ, pos, ◌+ℤ◌, ◌+◌, ◌*◌, ◌<◌, ◌≤◌, Bool, true, false, ◌&&◌, List, [], ◌∷◌, Option, Some, None, is_some, length, slice_get, nat_eq, nat_le, nat_lt, refl, ap, ◌∙◌, arith, leb-true, le-leb, if◌then◌else◌}
use Rattle.std.specs.List.{list_all, position}
use Rattle.std.specs.Int.RustNames.{unsigned_abs}
use Rattle.std.specs.Prelude.{option_and_then}
use Rattle.std.proofs.lemmas.Bool.{lt-ltb}
use Rattle.std.proofs.lemmas.Int.{ints}
use Rattle.std.proofs.lemmas.Option.{same_Some, slice_get_within}
use Rattle.std.proofs.lemmas.List.{length-append}
use Rattle.std.proofs.lemmas.List.Folds.{list_all-append}
use Rattle.aerie_base.specs.Ranges.{number_limit, is_number}
use Rattle.aerie_base.specs.declared.models.EnumType.{EnumType}
use Rattle.aerie_base.specs.declared.models.Resource.{Resource}
use Rattle.aerie_base.specs.declared.models.model.Parts.{Parts}
use Rattle.aerie_base.specs.declared.places.Place.{Place}
use Rattle.aerie_base.specs.declared.values.Kind.{Kind}
use Rattle.aerie_base.specs.declared.values.Kind.TheVariants.{Int, Truth, Enum}
use Rattle.aerie_base.specs.models.Limits.{type_limit, resource_limit, enum_limit, variant_limit, term_limit}
use Rattle.aerie_base.specs.expressions.Typing.{same_kind}
use Rattle.aerie_base.specs.models.Names.{same_name}
use Rattle.aerie_base.specs.models.Values.{variants_of}
use Rattle.aerie_base.specs.models.ValidModel.{valid_model, has_good_enums, has_good_resources, has_good_activities, is_enum}
use Rattle.aerie_base.specs.models.ValidParts.{are_good}
use Rattle.dataset_in.specs.declared.series.Series.{Series}
use Rattle.model_reader.specs.declared.raw.names.RawName.{RawName}
use Rattle.rule_grammar.specs.declared.raw.sums.RawTerm.{RawTerm}
use Rattle.rule_grammar.specs.declared.raw.windows.RawTested.{RawTested}
use Rattle.rule_grammar.specs.declared.raw.windows.RawTested.TheVariants as tested
use Rattle.constraints.specs.GivenSeries.{is_series}
use Rattle.constraints.specs.OfModel.{resource_kind, series_kind, reading_kind, is_of_kind, may_equal, is_term, is_sum, is_type}
use Rattle.rule_check.specs.declared.causes.WrongRule.{WrongRule}
use Rattle.constraints.specs.declared.types.RuleSum.{RuleSum}
use Rattle.rule_check.specs.WindowMeaning.{number_or_first, number_of_type, variant_in, tested_value, number_within, no_terms, with_factor, sum_with, meant_sum}
use Rattle.diagnostics.specs.Diagnostics.{refused_unless}
use Rattle.rule_check.specs.RuleNames.{Datasets, position_of_type, position_of_enum, variant_position, named_entry, kind_of_entry, name_kind, known_reading, reading_named}
use Rattle.rule_check.specs.WindowRefusals.{refusals_of_reading, refusals_of_name, refusals_of_type, refusals_of_variant, refusals_of_tested, is_coefficient_within, refusals_of_factor, refusals_of_term, refusals_of_terms, refusals_of_sum}
use Rattle.rule_check.specs.RefusalLaws.{both_empty}
use Rattle.rule_check.proofs.Finding.{both_pass, short_is, found_holds, each_holds, placed, not_placed, position_within}

-- ---- what is not refused

pub not_wrong : (holds : Bool) (wrong : WrongRule) (place : Place) → refused_unless holds wrong place ≡ [] → holds ≡ true
not_wrong true wrong place e = refl
not_wrong false wrong place e = cc

-- ---- models

few_resources : (model : Parts) → valid_model model ≡ true → length model.resources ≤ resource_limit
unfolding has_good_resources
few_resources model valid = leb-true (length model.resources) resource_limit (both_pass (nat_le (length model.resources) resource_limit) _ (are_good model valid).resources).0

pub few_types : (model : Parts) → valid_model model ≡ true → length model.activities ≤ type_limit
unfolding has_good_activities
few_types model valid = leb-true (length model.activities) type_limit (both_pass (nat_le (length model.activities) type_limit) _ (are_good model valid).activities).0

pub few_enums : (model : Parts) → valid_model model ≡ true → length model.enums ≤ enum_limit
unfolding has_good_enums
few_enums model valid = leb-true (length model.enums) enum_limit (both_pass (nat_le (length model.enums) enum_limit) _ (are_good model valid).enums).0

few_variants : (model : Parts) → valid_model model ≡ true → (kind : ℕ) (enum : EnumType) → slice_get model.enums kind ≡ Some enum → length enum.variants ≤ variant_limit
unfolding has_good_enums
few_variants model valid kind enum here =
    let good = both_pass (nat_le (length model.enums) enum_limit) (list_all is_enum model.enums) (are_good model valid).enums in
    let one = each_holds is_enum model.enums kind enum good.1 here in
    let front = both_pass (nat_le 1 (length enum.variants) && nat_le (length enum.variants) variant_limit) _ one in
    leb-true (length enum.variants) variant_limit (both_pass (nat_le 1 (length enum.variants)) (nat_le (length enum.variants) variant_limit) front.0).1

pub small : (number count limit : ℕ) → number < count → count ≤ limit → limit ≤ 256 → number < 65_535
small number count limit less few most = omega (arith, less, few, most)

module _ (model : Parts) (datasets : Datasets) (valid : valid_model model ≡ true) (series : list_all (λ dataset. is_series dataset.1) datasets ≡ true) where
  -- ---- names

  -- a name reads what has the type that it is known with
  known : (name : List ℕ) (kind : Option Kind) (resource : Option (List ℕ × Resource)) (dataset : Option (List ℕ × Series)) → named_entry model.resources name ≡ resource → named_entry datasets name ≡ dataset
      → kind_of_entry model.cells resource dataset ≡ Some kind → reading_kind model (known_reading (position (λ entry. same_name entry.0 name) model.resources) dataset) ≡ kind
  known name kind (Some entry) dataset e f h =
      let there = placed (λ entry. same_name entry.0 name) model.resources entry e in
      let short = short_is there.at (small there.at (length model.resources) resource_limit (slice_get_within model.resources there.at entry there.there) (few_resources model valid) (omega arith)) in
      ap (λ place. reading_kind model (known_reading place dataset)) there.is
      ∙ ap (λ (n : ℕ). resource_kind model.cells (slice_get model.resources n)) short
      ∙ ap (resource_kind model.cells) there.there
      ∙ same_Some (resource_kind model.cells (Some entry)) kind h
  known name kind None (Some entry) e f h =
      ap (λ place. reading_kind model (known_reading place (Some entry))) (not_placed (λ other. same_name other.0 name) model.resources e)
      ∙ ap (λ (v : Bool). if v then Some (series_kind entry.1) else None) (found_holds (λ dataset. is_series dataset.1) (λ other. same_name other.0 name) datasets entry series f)
      ∙ same_Some (Some (series_kind entry.1)) kind h
  known name kind None None e f h = cc

  pub kind_read : (name : List ℕ) (kind : Option Kind) → name_kind model datasets name ≡ Some kind → reading_kind model (reading_named model datasets name) ≡ kind
  kind_read name kind h = known name kind (named_entry model.resources name) (named_entry datasets name) refl refl h

  -- a name that is not refused reads something of the wanted type
  pub name_is : (wanted : Kind) (name : RawName) → refusals_of_name model datasets wanted name ≡ [] → is_of_kind wanted (reading_kind model (reading_named model datasets name.name)) ≡ true
  name_is wanted name e = go (name_kind model datasets name.name) refl e
    where
      go : (known : Option (Option Kind)) → name_kind model datasets name.name ≡ known → refusals_of_reading known wanted name.at ≡ [] → is_of_kind wanted (reading_kind model (reading_named model datasets name.name)) ≡ true
      go None h e = cc
      go (Some kind) h e = ap (is_of_kind wanted) (kind_read name.name kind h) ∙ not_wrong (is_of_kind wanted kind) _ name.at e

  -- a type that is known
  pub known_type : (name : RawName) → is_some (position_of_type model.activities name.name) ≡ true → is_type model (number_of_type model name) ≡ true
  known_type name e = go (position_of_type model.activities name.name) refl e
    where
      go : (place : Option ℕ) → position_of_type model.activities name.name ≡ place → is_some place ≡ true → is_type model (number_or_first place) ≡ true
      go None h e = cc
      go (Some at) h e =
          let less = position_within (λ activity. same_name activity.name name.name) model.activities at h in
          ap (is_type model) (short_is at (small at (length model.activities) type_limit less (few_types model valid) (omega arith))) ∙ lt-ltb at (length model.activities) less

  pub type_is : (name : RawName) → refusals_of_type model name ≡ [] → is_type model (number_of_type model name) ≡ true
  type_is name e = known_type name (not_wrong (is_some (position_of_type model.activities name.name)) _ name.at e)

  -- ---- values

  -- the variant of a name in an enumeration
  pub variant_is : (kind : ℕ) (variant : List ℕ) (enum : Option EnumType) → slice_get model.enums kind ≡ enum → is_some (option_and_then (λ (e : EnumType). position (λ other. same_name other variant) e.variants) enum) ≡ true
      → nat_lt (number_or_first (option_and_then (λ (e : EnumType). position (λ other. same_name other variant) e.variants) enum)) (variants_of enum) ≡ true
  variant_is kind variant None h e = cc
  variant_is kind variant (Some enum) h e = go (position (λ other. same_name other variant) enum.variants) refl e
    where
      go : (place : Option ℕ) → position (λ other. same_name other variant) enum.variants ≡ place → is_some place ≡ true → nat_lt (number_or_first place) (length enum.variants) ≡ true
      go None g e = cc
      go (Some at) g e =
          let less = position_within (λ other. same_name other variant) enum.variants at g in
          ap (λ (n : ℕ). nat_lt n (length enum.variants)) (short_is at (small at (length enum.variants) variant_limit less (few_variants model valid kind enum h) (omega arith))) ∙ lt-ltb at (length enum.variants) less

  beside_is : (wanted : ℕ) (at : Place) (kind variant : RawName) → refusals_of_variant model (position_of_enum model.enums kind.name) wanted at kind variant ≡ []
      → may_equal model (variant_in model (position_of_enum model.enums kind.name) variant) (Some (Enum wanted)) ≡ true
  beside_is wanted at kind variant e = go (position_of_enum model.enums kind.name) refl e
    where
      go : (place : Option ℕ) → position_of_enum model.enums kind.name ≡ place → refusals_of_variant model place wanted at kind variant ≡ [] → may_equal model (variant_in model place variant) (Some (Enum wanted)) ≡ true
      go None h e = cc
      go (Some number) h e =
          let two = both_empty (refused_unless (nat_eq number wanted) _ at) (refused_unless (is_some (variant_position model.enums number variant.name)) _ variant.at) e in
          let less = position_within (λ enum. same_name enum.name kind.name) model.enums number h in
          let short = short_is number (small number (length model.enums) enum_limit less (few_enums model valid) (omega arith)) in
          let there = variant_is number variant.name (slice_get model.enums number) refl (not_wrong (is_some (variant_position model.enums number variant.name)) _ variant.at two.1) in
          ap (λ (n : ℕ). nat_eq n wanted && nat_lt (number_or_first (variant_position model.enums number variant.name)) (variants_of (slice_get model.enums n))) short
          ∙ ap (λ (v : Bool). v && nat_lt (number_or_first (variant_position model.enums number variant.name)) (variants_of (slice_get model.enums number))) (not_wrong (nat_eq number wanted) _ at two.0)
          ∙ there

  same_truth : (kind : Kind) → same_kind kind Truth ≡ true → kind ≡ Truth
  same_truth Int e = cc
  same_truth Truth e = refl
  same_truth (Enum number) e = cc

  pub tested_is : (name : RawName) (given : RawTested) → refusals_of_tested model (name_kind model datasets name.name) name.at given ≡ []
      → may_equal model (tested_value model given) (reading_kind model (reading_named model datasets name.name)) ≡ true
  tested_is name given e = go (name_kind model datasets name.name) refl given e
    where
      of_kind : (kind : Option Kind) (given : RawTested) → refusals_of_tested model (Some kind) name.at given ≡ [] → may_equal model (tested_value model given) kind ≡ true
      of_kind (Some Truth) (tested.Truth truth) e = refl
      of_kind (Some Int) (tested.Truth truth) e = cc
      of_kind (Some (Enum number)) (tested.Truth truth) e = cc
      of_kind None (tested.Truth truth) e = cc
      of_kind (Some (Enum wanted)) (tested.Variant kind variant) e = beside_is wanted name.at kind variant e
      of_kind (Some Int) (tested.Variant kind variant) e = cc
      of_kind (Some Truth) (tested.Variant kind variant) e = cc
      of_kind None (tested.Variant kind variant) e = cc

      go : (known : Option (Option Kind)) → name_kind model datasets name.name ≡ known → (given : RawTested) → refusals_of_tested model known name.at given ≡ []
          → may_equal model (tested_value model given) (reading_kind model (reading_named model datasets name.name)) ≡ true
      go None h given e = cc
      go (Some kind) h given e = ap (may_equal model (tested_value model given)) (kind_read name.name kind h) ∙ of_kind kind given e

  -- ---- sums

  small_sum : (constant number : ℤ) → unsigned_abs (constant +ℤ number) ≤ unsigned_abs constant + unsigned_abs number
  small_sum constant number = omega (arith, ints)

  within : (number : ℤ) → unsigned_abs (number_within number) ≤ number_limit
  within number = go (is_number number) refl
    where
      go : (v : Bool) → is_number number ≡ v → unsigned_abs (if v then number else pos 0) ≤ number_limit
      go true e = leb-true (unsigned_abs number) number_limit e
      go false e = omega arith

  -- a sum that may have so many terms more
  record IsGoing (room : ℕ) (sum : RuleSum) : Type 0 where
    few : length sum.terms + room ≤ term_limit
    all : list_all (is_term model) sum.terms ≡ true
    low : unsigned_abs sum.constant + room * number_limit ≤ 16 * number_limit

  next_going : (room : ℕ) (sum : RuleSum) (term : RawTerm) (resource : Option RawName) → refusals_of_factor model datasets term resource ≡ [] → IsGoing (suc room) sum → IsGoing room (with_factor model datasets sum term.number resource)
  next_going room sum term None e going =
      let one = small_sum sum.constant (number_within term.number) in
      let other = within term.number in
      let few = going.few in
      let low = going.low in
      record { few = omega (arith, few); all = going.all; low = omega (arith, low, one, other) }
  next_going room sum term (Some name) e going =
      let two = both_empty (refused_unless (is_coefficient_within term.number) _ term.at) (refusals_of_name model datasets Int name) e in
      let good : is_term model (record { coefficient = term.number; resource = reading_named model datasets name.name }) ≡ true =
      rw (not_wrong (is_coefficient_within term.number) _ term.at two.0, name_is Int name two.1) refl in
      let longer = length-append sum.terms (record { coefficient = term.number; resource = reading_named model datasets name.name } ∷ []) in
      let few = going.few in
      let low = going.low in
      record {
        few = omega (arith, few, longer);
        all = list_all-append (is_term model) sum.terms (record { coefficient = term.number; resource = reading_named model datasets name.name } ∷ []) ∙ rw (going.all, good) refl;
        low = omega (arith, low);
      }

  ended_sum : (room : ℕ) (sum : RuleSum) → IsGoing room sum → is_sum model sum ≡ true
  ended_sum room sum going =
      let few = going.few in
      let low = going.low in
      let short = le-leb (length sum.terms) term_limit (omega (arith, few)) in
      let tight = le-leb (unsigned_abs sum.constant) (16 * number_limit) (omega (arith, low)) in
      rw (short, going.all, tight) refl

  terms_are : (room : ℕ) (sum : RuleSum) (terms : List RawTerm) → refusals_of_terms model datasets room terms ≡ [] → IsGoing room sum → is_sum model (sum_with model datasets room sum terms) ≡ true
  terms_are room sum [] e going = ended_sum room sum going
  terms_are zero sum (term ∷ rest) e going = cc
  terms_are (suc room) sum (term ∷ rest) e going =
      let two = both_empty (refusals_of_term model datasets term) (refusals_of_terms model datasets room rest) e in
      terms_are room (with_factor model datasets sum term.number term.resource) rest two.1 (next_going room sum term term.resource two.0 going)

  pub sum_is : (terms : List RawTerm) → refusals_of_sum model datasets terms ≡ [] → is_sum model (meant_sum model datasets terms) ≡ true
  sum_is terms e = terms_are term_limit no_terms terms e (record { few = omega arith; all = refl; low = omega arith })
