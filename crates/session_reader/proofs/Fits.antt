-- Mappings of which nothing is refused fit their models.
use Rattle.std.proofs.Common.{◌≡◌, ℕ, zero, suc, ◌<◌, ◌≤◌, Bool, true, false, not, ◌&&◌, ◌||◌, List, [], ◌∷◌, ◌++◌, Option, Some, None, is_some, option_map, option_and_then, length, map, slice_get, find, nat_le, nat_lt, refl, sym, ap, ◌∙◌, subst, arith, true≢false, leb-true, lt-ltb}
use Rattle.std.proofs.lemmas.Bool.{le-leb}
use Rattle.std.proofs.lemmas.Option.{none-some, same_Some, slice_get-map}
use Rattle.std.specs.List.{AllByRecursion, list_all, list_any}
use Rattle.aerie_base.specs.Ranges.{is_number, number_limit}
use Rattle.aerie_base.specs.declared.models.Activity.{Activity}
use Rattle.aerie_base.specs.declared.models.EnumType.{EnumType}
use Rattle.aerie_base.specs.declared.models.Parameter.{Parameter}
use Rattle.aerie_base.specs.declared.models.model.Parts.{Parts}
use Rattle.aerie_base.specs.declared.values.Kind.{Kind}
use Rattle.aerie_base.specs.declared.values.Kind.TheVariants as kind
use Rattle.aerie_base.specs.declared.values.Value.{Value}
use Rattle.aerie_base.specs.expressions.Typing.{same_kind}
use Rattle.aerie_base.specs.models.Activities.{is_default, is_parameter, are_parameters, parameter_names, are_requires, is_result, is_activity, activity_setting}
use Rattle.aerie_base.specs.models.Bodies.{is_body}
use Rattle.aerie_base.specs.models.Limits.{parameter_limit, type_limit, enum_limit}
use Rattle.aerie_base.specs.models.Names.{are_distinct, is_name_among, same_name}
use Rattle.aerie_base.specs.models.Signatures.{parameter_kinds, signatures_of}
use Rattle.aerie_base.specs.models.ValidModel.{valid_model, has_good_activities, has_good_enums, is_enum, enum_names, cell_names}
use Rattle.aerie_base.specs.models.ValidParts.{are_good}
use Rattle.aerie_base.specs.models.Values.{is_kind, is_value_of, variant_count, variants_of}
use Rattle.diagnostics.specs.ShortNumbers.{short}
use Rattle.diagnostics.specs.NotedInTurn.{front_empty, back_empty, holds_if_empty, each_empty}
use Rattle.model_check.proofs.Sound.Empty.{three}
use Rattle.model_reader.specs.Limits.{IsLiteralInRange}
use Rattle.model_reader.specs.declared.raw.literals.RawLiteralKind.{RawLiteralKind}
use Rattle.model_reader.specs.declared.raw.literals.RawLiteralKind.TheVariants as literal
use Rattle.model_reader.specs.declared.raw.names.RawName.{RawName}
use Rattle.plan_edit.specs.declared.mappings.Feed.{Feed}
use Rattle.plan_edit.specs.declared.mappings.Feed.TheVariants.{Old}
use Rattle.plan_edit.specs.Arguments.{parameter_position}
use Rattle.plan_edit.specs.Editing.{type_position}
use Rattle.plan_edit.specs.Mappings.{feeds_from, is_feed, are_feeds, is_rule_for, is_type_rule}
use Rattle.session_grammar.specs.SessionLimits.{AreFeedsInRange, IsFedInRange, IsFeedInRange, IsMappingInRange, IsTypeRuleInRange}
use Rattle.session_grammar.specs.declared.raw.mappings.RawFeed.{RawFeed}
use Rattle.session_grammar.specs.declared.raw.mappings.RawFeedValue.{RawFeedValue}
use Rattle.session_grammar.specs.declared.raw.mappings.RawFeedValue.TheVariants as fed
use Rattle.session_grammar.specs.declared.raw.mappings.RawMapping.{RawMapping}
use Rattle.session_grammar.specs.declared.raw.mappings.RawTypeRule.{RawTypeRule}
use Rattle.session_reader.specs.CheckedModels.{AreValid}
use Rattle.diagnostics.specs.Diagnostics.{all_of, refused_unless}
use Rattle.session_reader.specs.KnownParts.{model_position, model_named, type_named, parameter_named}
use Rattle.session_reader.specs.Literals.{enum_position, variant_position, variant_diagnostics, literal_diagnostics, literal_kind, literal_value, variant_in, variant_value}
use Rattle.session_reader.specs.MappingDiagnostics.{may_feed_if_known, same_if_known, value_fits, value_diagnostics, parameter_diagnostics, feed_diagnostics, gets_a_value, feeds_diagnostics, between_diagnostics, rule_diagnostics, rules_diagnostics, among_diagnostics, mapping_diagnostics}
use Rattle.session_reader.specs.MeantMappings.{default_of, feed_written, feed_or_default, feed_for, feeds_between, rule_meant, rules_among, mapping_meant, number_at}
use Rattle.session_reader.specs.RepeatedNames.{repeated_diagnostics}
use Rattle.commands.specs.SessionModels.{IsMappingIn}
use Rattle.session_reader.specs.declared.causes.Cause.TheVariants.{Unknown, WrongType}
use Rattle.session_reader.proofs.Found.{both_true, and_too, each_true, StandsAt, found_at, short_is, there, any_position, none_found, one_found, same_is, same_one}

-- ---- what is known of a valid model

pub record IsTypeOf (model : Parts) (activity : Activity) : Type 0 where
  pub parameters : list_all (is_parameter model.enums) activity.parameters ≡ true
  pub few : length activity.parameters ≤ parameter_limit
  pub distinct : are_distinct (parameter_names activity) ≡ true

pub few_types : (model : Parts) → valid_model model ≡ true → length model.activities ≤ type_limit
unfolding has_good_activities
few_types model valid =
    let taken = enum_names model ++ cell_names model in
    let all = both_true (nat_le (length model.activities) type_limit) (list_all (is_activity model.enums model.cells (signatures_of model.activities) taken) model.activities) (are_good model valid).activities in
    leb-true (length model.activities) type_limit all.0

pub few_enums : (model : Parts) → valid_model model ≡ true → length model.enums ≤ enum_limit
unfolding has_good_enums
few_enums model valid = leb-true (length model.enums) enum_limit (both_true (nat_le (length model.enums) enum_limit) (list_all is_enum model.enums) (are_good model valid).enums).0

record Four (a b c d : Bool) : Type 0 where
  first : a ≡ true
  second : b ≡ true
  third : c ≡ true
  fourth : d ≡ true

four_true : (a b c d : Bool) → (a && b && c && d) ≡ true → Four a b c d
four_true true true true true e = record { first = refl; second = refl; third = refl; fourth = refl }
four_true true true true false e = cc
four_true true true false d e = cc
four_true true false c d e = cc
four_true false b c d e = cc

pub type_good : (model : Parts) → valid_model model ≡ true → (number : ℕ) (activity : Activity) → slice_get model.activities number ≡ Some activity → IsTypeOf model activity
unfolding has_good_activities is_activity
type_good model valid number activity here =
    let taken = enum_names model ++ cell_names model in
    let all = both_true (nat_le (length model.activities) type_limit) (list_all (is_activity model.enums model.cells (signatures_of model.activities) taken) model.activities) (are_good model valid).activities in
    let is = each_true (is_activity model.enums model.cells (signatures_of model.activities) taken) model.activities number activity all.1 here in
    let parts : Four _ _ _ _ = four_true (are_parameters model.enums taken activity) (are_requires model.enums activity) (is_result model.enums activity.result activity.body)
    (is_body (activity_setting model.enums model.cells (signatures_of model.activities) activity) (parameter_kinds activity) activity.slots activity.body) is in
    let given : Four _ _ _ _ = four_true (nat_le (length activity.parameters) parameter_limit) (list_all (is_parameter model.enums) activity.parameters)
    (are_distinct (parameter_names activity)) (list_all (λ name. not (is_name_among name taken)) (parameter_names activity)) parts.first in
    record { parameters = given.second; few = leb-true (length activity.parameters) parameter_limit given.first; distinct = given.third }

-- ---- literals

module _ (enums : List EnumType) (few : length enums ≤ enum_limit) where
  known_variant : (of : Kind) (variant : RawName) (number : ℕ) (enum : EnumType) → slice_get enums number ≡ Some enum → number < length enums →
      is_name_among variant.name enum.variants ≡ true → same_kind (kind.Enum (short number)) of ≡ true →
      is_value_of enums of (variant_value (Some number) (variant_position enum.variants variant.name)) ≡ true
  known_variant of variant number enum here within among fits =
      let place = there (variant_position enum.variants variant.name) (any_position (same_name variant.name) enum.variants among) in
      let at : StandsAt (same_name variant.name) enum.variants place.number = found_at (same_name variant.name) enum.variants place.number place.is in
      let is : short number ≡ number = short_is number (omega (arith, within, few)) in
      let count : variant_count enums (short number) ≡ length enum.variants = ap (variant_count enums) is ∙ ap variants_of here in
      let least : short place.number ≤ place.number = omega arith in
      let below : nat_lt (short place.number) (variant_count enums (short number)) ≡ true = ap (nat_lt (short place.number)) count ∙ lt-ltb (short place.number) (length enum.variants) (omega (arith, at.within, least)) in
      ap (λ (v : Option ℕ). is_value_of enums of (variant_value (Some number) v)) place.is
      ∙ and_too (same_kind (kind.Enum (short number)) of) (nat_lt (short place.number) (variant_count enums (short number))) fits below

  good_variant : (of : Kind) (name variant : RawName) (place : Option ℕ) → enum_position enums name.name ≡ place →
      variant_diagnostics name variant (option_and_then (slice_get enums) place) ≡ [] → same_if_known (option_map (λ number. kind.Enum (short number)) place) of ≡ true →
      is_value_of enums of (variant_value place (variant_in variant.name (option_and_then (slice_get enums) place))) ≡ true
  good_variant of name variant None is empty fits = cc
  good_variant of name variant (Some number) is empty fits =
      let at : StandsAt (λ enum. same_name enum.name name.name) enums number = found_at (λ (enum : EnumType). same_name enum.name name.name) enums number is in
      let empty_here = subst (λ (found : Option EnumType). variant_diagnostics name variant found ≡ []) at.here empty in
      let among = holds_if_empty (is_name_among variant.name at.one.variants) Unknown variant.at empty_here in
      ap (λ (found : Option EnumType). is_value_of enums of (variant_value (Some number) (variant_in variant.name found))) at.here
      ∙ known_variant of variant number at.one at.here at.within among fits

  -- the value of a literal of which nothing is refused has its type
  pub good_literal : (of : Kind) (what : RawLiteralKind) → IsLiteralInRange what → literal_diagnostics enums what ≡ [] →
      same_if_known (literal_kind enums what) of ≡ true → is_value_of enums of (literal_value enums what) ≡ true
  good_literal of (literal.Number number) range empty fits = and_too (same_kind kind.Int of) (is_number number) fits (le-leb _ number_limit range)
  good_literal of (literal.Truth truth) range empty fits = and_too (same_kind kind.Truth of) true fits refl
  good_literal of (literal.Variant name variant) range empty fits = good_variant of name variant (enum_position enums name.name) refl empty fits

-- ---- feeds

-- there is a feed for each of these, where there is one for each place
are_feeds_each : (old new : List EnumType) (from : List Kind) (for : Parameter → Feed) (parameters : List Parameter) →
    ((place : ℕ) (parameter : Parameter) → slice_get parameters place ≡ Some parameter → is_feed old new from parameter.kind (for parameter) ≡ true) →
    are_feeds old new from (map (λ (parameter : Parameter). parameter.kind) parameters) (map for parameters) ≡ true
are_feeds_each old new from for [] each = refl
are_feeds_each old new from for (parameter ∷ rest) each =
    and_too (is_feed old new from parameter.kind (for parameter)) (are_feeds old new from (map (λ (p : Parameter). p.kind) rest) (map for rest))
    (each zero parameter refl) (are_feeds_each old new from for rest (λ place p here. each (suc place) p here))

module _ (old new : Parts) (old_valid : valid_model old ≡ true) (new_valid : valid_model new ≡ true) (from to : Activity) (from_good : IsTypeOf old from) (to_good : IsTypeOf new to) where
  old_feed : (of : Kind) (name : RawName) (place : Option ℕ) → parameter_position from.parameters name.name ≡ place → is_some place ≡ true →
      may_feed_if_known old.enums new.enums (option_and_then (slice_get from.parameters) place) of ≡ true →
      is_feed old.enums new.enums (parameter_kinds from) of (Old (number_at place)) ≡ true
  old_feed of name None is known fits = absurd (true≢false (sym known))
  old_feed of name (Some place) is known fits =
      let at : StandsAt (λ parameter. same_name parameter.name name.name) from.parameters place = found_at (λ (parameter : Parameter). same_name parameter.name name.name) from.parameters place is in
      let fits_here = subst (λ (found : Option Parameter). may_feed_if_known old.enums new.enums found of ≡ true) at.here fits in
      let number : short place ≡ place = short_is place (omega (arith, at.within, from_good.few)) in
      let kind_here : slice_get (parameter_kinds from) (short place) ≡ Some at.one.kind =
      ap (slice_get (parameter_kinds from)) number ∙ slice_get-map (λ (parameter : Parameter). parameter.kind) from.parameters place ∙ ap (option_map (λ (parameter : Parameter). parameter.kind)) at.here in
      ap (λ (found : Option Kind). feeds_from old.enums new.enums found of) kind_here ∙ fits_here

  written_feed : (of : Kind) (what : RawFeedValue) → IsFedInRange what → value_diagnostics new from what ≡ [] → value_fits old new from of what ≡ true →
      is_feed old.enums new.enums (parameter_kinds from) of (feed_written new from what) ≡ true
  written_feed of (fed.Parameter name) range empty fits =
      old_feed of name (parameter_position from.parameters name.name) refl (holds_if_empty (is_some (parameter_position from.parameters name.name)) Unknown name.at empty) fits
  written_feed of (fed.Literal what) range empty fits = good_literal new.enums (few_enums new new_valid) of what.what range empty fits

  good_default : (of : Kind) (default : Option Value) → is_default new.enums of default ≡ true → is_some default ≡ true →
      is_value_of new.enums of (default_of default) ≡ true
  good_default of None good is = absurd (true≢false (sym is))
  good_default of (Some value) good is = good

  -- a feed that is in range and of which nothing is refused
  abbrev pub IsGoodFeed : RawFeed → Type 0
  IsGoodFeed raw = IsFeedInRange raw × (feed_diagnostics old new from to raw ≡ [])

  given_feed : (place : ℕ) (parameter : Parameter) (raw : RawFeed) → slice_get to.parameters place ≡ Some parameter → IsGoodFeed raw →
      same_name raw.parameter.name parameter.name ≡ true → is_feed old.enums new.enums (parameter_kinds from) parameter.kind (feed_written new from raw.value) ≡ true
  given_feed place parameter raw here good same = go (parameter_position to.parameters raw.parameter.name) refl (front_empty (parameter_diagnostics old new from raw (parameter_named to.parameters raw.parameter.name)) (value_diagnostics new from raw.value) good.1)
    where
      value_empty : value_diagnostics new from raw.value ≡ []
      value_empty = back_empty (parameter_diagnostics old new from raw (parameter_named to.parameters raw.parameter.name)) (value_diagnostics new from raw.value) good.1

      go : (found : Option ℕ) → parameter_position to.parameters raw.parameter.name ≡ found → parameter_diagnostics old new from raw (option_and_then (slice_get to.parameters) found) ≡ [] →
          is_feed old.enums new.enums (parameter_kinds from) parameter.kind (feed_written new from raw.value) ≡ true
      go None is empty = cc
      go (Some other) is empty =
          let at : StandsAt (λ p. same_name p.name raw.parameter.name) to.parameters other = found_at (λ (p : Parameter). same_name p.name raw.parameter.name) to.parameters other is in
          let names : parameter.name ≡ at.one.name = sym (same_is at.one.name raw.parameter.name at.passes ∙ same_is raw.parameter.name parameter.name same) in
          let one : parameter ≡ at.one = same_one (λ (p : Parameter). p.name) to.parameters place other parameter at.one to_good.distinct here at.here names in
          let empty_here = subst (λ (found : Option Parameter). parameter_diagnostics old new from raw found ≡ []) at.here empty in
          let fits = holds_if_empty (value_fits old new from at.one.kind raw.value) WrongType raw.parameter.at empty_here in
          written_feed parameter.kind raw.value good.0 value_empty (subst (λ (p : Parameter). value_fits old new from p.kind raw.value ≡ true) (sym one) fits)

  module _ (feeds : List RawFeed) (all : AllByRecursion IsGoodFeed feeds) where
    one_feed : (place : ℕ) (parameter : Parameter) → slice_get to.parameters place ≡ Some parameter → gets_a_value feeds parameter ≡ true →
        is_feed old.enums new.enums (parameter_kinds from) parameter.kind (feed_for new from feeds parameter) ≡ true
    one_feed place parameter here gets = go (find (λ (raw : RawFeed). same_name raw.parameter.name parameter.name) feeds) refl
      where
        test : RawFeed → Bool
        test raw = same_name raw.parameter.name parameter.name

        -- no feed is for it, so it has a default
        has_default : (d any : Bool) → any ≡ false → (d || any) ≡ true → d ≡ true
        has_default true any e h = refl
        has_default false any e h = sym e ∙ h

        go : (found : Option RawFeed) → find (λ (raw : RawFeed). same_name raw.parameter.name parameter.name) feeds ≡ found →
            is_feed old.enums new.enums (parameter_kinds from) parameter.kind (feed_or_default new from parameter found) ≡ true
        go None is =
            let good = both_true (is_kind new.enums parameter.kind) (is_default new.enums parameter.kind parameter.default) (each_true (is_parameter new.enums) to.parameters place parameter to_good.parameters here) in
            good_default parameter.kind parameter.default good.1 (has_default (is_some parameter.default) (list_any (λ (raw : RawFeed). same_name raw.parameter.name parameter.name) feeds) (none_found (λ (raw : RawFeed). same_name raw.parameter.name parameter.name) feeds is) gets)
        go (Some raw) is =
            let one = one_found IsGoodFeed (λ (other : RawFeed). same_name other.parameter.name parameter.name) feeds raw all is in
            given_feed place parameter raw here one.0 one.1

    pub all_feeds_fit : list_all (gets_a_value feeds) to.parameters ≡ true → are_feeds old.enums new.enums (parameter_kinds from) (parameter_kinds to) (map (feed_for new from feeds) to.parameters) ≡ true
    all_feeds_fit gets = are_feeds_each old.enums new.enums (parameter_kinds from) (feed_for new from feeds) to.parameters
        (λ place parameter here. one_feed place parameter here (each_true (gets_a_value feeds) to.parameters place parameter gets here))

both_of : {A : Type 0} (P Q : A → Type 0) (xs : List A) → AllByRecursion P xs → AllByRecursion Q xs → AllByRecursion (λ x. P x × Q x) xs
both_of P Q [] all more = tt
both_of P Q (x ∷ rest) all more = ((all.0, more.0), both_of P Q rest all.1 more.1)

-- ---- rules

module _ (old new : Parts) (old_valid : valid_model old ≡ true) (new_valid : valid_model new ≡ true) where
  between_good : (raw : RawTypeRule) (from to : ℕ) (old_type new_type : Activity) → slice_get old.activities from ≡ Some old_type → slice_get new.activities to ≡ Some new_type →
      AreFeedsInRange raw.feeds → feeds_diagnostics old new raw old_type new_type ≡ [] →
      are_feeds old.enums new.enums (parameter_kinds old_type) (parameter_kinds new_type) (map (feed_for new old_type raw.feeds) new_type.parameters) ≡ true
  between_good raw from to old_type new_type here there range empty =
      let gets = refused_unless (list_all (gets_a_value raw.feeds) new_type.parameters) WrongType raw.new.at in
      let repeated = repeated_diagnostics [] (map (λ (feed : RawFeed). feed.parameter) raw.feeds) in
      let judged = all_of (feed_diagnostics old new old_type new_type) raw.feeds in
      let grouped = three gets repeated judged empty in
      let complete = holds_if_empty (list_all (gets_a_value raw.feeds) new_type.parameters) WrongType raw.new.at (front_empty gets (repeated ++ judged) grouped) in
      let each = each_empty (feed_diagnostics old new old_type new_type) raw.feeds (back_empty repeated judged (back_empty gets (repeated ++ judged) grouped)) in
      all_feeds_fit old new old_valid new_valid old_type new_type (type_good old old_valid from old_type here) (type_good new new_valid to new_type there)
      raw.feeds (both_of IsFeedInRange (λ (feed : RawFeed). feed_diagnostics old new old_type new_type feed ≡ []) raw.feeds range each) complete

  rule_good_at : (raw : RawTypeRule) (from to : Option ℕ) → type_position old raw.old.name ≡ from → type_position new raw.new.name ≡ to → is_some from ≡ true → is_some to ≡ true →
      AreFeedsInRange raw.feeds → between_diagnostics old new raw (option_and_then (slice_get old.activities) from) (option_and_then (slice_get new.activities) to) ≡ [] →
      is_rule_for old new (feeds_between new raw.feeds (option_and_then (slice_get old.activities) from) (option_and_then (slice_get new.activities) to))
      (slice_get old.activities (number_at from)) (slice_get new.activities (number_at to)) ≡ true
  rule_good_at raw None to is_from is_to known_from known_to range empty = absurd (true≢false (sym known_from))
  rule_good_at raw (Some from) None is_from is_to known_from known_to range empty = absurd (true≢false (sym known_to))
  rule_good_at raw (Some from) (Some to) is_from is_to known_from known_to range empty =
      let one : StandsAt (λ activity. same_name activity.name raw.old.name) old.activities from = found_at (λ (activity : Activity). same_name activity.name raw.old.name) old.activities from is_from in
      let other : StandsAt (λ activity. same_name activity.name raw.new.name) new.activities to = found_at (λ (activity : Activity). same_name activity.name raw.new.name) new.activities to is_to in
      let from_number : short from ≡ from = short_is from (omega (arith, one.within, few_types old old_valid)) in
      let to_number : short to ≡ to = short_is to (omega (arith, other.within, few_types new new_valid)) in
      let from_there : slice_get old.activities (short from) ≡ Some one.one = ap (slice_get old.activities) from_number ∙ one.here in
      let to_there : slice_get new.activities (short to) ≡ Some other.one = ap (slice_get new.activities) to_number ∙ other.here in
      let empty_here = subst (λ (a : Option Activity). between_diagnostics old new raw a (Some other.one) ≡ []) one.here
      (subst (λ (a : Option Activity). between_diagnostics old new raw (slice_get old.activities from) a ≡ []) other.here empty) in
      (λ i. is_rule_for old new (feeds_between new raw.feeds (one.here i) (other.here i)) (from_there i) (to_there i))
      ∙ between_good raw from to one.one other.one one.here other.here range empty_here

  pub rule_good : (raw : RawTypeRule) → IsTypeRuleInRange raw → rule_diagnostics old new raw ≡ [] → is_type_rule old new (rule_meant old new raw) ≡ true
  rule_good raw range empty =
      let is_old = refused_unless (is_some (type_position old raw.old.name)) Unknown raw.old.at in
      let is_new = refused_unless (is_some (type_position new raw.new.name)) Unknown raw.new.at in
      let between = between_diagnostics old new raw (type_named old raw.old.name) (type_named new raw.new.name) in
      let grouped = three is_old is_new between empty in
      let behind = back_empty is_old (is_new ++ between) grouped in
      rule_good_at raw (type_position old raw.old.name) (type_position new raw.new.name) refl refl
      (holds_if_empty (is_some (type_position old raw.old.name)) Unknown raw.old.at (front_empty is_old (is_new ++ between) grouped))
      (holds_if_empty (is_some (type_position new raw.new.name)) Unknown raw.new.at (front_empty is_new between behind))
      range (back_empty is_new between behind)

  rules_good : (rules : List RawTypeRule) → AllByRecursion IsTypeRuleInRange rules → AllByRecursion (λ rule. rule_diagnostics old new rule ≡ []) rules →
      list_all (is_type_rule old new) (map (rule_meant old new) rules) ≡ true
  rules_good [] range empty = refl
  rules_good (rule ∷ rest) range empty =
      and_too (is_type_rule old new (rule_meant old new rule)) (list_all (is_type_rule old new) (map (rule_meant old new) rest))
      (rule_good rule range.0 empty.0) (rules_good rest range.1 empty.1)

  pub all_rules_good : (rules : List RawTypeRule) → AllByRecursion IsTypeRuleInRange rules → rules_diagnostics old new rules ≡ [] →
      list_all (is_type_rule old new) (map (rule_meant old new) rules) ≡ true
  all_rules_good rules range empty =
      let repeated = repeated_diagnostics [] (map (λ (rule : RawTypeRule). rule.old) rules) in
      rules_good rules range (each_empty (rule_diagnostics old new) rules (back_empty repeated (all_of (rule_diagnostics old new) rules) empty))

-- ---- mappings

module _ (models : List Parts) (valid : AreValid models) (few : length models ≤ 4) where
  valid_at : (models : List Parts) (place : ℕ) (model : Parts) → AreValid models → slice_get models place ≡ Some model → valid_model model ≡ true
  valid_at [] place model all here = absurd (none-some model here)
  valid_at (first ∷ rest) zero model all here = subst (λ (m : Parts). valid_model m ≡ true) (same_Some first model here) all.0
  valid_at (first ∷ rest) (suc place) model all here = valid_at rest place model all.1 here

  mapping_good_at : (raw : RawMapping) (from to : Option ℕ) → model_position models raw.from.name ≡ from → model_position models raw.to.name ≡ to → is_some from ≡ true → is_some to ≡ true →
      IsMappingInRange raw → among_diagnostics raw.rules (option_and_then (slice_get models) from) (option_and_then (slice_get models) to) ≡ [] →
      IsMappingIn models (record { from = number_at from; to = number_at to; rules = rules_among raw.rules (option_and_then (slice_get models) from) (option_and_then (slice_get models) to) })
  mapping_good_at raw None to is_from is_to known_from known_to range empty = absurd (true≢false (sym known_from))
  mapping_good_at raw (Some from) None is_from is_to known_from known_to range empty = absurd (true≢false (sym known_to))
  mapping_good_at raw (Some from) (Some to) is_from is_to known_from known_to range empty =
      let one : StandsAt (λ model. same_name model.name raw.from.name) models from = found_at (λ (model : Parts). same_name model.name raw.from.name) models from is_from in
      let other : StandsAt (λ model. same_name model.name raw.to.name) models to = found_at (λ (model : Parts). same_name model.name raw.to.name) models to is_to in
      let from_number : short from ≡ from = short_is from (omega (arith, one.within, few)) in
      let to_number : short to ≡ to = short_is to (omega (arith, other.within, few)) in
      let empty_here = subst (λ (m : Option Parts). among_diagnostics raw.rules m (Some other.one) ≡ []) one.here
      (subst (λ (m : Option Parts). among_diagnostics raw.rules (slice_get models from) m ≡ []) other.here empty) in
      let good = all_rules_good one.one other.one (valid_at models from one.one valid one.here) (valid_at models to other.one valid other.here) raw.rules range empty_here in
      record {
        old = one.one;
        new = other.one;
        from = ap (slice_get models) from_number ∙ one.here;
        to = ap (slice_get models) to_number ∙ other.here;
        fits = (λ i. list_all (is_type_rule one.one other.one) (rules_among raw.rules (one.here i) (other.here i))) ∙ good;
      }

  mapping_good : (raw : RawMapping) → IsMappingInRange raw → mapping_diagnostics models raw ≡ [] → IsMappingIn models (mapping_meant models raw)
  mapping_good raw range empty =
      let is_old = refused_unless (is_some (model_position models raw.from.name)) Unknown raw.from.at in
      let is_new = refused_unless (is_some (model_position models raw.to.name)) Unknown raw.to.at in
      let among = among_diagnostics raw.rules (model_named models raw.from.name) (model_named models raw.to.name) in
      let grouped = three is_old is_new among empty in
      let behind = back_empty is_old (is_new ++ among) grouped in
      mapping_good_at raw (model_position models raw.from.name) (model_position models raw.to.name) refl refl
      (holds_if_empty (is_some (model_position models raw.from.name)) Unknown raw.from.at (front_empty is_old (is_new ++ among) grouped))
      (holds_if_empty (is_some (model_position models raw.to.name)) Unknown raw.to.at (front_empty is_new among behind))
      range (back_empty is_new among behind)

  pub mappings_good : (mappings : List RawMapping) → AllByRecursion IsMappingInRange mappings → AllByRecursion (λ raw. mapping_diagnostics models raw ≡ []) mappings →
      AllByRecursion (IsMappingIn models) (map (mapping_meant models) mappings)
  mappings_good [] range empty = tt
  mappings_good (raw ∷ rest) range empty = (mapping_good raw range.0 empty.0, mappings_good rest range.1 empty.1)
