-- Each template of a valid model is what a name and arguments give.
use Rattle.std.proofs.Common.{◌≡◌, ℕ, zero, suc, ◌+◌, ◌<◌, Bool, true, false, not, ◌&&◌, ◌||◌, IsTrue, List, [], ◌∷◌, ◌++◌, Option, Some, None, Result, Ok, is_some, length, map, option_map, nat_le, nat_lt, slice_get, refl, sym, ap, ◌∙◌, subst, arith, true≢false, eqb-true, ltb-true, if◌then◌else◌}
use Rattle.std.specs.Prelude.{cond, find, position, option_and_then, unwrap_or}
use Rattle.std.specs.List.{list_all, position_from}
use Rattle.std.specs.Cmp.Lexicographic.{bytes_decides}
use Rattle.std.proofs.lemmas.Iterator.Adapters.{position_from-zero}
use Rattle.std.proofs.lemmas.List.Folds.{list_any-append}
use Rattle.std.proofs.lemmas.Option.{none-some, same_Some, slice_get-map}
use Rattle.aerie_base.specs.declared.arguments.RawArgument.{RawArgument}
use Rattle.aerie_base.specs.declared.arguments.RawValue.{RawValue}
use Rattle.aerie_base.specs.declared.arguments.RawValue.TheVariants as raw
use Rattle.aerie_base.specs.declared.models.Activity.{Activity}
use Rattle.aerie_base.specs.declared.models.EnumType.{EnumType}
use Rattle.aerie_base.specs.declared.models.Parameter.{Parameter}
use Rattle.aerie_base.specs.declared.models.model.Parts.{Parts}
use Rattle.aerie_base.specs.declared.values.Kind.{Kind}
use Rattle.aerie_base.specs.declared.values.Kind.TheVariants as kind
use Rattle.aerie_base.specs.declared.values.Value.{Value}
use Rattle.aerie_base.specs.declared.values.Value.TheVariants as value
use Rattle.aerie_base.specs.expressions.Arithmetic.{value_kind}
use Rattle.aerie_base.specs.expressions.Typing.{same_kind}
use Rattle.aerie_base.specs.models.Activities.{are_parameters, are_requires, is_activity, is_parameter, is_result, parameter_names}
use Rattle.aerie_base.specs.models.Limits.{enum_limit, parameter_limit, type_limit, variant_limit}
use Rattle.aerie_base.specs.models.NameLaws.{distinct_appended}
use Rattle.aerie_base.specs.models.Names.{are_distinct, is_name_among, same_name}
use Rattle.aerie_base.specs.models.Signatures.{signatures_of}
use Rattle.aerie_base.specs.models.ValidModel.{activity_names, cell_names, enum_names, has_good_activities, has_good_enums, has_good_names, is_enum, resource_names, valid_model}
use Rattle.aerie_base.specs.models.ValidParts.{are_good}
use Rattle.aerie_base.specs.models.Values.{is_value, is_value_of, variant_count, variants_of}
use Rattle.aerie_base.specs.plans.OfModel.{are_values_of, takes}
use Rattle.plan_edit.specs.declared.errors.EditError.{EditError}
use Rattle.plan_edit.specs.Answers.{then_made_of}
use Rattle.plan_edit.specs.Arguments.{arguments_of, first_bad, is_given, parameter_value, unless_bad, value_for, value_for_parameter, value_given, value_in_front, value_or_default, values_filled, variant_written, written_variant}
use Rattle.plan_edit.specs.Editing.{given_at_position, given_of, given_to, if_met, unless_unmet}
use Rattle.plan_edit.specs.Requires.{unmet_of_type}
use Rattle.plan_edit.specs.ShownPlan.{word_of_variant}
use Rattle.goals.specs.declared.types.Template.{Template}
use Rattle.goals.specs.OfModel.{is_template}
use Rattle.scheduler.specs.Told.{EachWith}
use Rattle.scheduler.proofs.Templates.{both_hold, met_by, taken_by}

-- ---- tests

is_not : (a : Bool) → IsTrue (not a) → a ≡ false
is_not true h = absurd (true≢false (sym h))
is_not false h = refl

neither : (a b : Bool) → (a || b) ≡ false → (a ≡ false) × (b ≡ false)
neither true b h = absurd (true≢false h)
neither false b h = (refl, h)

-- ---- names

same_itself : (name : List ℕ) → same_name name name ≡ true
same_itself name = (bytes_decides name name).1 refl

same_is : (one other : List ℕ) → same_name one other ≡ true → one ≡ other
same_is one other h = (bytes_decides one other).0 h

same_swapped : (one other : List ℕ) → same_name one other ≡ false → same_name other one ≡ false
same_swapped one other h = go (same_name other one) refl
  where
    go : (t : Bool) → same_name other one ≡ t → t ≡ false
    go true e = absurd (true≢false (sym (same_itself one) ∙ ap (same_name one) (sym (same_is other one e)) ∙ h))
    go false e = refl

-- one that stands among names is none of those before it
apart_at : (name : List ℕ) (names : List (List ℕ)) (at : ℕ) (other : List ℕ) → is_name_among name names ≡ false → slice_get names at ≡ Some other → same_name name other ≡ false
apart_at name [] at other none here = absurd (none-some other here)
apart_at name (first ∷ rest) zero other none here =
    ap (same_name name) (sym (same_Some first other here)) ∙ (neither (same_name name first) (is_name_among name rest) none).0
apart_at name (first ∷ rest) (suc at) other none here = apart_at name rest at other (neither (same_name name first) (is_name_among name rest) none).1 here

-- of names that differ, one stands at one place
one_position : (names : List (List ℕ)) (i j : ℕ) (name : List ℕ) → IsTrue (are_distinct names) → slice_get names i ≡ Some name → slice_get names j ≡ Some name → i ≡ j
one_position [] i j name distinct here there = absurd (none-some name here)
one_position (first ∷ rest) zero zero name distinct here there = refl
one_position (first ∷ rest) zero (suc j) name distinct here there =
    let none = is_not (is_name_among first rest) (both_hold (not (is_name_among first rest)) (are_distinct rest) distinct).0 in
    absurd (true≢false (sym (same_itself first) ∙ ap (same_name first) (same_Some first name here) ∙ apart_at first rest j name none there))
one_position (first ∷ rest) (suc i) zero name distinct here there =
    let none = is_not (is_name_among first rest) (both_hold (not (is_name_among first rest)) (are_distinct rest) distinct).0 in
    absurd (true≢false (sym (same_itself first) ∙ ap (same_name first) (same_Some first name there) ∙ apart_at first rest i name none here))
one_position (first ∷ rest) (suc i) (suc j) name distinct here there =
    ap suc (one_position rest i j name (both_hold (not (is_name_among first rest)) (are_distinct rest) distinct).1 here there)

only_position : {A : Type 0} (name : A → List ℕ) (xs : List A) (at : ℕ) (x : A) → IsTrue (are_distinct (map name xs)) → slice_get xs at ≡ Some x →
    (k : ℕ) (y : A) → slice_get xs k ≡ Some y → same_name (name y) (name x) ≡ true → k ≡ at
only_position name xs at x distinct here k y there same =
    one_position (map name xs) k at (name x) distinct
    (slice_get-map name xs k ∙ ap (option_map name) there ∙ ap Some (same_is (name y) (name x) same))
    (slice_get-map name xs at ∙ ap (option_map name) here)

-- ---- what alone passes is found

other_fails : {A : Type 0} (test : A → Bool) (first : A) (rest : List A) (at : ℕ) →
    ((k : ℕ) (y : A) → slice_get (first ∷ rest) k ≡ Some y → test y ≡ true → k ≡ suc at) → test first ≡ false
other_fails test first rest at only = go (test first) refl
  where
    go : (t : Bool) → test first ≡ t → t ≡ false
    go true e = let none = only 0 first refl e in absurd (omega (arith, none))
    go false e = refl

found_at_position : {A : Type 0} (test : A → Bool) (xs : List A) (from at : ℕ) (x : A) → slice_get xs at ≡ Some x → test x ≡ true →
    ((k : ℕ) (y : A) → slice_get xs k ≡ Some y → test y ≡ true → k ≡ at) → position_from test from xs ≡ Some (from + at)
found_at_position test [] from at x here passes only = absurd (none-some x here)
found_at_position test (first ∷ rest) from zero x here passes only =
    let same : from ≡ from + 0 = omega arith in
    ap (λ (t : Bool). cond t (Some from) (position_from test (from + 1) rest)) (ap test (same_Some first x here) ∙ passes) ∙ ap Some same
found_at_position test (first ∷ rest) from (suc at) x here passes only =
    let same : from + 1 + at ≡ from + suc at = omega arith in
    ap (λ (t : Bool). cond t (Some from) (position_from test (from + 1) rest)) (other_fails test first rest at only)
    ∙ found_at_position test rest (from + 1) at x here passes (λ k y there is. let next = only (suc k) y there is in omega (arith, next))
    ∙ ap Some same

position_found : {A : Type 0} (test : A → Bool) (xs : List A) (at : ℕ) (x : A) → slice_get xs at ≡ Some x → test x ≡ true →
    ((k : ℕ) (y : A) → slice_get xs k ≡ Some y → test y ≡ true → k ≡ at) → position test xs ≡ Some at
position_found test xs at x here passes only =
    let same : 0 + at ≡ at = omega arith in
    position_from-zero test xs ∙ found_at_position test xs 0 at x here passes only ∙ ap Some same

one_found : {A : Type 0} (test : A → Bool) (xs : List A) (at : ℕ) (x : A) → slice_get xs at ≡ Some x → test x ≡ true →
    ((k : ℕ) (y : A) → slice_get xs k ≡ Some y → test y ≡ true → k ≡ at) → find test xs ≡ Some x
one_found test [] at x here passes only = absurd (none-some x here)
one_found test (first ∷ rest) zero x here passes only =
    ap (λ (t : Bool). cond t (Some first) (find test rest)) (ap test (same_Some first x here) ∙ passes) ∙ here
one_found test (first ∷ rest) (suc at) x here passes only =
    ap (λ (t : Bool). cond t (Some first) (find test rest)) (other_fails test first rest at only)
    ∙ one_found test rest at x here passes (λ k y there is. let next = only (suc k) y there is in omega (arith, next))

each_at : {A : Type 0} (test : A → Bool) (xs : List A) (at : ℕ) (x : A) → IsTrue (list_all test xs) → slice_get xs at ≡ Some x → IsTrue (test x)
each_at test [] at x all here = absurd (none-some x here)
each_at test (first ∷ rest) zero x all here = ap test (sym (same_Some first x here)) ∙ (both_hold (test first) (list_all test rest) all).0
each_at test (first ∷ rest) (suc at) x all here = each_at test rest at x (both_hold (test first) (list_all test rest) all).1 here

some_at : {A : Type 0} (xs : List A) (at : ℕ) → at < length xs → (x : A) × (slice_get xs at ≡ Some x)
some_at [] at less = absurd (omega (arith, less))
some_at (first ∷ rest) zero less = (first, refl)
some_at (first ∷ rest) (suc at) less = some_at rest at (omega (arith, less))

-- ---- a value as a client writes it

abbrev pub raw_of : List EnumType → Value → RawValue
raw_of enums (value.Int number) = raw.Int number
raw_of enums (value.Truth truth) = raw.Truth truth
raw_of enums (value.Variant kind number) = raw.Word (unwrap_or (word_of_variant enums kind number) [])

same_behind : (name one other : List ℕ) → same_name (name ++ 46 ∷ one) (name ++ 46 ∷ other) ≡ true → one ≡ other
same_behind name one other h = cut name (same_is (name ++ 46 ∷ one) (name ++ 46 ∷ other) h)
  where
    cut : (front : List ℕ) → front ++ 46 ∷ one ≡ front ++ 46 ∷ other → one ≡ other
    cut [] e = cc
    cut (first ∷ front) e = let less : front ++ 46 ∷ one ≡ front ++ 46 ∷ other = cc in cut front less

names_themselves : (names : List (List ℕ)) → map (λ name. name) names ≡ names
names_themselves [] = refl
names_themselves (name ∷ rest) = ap (λ (xs : List (List ℕ)). name ∷ xs) (names_themselves rest)

variant_found : (enum : EnumType) (at : ℕ) (variant : List ℕ) → IsTrue (are_distinct enum.variants) → slice_get enum.variants at ≡ Some variant →
    variant_written (Some enum) (written_variant enum variant) ≡ Some at
variant_found enum at variant distinct here =
    position_found (λ (other : List ℕ). same_name (written_variant enum other) (written_variant enum variant)) enum.variants at variant here
    (same_itself (written_variant enum variant))
    (λ k other there same. one_position enum.variants k at variant distinct (there ∙ ap Some (same_behind enum.name other variant same)) here)

module _ (enums : List EnumType) (good : IsTrue (list_all is_enum enums)) where
  variant_there : (at number : ℕ) → IsTrue (nat_lt number (variant_count enums at)) →
      (enum : EnumType) × ((slice_get enums at ≡ Some enum) × ((variant : List ℕ) × (slice_get enum.variants number ≡ Some variant)))
  variant_there at number less = go (slice_get enums at) refl less
    where
      go : (found : Option EnumType) → slice_get enums at ≡ found → IsTrue (nat_lt number (variants_of found)) →
          (enum : EnumType) × ((slice_get enums at ≡ Some enum) × ((variant : List ℕ) × (slice_get enum.variants number ≡ Some variant)))
      go None is h = let none = ltb-true number 0 h in absurd (omega (arith, none))
      go (Some enum) is h = (enum, (is, some_at enum.variants number (ltb-true number (length enum.variants) h)))

  variant_given : (at number : ℕ) → IsTrue (nat_lt number (variant_count enums at)) →
      value_given enums (kind.Enum at) (raw_of enums (value.Variant at number)) ≡ Some (value.Variant at number)
  variant_given at number less =
      let found = variant_there at number less in
      let enum = found.0 in
      let variant = found.1.1.0 in
      let sizes = each_at is_enum enums at enum good found.1.0 in
      let distinct = (both_hold (nat_le 1 (length enum.variants) && nat_le (length enum.variants) variant_limit) (are_distinct enum.variants) sizes).1 in
      let word : unwrap_or (word_of_variant enums at number) [] ≡ written_variant enum variant =
      ap (λ (o : Option EnumType). unwrap_or (option_and_then (λ (e : EnumType). option_map (written_variant e) (slice_get e.variants number)) o) []) found.1.0
      ∙ ap (λ (o : Option (List ℕ)). unwrap_or (option_map (written_variant enum) o) []) found.1.1.1 in
      ap (λ (xs : List ℕ). option_map (value.Variant at) (variant_written (slice_get enums at) xs)) word
      ∙ ap (λ (o : Option EnumType). option_map (value.Variant at) (variant_written o (written_variant enum variant))) found.1.0
      ∙ ap (option_map (value.Variant at)) (variant_found enum number variant distinct found.1.1.1)

  -- what is written of a value gives the value
  given_again : (of : Kind) (given : Value) → IsTrue (is_value_of enums of given) → value_given enums of (raw_of enums given) ≡ Some given
  given_again of given is = go of given (both_hold (same_kind (value_kind given) of) (is_value enums given) is)
    where
      go : (of : Kind) (given : Value) → IsTrue (same_kind (value_kind given) of) × IsTrue (is_value enums given) → value_given enums of (raw_of enums given) ≡ Some given
      go kind.Int (value.Int z) h = ap (λ (t : Bool). option_map value.Int (if t then Some z else None)) h.1
      go kind.Int (value.Truth t) h = absurd (true≢false (sym h.0))
      go kind.Int (value.Variant k n) h = absurd (true≢false (sym h.0))
      go kind.Truth (value.Int z) h = absurd (true≢false (sym h.0))
      go kind.Truth (value.Truth t) h = refl
      go kind.Truth (value.Variant k n) h = absurd (true≢false (sym h.0))
      go (kind.Enum a) (value.Int z) h = absurd (true≢false (sym h.0))
      go (kind.Enum a) (value.Truth t) h = absurd (true≢false (sym h.0))
      go (kind.Enum a) (value.Variant k n) h =
          subst (λ (b : ℕ). value_given enums (kind.Enum b) (raw_of enums (value.Variant k n)) ≡ Some (value.Variant k n)) (eqb-true k a h.0) (variant_given k n h.1)

-- ---- an argument for each parameter

abbrev pub raw_for : List EnumType → Parameter → Value → RawArgument
raw_for enums parameter given = record { name = parameter.name; value = raw_of enums given }

abbrev pub raws_for : List EnumType → List Parameter → List Value → List RawArgument
raws_for enums [] values = []
raws_for enums (parameter ∷ rest) [] = []
raws_for enums (parameter ∷ rest) (given ∷ values) = raw_for enums parameter given ∷ raws_for enums rest values

abbrev name_of : Parameter → List ℕ
name_of parameter = parameter.name

module _ (enums : List EnumType) (good : IsTrue (list_all is_enum enums)) where
  raw_at : (parameters : List Parameter) (values : List Value) (at : ℕ) (parameter : Parameter) (given : Value) → slice_get parameters at ≡ Some parameter →
      slice_get values at ≡ Some given → slice_get (raws_for enums parameters values) at ≡ Some (raw_for enums parameter given)
  raw_at [] values at parameter given here there = absurd (none-some parameter here)
  raw_at (first ∷ rest) [] at parameter given here there = absurd (none-some given there)
  raw_at (first ∷ rest) (one ∷ values) zero parameter given here there = λ i. Some (raw_for enums (same_Some first parameter here i) (same_Some one given there i))
  raw_at (first ∷ rest) (one ∷ values) (suc at) parameter given here there = raw_at rest values at parameter given here there

  parameter_at : (parameters : List Parameter) (values : List Value) (at : ℕ) (one : RawArgument) → slice_get (raws_for enums parameters values) at ≡ Some one →
      (parameter : Parameter) × ((slice_get parameters at ≡ Some parameter) × (parameter.name ≡ one.name))
  parameter_at [] values at one here = absurd (none-some one here)
  parameter_at (first ∷ rest) [] at one here = absurd (none-some one here)
  parameter_at (first ∷ rest) (given ∷ values) zero one here = (first, (refl, ap (λ (r : RawArgument). r.name) (same_Some (raw_for enums first given) one here)))
  parameter_at (first ∷ rest) (given ∷ values) (suc at) one here = parameter_at rest values at one here

  -- each parameter with the value at its place
  each_pair : (P : Parameter → Value → Type 0) (parameters : List Parameter) (values : List Value) → IsTrue (are_values_of enums (map (λ (p : Parameter). p.kind) parameters) values) →
      ((at : ℕ) (parameter : Parameter) (given : Value) → slice_get parameters at ≡ Some parameter → slice_get values at ≡ Some given → IsTrue (is_value_of enums parameter.kind given) → P parameter given) →
      EachWith P parameters values
  each_pair P [] [] are each = tt
  each_pair P [] (given ∷ values) are each = absurd (true≢false (sym are))
  each_pair P (parameter ∷ rest) [] are each = absurd (true≢false (sym are))
  each_pair P (parameter ∷ rest) (given ∷ values) are each =
      let two = both_hold (is_value_of enums parameter.kind given) (are_values_of enums (map (λ (p : Parameter). p.kind) rest) values) are in (
        each 0 parameter given refl refl two.0,
        each_pair P rest values two.1 (λ at other value here there. each (suc at) other value here there),
      )

  -- a value for each of them
  filled_with : (all : List RawArgument) (parameters : List Parameter) (values : List Value) → EachWith (λ parameter given. parameter_value enums all parameter ≡ Some given) parameters values →
      values_filled enums all parameters ≡ Ok values
  filled_with all [] [] each = refl
  filled_with all [] (given ∷ values) each = absurd each
  filled_with all (parameter ∷ rest) [] each = absurd each
  filled_with all (parameter ∷ rest) (given ∷ values) each =
      ap (λ (r : Result (List Value) EditError). value_in_front parameter.name r (parameter_value enums all parameter)) (filled_with all rest values each.1)
      ∙ ap (value_in_front parameter.name (Ok values)) each.0

  -- none of them is bad
  none_bad : (all : List Parameter) (front : List RawArgument) (parameters : List Parameter) (values : List Value) → IsTrue (are_distinct (map name_of parameters)) →
      ((at : ℕ) (parameter : Parameter) → slice_get parameters at ≡ Some parameter → is_given front parameter.name ≡ false) →
      EachWith (λ parameter given. value_for enums all parameter.name (raw_of enums given) ≡ Some given) parameters values →
      first_bad enums all front (raws_for enums parameters values) ≡ None
  none_bad all front [] [] distinct apart each = refl
  none_bad all front [] (given ∷ values) distinct apart each = absurd each
  none_bad all front (parameter ∷ rest) [] distinct apart each = absurd each
  none_bad all front (parameter ∷ rest) (given ∷ values) distinct apart each =
      let one = raw_for enums parameter given in
      let parts = both_hold (not (is_name_among parameter.name (map name_of rest))) (are_distinct (map name_of rest)) distinct in
      let none = is_not (is_name_among parameter.name (map name_of rest)) parts.0 in
      (λ i. if (apart 0 parameter refl i || not (is_some (each.0 i))) then Some parameter.name else first_bad enums all (front ++ one ∷ []) (raws_for enums rest values))
      ∙ none_bad all (front ++ one ∷ []) rest values parts.1
      (λ at other there.
      list_any-append (λ (argument : RawArgument). same_name other.name argument.name) front (one ∷ [])
      ∙ (λ i. apart (suc at) other there i || (same_swapped parameter.name other.name
      (apart_at parameter.name (map name_of rest) at other.name none (slice_get-map name_of rest at ∙ ap (option_map name_of) there)) i || false)))
      each.1

  module _ (parameters : List Parameter) (values : List Value) (are : IsTrue (are_values_of enums (map (λ (p : Parameter). p.kind) parameters) values))
      (distinct : IsTrue (are_distinct (map name_of parameters))) where
    all_given : EachWith (λ parameter given. value_for enums parameters parameter.name (raw_of enums given) ≡ Some given) parameters values
    all_given =
        each_pair (λ parameter given. value_for enums parameters parameter.name (raw_of enums given) ≡ Some given) parameters values are
        (λ at parameter given here there is.
        ap (λ (place : Option ℕ). value_for_parameter enums (option_and_then (slice_get parameters) place) (raw_of enums given))
        (position_found (λ (p : Parameter). same_name p.name parameter.name) parameters at parameter here (same_itself parameter.name)
        (only_position name_of parameters at parameter distinct here))
        ∙ ap (λ (found : Option Parameter). value_for_parameter enums found (raw_of enums given)) here
        ∙ given_again enums good parameter.kind given is)

    all_filled : EachWith (λ parameter given. parameter_value enums (raws_for enums parameters values) parameter ≡ Some given) parameters values
    all_filled =
        each_pair (λ parameter given. parameter_value enums (raws_for enums parameters values) parameter ≡ Some given) parameters values are
        (λ at parameter given here there is.
        ap (value_or_default enums parameter)
        (one_found (λ (argument : RawArgument). same_name argument.name parameter.name) (raws_for enums parameters values) at (raw_for enums parameter given)
        (raw_at parameters values at parameter given here there) (same_itself parameter.name)
        (λ k one found same.
        let of = parameter_at parameters values k one found in
        only_position name_of parameters at parameter distinct here k of.0 of.1.0 (ap (λ (name : List ℕ). same_name name parameter.name) of.1.1 ∙ same)))
        ∙ given_again enums good parameter.kind given is)

    given_values : arguments_of enums parameters (raws_for enums parameters values) ≡ Ok values
    given_values =
        ap (λ (bad : Option (List ℕ)). unless_bad bad (values_filled enums (raws_for enums parameters values) parameters))
        (none_bad parameters [] parameters values distinct (λ at parameter here. refl) all_given)
        ∙ filled_with (raws_for enums parameters values) parameters values all_filled

-- ---- a valid model

last_of : (a b : Bool) → IsTrue (a && b) → IsTrue b
last_of a b h = (both_hold a b h).1

types_differ : (model : Parts) → IsTrue (valid_model model) → IsTrue (are_distinct (activity_names model))
unfolding has_good_names
types_differ model valid =
    let front = enum_names model ++ cell_names model in
    let all = (both_hold (are_distinct (front ++ activity_names model)) (are_distinct (resource_names model)) (are_good model valid).names).0 in
    last_of _ (are_distinct (activity_names model)) (sym (distinct_appended front (activity_names model)) ∙ all)

enums_good : (model : Parts) → IsTrue (valid_model model) → IsTrue (list_all is_enum model.enums)
unfolding has_good_enums
enums_good model valid = last_of (nat_le (length model.enums) enum_limit) (list_all is_enum model.enums) (are_good model valid).enums

parameters_differ : (model : Parts) → IsTrue (valid_model model) → (at : ℕ) (activity : Activity) → slice_get model.activities at ≡ Some activity → IsTrue (are_distinct (parameter_names activity))
unfolding has_good_activities is_activity
parameters_differ model valid at activity here =
    let taken = enum_names model ++ cell_names model in
    let each = is_activity model.enums model.cells (signatures_of model.activities) taken in
    let is = each_at each model.activities at activity (last_of (nat_le (length model.activities) type_limit) (list_all each model.activities) (are_good model valid).activities) here in
    let first = both_hold (are_parameters model.enums taken activity && are_requires model.enums activity && is_result model.enums activity.result activity.body) _ is in
    let second = both_hold (are_parameters model.enums taken activity && are_requires model.enums activity) (is_result model.enums activity.result activity.body) first.0 in
    let third = both_hold (are_parameters model.enums taken activity) (are_requires model.enums activity) second.0 in
    let names = both_hold (nat_le (length activity.parameters) parameter_limit && list_all (is_parameter model.enums) activity.parameters && are_distinct (parameter_names activity)) _ third.0 in
    last_of (nat_le (length activity.parameters) parameter_limit && list_all (is_parameter model.enums) activity.parameters) (are_distinct (parameter_names activity)) names.0

-- ---- templates

pub record IsGivenBy (model : Parts) (template : Template) : Type 0 where
  pub name : List ℕ
  pub arguments : List RawArgument
  pub gives : given_of model name arguments ≡ Ok (record { kind = template.kind; arguments = template.arguments })

pub template_given : (model : Parts) (template : Template) → IsTrue (valid_model model) → IsTrue (is_template model template) → IsGivenBy model template
template_given model template valid good =
    go (slice_get model.activities template.kind) refl (taken_by model template good) (met_by model template good)
  where
    go : (found : Option Activity) → slice_get model.activities template.kind ≡ found → IsTrue (takes model.enums found template.arguments) →
        unmet_of_type found template.arguments ≡ None → IsGivenBy model template
    go None here taken met = absurd (true≢false (sym taken))
    go (Some activity) here taken met =
        let raws = raws_for model.enums activity.parameters template.arguments in record {
          name = activity.name;
          arguments = raws;
          gives =
              ap (given_at_position model raws)
              (position_found (λ (other : Activity). same_name other.name activity.name) model.activities template.kind activity here (same_itself activity.name)
              (only_position (λ (other : Activity). other.name) model.activities template.kind activity (types_differ model valid) here))
              ∙ ap (given_to model template.kind raws) here
              ∙ ap (λ (r : Result (List Value) EditError). then_made_of (λ values. Ok (record { kind = template.kind; arguments = values })) (then_made_of (if_met activity) r))
              (given_values model.enums (enums_good model valid) activity.parameters template.arguments taken (parameters_differ model valid template.kind activity here))
              ∙ ap (λ (unmet : Option ℕ). then_made_of (λ values. Ok (record { kind = template.kind; arguments = values })) (unless_unmet unmet template.arguments)) met;
        }
