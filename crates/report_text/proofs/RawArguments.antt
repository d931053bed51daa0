-- Arguments in the order of their names: each is found by its name, and none is bad.
use Rattle.std.proofs.Common.{◌≡◌, ℕ, suc, ◌+◌, ◌||◌, Bool, true, false, not, IsTrue, List, [], ◌∷◌, ◌++◌, Option, Some, None, Result, Ok, cond, is_some, map, slice_get, refl, sym, ap, ◌∙◌, arith, true≢false, if◌then◌else◌}
use Rattle.std.specs.Prelude.{option_and_then, find, unwrap_or}
use Rattle.std.specs.List.{list_any}
use Rattle.std.specs.Ordering.{match_ordering, nat_cmp}
use Rattle.std.specs.Cmp.Lexicographic.{slice_cmp}
use Rattle.std.specs.declared.cmp.Ordering.{Ordering}
use Rattle.std.specs.declared.cmp.Ordering.TheVariants.{Less, Equal, Greater}
use Rattle.std.proofs.lemmas.List.Folds.{list_any-append}
use Rattle.std.proofs.lemmas.Map.Lookups.{exact_bytes}
use Rattle.std.proofs.lemmas.Option.{none-some}
use Rattle.aerie_base.specs.declared.values.Value.{Value}
use Rattle.aerie_base.specs.declared.values.Value.TheVariants as value
use Rattle.aerie_base.specs.declared.arguments.RawValue.{RawValue}
use Rattle.aerie_base.specs.declared.arguments.RawValue.TheVariants as raw
use Rattle.aerie_base.specs.declared.arguments.RawArgument.{RawArgument}
use Rattle.aerie_base.specs.declared.models.EnumType.{EnumType}
use Rattle.aerie_base.specs.declared.models.Parameter.{Parameter}
use Rattle.aerie_base.specs.models.Names.{same_name, is_name_among, are_distinct}
use Rattle.plan_edit.specs.declared.errors.EditError.{EditError}
use Rattle.plan_edit.specs.Arguments.{arguments_of, first_bad, is_given, parameter_position, parameter_value, unless_bad, value_for, value_for_parameter, value_given, value_in_front, value_or_default, values_filled}
use Rattle.plan_edit.specs.ShownPlan.{word_of_variant}
use Rattle.report_text.proofs.FirstPositions.{both, is_not, neither, position_of_name, position_is, same_is, same_itself, same_swapped}

-- ---- in the order of names

abbrev pub put_raw : RawArgument → List RawArgument → List RawArgument
put_raw one [] = one ∷ []
put_raw one (other ∷ rest) =
    match_ordering (slice_cmp nat_cmp one.name other.name) (one ∷ other ∷ rest) (record { name = other.name; value = one.value } ∷ rest) (other ∷ put_raw one rest)

abbrev pub has_name : List ℕ → List RawArgument → Bool
has_name name arguments = list_any (λ argument. same_name argument.name name) arguments

-- one of another name is put in front or behind
put_by : (P : List RawArgument → Type 0) (one other : RawArgument) (rest : List RawArgument) → same_name other.name one.name ≡ false →
    P (one ∷ other ∷ rest) → P (other ∷ put_raw one rest) → P (put_raw one (other ∷ rest))
put_by P one other rest apart front behind = go (slice_cmp nat_cmp one.name other.name) refl
  where
    go : (o : Ordering) → o ≡ slice_cmp nat_cmp one.name other.name →
        P (match_ordering o (one ∷ other ∷ rest) (record { name = other.name; value = one.value } ∷ rest) (other ∷ put_raw one rest))
    go Less is = front
    go Equal is = absurd (true≢false (sym (same_itself one.name) ∙ ap (λ (n : List ℕ). same_name n one.name) (exact_bytes one.name other.name (sym is)) ∙ apart))
    go Greater is = behind

swapped : (a b : Bool) (x y z : Option RawArgument) → (a ≡ true → b ≡ true → ⊥) → cond b y (cond a x z) ≡ cond a x (cond b y z)
swapped true true x y z apart = absurd (apart refl refl)
swapped true false x y z apart = refl
swapped false true x y z apart = refl
swapped false false x y z apart = refl

or_swapped : (a b c : Bool) → (b || (a || c)) ≡ (a || (b || c))
or_swapped true true c = refl
or_swapped true false c = refl
or_swapped false true c = refl
or_swapped false false c = refl

pub found_put : (name : List ℕ) (one : RawArgument) (xs : List RawArgument) → has_name one.name xs ≡ false →
    find (λ argument. same_name argument.name name) (put_raw one xs)
    ≡ cond (same_name one.name name) (Some one) (find (λ argument. same_name argument.name name) xs)
found_put name one [] fresh = refl
found_put name one (other ∷ rest) fresh =
    let apart = neither (same_name other.name one.name) (has_name one.name rest) fresh in
    put_by
    (λ ys. find (λ (argument : RawArgument). same_name argument.name name) ys
    ≡ cond (same_name one.name name) (Some one) (cond (same_name other.name name) (Some other) (find (λ (argument : RawArgument). same_name argument.name name) rest)))
    one other rest apart.0 refl
    (ap (λ (o : Option RawArgument). cond (same_name other.name name) (Some other) o) (found_put name one rest apart.1)
    ∙ swapped (same_name one.name name) (same_name other.name name) (Some one) (Some other) (find (λ (argument : RawArgument). same_name argument.name name) rest)
    (λ h k. true≢false (sym (same_itself other.name) ∙ ap (same_name other.name) (same_is other.name name k ∙ sym (same_is one.name name h)) ∙ apart.0)))

pub has_put : (name : List ℕ) (one : RawArgument) (xs : List RawArgument) → has_name one.name xs ≡ false →
    has_name name (put_raw one xs) ≡ (same_name one.name name || has_name name xs)
has_put name one [] fresh = refl
has_put name one (other ∷ rest) fresh =
    let apart = neither (same_name other.name one.name) (has_name one.name rest) fresh in
    put_by (λ ys. has_name name ys ≡ (same_name one.name name || (same_name other.name name || has_name name rest))) one other rest apart.0 refl
    (ap (λ (b : Bool). same_name other.name name || b) (has_put name one rest apart.1)
    ∙ or_swapped (same_name one.name name) (same_name other.name name) (has_name name rest))

-- ---- none is bad

or_none : (b : Bool) → (b || false) ≡ b
or_none true = refl
or_none false = refl

or_last : (a b c : Bool) → ((a || b) || c) ≡ ((a || c) || b)
or_last true b c = refl
or_last false true true = refl
or_last false true false = refl
or_last false false true = refl
or_last false false false = refl

given_more : (before : List RawArgument) (one : RawArgument) (name : List ℕ) → is_given (before ++ one ∷ []) name ≡ (is_given before name || same_name name one.name)
given_more before one name =
    list_any-append (λ (argument : RawArgument). same_name name argument.name) before (one ∷ [])
    ∙ ap (λ (b : Bool). is_given before name || b) (or_none (same_name name one.name))

module _ (enums : List EnumType) (parameters : List Parameter) where
  -- its value is one of the parameter of its name
  abbrev IsFine : RawArgument → Type 0
  IsFine one = is_some (value_for enums parameters one.name one.value) ≡ true

  split_bad : (before : List RawArgument) (one : RawArgument) (rest : List RawArgument) → first_bad enums parameters before (one ∷ rest) ≡ None →
      (is_given before one.name ≡ false) × (IsFine one × (first_bad enums parameters (before ++ one ∷ []) rest ≡ None))
  split_bad before one rest none = go (is_given before one.name) (is_some (value_for enums parameters one.name one.value)) none
    where
      go : (g f : Bool) → (if (g || not f) then Some one.name else first_bad enums parameters (before ++ one ∷ []) rest) ≡ None →
          (g ≡ false) × ((f ≡ true) × (first_bad enums parameters (before ++ one ∷ []) rest ≡ None))
      go true f h = absurd (none-some one.name (sym h))
      go false true h = (refl, (refl, h))
      go false false h = absurd (none-some one.name (sym h))

  join_bad : (before : List RawArgument) (one : RawArgument) (rest : List RawArgument) → is_given before one.name ≡ false → IsFine one →
      first_bad enums parameters (before ++ one ∷ []) rest ≡ None → first_bad enums parameters before (one ∷ rest) ≡ None
  join_bad before one rest new fine none =
      ap (λ (b : Bool). if (b || not (is_some (value_for enums parameters one.name one.value))) then Some one.name else first_bad enums parameters (before ++ one ∷ []) rest) new
      ∙ ap (λ (b : Bool). if not b then Some one.name else first_bad enums parameters (before ++ one ∷ []) rest) fine
      ∙ none

  -- another name is given before
  more_given : (xs before after : List RawArgument) (name : List ℕ) → ((other : List ℕ) → is_given after other ≡ (is_given before other || same_name other name)) →
      has_name name xs ≡ false → first_bad enums parameters before xs ≡ None → first_bad enums parameters after xs ≡ None
  more_given [] before after name is fresh none = refl
  more_given (x ∷ xs) before after name is fresh none =
      let parts = split_bad before x xs none in
      let apart = neither (same_name x.name name) (has_name name xs) fresh in
      join_bad after x xs
      (is x.name ∙ ap (λ (b : Bool). b || same_name x.name name) parts.0 ∙ apart.0)
      parts.1.0
      (more_given xs (before ++ x ∷ []) (after ++ x ∷ []) name
      (λ other. given_more after x other ∙ ap (λ (b : Bool). b || same_name other x.name) (is other)
      ∙ or_last (is_given before other) (same_name other name) (same_name other x.name)
      ∙ ap (λ (b : Bool). b || same_name other name) (sym (given_more before x other)))
      apart.1 parts.1.1)

  put_bad : (xs before : List RawArgument) (one : RawArgument) → IsFine one → is_given before one.name ≡ false → has_name one.name xs ≡ false →
      first_bad enums parameters before xs ≡ None → first_bad enums parameters before (put_raw one xs) ≡ None
  put_bad [] before one fine new fresh none = join_bad before one [] new fine refl
  put_bad (x ∷ xs) before one fine new fresh none =
      let apart = neither (same_name x.name one.name) (has_name one.name xs) fresh in
      let parts = split_bad before x xs none in
      put_by (λ ys. first_bad enums parameters before ys ≡ None) one x xs apart.0
      (join_bad before one (x ∷ xs) new fine (more_given (x ∷ xs) before (before ++ one ∷ []) one.name (given_more before one) fresh none))
      (join_bad before x (put_raw one xs) parts.0 parts.1.0
      (put_bad xs (before ++ x ∷ []) one fine
      (given_more before x one.name ∙ ap (λ (b : Bool). b || same_name one.name x.name) new ∙ same_swapped x.name one.name apart.0)
      apart.1 parts.1.1))

-- ---- the arguments of a directive

abbrev pub raw_of : List EnumType → Value → RawValue
raw_of enums (value.Int number) = raw.Int number
raw_of enums (value.Truth truth) = raw.Truth truth
raw_of enums (value.Variant kind number) = raw.Word (unwrap_or (word_of_variant enums kind number) [])

abbrev pub raw_for : List EnumType → Parameter → Value → RawArgument
raw_for enums parameter value = record { name = parameter.name; value = raw_of enums value }

-- values by the names of their parameters, put among others
abbrev pub raws_with : List EnumType → List RawArgument → List Parameter → List Value → List RawArgument
raws_with enums front [] values = front
raws_with enums front (parameter ∷ rest) [] = front
raws_with enums front (parameter ∷ rest) (value ∷ values) = raws_with enums (put_raw (raw_for enums parameter value) front) rest values

-- a value for each parameter, which is read from what is written of it
abbrev pub AreGiven : List EnumType → List Parameter → List Value → Type 0
AreGiven enums [] [] = Unit {0}
AreGiven enums [] (value ∷ values) = ⊥
AreGiven enums (parameter ∷ rest) [] = ⊥
AreGiven enums (parameter ∷ rest) (value ∷ values) = (value_given enums parameter.kind (raw_of enums value) ≡ Some value) × AreGiven enums rest values

-- none of the parameters is among arguments
abbrev pub AreApart : List RawArgument → List Parameter → Type 0
AreApart front [] = Unit {0}
AreApart front (parameter ∷ rest) = (has_name parameter.name front ≡ false) × AreApart front rest

abbrev pub names_of : List Parameter → List (List ℕ)
names_of parameters = map (λ parameter. parameter.name) parameters

none_there : (parameters : List Parameter) → AreApart [] parameters
none_there [] = tt
none_there (parameter ∷ rest) = (refl, none_there rest)

apart_put : (front : List RawArgument) (one : RawArgument) (parameters : List Parameter) → has_name one.name front ≡ false → is_name_among one.name (names_of parameters) ≡ false →
    AreApart front parameters → AreApart (put_raw one front) parameters
apart_put front one [] fresh none apart = tt
apart_put front one (parameter ∷ rest) fresh none apart =
    let parts = neither (same_name one.name parameter.name) (is_name_among one.name (names_of rest)) none in
    (has_put parameter.name one front fresh ∙ ap (λ (b : Bool). b || has_name parameter.name front) parts.0 ∙ apart.0, apart_put front one rest fresh parts.1 apart.1)

module _ (enums : List EnumType) where
  -- an argument of another name is found as before
  kept : (front : List RawArgument) (parameters : List Parameter) (values : List Value) (name : List ℕ) → IsTrue (are_distinct (names_of parameters)) → AreApart front parameters →
      is_name_among name (names_of parameters) ≡ false →
      find (λ argument. same_name argument.name name) (raws_with enums front parameters values) ≡ find (λ argument. same_name argument.name name) front
  kept front [] values name distinct apart none = refl
  kept front (parameter ∷ rest) [] name distinct apart none = refl
  kept front (parameter ∷ rest) (value ∷ values) name distinct apart none =
      let parts = both (not (is_name_among parameter.name (names_of rest))) (are_distinct (names_of rest)) distinct in
      let others = is_not (is_name_among parameter.name (names_of rest)) parts.0 in
      let away = neither (same_name name parameter.name) (is_name_among name (names_of rest)) none in
      let one = raw_for enums parameter value in
      kept (put_raw one front) rest values name parts.1 (apart_put front one rest apart.0 others apart.1) away.1
      ∙ found_put name one front apart.0
      ∙ ap (λ (b : Bool). cond b (Some one) (find (λ (argument : RawArgument). same_name argument.name name) front)) (same_swapped name parameter.name away.0)

  filled : (front : List RawArgument) (parameters : List Parameter) (values : List Value) → AreGiven enums parameters values → IsTrue (are_distinct (names_of parameters)) → AreApart front parameters →
      values_filled enums (raws_with enums front parameters values) parameters ≡ Ok values
  filled front [] [] given distinct apart = refl
  filled front [] (value ∷ values) given distinct apart = absurd given
  filled front (parameter ∷ rest) [] given distinct apart = absurd given
  filled front (parameter ∷ rest) (value ∷ values) given distinct apart =
      let parts = both (not (is_name_among parameter.name (names_of rest))) (are_distinct (names_of rest)) distinct in
      let others = is_not (is_name_among parameter.name (names_of rest)) parts.0 in
      let one = raw_for enums parameter value in
      let next = apart_put front one rest apart.0 others apart.1 in
      let all = raws_with enums (put_raw one front) rest values in
      let found : find (λ (argument : RawArgument). same_name argument.name parameter.name) all ≡ Some one =
      kept (put_raw one front) rest values parameter.name parts.1 next others
      ∙ found_put parameter.name one front apart.0
      ∙ ap (λ (b : Bool). cond b (Some one) (find (λ (argument : RawArgument). same_name argument.name parameter.name) front)) (same_itself parameter.name) in
      ap (λ (r : Result (List Value) EditError). value_in_front parameter.name r (parameter_value enums all parameter)) (filled (put_raw one front) rest values given.1 parts.1 next)
      ∙ ap (λ (o : Option Value). value_in_front parameter.name (Ok values) o) (ap (value_or_default enums parameter) found ∙ given.0)

  module _ (all : List Parameter) where
    -- each of some parameters is the one of its name
    abbrev AreKnown : List Parameter → Type 0
    AreKnown [] = Unit {0}
    AreKnown (parameter ∷ rest) = (option_and_then (slice_get all) (parameter_position all parameter.name) ≡ Some parameter) × AreKnown rest

    known_from : (parameters : List Parameter) (at : ℕ) → IsTrue (are_distinct (names_of all)) → ((k : ℕ) → slice_get all (at + k) ≡ slice_get parameters k) → AreKnown parameters
    known_from [] at distinct is = tt
    known_from (parameter ∷ rest) at distinct is =
        let here : slice_get all at ≡ Some parameter = ap (slice_get all) (no_more at) ∙ is 0 in (
          ap (option_and_then (slice_get all)) (position_is (λ (other : Parameter). same_name other.name parameter.name) all ∙ position_of_name (λ (other : Parameter). other.name) all at parameter distinct here) ∙ here,
          known_from rest (at + 1) distinct (λ k. ap (slice_get all) (one_on at k) ∙ is (suc k)),
        )
      where
        no_more : (at : ℕ) → at ≡ at + 0
        no_more at = omega arith

        one_on : (at k : ℕ) → at + 1 + k ≡ at + suc k
        one_on at k = omega arith

    none_bad : (front : List RawArgument) (parameters : List Parameter) (values : List Value) → AreGiven enums parameters values → IsTrue (are_distinct (names_of parameters)) → AreApart front parameters →
        AreKnown parameters → first_bad enums all [] front ≡ None → first_bad enums all [] (raws_with enums front parameters values) ≡ None
    none_bad front [] values given distinct apart known none = none
    none_bad front (parameter ∷ rest) [] given distinct apart known none = none
    none_bad front (parameter ∷ rest) (value ∷ values) given distinct apart known none =
        let parts = both (not (is_name_among parameter.name (names_of rest))) (are_distinct (names_of rest)) distinct in
        let others = is_not (is_name_among parameter.name (names_of rest)) parts.0 in
        let one = raw_for enums parameter value in
        let fine : is_some (value_for enums all parameter.name (raw_of enums value)) ≡ true =
        ap (λ (o : Option Parameter). is_some (value_for_parameter enums o (raw_of enums value))) known.0 ∙ ap is_some given.0 in
        none_bad (put_raw one front) rest values given.1 parts.1 (apart_put front one rest apart.0 others apart.1) known.1
        (put_bad enums all front [] one fine refl apart.0 none)

  -- what is written of values is read as these
  pub arguments_read : (parameters : List Parameter) (values : List Value) → AreGiven enums parameters values → IsTrue (are_distinct (names_of parameters)) →
      arguments_of enums parameters (raws_with enums [] parameters values) ≡ Ok values
  arguments_read parameters values given distinct =
      ap (λ (o : Option (List ℕ)). unless_bad o (values_filled enums (raws_with enums [] parameters values) parameters))
      (none_bad parameters [] parameters values given distinct (none_there parameters) (known_from parameters parameters 0 distinct (λ k. ap (slice_get parameters) (none_plus k))) refl)
      ∙ filled [] parameters values given distinct (none_there parameters)
    where
      none_plus : (k : ℕ) → 0 + k ≡ k
      none_plus k = omega arith
