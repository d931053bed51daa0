-- Values of a model as they are written, and read again.
use Rattle.std.proofs.Common.{◌≡◌, ℕ, ℤ, zero, suc, ◌+◌, ◌<◌, ◌&&◌, ◌==◌, ◌^◌, Bool, true, false, not, IsTrue, List, [], ◌∷◌, ◌++◌, Option, Some, None, cond, option_map, length, map, drop, take, slice_get, nat_le, nat_lt, refl, sym, ap, ◌∙◌, subst, arith, true≢false, lt-ltb, ltb-true, leb-true, eqb-true, if◌then◌else◌}
use Rattle.std.specs.Prelude.{pos, negsuc, option_and_then, unwrap_or}
use Rattle.std.specs.Bool.{one_answer}
use Rattle.std.specs.Cmp.Lexicographic.{bytes_decides}
use Rattle.std.specs.List.{list_all, position_or_len, before_first, after_first}
use Rattle.std.proofs.lemmas.List.{append_cancel_left}
use Rattle.std.proofs.lemmas.Option.{none-some, same_Some}
use Rattle.aerie_base.specs.Names.{is_name, is_name_byte, begins_as_name, name_limit}
use Rattle.aerie_base.specs.Ranges.{checked_number, is_number}
use Rattle.aerie_base.specs.declared.values.Kind.{Kind}
use Rattle.aerie_base.specs.declared.values.Kind.TheVariants as kind
use Rattle.aerie_base.specs.declared.values.Value.{Value}
use Rattle.aerie_base.specs.declared.values.Value.TheVariants as value
use Rattle.aerie_base.specs.declared.arguments.RawValue.TheVariants as raw
use Rattle.aerie_base.specs.declared.models.EnumType.{EnumType}
use Rattle.aerie_base.specs.expressions.Arithmetic.{value_kind}
use Rattle.aerie_base.specs.expressions.Typing.{same_kind}
use Rattle.aerie_base.specs.models.Names.{are_distinct, same_name}
use Rattle.aerie_base.specs.models.ValidModel.{is_enum}
use Rattle.aerie_base.specs.models.Values.{is_value, is_value_of, variant_count, variants_of}
use Rattle.aerie_text.specs.Sorts.{same_sort, word_sort}
use Rattle.aerie_text.specs.declared.sorts.Sort.TheVariants as sort
use Rattle.plan_edit.specs.Arguments.{value_given, variant_written, written_variant}
use Rattle.plan_edit.specs.PlanForm.{is_dot, is_free_name, is_variant_text, value_of_json, variant_of_word, whole_number}
use Rattle.plan_edit.specs.ShownPlan.{json_of_number, json_of_value, word_of_variant}
use Rattle.report_text.specs.LoadedAgain.{is_free_enum}
use Rattle.report_text.proofs.FirstPositions.{both, first_position, position_of_name, position_is, same_is}
use Rattle.report_text.proofs.RawArguments.{raw_of}

-- ---- numbers

-- a number of a model is read as it is
number_read : (z : ℤ) → IsTrue (is_number z) → option_and_then checked_number (whole_number (json_of_number z)) ≡ Some z
number_read (pos n) good =
    let small = leb-true n 1_000_000_000_000_000_000 good in
    ap (λ (t : Bool). option_and_then checked_number (if t then Some (pos n) else None)) (lt-ltb n (2 ^ 63) (omega (arith, small)))
    ∙ ap (λ (t : Bool). if t then Some (pos n) else None) good
number_read (negsuc n) good = ap (λ (t : Bool). if t then Some (negsuc n) else None) good

number_as_value : (z : ℤ) → value_of_json (json_of_number z) ≡ option_map raw.Int (option_and_then checked_number (whole_number (json_of_number z)))
number_as_value (pos n) = refl
number_as_value (negsuc n) = refl

-- ---- words

no_dot : (byte : ℕ) → IsTrue (is_name_byte byte) → is_dot byte ≡ false
no_dot byte good = go (byte == 46) refl
  where
    go : (t : Bool) → (byte == 46) ≡ t → t ≡ false
    go true e = absurd (true≢false (sym good ∙ ap is_name_byte (eqb-true byte 46 e)))
    go false e = refl

suc_lt : (n count : ℕ) → n < count → suc n < suc count
suc_lt n count less = omega (arith, less)

dot_behind : (front behind : List ℕ) → IsTrue (list_all is_name_byte front) → position_or_len is_dot (front ++ 46 ∷ behind) ≡ length front
dot_behind [] behind good = refl
dot_behind (byte ∷ front) behind good =
    let parts = both (is_name_byte byte) (list_all is_name_byte front) good in
    ap (λ (t : Bool). cond (not t) (1 + position_or_len is_dot (front ++ 46 ∷ behind)) 0) (no_dot byte parts.0)
    ∙ ap (λ (n : ℕ). 1 + n) (dot_behind front behind parts.1) ∙ one_plus (length front)
  where
    one_plus : (n : ℕ) → 1 + n ≡ suc n
    one_plus n = omega arith

long_enough : (front behind : List ℕ) → length front < length (front ++ 46 ∷ behind)
long_enough [] behind = omega arith
long_enough (byte ∷ front) behind = suc_lt (length front) (length (front ++ 46 ∷ behind)) (long_enough front behind)

taken : (front behind : List ℕ) → take (length front) (front ++ 46 ∷ behind) ≡ front
taken [] behind = refl
taken (byte ∷ front) behind = ap (λ (xs : List ℕ). byte ∷ xs) (taken front behind)

less_one : (n k : ℕ) → suc n ≡ suc k → n ≡ k
less_one n k e = omega (arith, e)

dropped : (front behind : List ℕ) (n : ℕ) → n ≡ suc (length front) → drop n (front ++ 46 ∷ behind) ≡ behind
dropped [] behind n is = ap (λ (k : ℕ). drop k (46 ∷ behind)) is
dropped (byte ∷ front) behind zero is = absurd (omega (arith, is))
dropped (byte ∷ front) behind (suc n) is = dropped front behind n (less_one n (suc (length front)) is)

bytes_of_name : (name : List ℕ) → IsTrue (is_free_name name) → IsTrue (list_all is_name_byte name)
bytes_of_name name free =
    let named = (both (is_name name) (same_sort (word_sort name) sort.Name) free).0 in
    (both (begins_as_name name && nat_le (length name) name_limit) (list_all is_name_byte name) named).1

-- a variant's word is one
variant_text : (front behind : List ℕ) → IsTrue (is_free_name front) → IsTrue (is_free_name behind) → is_variant_text (front ++ 46 ∷ behind) ≡ true
variant_text front behind free also =
    let text = front ++ 46 ∷ behind in
    let dot = dot_behind front behind (bytes_of_name front free) in
    ap (λ (t : Bool). t && (is_free_name (before_first is_dot text) && is_free_name (after_first is_dot text)))
    (ap (λ (n : ℕ). nat_lt n (length text)) dot ∙ lt-ltb (length front) (length text) (long_enough front behind))
    ∙ ap (λ (xs : List ℕ). is_free_name xs && is_free_name (after_first is_dot text)) (ap (λ (n : ℕ). take n text) dot ∙ taken front behind)
    ∙ ap (λ (t : Bool). t && is_free_name (after_first is_dot text)) free
    ∙ ap is_free_name (dropped front behind (position_or_len is_dot text + 1) (ap (λ (n : ℕ). n + 1) dot ∙ plus_one (length front))) ∙ also
  where
    plus_one : (n : ℕ) → n + 1 ≡ suc n
    plus_one n = omega arith

-- ---- variants

-- what is known of an enumeration of a valid model whose words are free
record IsEnum (enum : EnumType) : Type 0 where
  name : IsTrue (is_free_name enum.name)
  variants : IsTrue (list_all is_free_name enum.variants)
  distinct : IsTrue (are_distinct enum.variants)

same_behind : (name one other : List ℕ) → same_name (name ++ 46 ∷ one) (name ++ 46 ∷ other) ≡ same_name one other
same_behind name one other =
    one_answer (same_name (name ++ 46 ∷ one) (name ++ 46 ∷ other)) (same_name one other)
    (bytes_decides (name ++ 46 ∷ one) (name ++ 46 ∷ other))
    ((λ h. ap (λ (xs : List ℕ). name ++ 46 ∷ xs) (same_is one other h)), (λ e. (bytes_decides one other).1 (tail_is (append_cancel_left name (46 ∷ one) (46 ∷ other) e))))
  where
    tail_is : {one other : List ℕ} → 46 ∷ one ≡ 46 ∷ other → one ≡ other
    tail_is e = cc

same_positions : {A : Type 0} (one other : A → Bool) (xs : List A) → ((x : A) → one x ≡ other x) → first_position one xs ≡ first_position other xs
same_positions one other [] same = refl
same_positions one other (x ∷ xs) same =
    ap (λ (t : Bool). if t then Some 0 else option_map suc (first_position one xs)) (same x)
    ∙ ap (λ (o : Option ℕ). if other x then Some 0 else option_map suc o) (same_positions one other xs same)

pub each_is : {A : Type 0} (test : A → Bool) (xs : List A) (at : ℕ) (x : A) → IsTrue (list_all test xs) → slice_get xs at ≡ Some x → IsTrue (test x)
each_is test [] at x all here = absurd (none-some x here)
each_is test (first ∷ rest) zero x all here = ap test (sym (same_Some first x here)) ∙ (both (test first) (list_all test rest) all).0
each_is test (first ∷ rest) (suc at) x all here = each_is test rest at x (both (test first) (list_all test rest) all).1 here

some_at : {A : Type 0} (xs : List A) (at : ℕ) → at < length xs → (x : A) × (slice_get xs at ≡ Some x)
some_at [] at less = absurd (omega (arith, less))
some_at (first ∷ rest) zero less = (first, refl)
some_at (first ∷ rest) (suc at) less = some_at rest at (omega (arith, less))

names_themselves : (names : List (List ℕ)) → map (λ name. name) names ≡ names
names_themselves [] = refl
names_themselves (name ∷ rest) = ap (λ (xs : List (List ℕ)). name ∷ xs) (names_themselves rest)

variant_found : (enum : EnumType) (at : ℕ) (variant : List ℕ) → IsEnum enum → slice_get enum.variants at ≡ Some variant →
    variant_written (Some enum) (written_variant enum variant) ≡ Some at
variant_found enum at variant is here =
    position_is (λ (other : List ℕ). same_name (written_variant enum other) (written_variant enum variant)) enum.variants
    ∙ same_positions (λ (other : List ℕ). same_name (written_variant enum other) (written_variant enum variant)) (λ (other : List ℕ). same_name other variant) enum.variants
    (λ other. same_behind enum.name other variant)
    ∙ position_of_name (λ (name : List ℕ). name) enum.variants at variant (ap are_distinct (names_themselves enum.variants) ∙ is.distinct) here

-- ---- values

module _ (enums : List EnumType) (good : IsTrue (list_all is_enum enums)) (free : IsTrue (list_all is_free_enum enums)) where
  -- a value that is written is read as the argument that is given, and that gives the value
  abbrev pub IsWritten : Kind → Value → Type 0
  IsWritten of given = (value_of_json (json_of_value enums given) ≡ Some (raw_of enums given)) × (value_given enums of (raw_of enums given) ≡ Some given)

  variant_there : (at number : ℕ) → IsTrue (nat_lt number (variant_count enums at)) →
      (enum : EnumType) × ((slice_get enums at ≡ Some enum) × ((variant : List ℕ) × (slice_get enum.variants number ≡ Some variant)))
  variant_there at number less = go (slice_get enums at) refl less
    where
      go : (found : Option EnumType) → slice_get enums at ≡ found → IsTrue (nat_lt number (variants_of found)) →
          (enum : EnumType) × ((slice_get enums at ≡ Some enum) × ((variant : List ℕ) × (slice_get enum.variants number ≡ Some variant)))
      go None is h = let none = ltb-true number 0 h in absurd (omega (arith, none))
      go (Some enum) is h = (enum, (is, some_at enum.variants number (ltb-true number (length enum.variants) h)))

  enum_is : (at : ℕ) (enum : EnumType) → slice_get enums at ≡ Some enum → IsEnum enum
  enum_is at enum here =
      let sizes = each_is is_enum enums at enum good here in
      let words = both (is_free_name enum.name) (list_all is_free_name enum.variants) (each_is is_free_enum enums at enum free here) in
      record { name = words.0; variants = words.1; distinct = (both (nat_le 1 (length enum.variants) && nat_le (length enum.variants) 256) (are_distinct enum.variants) sizes).1 }

  written_word : (at number : ℕ) (enum : EnumType) (variant : List ℕ) → slice_get enums at ≡ Some enum → slice_get enum.variants number ≡ Some variant →
      unwrap_or (word_of_variant enums at number) [] ≡ written_variant enum variant
  written_word at number enum variant here there =
      ap (λ (o : Option EnumType). unwrap_or (option_and_then (λ (e : EnumType). option_map (written_variant e) (slice_get e.variants number)) o) []) here
      ∙ ap (λ (o : Option (List ℕ)). unwrap_or (option_map (written_variant enum) o) []) there

  written_variant_read : (at number : ℕ) → IsTrue (nat_lt number (variant_count enums at)) → IsWritten (kind.Enum at) (value.Variant at number)
  written_variant_read at number less =
      let found = variant_there at number less in
      let enum = found.0 in
      let here = found.1.0 in
      let variant = found.1.1.0 in
      let there = found.1.1.1 in
      let is = enum_is at enum here in
      let word = written_word at number enum variant here there in
      let free_variant = each_is is_free_name enum.variants number variant is.variants there in (
        ap (λ (xs : List ℕ). variant_of_word xs) word
            ∙ ap (λ (t : Bool). if t then Some (raw.Word (written_variant enum variant)) else None) (variant_text enum.name variant is.name free_variant)
            ∙ ap (λ (xs : List ℕ). Some (raw.Word xs)) (sym word),
        ap (λ (xs : List ℕ). option_map (value.Variant at) (variant_written (slice_get enums at) xs)) word
            ∙ ap (λ (o : Option EnumType). option_map (value.Variant at) (variant_written o (written_variant enum variant))) here
            ∙ ap (option_map (value.Variant at)) (variant_found enum number variant is there),
      )

  pub value_read : (of : Kind) (given : Value) → IsTrue (is_value_of enums of given) → IsWritten of given
  value_read of given good = go of given (both (same_kind (value_kind given) of) (is_value enums given) good)
    where
      go : (of : Kind) (given : Value) → IsTrue (same_kind (value_kind given) of) × IsTrue (is_value enums given) → IsWritten of given
      go kind.Int (value.Int z) h =
          (number_as_value z ∙ ap (option_map raw.Int) (number_read z h.1), ap (λ (t : Bool). option_map value.Int (if t then Some z else None)) h.1)
      go kind.Int (value.Truth t) h = absurd (true≢false (sym h.0))
      go kind.Int (value.Variant k n) h = absurd (true≢false (sym h.0))
      go kind.Truth (value.Int z) h = absurd (true≢false (sym h.0))
      go kind.Truth (value.Truth t) h = (refl, refl)
      go kind.Truth (value.Variant k n) h = absurd (true≢false (sym h.0))
      go (kind.Enum a) (value.Int z) h = absurd (true≢false (sym h.0))
      go (kind.Enum a) (value.Truth t) h = absurd (true≢false (sym h.0))
      go (kind.Enum a) (value.Variant k n) h =
          let same = eqb-true k a h.0 in
          subst (λ (b : ℕ). IsWritten (kind.Enum b) (value.Variant k n)) same (written_variant_read k n h.1)
