-- The parts of a duration in front of a text: they lie within it, begin with its digits, and are ASCII.
use Rattle.std.proofs.Common.{◌≡◌, ℕ, ◌<◌, ◌≤◌, inl, inr, Bool, true, false, nat_eq, nat_lt, List, [], ◌∷◌, length, take, drop, Some, refl, ap, subst, sym, arith}
use Rattle.std.specs.Char.{is_ascii_digit}
use Rattle.std.specs.List.{list_all, prefix_len, starts_with}
use Rattle.std.specs.Str.{IsAscii}
use Rattle.std.proofs.lemmas.Bool.{and_parts, cases_lt}
use Rattle.std.proofs.lemmas.Bool.Decides.{nat_tests}
use Rattle.std.proofs.lemmas.List.{length-drop, take_all}
use Rattle.std.proofs.lemmas.List.Sums.{prefix_len-le-length}
use Rattle.std.proofs.lemmas.Str.Ascii.{IsAscii-nil, IsAscii-cons}
use Rattle.std.proofs.lemmas.Str.{IsAscii-append}
use Rattle.std.proofs.lemmas.Slice.Eq.{bytes_eq-Decides}
use Rattle.std.proofs.Math.Seq.{take-add}
use Rattle.aerie_base.specs.Durations.{begins_part, duration_len, part_len, parts_len, unit_text, units}
use Rattle.aerie_text.specs.Numerals.{digits_at, is_duration, number_at}
use Rattle.aerie_text.specs.declared.token.TokenKind.TheVariants.{Duration}
use Rattle.aerie_text.proofs.Figures.{front_ascii}

-- what stands in front is no longer than the text
pub fits : (u text : List ℕ) → take (length u) text ≡ u → length u ≤ length text
fits u text front = elim (cases_lt (length text) (length u)) [
  | inl lt ↦ let whole : take (length u) text ≡ text = take_all (length u) text (omega arith) in
      omega (arith, ap length front, ap length whole)
  | inr le ↦ le
]

ascii_of : (u : List ℕ) → list_all (λ byte. nat_lt byte 128) u ≡ true → IsAscii u
ascii_of [] e = IsAscii-nil
ascii_of (byte ∷ rest) e =
    let both = and_parts (nat_lt byte 128) (list_all (λ c. nat_lt c 128) rest) e in
    let below : byte < 128 = let is = both.0 in grind (arith, nat_tests) in
    IsAscii-cons byte rest below (ascii_of rest both.1)

-- ---- one part

-- a part in front
record Part (unit : _) (text : List ℕ) : Type 0 where
  digits : 0 < prefix_len is_ascii_digit text
  unit_there : take (length (unit_text unit)) (drop (prefix_len is_ascii_digit text) text) ≡ unit_text unit

part_there : (unit : _) (text : List ℕ) → begins_part unit text ≡ true → Part unit text
part_there unit text e =
    let count = prefix_len is_ascii_digit text in
    let both = and_parts (nat_lt 0 count) (starts_with nat_eq (drop count text) (unit_text unit)) e in
    let some : 0 < count = let is = both.0 in grind (arith, nat_tests) in
    record { digits = some; unit_there = sym ((bytes_eq-Decides (unit_text unit) (take (length (unit_text unit)) (drop count text))).0 both.1) }

part_within : (unit : _) (text : List ℕ) → part_len unit text ≤ length text
part_within unit text = go (begins_part unit text) refl
  where
    go : (v : Bool) → begins_part unit text ≡ v → part_len unit text ≤ length text
    go false e = rw e (omega arith)
    go true e =
        let count = prefix_len is_ascii_digit text in
        let inside = fits (unit_text unit) (drop count text) (part_there unit text e).unit_there in
        rw e (omega (arith, inside, length-drop count text, prefix_len-le-length is_ascii_digit text))

part_ascii : (unit : _) (text : List ℕ) → list_all (λ byte. nat_lt byte 128) (unit_text unit) ≡ true → IsAscii (take (part_len unit text) text)
part_ascii unit text ascii = go (begins_part unit text) refl
  where
    go : (v : Bool) → begins_part unit text ≡ v → IsAscii (take (part_len unit text) text)
    go false e = rw e IsAscii-nil
    go true e =
        let count = prefix_len is_ascii_digit text in
        let there : IsAscii (take (length (unit_text unit)) (drop count text)) = subst IsAscii (sym (part_there unit text e).unit_there) (ascii_of (unit_text unit) ascii) in
        rw e (subst IsAscii (sym (take-add count (length (unit_text unit)) text)) (IsAscii-append _ _ (front_ascii text) there))

-- ---- the parts in front

parts_within : (units : List _) (text : List ℕ) → parts_len units text ≤ length text
parts_within [] text = omega arith
parts_within (unit ∷ lesser) text =
    let here = part_within unit text in
    let later = parts_within lesser (drop (part_len unit text) text) in
    omega (arith, here, later, length-drop (part_len unit text) text)

parts_ascii : (units : List _) (text : List ℕ) → list_all (λ unit. list_all (λ byte. nat_lt byte 128) (unit_text unit)) units ≡ true → IsAscii (take (parts_len units text) text)
parts_ascii [] text ascii = IsAscii-nil
parts_ascii (unit ∷ lesser) text ascii =
    let len = part_len unit text in
    let both = and_parts (list_all (λ byte. nat_lt byte 128) (unit_text unit)) _ ascii in
    subst IsAscii (sym (take-add len (parts_len lesser (drop len text)) text)) (IsAscii-append _ _ (part_ascii unit text both.0) (parts_ascii lesser (drop len text) both.1))

-- where there is a part, all digits in front belong to the parts
pub record Begun (text : List ℕ) (len : ℕ) : Type 0 where
  pub some : 0 < prefix_len is_ascii_digit text
  pub all : prefix_len is_ascii_digit text ≤ len

parts_begun : (units : List _) (text : List ℕ) → 0 < parts_len units text → Begun text (parts_len units text)
parts_begun [] text lt = absurd (omega arith)
parts_begun (unit ∷ lesser) text lt = go (begins_part unit text) refl (parts_begun lesser text)
  where
    go : (v : Bool) → begins_part unit text ≡ v → (0 < parts_len lesser text → Begun text (parts_len lesser text)) → Begun text (parts_len (unit ∷ lesser) text)
    go true e later = record { some = (part_there unit text e).digits; all = rw e (omega arith) }
    go false e later =
        let same : parts_len (unit ∷ lesser) text ≡ parts_len lesser text = rw e (omega arith) in
        subst (Begun text) (sym same) (later (omega (arith, same, lt)))

-- ---- of a duration

pub duration_within : (text : List ℕ) → duration_len text ≤ length text
duration_within text = parts_within units text

pub duration_ascii : (text : List ℕ) → IsAscii (take (duration_len text) text)
duration_ascii text = parts_ascii units text refl

pub duration_begun : (text : List ℕ) → 0 < duration_len text → Begun text (duration_len text)
duration_begun text lt = parts_begun units text lt

-- ---- the token of the digits in front

pub duration_read : (text : List ℕ) → is_duration (take (duration_len text) text) ≡ true → digits_at text ≡ Some (Duration, duration_len text)
unfolding digits_at
duration_read text e = rw e refl

pub number_read : (text : List ℕ) → is_duration (take (duration_len text) text) ≡ false → digits_at text ≡ number_at text
unfolding digits_at
number_read text e = rw e refl
