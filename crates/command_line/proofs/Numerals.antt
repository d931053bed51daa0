-- Numerals, told by a test.
use Rattle.std.proofs.Common.{◌≡◌, ℕ, ◌<◌, ◌≤◌, ◌^◌, Bool, true, false, cond, ◌&&◌, ltb, leb, List, [], ◌∷◌, length, Some, None, refl, arith}
use Rattle.std.specs.Char.{digit_value}
use Rattle.std.specs.Str.Parse.{AllDigits, IsNumeral, digits_value}
use Rattle.std.specs.List.{list_all}
use Rattle.std.proofs.lemmas.Bool.{ltb-true, lt-ltb, leb-true, le-leb}
use Rattle.command_line.specs.Invocations.{digits_within, is_number_within, is_numeral}

both : (a b : Bool) → (a && b) ≡ true → (a ≡ true) × (b ≡ true)
both true true e = (refl, refl)
both true false e = absurd cc
both false b e = absurd cc

-- digits pass the test, and what passes it is a list of digits
tested : (ds : List ℕ) → AllDigits 10 ds → list_all (λ byte. ltb (digit_value byte) 10) ds ≡ true
tested [] digits = refl
tested (d ∷ ds) digits = rw (lt-ltb (digit_value d) 10 digits.0, tested ds digits.1) refl

digits : (ds : List ℕ) → list_all (λ byte. ltb (digit_value byte) 10) ds ≡ true → AllDigits 10 ds
digits [] e = tt
digits (d ∷ ds) e =
    let parts = both (ltb (digit_value d) 10) (list_all (λ byte. ltb (digit_value byte) 10) ds) e in
    (ltb-true (digit_value d) 10 parts.0, digits ds parts.1)

numeral_told : (ds : List ℕ) → IsNumeral 10 ds → is_numeral ds ≡ true
numeral_told ds numeral = rw (lt-ltb 0 (length ds) numeral.0, tested ds numeral.1) refl

told_numeral : (ds : List ℕ) → is_numeral ds ≡ true → IsNumeral 10 ds
told_numeral ds e =
    let parts = both (ltb 0 (length ds)) (list_all (λ byte. ltb (digit_value byte) 10) ds) e in
    (ltb-true 0 (length ds) parts.0, digits ds parts.1)

-- a number in the range is that of its digits
pub number_found : (most : ℕ) (ds : List ℕ) (n : ℕ) → IsNumeral 10 ds → n ≡ digits_value 10 ds → 1 ≤ n → n ≤ most → Some n ≡ digits_within most ds
number_found most ds n numeral is least within =
    rw (numeral_told ds numeral, ← is, le-leb 1 n least, le-leb n most within) refl

none_where : (t : Bool) (n : ℕ) → (t ≡ true → ⊥) → None ≡ cond t (Some n) None
none_where true n not = absurd (not refl)
none_where false n not = refl

-- what is read as no number is in no range
pub no_number_found : (most : ℕ) (ds : List ℕ) → most < 2 ^ 64 → (IsNumeral 10 ds × (digits_value 10 ds < 2 ^ 64) → ⊥) → None ≡ digits_within most ds
no_number_found most ds range none = none_where (is_number_within most ds) (digits_value 10 ds) (λ e. absurd (
    let outer = both (is_numeral ds && leb 1 (digits_value 10 ds)) (leb (digits_value 10 ds) most) e in
    let inner = both (is_numeral ds) (leb 1 (digits_value 10 ds)) outer.0 in
    none (told_numeral ds inner.0, omega (arith, leb-true (digits_value 10 ds) most outer.1, range))))
