-- Digits of a text of fixed form, and the number that they write.
use Rattle.std.proofs.Common.{◌≡◌, ℕ, zero, suc, ◌^◌, ◌<◌, ◌≤◌, List, [], ◌∷◌, ◌++◌, length, take, drop, true, false, nat_eq, Option, None, Some, codes, refl, ◌∙◌, arith, length-drop, length-take}
use Rattle.std.specs.Char.{is_ascii_digit, digit_value}
use Rattle.std.specs.List.{list_all}
use Rattle.std.specs.Str.Parse.{digits_value, AllDigits}
use Rattle.std.proofs.lemmas.Bool.Decides.{nat_tests}
use Rattle.std.proofs.lemmas.List.Folds.{list_all-append}
use Rattle.std.proofs.lemmas.Int.Digits.{digits_value-lt}
use Rattle.std.proofs.lemmas.Str.Parse.{digits_value-take-le}
use Rattle.epoch_text.specs.Clocks.{are_fraction_digits, fraction_of, micros_of, seconds_of, without_zone}
use Rattle.epoch_text.specs.Forms.{has_signs, has_form, sign_of}

digit_value_small : (byte : ℕ) → is_ascii_digit byte ≡ true → digit_value byte < 10
digit_value_small byte e = grind (arith, nat_tests)

pub all_digits : (digits : List ℕ) → list_all is_ascii_digit digits ≡ true → AllDigits 10 digits
all_digits [] e = tt
all_digits (byte ∷ digits) e =
    let here : is_ascii_digit byte ≡ true = grind (arith, nat_tests) in
    let behind : list_all is_ascii_digit digits ≡ true = grind (arith, nat_tests) in
    (digit_value_small byte here, all_digits digits behind)

-- so many digits write a number below that power of ten
pub value_bound : (digits : List ℕ) → list_all is_ascii_digit digits ≡ true → digits_value 10 digits < 10 ^ length digits
value_bound digits e = digits_value-lt 10 digits (all_digits digits e)

power_small : (n : ℕ) → n ≤ 6 → 10 ^ n ≤ 1_000_000
power_small zero h = omega arith
power_small (suc zero) h = omega arith
power_small (suc (suc zero)) h = omega arith
power_small (suc (suc (suc zero))) h = omega arith
power_small (suc (suc (suc (suc zero)))) h = omega arith
power_small (suc (suc (suc (suc (suc zero))))) h = omega arith
power_small (suc (suc (suc (suc (suc (suc zero)))))) h = omega arith
power_small (suc (suc (suc (suc (suc (suc (suc n))))))) h = absurd (omega arith)

-- the first of up to six digits write a number below a million
pub value_small : (digits : List ℕ) (i : ℕ) → list_all is_ascii_digit digits ≡ true → length digits ≤ 6 → digits_value 10 (take i digits) < 1_000_000
value_small digits i all few =
    omega (arith, digits_value-take-le 10 digits i (omega arith), value_bound digits all, power_small (length digits) few)

-- a byte is a digit where the form has 0
sign_is : (byte sign : ℕ) → nat_eq (sign_of byte) sign ≡ true → is_ascii_digit byte ≡ nat_eq sign 48
sign_is byte sign e = grind (arith, nat_tests)

signs_take : (n : ℕ) (text form : List ℕ) → length text ≡ length form → has_signs text form ≡ true →
    list_all is_ascii_digit (take n text) ≡ list_all (λ sign. nat_eq sign 48) (take n form)
signs_take zero text form same e = refl
signs_take (suc n) [] [] same e = refl
signs_take (suc n) [] (sign ∷ form) same e = absurd (omega arith)
signs_take (suc n) (byte ∷ text) [] same e = absurd (omega arith)
signs_take (suc n) (byte ∷ text) (sign ∷ form) same e =
    let here : nat_eq (sign_of byte) sign ≡ true = grind (arith, nat_tests) in
    let behind : has_signs text form ≡ true = grind (arith, nat_tests) in
    let first = sign_is byte sign here in
    let rest = signs_take n text form (omega arith) behind in
    rw (first, rest) refl

signs_nothing : (text : List ℕ) → has_signs text [] ≡ true
signs_nothing [] = refl
signs_nothing (byte ∷ text) = refl

signs_drop : (i : ℕ) (text form : List ℕ) → has_signs text form ≡ true → has_signs (drop i text) (drop i form) ≡ true
signs_drop zero text form e = e
signs_drop (suc i) [] form e = refl
signs_drop (suc i) (byte ∷ text) [] e = signs_nothing (drop i text)
signs_drop (suc i) (byte ∷ text) (sign ∷ form) e = let behind : has_signs text form ≡ true = grind (arith, nat_tests) in signs_drop i text form behind

form_has_signs : (text form : List ℕ) → has_form text form ≡ true → has_signs text form ≡ true
form_has_signs text form e = grind (arith, nat_tests)

-- a text of a form is as long as that
pub form_length : (text form : List ℕ) → has_form text form ≡ true → length text ≡ length form
form_length text form e = grind (arith, nat_tests)

-- where the form has zeros, the text has digits
pub form_digits : (text form : List ℕ) (i n : ℕ) → has_form text form ≡ true →
    list_all is_ascii_digit (take n (drop i text)) ≡ list_all (λ sign. nat_eq sign 48) (take n (drop i form))
form_digits text form i n e =
    let same = form_length text form e in
    let parts : length (drop i text) ≡ length (drop i form) = omega (arith, length-drop i text, length-drop i form) in
    signs_take n (drop i text) (drop i form) parts (signs_drop i text form (form_has_signs text form e))

zeros_behind : (n : ℕ) → list_all is_ascii_digit (drop n (codes "000000")) ≡ true
zeros_behind zero = refl
zeros_behind (suc zero) = refl
zeros_behind (suc (suc zero)) = refl
zeros_behind (suc (suc (suc zero))) = refl
zeros_behind (suc (suc (suc (suc zero)))) = refl
zeros_behind (suc (suc (suc (suc (suc zero))))) = refl
zeros_behind (suc (suc (suc (suc (suc (suc n)))))) = none n
  where
    none : (n : ℕ) → list_all is_ascii_digit (drop {A = ℕ} n []) ≡ true
    none zero = refl
    none (suc n) = refl

-- the digits of a fraction, with zeros behind, are digits
pub filled_digits : (digits : List ℕ) → are_fraction_digits digits ≡ true → list_all is_ascii_digit (digits ++ drop (length digits) (codes "000000")) ≡ true
filled_digits digits e =
    let front : list_all is_ascii_digit digits ≡ true = grind (arith, nat_tests) in
    list_all-append is_ascii_digit digits (drop (length digits) (codes "000000")) ∙ rw (front, zeros_behind (length digits)) refl

-- less than a time of day says none
short_form : (text form : List ℕ) → length text < length form → has_form text form ≡ false
short_form text form h = grind (arith, nat_tests)

none_without_seconds : (clock : List ℕ) → seconds_of (take 8 clock) ≡ None → micros_of clock ≡ None
none_without_seconds clock e = go (fraction_of (without_zone (drop 8 clock))) refl
  where
    go : (fraction : Option ℕ) → fraction_of (without_zone (drop 8 clock)) ≡ fraction → micros_of clock ≡ None
    go None f = rw f refl
    go (Some micros) f = rw (f, e) refl

pub too_short : (clock : List ℕ) → length clock < 8 → micros_of clock ≡ None
too_short clock h =
    let front : length (take 8 clock) < 8 = omega (arith, length-take 8 clock) in
    none_without_seconds clock (rw (short_form (take 8 clock) (codes "00:00:00") front) refl)
