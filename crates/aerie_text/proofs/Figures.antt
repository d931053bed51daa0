-- Digits in front of a text, what they write, and that they are ASCII.
use Rattle.std.proofs.Common.{◌≡◌, ℕ, ◌+◌, ◌*◌, ◌-◌, ◌^◌, ◌<◌, ◌≤◌, ◌∙◌, Bool, true, false, List, [], ◌∷◌, length, take, get_or, Result, Ok, Err, refl, ap, arith, add_comm, add-one}
use Rattle.std.specs.Prelude.{IsOk, MatchResult}
use Rattle.std.specs.Char.{is_ascii_digit, digit_value}
use Rattle.std.specs.List.{prefix_len}
use Rattle.std.specs.Str.{IsAscii}
use Rattle.std.specs.Str.Parse.{AllDigits, digits_value}
use Rattle.std.proofs.lemmas.Bool.Decides.{nat_tests}
use Rattle.std.proofs.lemmas.Int.Digits.{digits_value_more}
use Rattle.std.proofs.lemmas.Str.Parse.{digits_value-take-le, digit_at, digits_value_short, numerals_by_value, tells_digits}
use Rattle.std.proofs.lemmas.Str.Ascii.{IsAscii-nil, IsAscii-cons}

-- what stands in front has what each byte that passes has
module _ (P : List ℕ → Type 0) (test : ℕ → Bool) (empty : P []) (more : (b : ℕ) (bs : List ℕ) → test b ≡ true → P bs → P (b ∷ bs)) where
  pub front_has : (text : List ℕ) → P (take (prefix_len test text) text)
  front_has [] = empty
  front_has (byte ∷ rest) = go (test byte) refl (front_has rest)
    where
      go : (v : Bool) → test byte ≡ v → P (take (prefix_len test rest) rest) → P (take (prefix_len test (byte ∷ rest)) (byte ∷ rest))
      go true e front = rw (e, add_comm 1 (prefix_len test rest), add-one) (more byte _ e front)
      go false e front = rw e empty

digit_value_of : (b : ℕ) → 48 ≤ b → b ≤ 57 → digit_value b ≡ b - 48
digit_value_of b low high = grind (arith, nat_tests)

pub digit_below : (b : ℕ) → is_ascii_digit b ≡ true → digit_value b < 10
digit_below b e = grind (arith, nat_tests)

digit_ascii : (b : ℕ) → is_ascii_digit b ≡ true → b < 128
digit_ascii b e = grind (arith, nat_tests)

-- the digits in front are digits
pub front_digits : (text : List ℕ) → AllDigits 10 (take (prefix_len is_ascii_digit text) text)
front_digits text = front_has (AllDigits 10) is_ascii_digit tt (λ b bs e digits. (digit_below b e, digits)) text

-- and ASCII
pub front_ascii : (text : List ℕ) → IsAscii (take (prefix_len is_ascii_digit text) text)
front_ascii text = front_has IsAscii is_ascii_digit IsAscii-nil (λ b bs e ascii. IsAscii-cons b bs (digit_ascii b e) ascii) text

-- the next of at most 19 digits
pub record NextDigit (ds : List ℕ) (i : ℕ) : Type 0 where
  pub low : 48 ≤ get_or ds i 0
  pub high : get_or ds i 0 ≤ 57
  pub value : digits_value 10 (take (i + 1) ds) ≡ digits_value 10 (take i ds) * 10 + (get_or ds i 0 - 48)
  pub fits : digits_value 10 (take i ds) * 10 + (get_or ds i 0 - 48) < 2 ^ 64

pub next_digit : (ds : List ℕ) (i : ℕ) → AllDigits 10 ds → length ds ≤ 19 → i < length ds → NextDigit ds i
next_digit ds i digits short lt =
    let range = digit_at ds i digits lt in
    let value : digits_value 10 (take (i + 1) ds) ≡ digits_value 10 (take i ds) * 10 + (get_or ds i 0 - 48) =
    digits_value_more 10 ds i lt ∙ ap (λ (n : ℕ). digits_value 10 (take i ds) * 10 + n) (digit_value_of (get_or ds i 0) range.0 range.1) in
    let below : digits_value 10 ds < 10 ^ 19 = digits_value_short (numerals_by_value (AllDigits 10) tells_digits) ds 19 digits short in
    let part : digits_value 10 (take (i + 1) ds) ≤ digits_value 10 ds = digits_value-take-le 10 ds (i + 1) (omega arith) in
    record { low = range.0; high = range.1; value = value; fits = omega (arith, value, below, part) }

-- a call that fails only where a fact does not hold succeeds where it does
pub ok_where : {T E : Type 0} (r : Result T E) (P : T → Type 0) (U : Type 0) (Q : E → Type 0) → MatchResult r P (λ e. ¬ U × Q e) → U → IsOk r
ok_where (Ok x) P U Q cases fact = refl
ok_where (Err e) P U Q cases fact = absurd (cases.0 fact)
