-- A file of lemmas: what it proves need not be read to trust a clause.
--
-- Digits of a text, and the number that one more of them makes.
use Rattle.std.proofs.Common.{◌≡◌, ℕ, ◌+◌, ◌-◌, ◌*◌, ◌<◌, List, length, take, get_or, Bool, true, false, refl, ◌∙◌, ap, arith}
use Rattle.std.specs.Char.{is_ascii_digit, digit_value}
use Rattle.std.specs.List.{list_all}
use Rattle.std.specs.Str.Parse.{digits_value}
use Rattle.std.proofs.lemmas.Bool.Decides.{nat_tests}
use Rattle.std.proofs.lemmas.List.Folds.{list_all_at}
use Rattle.std.proofs.lemmas.Int.Digits.{digits_value_more}

-- the value of one digit
pub digit_value_is : (byte : ℕ) → is_ascii_digit byte ≡ true → digit_value byte ≡ byte - 48
digit_value_is byte e = grind (arith, nat_tests)

-- each of the digits is one
pub digit_at : (digits : List ℕ) (i : ℕ) → list_all is_ascii_digit digits ≡ true → i < length digits → is_ascii_digit (get_or digits i 0) ≡ true
digit_at digits i all within = go (is_ascii_digit (get_or digits i 0)) refl
  where
    go : (v : Bool) → is_ascii_digit (get_or digits i 0) ≡ v → is_ascii_digit (get_or digits i 0) ≡ true
    go true e = e
    go false e = let none : list_all is_ascii_digit digits ≡ false = list_all_at is_ascii_digit digits i 0 within e in cc

-- one more digit is ten times the number and that digit
pub value_more : (digits : List ℕ) (i : ℕ) → list_all is_ascii_digit digits ≡ true → i < length digits →
    digits_value 10 (take (i + 1) digits) ≡ digits_value 10 (take i digits) * 10 + (get_or digits i 0 - 48)
value_more digits i all within =
    digits_value_more 10 digits i within
    ∙ ap (λ n. digits_value 10 (take i digits) * 10 + n) (digit_value_is (get_or digits i 0) (digit_at digits i all within))
