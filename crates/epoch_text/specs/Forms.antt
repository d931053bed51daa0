-- Texts of fixed form: digits at given places, and signs between them.
use Rattle.std.specs.Fmt.{digits}
use Rattle.std.specs.Prelude.{◌≡◌, ℕ, ◌-◌, nat_eq, List, ◌++◌, length, take, drop, replicate, decimal, Bool, true, false, ◌&&◌, if◌then◌else◌, codes, refl}
use Rattle.std.specs.Char.{is_ascii_digit}
use Rattle.std.specs.List.{list_all, zip}
use Rattle.std.specs.Str.Parse.{digits_value}

-- a byte, where 0 stands for each digit
abbrev pub sign_of : ℕ → ℕ
sign_of byte = if is_ascii_digit byte then 48 else byte

-- whether each byte is as the form's sign at its place says, for as long as both last
abbrev pub has_signs : List ℕ → List ℕ → Bool
has_signs text form = list_all (λ (p : ℕ × ℕ). nat_eq (sign_of p.0) p.1) (zip text form)

-- whether a text has this form: a digit where the form has 0, elsewhere the form's own sign, and no byte more or less
abbrev pub has_form : List ℕ → List ℕ → Bool
has_form text form = nat_eq (length text) (length form) && has_signs text form

-- the number that so many digits write from a place on
abbrev pub written_number : ℕ → ℕ → List ℕ → ℕ
written_number position width text = digits_value 10 (take width (drop position text))

-- the number in decimal, with zeros in front up to that many digits
abbrev pub digits_in : ℕ → ℕ → List ℕ
digits_in width number = replicate (width - length (decimal number)) 48 ++ decimal number

-- ---- worked cases

pub digits_and_signs : has_form (codes "12:05") (codes "00:00") ≡ true
digits_and_signs = refl

pub a_digit_short : has_form (codes "12:5") (codes "00:00") ≡ false
a_digit_short = refl

pub a_digit_more : has_form (codes "12:055") (codes "00:00") ≡ false
a_digit_more = refl

pub a_digit_for_a_sign : has_form (codes "12005") (codes "00:00") ≡ false
a_digit_for_a_sign = refl

pub a_letter_for_a_digit : has_form (codes "1O:05") (codes "00:00") ≡ false
a_letter_for_a_digit = refl

pub zeros_in_front : digits_in 3 7 ≡ codes "007"
unfolding digits
zeros_in_front = refl

pub no_zeros_in_front : digits_in 3 366 ≡ codes "366"
unfolding digits
no_zeros_in_front = refl

pub zero_itself : digits_in 6 0 ≡ codes "000000"
unfolding digits
zero_itself = refl
