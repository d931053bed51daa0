-- What a name is: 1 to 64 ASCII letters, digits and underscores, of which the first is no digit.
use Rattle.std.specs.Prelude.{◌≡◌, ℕ, ◌==◌, ◌&&◌, ◌||◌, List, [], ◌∷◌, length, nat_le, Bool, true, false, not, Option, Some, None, if◌then◌else◌, codes, replicate, refl}
use Rattle.std.specs.Char.{is_ascii_digit, is_ascii_alphanumeric}
use Rattle.std.specs.List.{list_all}

-- the longest name, in bytes
abbrev pub name_limit : ℕ
name_limit = 64

-- whether a byte is an ASCII letter, a digit or an underscore
abbrev pub is_name_byte : ℕ → Bool
is_name_byte byte = is_ascii_alphanumeric byte || byte == 95

-- whether there is a first byte, and no digit
abbrev pub begins_as_name : List ℕ → Bool
begins_as_name [] = false
begins_as_name (first ∷ rest) = not (is_ascii_digit first)

-- whether a text is a name
abbrev pub is_name : List ℕ → Bool
is_name text = begins_as_name text && nat_le (length text) name_limit && list_all is_name_byte text

-- the name that a text is, where it is one
abbrev pub name_of : List ℕ → Option (List ℕ)
name_of text = if is_name text then Some text else None

-- ---- worked cases

pub letters_digits_and_underscores : is_name (codes "a1_") ≡ true
letters_digits_and_underscores = refl

pub underscore_first : is_name (codes "_1") ≡ true
underscore_first = refl

pub digit_first : is_name (codes "1a") ≡ false
digit_first = refl

pub empty : is_name (codes "") ≡ false
empty = refl

pub with_a_dash : is_name (codes "a-b") ≡ false
with_a_dash = refl

pub as_long_as_can_be : is_name (replicate 64 97) ≡ true
as_long_as_can_be = refl

pub one_letter_more : is_name (replicate 65 97) ≡ false
one_letter_more = refl
