-- The place of a byte of a text, as a reader counts it: its line, and the character of that line.
use Rattle.std.specs.Prelude.{◌≡◌, ℕ, ◌+◌, ◌==◌, List, [], ◌∷◌, take, codes, refl}
use Rattle.std.specs.List.{count_by, suffix_len}
use Rattle.std.specs.Str.{chars}
use Rattle.aerie_base.specs.declared.places.Place.{Place}
use Rattle.aerie_text.specs.Gaps.{is_in_line}

-- the characters before a place that begins a character
abbrev pub chars_before : List ℕ → ℕ → List ℕ
chars_before text at = chars (take at text)

-- 1 and the line feeds before the place
abbrev pub line_number : List ℕ → ℕ
line_number before = count_by (λ c. c == 10) before + 1

-- 1 and the characters before the place behind the last line feed there
abbrev pub column_of : List ℕ → ℕ
column_of before = suffix_len is_in_line before + 1

abbrev pub place_of : List ℕ → ℕ → Place
place_of text at = record { line = line_number (chars_before text at); column = column_of (chars_before text at) }

-- ---- worked cases

pub begins : place_of (codes "ab") 0 ≡ record { line = 1; column = 1 }
unfolding chars
begins = refl

pub second_line : place_of (codes "ab\ncd") 4 ≡ record { line = 2; column = 2 }
unfolding chars
second_line = refl

pub at_the_line_feed : place_of (codes "ab\ncd") 2 ≡ record { line = 1; column = 3 }
unfolding chars
at_the_line_feed = refl

-- the letter é, of two bytes, is one character
pub behind_a_letter_of_two_bytes : place_of (195 ∷ 169 ∷ 120 ∷ []) 2 ≡ record { line = 1; column = 2 }
unfolding chars
behind_a_letter_of_two_bytes = refl

pub at_the_end : place_of (codes "ab") 2 ≡ record { line = 1; column = 3 }
unfolding chars
at_the_end = refl
