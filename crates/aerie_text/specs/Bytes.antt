-- The classes of bytes.
use Rattle.std.specs.Prelude.{ℕ, ◌==◌, ◌||◌, Bool, false, List, [], ◌∷◌}
use Rattle.std.specs.Char.{is_ascii_alphabetic, is_ascii_digit}

-- white space: space, tab, line feed and carriage return
abbrev pub is_white : ℕ → Bool
is_white byte = (byte == 32) || (byte == 9) || (byte == 10) || (byte == 13)

-- what a word begins with: an ASCII letter or an underscore
abbrev pub is_letter : ℕ → Bool
is_letter byte = is_ascii_alphabetic byte || (byte == 95)

-- what a word goes on with
abbrev pub is_word_byte : ℕ → Bool
is_word_byte byte = is_letter byte || is_ascii_digit byte

-- there is a first byte, and it passes the test
abbrev pub begins_with : (ℕ → Bool) → List ℕ → Bool
begins_with test [] = false
begins_with test (first ∷ rest) = test first
