-- How texts are shown: each character as one of ASCII, so that a mark under it stands in its place.
use Rattle.std.specs.Prelude.{◌≡◌, ℕ, ◌==◌, ◌&&◌, ◌||◌, Bool, not, nat_le, nat_lt, List, [], ◌∷◌, filter, map, codes, if◌then◌else◌, refl}

-- the byte goes on a character of several bytes
abbrev pub goes_on : ℕ → Bool
goes_on byte = nat_le 128 byte && nat_lt byte 192

-- the byte begins a character
abbrev pub begins_character : ℕ → Bool
begins_character byte = not (goes_on byte)

-- what stands for the character that begins with the byte: itself where it is printable, a space where it is white
abbrev pub shown_byte : ℕ → ℕ
shown_byte byte =
    if nat_le 32 byte && nat_le byte 126 then byte
    else if (byte == 9) || (byte == 13) then 32
    else 63

-- the first bytes of the characters
abbrev pub beginnings : List ℕ → List ℕ
beginnings bytes = filter begins_character bytes

-- the text as it is shown
abbrev pub as_shown : List ℕ → List ℕ
as_shown bytes = map shown_byte (beginnings bytes)

-- ---- worked cases

-- a tab, and the letter é of two bytes
pub one_column_each : as_shown (97 ∷ 9 ∷ 195 ∷ 169 ∷ 98 ∷ []) ≡ codes "a ?b"
one_column_each = refl
