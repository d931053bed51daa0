-- Lines and characters of a text, by their numbers.
use Rattle.std.specs.Prelude.{◌≡◌, ℕ, ◌-◌, ◌==◌, List, [], ◌∷◌, take, codes, if◌then◌else◌, refl}
use Rattle.std.specs.List.{prefix_len}
use Rattle.aerie_text.specs.Gaps.{is_in_line}
use Rattle.explain.specs.Shown.{goes_on}

-- what stands behind so many line feeds
abbrev pub behind_lines : ℕ → List ℕ → List ℕ
behind_lines lines [] = []
behind_lines lines (byte ∷ rest) =
    if lines == 0 then byte ∷ rest else behind_lines (if byte == 10 then lines - 1 else lines) rest

-- what stands behind so many characters
abbrev pub behind_characters : ℕ → List ℕ → List ℕ
behind_characters count [] = []
behind_characters count (byte ∷ rest) =
    if goes_on byte then behind_characters count rest
    else if count == 0 then byte ∷ rest
    else behind_characters (count - 1) rest

-- the text up to the end of its first line
abbrev pub line_in_front : List ℕ → List ℕ
line_in_front text = take (prefix_len is_in_line text) text

-- ---- worked cases

pub the_third_line : line_in_front (behind_lines 2 (codes "a\nb\ncd\ne")) ≡ codes "cd"
the_third_line = refl

pub behind_the_text : behind_lines 1 (codes "ab") ≡ []
behind_the_text = refl

pub the_second_character : behind_characters 1 (195 ∷ 169 ∷ 120 ∷ []) ≡ codes "x"
the_second_character = refl
