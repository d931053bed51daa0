-- The line of a text at a spot, with a mark under what stands there.
use Rattle.std.specs.Prelude.{◌≡◌, ℕ, ◌+◌, ◌-◌, ◌==◌, nat_le, min, List, [], ◌∷◌, ◌++◌, drop, length, replicate, take, codes, if◌then◌else◌, refl}
use Rattle.std.specs.Fmt.{decimal, digits}
use Rattle.std.specs.List.{prefix_len}
use Rattle.aerie_text.specs.Bytes.{is_word_byte}
use Rattle.aerie_text.specs.Quotes.{is_quotable}
use Rattle.aerie_text.specs.Symbols.{begins_double_symbol}
use Rattle.explain.specs.Lines.{behind_lines, line_in_front}
use Rattle.explain.specs.Shown.{as_shown, beginnings}
use Rattle.explain.specs.Spots.{rest_at}
use Rattle.explain.specs.declared.spots.Spot.{Spot}

-- the most columns of a line that are shown, and the most of them before the spot where the line is cut
abbrev pub most_columns : ℕ
most_columns = 100

abbrev pub most_before : ℕ
most_before = 60

-- ---- the mark

-- how many columns a text in quotation marks takes, behind the first of which the line goes on so
abbrev pub quoted_columns : List ℕ → ℕ
quoted_columns rest = min (prefix_len is_quotable rest + 2) (length rest + 1)

-- how many columns the token takes with which a line goes on from a spot: a word or a number whole, a text in quotation
-- marks, a symbol, else one
abbrev pub token_columns : List ℕ → ℕ
token_columns [] = 1
token_columns (first ∷ rest) =
    if is_word_byte first then prefix_len is_word_byte (first ∷ rest)
    else if first == 34 then quoted_columns rest
    else if begins_double_symbol (first ∷ rest) then 2
    else 1

-- no more of them than are shown
abbrev pub marked_columns : List ℕ → ℕ
marked_columns rest = min (token_columns rest) (most_columns - most_before)

-- ---- the line

-- how many characters of a line are left out in front: none where the line is short
abbrev pub left_out : ℕ → ℕ → ℕ
left_out column count = if nat_le count most_columns then 0 else column - 1 - most_before

-- what stands for characters that are left out
abbrev pub dots : List ℕ
dots = codes ".."

abbrev pub front_dots : ℕ → List ℕ
front_dots from = if from == 0 then [] else dots

abbrev pub back_dots : ℕ → List ℕ
back_dots left = if nat_le left most_columns then [] else dots

-- a line from one of its characters on
abbrev pub line_part : ℕ → List ℕ → List ℕ
line_part from line = front_dots from ++ as_shown (take most_columns (drop from line)) ++ back_dots (length line - from)

-- such a line with its number
abbrev pub numbered_line : ℕ → ℕ → List ℕ → List ℕ
numbered_line number from line = codes "  " ++ decimal number ++ codes " | " ++ line_part from line ++ codes "\n"

-- how many characters stand before the mark
abbrev pub indent : ℕ → ℕ → ℕ
indent from column = length (front_dots from) + (column - 1 - from)

-- the line of the mark: under a number of so many digits, behind so many spaces, so many columns
abbrev pub mark_line : ℕ → ℕ → ℕ → List ℕ
mark_line width before count =
    codes "  " ++ replicate width 32 ++ codes " | " ++ replicate before 32 ++ replicate count 94 ++ codes "\n"

-- the two lines, of a line of such characters and those from the spot on
abbrev pub marked_line : List ℕ → List ℕ → Spot → List ℕ
marked_line line rest spot =
    numbered_line spot.line (left_out spot.column (length line)) line
    ++ mark_line (length (decimal spot.line)) (indent (left_out spot.column (length line)) spot.column) (marked_columns rest)

-- the line at a spot of a text
abbrev pub source : List ℕ → Spot → List ℕ
source bytes spot =
    marked_line (beginnings (line_in_front (behind_lines (spot.line - 1) bytes))) (beginnings (line_in_front (rest_at bytes spot))) spot

-- ---- worked cases

pub a_reserved_word : source (codes "model m {\n  counter load = 0;\n}") (record { line = 2; column = 11 }) ≡ codes "  2 |   counter load = 0;\n    |           ^^^^\n"
unfolding digits
a_reserved_word = refl
