-- Levels of windows: how many may be opened, and how many stand inside one another.
--
-- `and`, `or`, `not`, comparisons, the `*` of a term and each pair of parentheses open a level; `+` and `-` open none. The
-- levels that are open at an operator are those of the operators and parentheses around it, and those of what stands left of
-- it; the operator opens one more. So in `a and b and c` the second `and` opens the second level.
use Rattle.std.specs.Prelude.{ℕ, ◌==◌, List, nat_le, if◌then◌else◌}
use Rattle.readers.specs.Marks.{Mark}
use Rattle.readers.specs.Parsed.{Parsed, failed, next_is, chosen, limited}
use Rattle.readers.specs.declared.limits.Limit.TheVariants.{Depth}
use Rattle.aerie_text.specs.declared.sorts.Sort.TheVariants.{OpenParenthesis}

abbrev pub higher : ℕ → ℕ → ℕ
higher a b = if nat_le a b then b else a

-- the part opens a level with the mark that it begins with: the limit is passed there where no more may be opened
abbrev pub opening : {A : Type 0} → ℕ → (List Mark → Parsed A) → List Mark → Parsed A
opening room part marks = limited (room == 0) Depth part marks

-- the same where the part begins with a parenthesis, and else reading fails
unfoldable pub parenthesis_opening : {A : Type 0} → ℕ → (List Mark → Parsed A) → List Mark → Parsed A
parenthesis_opening room part marks = chosen (next_is OpenParenthesis marks) (opening room part) failed marks
