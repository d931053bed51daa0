-- Levels of nesting, counts, and the first token past a limit.
use Rattle.std.specs.Prelude.{ℕ, zero, suc, ◌+◌, Bool, true, false, max, nat_lt, Option, Some, None, List, [], ◌∷◌, ◌++◌}

-- What was read, as far as its nesting goes. A part that opens no level; parts beside one another; what stands inside an
-- opening parenthesis, a prefix operator or a block, which opens a level at its own token; and an infix operator with its left
-- and right operands, which opens a level at its own token too.
pub data Nested (Place : Type 0) : Type 0 where
  flat : Nested Place
  beside : Nested Place → Nested Place → Nested Place
  inside : Place → Nested Place → Nested Place
  between : Place → Nested Place → Nested Place → Nested Place

-- how many levels stand inside one another at most
abbrev pub height : {Place : Type 0} → Nested Place → ℕ
height flat = 0
height (beside a b) = max (height a) (height b)
height (inside at a) = height a + 1
height (between at a b) = max (height a) (height b) + 1

-- Each token that opens a level, in the text's order, with the level that it opens, where so many levels are open around. An
-- infix operator's level counts the levels open around it and those of its left operand, and one more; it is open around its
-- right operand, and was not yet read as its left operand was.
abbrev pub levels : {Place : Type 0} → ℕ → Nested Place → List (Place × ℕ)
levels around flat = []
levels around (beside a b) = levels around a ++ levels around b
levels around (inside at a) = (at, around + 1) ∷ levels (around + 1) a
levels around (between at a b) = levels around a ++ ((at, around + height a + 1) ∷ levels (around + 1) b)

-- the first where the test holds, else the second
abbrev pub first_or : {Place : Type 0} → Bool → Place → Option Place → Option Place
first_or true at others = Some at
first_or false at others = others

-- the first token that opens a level past the limit
abbrev pub first_past : {Place : Type 0} → ℕ → List (Place × ℕ) → Option Place
first_past limit [] = None
first_past limit (l ∷ ls) = first_or (nat_lt limit l.1) l.0 (first_past limit ls)

-- the first token of the part that is one too many, given the first tokens of all parts
abbrev pub one_too_many : {Place : Type 0} → ℕ → List Place → Option Place
one_too_many limit [] = None
one_too_many zero (at ∷ parts) = Some at
one_too_many (suc limit) (at ∷ parts) = one_too_many limit parts
