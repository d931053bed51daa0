-- Levels of small texts, by computation; a place is the number of the token.
use Rattle.std.specs.Prelude.{◌≡◌, ℕ, Some, [], ◌∷◌, refl}
use Rattle.readers.specs.grammar.Levels.{flat, beside, inside, between, levels, first_past, one_too_many}

-- a + b + c, and a * b + c: the second operator opens the second level, since the first stands in its left operand
pub chain : levels {Place = ℕ} 0 (between 3 (between 1 flat flat) flat) ≡ (1, 1) ∷ (3, 2) ∷ []
chain = refl

-- a + b * c: the product opens the second level, inside the sum
pub product_last : levels {Place = ℕ} 0 (between 1 flat (between 3 flat flat)) ≡ (1, 1) ∷ (3, 2) ∷ []
product_last = refl

-- ( ! a ): each opens a level
pub prefixes : levels {Place = ℕ} 0 (inside 0 (inside 1 flat)) ≡ (0, 1) ∷ (1, 2) ∷ []
prefixes = refl

-- { } { }: blocks beside one another are of one level
pub blocks : levels {Place = ℕ} 0 (beside (inside 0 flat) (inside 2 flat)) ≡ (0, 1) ∷ (2, 1) ∷ []
blocks = refl

-- with one level allowed, the first token past it
pub past_one : first_past {Place = ℕ} 1 (levels {Place = ℕ} 0 (between 3 (between 1 flat flat) flat)) ≡ Some 3
past_one = refl

-- with two parts allowed, the third is one too many
pub third_part : one_too_many {Place = ℕ} 2 (4 ∷ 7 ∷ 9 ∷ 11 ∷ []) ≡ Some 9
third_part = refl
