-- What it means that the code at each place stands for the statements left there.
use Rattle.std.specs.Prelude.{◌≡◌, ℕ, ◌+◌, ◌<◌, List, [], ◌∷◌, ◌++◌, length, slice_get, Some, true, ◌⊎◌}
use Rattle.aerie_base.specs.declared.expressions.Expr.{Expr}
use Rattle.aerie_base.specs.declared.statements.Stmt.{Stmt, If, While}
use Rattle.aerie_base.specs.statements.Places.{Placed, placed, left, block_size, is_simple}
use Rattle.body_code.specs.declared.instructions.Instruction.{Instruction}
use Rattle.body_code.specs.declared.instructions.Instruction.TheVariants.{Do, Test, Jump, End}

-- By what is left at each place: a test at a place is that of the `if` or of the `while` that is left there first.
pub data Tests (left_at : ℕ → List Placed) (at : ℕ) (test : Expr) (otherwise : ℕ) : Type 0 where
  -- where the test of an `if` is true its first block is left next, otherwise its second block
  chooses : (block other : List Stmt) (behind : List Placed) →
      left_at at ≡ record { at = at; what = If test block other } ∷ behind →
      left_at (at + 1) ≡ placed (at + 1) block ++ behind →
      left_at otherwise ≡ placed (at + 2 + block_size block) other ++ behind →
      Tests left_at at test otherwise
  -- where the test of a `while` is true its block is left next, and behind it the `while` again, otherwise what stands
  -- behind it
  repeats : (body : List Stmt) (behind : List Placed) →
      left_at at ≡ record { at = at; what = While test body } ∷ behind →
      left_at (at + 1) ≡ placed (at + 1) body ++ left_at at →
      left_at otherwise ≡ behind →
      Tests left_at at test otherwise

-- An instruction at a place, in a code of so many places, stands for what is left there, by what is left at the places
-- to which it leads. Those are places of the code.
abbrev pub Denotes : (ℕ → List Placed) → ℕ → ℕ → Instruction → Type 0
Denotes left_at places at (Do stmt) =
    (is_simple stmt ≡ true)
    × (at + 1 < places)
    × (left_at at ≡ record { at = at; what = stmt } ∷ left_at (at + 1))
Denotes left_at places at (Test test otherwise) = (at + 1 < places) × (otherwise < places) × Tests left_at at test otherwise
Denotes left_at places at (Jump to) = (to < places) × (left_at at ≡ left_at to)
Denotes left_at places at End = left_at at ≡ []

-- a test stands at this place
abbrev pub IsTestAt : List Instruction → ℕ → Type 0
IsTestAt code at = (test : Expr) × (otherwise : ℕ) × (slice_get code at ≡ Some (Test test otherwise))

-- A jump leads onward, or back to a test, so that jumps alone never go on without end.
abbrev pub JumpsEnd : List Instruction → ℕ → Instruction → Type 0
JumpsEnd code at (Jump to) = (at < to) ⊎ IsTestAt code to
JumpsEnd code at _ = Unit {0}

-- The code at each place stands for the statements of the body that are left there.
pub record IsCodeOf (body : List Stmt) (code : List Instruction) : Type 0 where
  -- at place 0 the whole body is left
  pub begins : left body 0 ≡ placed 0 body
  -- a place for each of the body's, and one for its end
  pub places : length code ≡ block_size body + 1
  pub denotes : (at : ℕ) (instruction : Instruction) → slice_get code at ≡ Some instruction → Denotes (left body) (length code) at instruction
  pub jumps_end : (at : ℕ) (instruction : Instruction) → slice_get code at ≡ Some instruction → JumpsEnd code at instruction
