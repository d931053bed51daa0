-- The flat code of a body: one instruction for each of its places, and one for its end.
--
-- A statement without blocks is done at its place. At the place of an `if` stands its test, which leads into the first
-- block, or to the second; behind the first block a jump leads behind the whole `if`. At the place of a `while` stands
-- its test, which leads into the block, or behind the whole `while`; behind the block a jump leads back to the test.
use Rattle.std.specs.Prelude.{ℕ, ◌+◌, List, [], ◌∷◌, ◌++◌, map}
use Rattle.aerie_base.specs.declared.expressions.Expr.{Expr}
use Rattle.aerie_base.specs.declared.statements.Stmt.{Stmt}
use Rattle.aerie_base.specs.declared.statements.Stmt.TheOpen.{Stmt-F}
use Rattle.aerie_base.specs.statements.Recursion.{stmt_gives}
use Rattle.aerie_base.specs.statements.Places.{size, block_size}
use Rattle.body_code.specs.declared.instructions.Instruction.{Instruction}
use Rattle.body_code.specs.declared.instructions.Instruction.TheVariants.{Do, Test, Jump, End}

-- by the place of a statement, and the statement itself: its code
abbrev pub Coded : Type 0
Coded = ℕ → Stmt → List Instruction

abbrev pub code_in : List (Stmt × Coded) → ℕ → List Instruction
code_in [] at = []
code_in (stmt ∷ rest) at = stmt.1 at stmt.0 ++ code_in rest (at + size stmt.0)

abbrev pub code_step : Stmt-F (Stmt × Coded) → Coded
code_step (Stmt-F.If test block other) at self =
    Test test (at + 2 + block_size (map (λ gift. gift.0) block))
    ∷ code_in block (at + 1)
    ++ (Jump (at + 2 + block_size (map (λ gift. gift.0) block) + block_size (map (λ gift. gift.0) other))
    ∷ code_in other (at + 2 + block_size (map (λ gift. gift.0) block)))
code_step (Stmt-F.While test body) at self =
    Test test (at + 2 + block_size (map (λ gift. gift.0) body)) ∷ code_in body (at + 1) ++ (Jump at ∷ [])
code_step _ at self = Do self ∷ []

-- the code of a statement, by its place
unfoldable pub code_of : Stmt → ℕ → List Instruction
code_of stmt at = stmt_gives Coded code_step stmt at stmt

-- the code of a block, by the place at which it begins
abbrev pub block_code : List Stmt → ℕ → List Instruction
block_code [] at = []
block_code (stmt ∷ rest) at = code_of stmt at ++ block_code rest (at + size stmt)

-- the code of a body
abbrev pub body_code : List Stmt → List Instruction
body_code body = block_code body 0 ++ End ∷ []

-- ---- the forms with blocks

-- the code of an `if`
abbrev pub if_code : Expr → List Stmt → List Stmt → ℕ → List Instruction
if_code test block other at =
    Test test (at + 2 + block_size block)
    ∷ block_code block (at + 1)
    ++ (Jump (at + 2 + block_size block + block_size other) ∷ block_code other (at + 2 + block_size block))

-- the code of a `while`
abbrev pub while_code : Expr → List Stmt → ℕ → List Instruction
while_code test body at = Test test (at + 2 + block_size body) ∷ block_code body (at + 1) ++ (Jump at ∷ [])
