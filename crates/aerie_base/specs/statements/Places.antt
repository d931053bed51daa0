-- The places of a body, and the statements that are left at a place.
--
-- A statement takes one place; an `if` takes one for its test, those of its first block, one behind that block, and those
-- of its second block; a `while` takes one for its test, those of its block, and one behind that. Behind the first block
-- of an `if` the run goes on behind the whole `if`, and behind the block of a `while` at its test.
use Rattle.std.specs.Prelude.{ℕ, ◌+◌, List, [], ◌∷◌, ◌++◌, slice_index_or, map, Bool, true, false}
use Rattle.aerie_base.specs.declared.statements.Stmt.{Stmt, out-Stmt}
use Rattle.aerie_base.specs.declared.statements.Stmt.TheOpen.{Stmt-F}
use Rattle.aerie_base.specs.statements.Recursion.{stmt_gives}

-- ---- how many places

abbrev pub sum_of : List (Stmt × ℕ) → ℕ
sum_of [] = 0
sum_of (stmt ∷ rest) = stmt.1 + sum_of rest

abbrev pub size_step : Stmt-F (Stmt × ℕ) → ℕ
size_step (Stmt-F.If test block other) = 2 + sum_of block + sum_of other
size_step (Stmt-F.While test body) = 2 + sum_of body
size_step _ = 1

-- how many places a statement takes
unfoldable pub size : Stmt → ℕ
size = stmt_gives ℕ size_step

-- how many places a block takes
abbrev pub block_size : List Stmt → ℕ
block_size [] = 0
block_size (stmt ∷ rest) = size stmt + block_size rest

-- ---- how many statements

abbrev pub count_step : Stmt-F (Stmt × ℕ) → ℕ
count_step (Stmt-F.If test block other) = 1 + sum_of block + sum_of other
count_step (Stmt-F.While test body) = 1 + sum_of body
count_step _ = 1

-- how many statements a statement has, with itself and all in its blocks
unfoldable pub count : Stmt → ℕ
count = stmt_gives ℕ count_step

-- how many statements a block has, with all in their blocks
abbrev pub block_count : List Stmt → ℕ
block_count [] = 0
block_count (stmt ∷ rest) = count stmt + block_count rest

-- ---- statements without blocks

abbrev pub simple_step : {A : Type 0} → Stmt-F A → Bool
simple_step (Stmt-F.If test block other) = false
simple_step (Stmt-F.While test body) = false
simple_step _ = true

-- whether a statement has no blocks
unfoldable pub is_simple : Stmt → Bool
is_simple stmt = simple_step (out-Stmt stmt)

-- ---- what is left

-- a statement at its place
pub record Placed : Type 0 where
  pub at : ℕ
  pub what : Stmt

-- the statements of a block that begins at a place
abbrev pub placed : ℕ → List Stmt → List Placed
placed at [] = []
placed at (stmt ∷ rest) = record { at = at; what = stmt } ∷ placed (at + size stmt) rest

-- by the place of a statement, the statement itself, and what is left behind it: what is left at each of its places
abbrev pub Lefts : Type 0
Lefts = ℕ → Stmt → List Placed → List (List Placed)

abbrev pub lefts_in : List (Stmt × Lefts) → ℕ → List Placed → List (List Placed)
lefts_in [] at behind = []
lefts_in (stmt ∷ rest) at behind =
    stmt.1 at stmt.0 (placed (at + size stmt.0) (map (λ gift. gift.0) rest) ++ behind)
    ++ lefts_in rest (at + size stmt.0) behind

abbrev pub lefts_step : Stmt-F (Stmt × Lefts) → Lefts
lefts_step (Stmt-F.If test block other) at self behind =
    (record { at = at; what = self } ∷ behind) ∷ lefts_in block (at + 1) behind
    ++ (behind ∷ lefts_in other (at + 2 + block_size (map (λ gift. gift.0) block)) behind)
lefts_step (Stmt-F.While test body) at self behind =
    (record { at = at; what = self } ∷ behind) ∷ lefts_in body (at + 1) (record { at = at; what = self } ∷ behind)
    ++ ((record { at = at; what = self } ∷ behind) ∷ [])
lefts_step _ at self behind = (record { at = at; what = self } ∷ behind) ∷ []

-- what is left at each of a statement's places
unfoldable pub lefts : Stmt → ℕ → List Placed → List (List Placed)
lefts stmt at behind = stmt_gives Lefts lefts_step stmt at stmt behind

-- what is left at each place of a block
abbrev pub block_lefts : List Stmt → ℕ → List Placed → List (List Placed)
block_lefts [] at behind = []
block_lefts (stmt ∷ rest) at behind =
    lefts stmt at (placed (at + size stmt) rest ++ behind) ++ block_lefts rest (at + size stmt) behind

-- what is left at each place of a body, and at its end
abbrev pub all_lefts : List Stmt → List (List Placed)
all_lefts body = block_lefts body 0 [] ++ ([] ∷ [])

-- the statements left at a place of a body, in order, each with its own place; none past the end
unfoldable pub left : List Stmt → ℕ → List Placed
left body at = slice_index_or (all_lefts body) at []
