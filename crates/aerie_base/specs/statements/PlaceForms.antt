-- A file of lemmas: what it proves need not be read to trust a clause.
--
-- What sizes, counts and the statements left are at each form of statement.
use Rattle.std.proofs.Common.{◌≡◌, ℕ, ◌+◌, List, [], ◌∷◌, ◌++◌, true, map, refl, ap, ◌∙◌, subst}
use denote.Hole.Carrier.{hidden, shown, roll}
use Rattle.aerie_base.specs.declared.expressions.Expr.{Expr}
use Rattle.aerie_base.specs.declared.statements.Stmt.{Stmt, If, While, roll-Stmt, out-Stmt, roll-out-Stmt}
use Rattle.aerie_base.specs.declared.statements.Stmt.TheOpen.{Stmt-F}
use Rattle.aerie_base.specs.statements.RecursionLaws.{with_gift, gives-If, gives-While}
use Rattle.aerie_base.specs.statements.Places.{Placed, placed, Lefts, lefts, lefts_in, lefts_step, block_lefts, size, sum_of, size_step, block_size, count, count_step, block_count, is_simple, simple_step}

-- ---- blocks

firsts_of : (A : Type 0) (step : Stmt-F (Stmt × A) → A) (block : List Stmt) → map (λ gift. gift.0) (map (with_gift A step) block) ≡ block
firsts_of A step [] = refl
firsts_of A step (stmt ∷ rest) = ap (λ (l : List Stmt). stmt ∷ l) (firsts_of A step rest)

sizes_of : (block : List Stmt) → sum_of (map (with_gift ℕ size_step) block) ≡ block_size block
unfolding size
sizes_of [] = refl
sizes_of (stmt ∷ rest) = ap (λ (n : ℕ). size stmt + n) (sizes_of rest)

counts_of : (block : List Stmt) → sum_of (map (with_gift ℕ count_step) block) ≡ block_count block
unfolding count
counts_of [] = refl
counts_of (stmt ∷ rest) = ap (λ (n : ℕ). count stmt + n) (counts_of rest)

lefts_of : (block : List Stmt) (at : ℕ) (behind : List Placed) → lefts_in (map (with_gift Lefts lefts_step) block) at behind ≡ block_lefts block at behind
unfolding lefts
lefts_of [] at behind = refl
lefts_of (stmt ∷ rest) at behind = λ i. lefts stmt at (placed (at + size stmt) (firsts_of Lefts lefts_step rest i) ++ behind) ++ lefts_of rest (at + size stmt) behind i

-- ---- the forms with blocks

pub size_If : (test : Expr) (block other : List Stmt) → size (If test block other) ≡ 2 + block_size block + block_size other
unfolding size
size_If test block other = gives-If ℕ size_step test block other ∙ (λ i. 2 + sizes_of block i + sizes_of other i)

pub size_While : (test : Expr) (body : List Stmt) → size (While test body) ≡ 2 + block_size body
unfolding size
size_While test body = gives-While ℕ size_step test body ∙ (λ i. 2 + sizes_of body i)

pub count_If : (test : Expr) (block other : List Stmt) → count (If test block other) ≡ 1 + block_count block + block_count other
unfolding count
count_If test block other = gives-If ℕ count_step test block other ∙ (λ i. 1 + counts_of block i + counts_of other i)

pub count_While : (test : Expr) (body : List Stmt) → count (While test body) ≡ 1 + block_count body
unfolding count
count_While test body = gives-While ℕ count_step test body ∙ (λ i. 1 + counts_of body i)

-- at the test of an `if` it is left, then its first block, behind which the run goes on behind it, then its second block
pub lefts_If : (test : Expr) (block other : List Stmt) (at : ℕ) (behind : List Placed) → lefts (If test block other) at behind ≡ (record { at = at; what = If test block other } ∷ behind) ∷ block_lefts block (at + 1) behind ++ (behind ∷ block_lefts other (at + 2 + block_size block) behind)
unfolding lefts
lefts_If test block other at behind =
    (λ i. gives-If Lefts lefts_step test block other i at (If test block other) behind)
    ∙ (λ i. (record { at = at; what = If test block other } ∷ behind) ∷ lefts_of block (at + 1) behind i ++ (behind ∷ lefts_of other (at + 2 + block_size (firsts_of Lefts lefts_step block i)) behind i))

-- at the test of a `while` it is left, then its block with the `while` left behind, and at the end of the block it is left
pub lefts_While : (test : Expr) (body : List Stmt) (at : ℕ) (behind : List Placed) → lefts (While test body) at behind ≡ (record { at = at; what = While test body } ∷ behind) ∷ block_lefts body (at + 1) (record { at = at; what = While test body } ∷ behind) ++ ((record { at = at; what = While test body } ∷ behind) ∷ [])
unfolding lefts
lefts_While test body at behind =
    (λ i. gives-While Lefts lefts_step test body i at (While test body) behind)
    ∙ (λ i. (record { at = at; what = While test body } ∷ behind) ∷ lefts_of body (at + 1) (record { at = at; what = While test body } ∷ behind) i ++ ((record { at = at; what = While test body } ∷ behind) ∷ []))

-- ---- statements without blocks

-- such a statement takes one place, and there it is left with what stands behind it
pub record Plain (stmt : Stmt) : Type 0 where
  pub size_is : size stmt ≡ 1
  pub count_is : count stmt ≡ 1
  pub lefts_is : (at : ℕ) (behind : List Placed) → lefts stmt at behind ≡ (record { at = at; what = stmt } ∷ behind) ∷ []

plain : (x : Stmt-F Stmt) → simple_step x ≡ true → Plain (roll-Stmt x)
unfolding size count lefts roll-Stmt shown hidden roll
plain (Stmt-F.Let x e) h = record { size_is = refl; count_is = refl; lefts_is = λ at behind. refl }
plain (Stmt-F.Assign x e) h = record { size_is = refl; count_is = refl; lefts_is = λ at behind. refl }
plain (Stmt-F.Emit x e) h = record { size_is = refl; count_is = refl; lefts_is = λ at behind. refl }
plain (Stmt-F.Delay e) h = record { size_is = refl; count_is = refl; lefts_is = λ at behind. refl }
plain (Stmt-F.WaitUntil e) h = record { size_is = refl; count_is = refl; lefts_is = λ at behind. refl }
plain (Stmt-F.Spawn x e) h = record { size_is = refl; count_is = refl; lefts_is = λ at behind. refl }
plain (Stmt-F.Call x e f) h = record { size_is = refl; count_is = refl; lefts_is = λ at behind. refl }
plain (Stmt-F.If t block other) h = absurd (cc)
plain (Stmt-F.While t body) h = absurd (cc)
plain (Stmt-F.Return e) h = record { size_is = refl; count_is = refl; lefts_is = λ at behind. refl }

pub plain_of : (stmt : Stmt) → is_simple stmt ≡ true → Plain stmt
unfolding is_simple
plain_of stmt h = subst Plain (roll-out-Stmt stmt) (plain (out-Stmt stmt) h)
