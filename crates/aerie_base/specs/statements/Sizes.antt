-- A file of lemmas: what it proves need not be read to trust a clause.
--
-- A statement takes at most two places for each statement in it.
use Rattle.std.proofs.Common.{◌≡◌, ℕ, ◌+◌, ◌*◌, ◌≤◌, true, List, [], ◌∷◌, sym, subst, zero-le, le_refl, le-add_right, add-le-add, mul-add}
use Rattle.aerie_base.specs.declared.expressions.Expr.{Expr}
use Rattle.aerie_base.specs.declared.statements.Stmt.{Stmt, If, While}
use Rattle.aerie_base.specs.statements.Induction.{AllOf, each, stmt_ind}
use Rattle.aerie_base.specs.statements.PlaceForms.{plain_of, size_If, size_While, count_If, count_While}
use Rattle.aerie_base.specs.statements.Places.{size, block_size, count, block_count, is_simple}

abbrev IsFew : Stmt → Type 0
IsFew stmt = size stmt ≤ 2 * count stmt

few_in : (block : List Stmt) → AllOf IsFew block → block_size block ≤ 2 * block_count block
few_in [] all = zero-le
few_in (stmt ∷ rest) all =
    subst (λ (n : ℕ). size stmt + block_size rest ≤ n) (sym (mul-add 2 (count stmt) (block_count rest))) (add-le-add all.0 (few_in rest all.1))

-- by what size and count are
few_by : (stmt : Stmt) (places statements : ℕ) → size stmt ≡ places → count stmt ≡ statements → places ≤ 2 * statements → IsFew stmt
few_by stmt places statements s c few =
    subst (λ (n : ℕ). n ≤ 2 * count stmt) (sym s) (subst (λ (n : ℕ). places ≤ 2 * n) (sym c) few)

choice_few : (x y a b : ℕ) → x ≤ 2 * a → y ≤ 2 * b → 2 + x + y ≤ 2 * (1 + a + b)
choice_few x y a b few others =
    subst (λ (n : ℕ). 2 + x + y ≤ n) (sym (mul-add 2 (1 + a) b))
    (add-le-add (subst (λ (n : ℕ). 2 + x ≤ n) (sym (mul-add 2 1 a)) (add-le-add (le_refl 2) few)) others)

loop_few : (x a : ℕ) → x ≤ 2 * a → 2 + x ≤ 2 * (1 + a)
loop_few x a few = subst (λ (n : ℕ). 2 + x ≤ n) (sym (mul-add 2 1 a)) (add-le-add (le_refl 2) few)

pub stmt_few : (stmt : Stmt) → size stmt ≤ 2 * count stmt
stmt_few = stmt_ind IsFew simple choice loop
  where
    simple : (stmt : Stmt) → is_simple stmt ≡ true → IsFew stmt
    simple stmt h = let p = plain_of stmt h in few_by stmt 1 1 p.size_is p.count_is (le-add_right 1 1)

    choice : (test : Expr) (block other : List Stmt) → AllOf IsFew block → AllOf IsFew other → IsFew (If test block other)
    choice test block other all others =
        few_by (If test block other) (2 + block_size block + block_size other) (1 + block_count block + block_count other)
        (size_If test block other) (count_If test block other)
        (choice_few (block_size block) (block_size other) (block_count block) (block_count other) (few_in block all) (few_in other others))

    loop : (test : Expr) (body : List Stmt) → AllOf IsFew body → IsFew (While test body)
    loop test body all =
        few_by (While test body) (2 + block_size body) (1 + block_count body) (size_While test body) (count_While test body)
        (loop_few (block_size body) (block_count body) (few_in body all))

-- and so does a block
pub block_few : (block : List Stmt) → block_size block ≤ 2 * block_count block
block_few block = few_in block (each IsFew stmt_few block)
