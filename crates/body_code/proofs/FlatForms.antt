-- What the code is at each form of statement.
use Rattle.std.proofs.Common.{◌≡◌, ℕ, ◌+◌, List, [], ◌∷◌, ◌++◌, true, map, refl, ap, ◌∙◌, subst}
use denote.Hole.Carrier.{hidden, shown, roll}
use Rattle.aerie_base.specs.declared.expressions.Expr.{Expr}
use Rattle.aerie_base.specs.declared.statements.Stmt.{Stmt, If, While, roll-Stmt, out-Stmt, roll-out-Stmt}
use Rattle.aerie_base.specs.declared.statements.Stmt.TheOpen.{Stmt-F}
use Rattle.aerie_base.specs.statements.RecursionLaws.{with_gift, gives-If, gives-While}
use Rattle.aerie_base.specs.statements.Places.{size, block_size, is_simple, simple_step}
use Rattle.body_code.specs.FlatCode.{Coded, code_of, code_in, code_step, block_code, if_code, while_code}
use Rattle.body_code.specs.declared.instructions.Instruction.{Instruction}
use Rattle.body_code.specs.declared.instructions.Instruction.TheVariants.{Do, Test, Jump}

-- ---- blocks

firsts_of : (block : List Stmt) → map (λ gift. gift.0) (map (with_gift Coded code_step) block) ≡ block
firsts_of [] = refl
firsts_of (stmt ∷ rest) = ap (λ (l : List Stmt). stmt ∷ l) (firsts_of rest)

codes_of : (block : List Stmt) (at : ℕ) → code_in (map (with_gift Coded code_step) block) at ≡ block_code block at
unfolding code_of
codes_of [] at = refl
codes_of (stmt ∷ rest) at = ap (λ (l : List Instruction). code_of stmt at ++ l) (codes_of rest (at + size stmt))

-- ---- the forms with blocks

pub code_If : (test : Expr) (block other : List Stmt) (at : ℕ) → code_of (If test block other) at ≡ if_code test block other at
unfolding code_of
code_If test block other at =
    (λ i. gives-If Coded code_step test block other i at (If test block other))
    ∙ (λ i. Test test (at + 2 + block_size (firsts_of block i)) ∷ codes_of block (at + 1) i ++ (Jump (at + 2 + block_size (firsts_of block i) + block_size (firsts_of other i)) ∷ codes_of other (at + 2 + block_size (firsts_of block i)) i))

pub code_While : (test : Expr) (body : List Stmt) (at : ℕ) → code_of (While test body) at ≡ while_code test body at
unfolding code_of
code_While test body at =
    (λ i. gives-While Coded code_step test body i at (While test body))
    ∙ (λ i. Test test (at + 2 + block_size (firsts_of body i)) ∷ codes_of body (at + 1) i ++ (Jump at ∷ []))

-- ---- statements without blocks

abbrev IsDone : Stmt → Type 0
IsDone stmt = (at : ℕ) → code_of stmt at ≡ Do stmt ∷ []

done : (x : Stmt-F Stmt) → simple_step x ≡ true → IsDone (roll-Stmt x)
unfolding code_of roll-Stmt shown hidden roll
done (Stmt-F.Let slot value) h = λ at. refl
done (Stmt-F.Assign slot value) h = λ at. refl
done (Stmt-F.Emit cell what) h = λ at. refl
done (Stmt-F.Delay by) h = λ at. refl
done (Stmt-F.WaitUntil condition) h = λ at. refl
done (Stmt-F.Spawn kind arguments) h = λ at. refl
done (Stmt-F.Call kind arguments into) h = λ at. refl
done (Stmt-F.If test block other) h = absurd (cc)
done (Stmt-F.While test body) h = absurd (cc)
done (Stmt-F.Return value) h = λ at. refl

-- the code of a statement without blocks is to do it
pub code_simple : (stmt : Stmt) → is_simple stmt ≡ true → (at : ℕ) → code_of stmt at ≡ Do stmt ∷ []
unfolding is_simple
code_simple stmt h = subst IsDone (roll-out-Stmt stmt) (done (out-Stmt stmt) h)
