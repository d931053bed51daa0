-- A file of lemmas: what it proves need not be read to trust a clause.
--
-- Induction over statements: what holds of each statement without blocks, and of an `if` and a `while` where it holds of
-- all statements in their blocks, holds of every statement.
use Rattle.std.proofs.Common.{◌≡◌, List, [], ◌∷◌, true, false, map, sym, ap, ◌∙◌, subst}
use Rattle.aerie_base.specs.declared.expressions.Expr.{Expr}
use Rattle.aerie_base.specs.declared.statements.Stmt.{Stmt, If, While, roll-Stmt, ind-Stmt, map-Stmt, out-roll-Stmt}
use Rattle.aerie_base.specs.declared.statements.Stmt.TheVariants.{rolls-If, rolls-While, outs-If, outs-While}
use Rattle.aerie_base.specs.declared.statements.Stmt.TheOpen.{Stmt-F}
use Rattle.aerie_base.specs.statements.Places.{is_simple, simple_step}

-- something holds of each statement of a block
abbrev pub AllOf : (Stmt → Type 0) → List Stmt → Type 0
AllOf P [] = Unit {0}
AllOf P (stmt ∷ rest) = P stmt × AllOf P rest

-- what holds of every statement holds of all in a block
pub each : (P : Stmt → Type 0) → ((stmt : Stmt) → P stmt) → (block : List Stmt) → AllOf P block
each P every [] = tt
each P every (stmt ∷ rest) = (every stmt, each P every rest)

all_of : (P : Stmt → Type 0) (known : List ((stmt : Stmt) × P stmt)) → AllOf P (map (λ entry. entry.0) known)
all_of P [] = tt
all_of P (entry ∷ rest) = (entry.1, all_of P rest)

pub stmt_ind : (P : Stmt → Type 0)
    → ((stmt : Stmt) → is_simple stmt ≡ true → P stmt)
    → ((test : Expr) (block other : List Stmt) → AllOf P block → AllOf P other → P (If test block other))
    → ((test : Expr) (body : List Stmt) → AllOf P body → P (While test body))
    → (stmt : Stmt) → P stmt
unfolding is_simple
stmt_ind P simple choice loop = ind-Stmt P go where
  go : (x : Stmt-F Stmt) (y : Stmt-F ((stmt : Stmt) × P stmt)) → map-Stmt _ _ (λ entry. entry.0) y ≡ x → P (roll-Stmt x)
  go x (Stmt-F.Let a b) e = simple (roll-Stmt x) (ap simple_step (out-roll-Stmt x ∙ sym e))
  go x (Stmt-F.Assign a b) e = simple (roll-Stmt x) (ap simple_step (out-roll-Stmt x ∙ sym e))
  go x (Stmt-F.Emit a b) e = simple (roll-Stmt x) (ap simple_step (out-roll-Stmt x ∙ sym e))
  go x (Stmt-F.Delay a) e = simple (roll-Stmt x) (ap simple_step (out-roll-Stmt x ∙ sym e))
  go x (Stmt-F.WaitUntil a) e = simple (roll-Stmt x) (ap simple_step (out-roll-Stmt x ∙ sym e))
  go x (Stmt-F.Spawn a b) e = simple (roll-Stmt x) (ap simple_step (out-roll-Stmt x ∙ sym e))
  go x (Stmt-F.Call a b d) e = simple (roll-Stmt x) (ap simple_step (out-roll-Stmt x ∙ sym e))
  go x (Stmt-F.If t block other) e = subst P (let k : roll-Stmt (Stmt-F.If t (map (λ z. z.0) block) (map (λ z. z.0) other)) ≡ roll-Stmt x = ap roll-Stmt e in sym (rolls-If t (map (λ z. z.0) block) (map (λ z. z.0) other)) ∙ k) (choice t (map (λ z. z.0) block) (map (λ z. z.0) other) (all_of P block) (all_of P other))
  go x (Stmt-F.While t body) e = subst P (let k : roll-Stmt (Stmt-F.While t (map (λ z. z.0) body)) ≡ roll-Stmt x = ap roll-Stmt e in sym (rolls-While t (map (λ z. z.0) body)) ∙ k) (loop t (map (λ z. z.0) body) (all_of P body))
  go x (Stmt-F.Return a) e = simple (roll-Stmt x) (ap simple_step (out-roll-Stmt x ∙ sym e))

pub simple_If : (test : Expr) (block other : List Stmt) → is_simple (If test block other) ≡ false
unfolding is_simple
simple_If test block other = ap simple_step (outs-If test block other)

pub simple_While : (test : Expr) (body : List Stmt) → is_simple (While test body) ≡ false
unfolding is_simple
simple_While test body = ap simple_step (outs-While test body)
