-- A file of lemmas: what it proves need not be read to trust a clause.
--
-- What the scope behind a statement, and its depth, are at the forms with blocks.
use Rattle.std.proofs.Common.{◌≡◌, ℕ, ◌+◌, max, List, [], ◌∷◌, Some, option_and_then, map, refl, ap, ◌∙◌}
use Rattle.aerie_base.specs.declared.values.Kind.TheVariants.{Truth}
use Rattle.aerie_base.specs.declared.expressions.Expr.{Expr}
use Rattle.aerie_base.specs.declared.statements.Stmt.{Stmt, If, While}
use Rattle.aerie_base.specs.statements.RecursionLaws.{with_gift, gives-If, gives-While}
use Rattle.aerie_base.specs.models.Bodies.{Setting, Checked, checked, checked_step, block_checked, in_turn, in_block, next_scope_if, is_in}
use Rattle.aerie_base.specs.models.Depth.{deepest, stmt_depth_step, stmt_depth, body_depth}
use Rattle.aerie_base.specs.models.Scopes.{Scope, behind}

-- the scope behind a block's braces
abbrev pub braces_checked : Setting → List Stmt → Checked
braces_checked setting block scope = option_and_then (λ inner. Some (behind scope inner)) (block_checked setting block scope)

module _ (setting : Setting) where
  turns_of : (block : List Stmt) (scope : Scope) → in_turn (map (with_gift Checked (checked_step setting)) block) scope ≡ block_checked setting block scope
  unfolding checked
  turns_of [] scope = refl
  turns_of (stmt ∷ rest) scope = λ i. option_and_then (λ (next : Scope). turns_of rest next i) (checked setting stmt scope)

  block_of : (block : List Stmt) (scope : Scope) → in_block (map (with_gift Checked (checked_step setting)) block) scope ≡ braces_checked setting block scope
  block_of block scope = ap (option_and_then (λ inner. Some (behind scope inner))) (turns_of block scope)

  -- the scope behind an `if`: first that behind one block, then that behind the other
  pub checked_If : (test : Expr) (block other : List Stmt) (scope : Scope) →
      checked setting (If test block other) scope
      ≡ next_scope_if (is_in setting scope test Truth) (option_and_then (braces_checked setting other) (braces_checked setting block scope))
  unfolding checked
  checked_If test block other scope =
      (λ i. gives-If Checked (checked_step setting) test block other i scope)
      ∙ (λ i. next_scope_if (is_in setting scope test Truth) (option_and_then (λ (next : Scope). block_of other next i) (block_of block scope i)))

  pub checked_While : (test : Expr) (body : List Stmt) (scope : Scope) →
      checked setting (While test body) scope ≡ next_scope_if (is_in setting scope test Truth) (braces_checked setting body scope)
  unfolding checked
  checked_While test body scope =
      (λ i. gives-While Checked (checked_step setting) test body i scope)
      ∙ (λ i. next_scope_if (is_in setting scope test Truth) (block_of body scope i))

depths_of : (block : List Stmt) → deepest (map (with_gift ℕ stmt_depth_step) block) ≡ body_depth block
unfolding stmt_depth
depths_of [] = refl
depths_of (stmt ∷ rest) = ap (λ (n : ℕ). max (stmt_depth stmt) n) (depths_of rest)

pub depth_If : (test : Expr) (block other : List Stmt) → stmt_depth (If test block other) ≡ 1 + max (body_depth block) (body_depth other)
unfolding stmt_depth
depth_If test block other = gives-If ℕ stmt_depth_step test block other ∙ (λ i. 1 + max (depths_of block i) (depths_of other i))

pub depth_While : (test : Expr) (body : List Stmt) → stmt_depth (While test body) ≡ 1 + body_depth body
unfolding stmt_depth
depth_While test body = gives-While ℕ stmt_depth_step test body ∙ (λ i. 1 + depths_of body i)
