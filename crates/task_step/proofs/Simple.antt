-- An `if` or a `while` is no statement without blocks.
use Rattle.std.proofs.Common.{◌≡◌, List, true, sym, ap, ◌∙◌}
use Rattle.aerie_base.specs.declared.expressions.Expr.{Expr}
use Rattle.aerie_base.specs.declared.statements.Stmt.{Stmt, If, While}
use Rattle.aerie_base.specs.statements.Induction.{simple_If, simple_While}
use Rattle.aerie_base.specs.statements.Places.{is_simple}

pub no_choice : (stmt : Stmt) (test : Expr) (block other : List Stmt) → stmt ≡ If test block other → is_simple stmt ≡ true → ⊥
no_choice stmt test block other e h = let z = sym h ∙ ap is_simple e ∙ simple_If test block other in cc

pub no_loop : (stmt : Stmt) (test : Expr) (block : List Stmt) → stmt ≡ While test block → is_simple stmt ≡ true → ⊥
no_loop stmt test block e h = let z = sym h ∙ ap is_simple e ∙ simple_While test block in cc
