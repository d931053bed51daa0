-- A file of lemmas: what it proves need not be read to trust a clause.
--
-- The recursion that computes gives what the statement's own recursion gives, which does not compute.
use Rattle.std.proofs.Common.{◌≡◌, List, [], ◌∷◌, true, map, refl, sym, ap, ◌∙◌, subst}
use denote.Hole.Carrier.{hidden, shown, roll}
use Rattle.aerie_base.specs.declared.expressions.Expr.{Expr}
use Rattle.aerie_base.specs.declared.statements.Stmt.{Stmt, If, While, roll-Stmt, out-Stmt, roll-out-Stmt, para-Stmt, para-roll-Stmt}
use Rattle.aerie_base.specs.declared.statements.Stmt.TheVariants.{rolls-If, rolls-While}
use Rattle.aerie_base.specs.declared.statements.Stmt.TheOpen.{Stmt-F}
use Rattle.aerie_base.specs.statements.Recursion.{stmt_gives}
use Rattle.aerie_base.specs.statements.RecursionLaws.{with_gift, gives-If, gives-While}
use Rattle.aerie_base.specs.statements.Places.{is_simple, simple_step}
use Rattle.aerie_base.specs.statements.Induction.{AllOf, stmt_ind}

module _ (A : Type 0) (step : Stmt-F (Stmt × A) → A) where
  abbrev own : Stmt → Stmt × A
  own stmt = (stmt, para-Stmt A step stmt)

  abbrev Agrees : Stmt → Type 0
  Agrees stmt = stmt_gives A step stmt ≡ para-Stmt A step stmt

  block_agrees : (block : List Stmt) → AllOf Agrees block → map (with_gift A step) block ≡ map own block
  block_agrees [] all = refl
  block_agrees (stmt ∷ rest) all = λ i. (stmt, all.0 i) ∷ block_agrees rest all.1 i

  layer_agrees : (x : Stmt-F Stmt) → simple_step x ≡ true → Agrees (roll-Stmt x)
  unfolding roll-Stmt shown hidden roll
  layer_agrees (Stmt-F.Let slot value) h = sym (para-roll-Stmt A step (Stmt-F.Let slot value))
  layer_agrees (Stmt-F.Assign slot value) h = sym (para-roll-Stmt A step (Stmt-F.Assign slot value))
  layer_agrees (Stmt-F.Emit cell what) h = sym (para-roll-Stmt A step (Stmt-F.Emit cell what))
  layer_agrees (Stmt-F.Delay by) h = sym (para-roll-Stmt A step (Stmt-F.Delay by))
  layer_agrees (Stmt-F.WaitUntil condition) h = sym (para-roll-Stmt A step (Stmt-F.WaitUntil condition))
  layer_agrees (Stmt-F.Spawn kind arguments) h = sym (para-roll-Stmt A step (Stmt-F.Spawn kind arguments))
  layer_agrees (Stmt-F.Call kind arguments into) h = sym (para-roll-Stmt A step (Stmt-F.Call kind arguments into))
  layer_agrees (Stmt-F.If test block other) h = absurd (cc)
  layer_agrees (Stmt-F.While test body) h = absurd (cc)
  layer_agrees (Stmt-F.Return value) h = sym (para-roll-Stmt A step (Stmt-F.Return value))

  simple_agrees : (stmt : Stmt) → is_simple stmt ≡ true → Agrees stmt
  unfolding is_simple
  simple_agrees stmt h = subst Agrees (roll-out-Stmt stmt) (layer_agrees (out-Stmt stmt) h)

  choice_agrees : (test : Expr) (block other : List Stmt) → AllOf Agrees block → AllOf Agrees other → Agrees (If test block other)
  choice_agrees test block other first second =
      gives-If A step test block other
      ∙ (λ i. step (Stmt-F.If test (block_agrees block first i) (block_agrees other second i)))
      ∙ sym (para-roll-Stmt A step (Stmt-F.If test block other))
      ∙ ap (para-Stmt A step) (rolls-If test block other)

  loop_agrees : (test : Expr) (body : List Stmt) → AllOf Agrees body → Agrees (While test body)
  loop_agrees test body all =
      gives-While A step test body
      ∙ (λ i. step (Stmt-F.While test (block_agrees body all i)))
      ∙ sym (para-roll-Stmt A step (Stmt-F.While test body))
      ∙ ap (para-Stmt A step) (rolls-While test body)

  pub gives_para : (stmt : Stmt) → stmt_gives A step stmt ≡ para-Stmt A step stmt
  gives_para = stmt_ind Agrees simple_agrees choice_agrees loop_agrees
