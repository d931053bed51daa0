-- What the scopes at the places of a statement are at each form, and that there are as many as places, and as many lists
-- of what is left.
use Rattle.std.proofs.Common.{◌≡◌, ℕ, ◌+◌, true, List, [], ◌∷◌, ◌++◌, map, refl, sym, ap, ◌∙◌, subst, arith, length, length-append}
use Rattle.aerie_base.specs.declared.expressions.Expr.{Expr}
use Rattle.aerie_base.specs.declared.statements.Stmt.{Stmt, If, While, out-Stmt, roll-Stmt, roll-out-Stmt}
use Rattle.aerie_base.specs.declared.statements.Stmt.TheOpen.{Stmt-F}
use Rattle.aerie_base.specs.statements.RecursionLaws.{with_gift, gives-If, gives-While}
use Rattle.aerie_base.specs.statements.Places.{Placed, placed, lefts, block_lefts, size, block_size, is_simple, simple_step}
use Rattle.aerie_base.specs.statements.PlaceForms.{plain_of, size_If, size_While, lefts_If, lefts_While}
use Rattle.aerie_base.specs.statements.Induction.{AllOf, each, stmt_ind}
use Rattle.aerie_base.specs.models.Bodies.{Setting, checked, block_checked}
use Rattle.aerie_base.specs.models.Scopes.{Scope, behind}
use denote.Hole.Carrier.{hidden, shown, roll}
use Rattle.run_data.specs.Scopes.{Scopes, scope_or, scopes_in, scopes_step, behind_block, stmt_scopes, block_scopes}

-- ---- blocks

firsts_of : (A : Type 0) (step : Stmt-F (Stmt × A) → A) (block : List Stmt) → map (λ gift. gift.0) (map (with_gift A step) block) ≡ block
firsts_of A step [] = refl
firsts_of A step (stmt ∷ rest) = ap (λ (l : List Stmt). stmt ∷ l) (firsts_of A step rest)

-- the scope behind the braces of a block
abbrev pub after_block : Setting → List Stmt → Scope → Scope
after_block setting block scope = behind scope (scope_or scope (block_checked setting block scope))

module _ (setting : Setting) where
  scopes_of : (block : List Stmt) (scope : Scope) → scopes_in setting (map (with_gift Scopes (scopes_step setting)) block) scope ≡ block_scopes setting block scope
  scopes_of [] scope = refl
  scopes_of (stmt ∷ rest) scope =
      ap (λ (l : List Scope). stmt_scopes setting stmt scope ++ l) (scopes_of rest (scope_or scope (checked setting stmt scope)))

  after_of : (block : List Stmt) (scope : Scope) → behind_block setting (map (with_gift Scopes (scopes_step setting)) block) scope ≡ after_block setting block scope
  after_of block scope = ap (λ (l : List Stmt). after_block setting l scope) (firsts_of Scopes (scopes_step setting) block)

  -- in front of an `if` and in its first block, behind that, and in its second block
  pub scopes_If : (test : Expr) (block other : List Stmt) (scope : Scope) →
      stmt_scopes setting (If test block other) scope
      ≡ scope ∷ block_scopes setting block scope ++ (after_block setting block scope ∷ block_scopes setting other (after_block setting block scope))
  scopes_If test block other scope =
      (λ i. gives-If Scopes (scopes_step setting) test block other i scope)
      ∙ (λ i. scope ∷ scopes_of block scope i
      ++ (after_of block scope i ∷ scopes_in setting (map (with_gift Scopes (scopes_step setting)) other) (after_of block scope i)))
      ∙ ap (λ (l : List Scope). scope ∷ block_scopes setting block scope ++ (after_block setting block scope ∷ l)) (scopes_of other (after_block setting block scope))

  -- in front of a `while` and in its block, and behind that
  pub scopes_While : (test : Expr) (body : List Stmt) (scope : Scope) →
      stmt_scopes setting (While test body) scope ≡ scope ∷ block_scopes setting body scope ++ after_block setting body scope ∷ []
  scopes_While test body scope =
      (λ i. gives-While Scopes (scopes_step setting) test body i scope)
      ∙ (λ i. scope ∷ scopes_of body scope i ++ after_of body scope i ∷ [])

  layer_scopes : (x : Stmt-F Stmt) → simple_step x ≡ true → (scope : Scope) → stmt_scopes setting (roll-Stmt x) scope ≡ scope ∷ []
  unfolding roll-Stmt shown hidden roll
  layer_scopes (Stmt-F.Let slot value) h scope = refl
  layer_scopes (Stmt-F.Assign slot value) h scope = refl
  layer_scopes (Stmt-F.Emit cell what) h scope = refl
  layer_scopes (Stmt-F.Delay by) h scope = refl
  layer_scopes (Stmt-F.WaitUntil condition) h scope = refl
  layer_scopes (Stmt-F.Spawn kind arguments) h scope = refl
  layer_scopes (Stmt-F.Call kind arguments into) h scope = refl
  layer_scopes (Stmt-F.If test block other) h scope = absurd (cc)
  layer_scopes (Stmt-F.While test body) h scope = absurd (cc)
  layer_scopes (Stmt-F.Return value) h scope = refl

  pub scopes_simple : (stmt : Stmt) → is_simple stmt ≡ true → (scope : Scope) → stmt_scopes setting stmt scope ≡ scope ∷ []
  unfolding is_simple
  scopes_simple stmt h scope =
      subst (λ (s : Stmt). stmt_scopes setting s scope ≡ scope ∷ []) (roll-out-Stmt stmt) (layer_scopes (out-Stmt stmt) h scope)

  -- ---- as many as places

  abbrev AsMany : Stmt → Type 0
  AsMany stmt = (scope : Scope) → length (stmt_scopes setting stmt scope) ≡ size stmt

  block_as_many : (block : List Stmt) → AllOf AsMany block → (scope : Scope) → length (block_scopes setting block scope) ≡ block_size block
  block_as_many [] all scope = refl
  block_as_many (stmt ∷ rest) all scope =
      let next = scope_or scope (checked setting stmt scope) in
      omega (arith, length-append (stmt_scopes setting stmt scope) (block_scopes setting rest next), all.0 scope, block_as_many rest all.1 next)

  pub scopes_length : (stmt : Stmt) → AsMany stmt
  scopes_length = stmt_ind AsMany
      (λ stmt h scope. ap length (scopes_simple stmt h scope) ∙ sym (plain_of stmt h).size_is)
      (λ test block other in_block in_other scope.
      let middle = after_block setting block scope in
      omega (
        arith,
        ap length (scopes_If test block other scope),
        size_If test block other,
        length-append (block_scopes setting block scope) (middle ∷ block_scopes setting other middle),
        block_as_many block in_block scope,
        block_as_many other in_other middle,
      ))
      (λ test body in_body scope.
      omega (
        arith,
        ap length (scopes_While test body scope),
        size_While test body,
        length-append (block_scopes setting body scope) (after_block setting body scope ∷ []),
        block_as_many body in_body scope,
      ))

  pub block_scopes_length : (block : List Stmt) (scope : Scope) → length (block_scopes setting block scope) ≡ block_size block
  block_scopes_length block = block_as_many block (each AsMany scopes_length block)

abbrev AsManyLefts : Stmt → Type 0
AsManyLefts stmt = (at : ℕ) (behind : List Placed) → length (lefts stmt at behind) ≡ size stmt

block_as_many_lefts : (block : List Stmt) → AllOf AsManyLefts block → (at : ℕ) (behind : List Placed) → length (block_lefts block at behind) ≡ block_size block
block_as_many_lefts [] all at behind = refl
block_as_many_lefts (stmt ∷ rest) all at behind =
    let onward = placed (at + size stmt) rest ++ behind in
    omega (arith, length-append (lefts stmt at onward) (block_lefts rest (at + size stmt) behind), all.0 at onward, block_as_many_lefts rest all.1 (at + size stmt) behind)

pub lefts_length : (stmt : Stmt) → AsManyLefts stmt
lefts_length = stmt_ind AsManyLefts
    (λ stmt h at behind. ap length ((plain_of stmt h).lefts_is at behind) ∙ sym (plain_of stmt h).size_is)
    (λ test block other in_block in_other at behind.
    omega (
      arith,
      ap length (lefts_If test block other at behind),
      size_If test block other,
      length-append (block_lefts block (at + 1) behind) (behind ∷ block_lefts other (at + 2 + block_size block) behind),
      block_as_many_lefts block in_block (at + 1) behind,
      block_as_many_lefts other in_other (at + 2 + block_size block) behind,
    ))
    (λ test body in_body at behind.
    let here : List Placed = record { at = at; what = While test body } ∷ behind in
    omega (
      arith,
      ap length (lefts_While test body at behind),
      size_While test body,
      length-append (block_lefts body (at + 1) here) (here ∷ []),
      block_as_many_lefts body in_body (at + 1) here,
    ))

pub block_lefts_length : (block : List Stmt) (at : ℕ) (behind : List Placed) → length (block_lefts block at behind) ≡ block_size block
block_lefts_length block = block_as_many_lefts block (each AsManyLefts lefts_length block)

-- ---- the first place of a statement

-- a list begins with this
abbrev pub Begins : {A : Type 0} → A → List A → Type 0
Begins {A} first list = (more : List A) × (list ≡ first ∷ more)

pub lefts_begin : (stmt : Stmt) (at : ℕ) (behind : List Placed) → Begins {A = List Placed} (record { at = at; what = stmt } ∷ behind) (lefts stmt at behind)
lefts_begin = stmt_ind (λ stmt. (at : ℕ) (behind : List Placed) → Begins {A = List Placed} (record { at = at; what = stmt } ∷ behind) (lefts stmt at behind))
    (λ stmt h at behind. ([], (plain_of stmt h).lefts_is at behind))
    (λ test block other in_block in_other at behind. (_, lefts_If test block other at behind))
    (λ test body in_body at behind. (_, lefts_While test body at behind))

pub scopes_begin : (setting : Setting) (stmt : Stmt) (scope : Scope) → Begins scope (stmt_scopes setting stmt scope)
scopes_begin setting = stmt_ind (λ stmt. (scope : Scope) → Begins scope (stmt_scopes setting stmt scope))
    (λ stmt h scope. ([], scopes_simple setting stmt h scope))
    (λ test block other in_block in_other scope. (_, scopes_If setting test block other scope))
    (λ test body in_body scope. (_, scopes_While setting test body scope))
