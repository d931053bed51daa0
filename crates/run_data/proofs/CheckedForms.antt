-- What is known of a statement that is as it should be, by its form, and that the scope behind it goes on from the one in
-- front of it.
use Rattle.std.proofs.Common.{◌≡◌, ℕ, Bool, true, false, IsTrue, List, [], ◌∷◌, ◌++◌, Option, Some, None, option_and_then, length, nat_eq, refl, sym, ◌∙◌, subst, eqb-true, if◌then◌else◌}
use Rattle.aerie_base.specs.declared.values.Kind.{Kind}
use Rattle.aerie_base.specs.declared.values.Kind.TheVariants.{Truth}
use Rattle.aerie_base.specs.declared.expressions.Expr.{Expr}
use Rattle.aerie_base.specs.declared.statements.Stmt.{Stmt, If, While, out-Stmt, roll-Stmt, roll-out-Stmt}
use Rattle.aerie_base.specs.declared.statements.Stmt.TheOpen.{Stmt-F}
use Rattle.aerie_base.specs.models.Bodies.{Setting, checked, block_checked, next_scope_if, same_scope_if, behind_call, is_in, is_assigned, is_emission, is_returned, kind_in}
use Rattle.aerie_base.specs.models.Scopes.{Scope, behind, with_local}
use Rattle.aerie_base.specs.models.BodyForms.{braces_checked, checked_If, checked_While}
use Rattle.aerie_base.specs.statements.Places.{is_simple, simple_step}
use Rattle.aerie_base.specs.statements.Induction.{AllOf, each, stmt_ind}
use denote.Hole.Carrier.{hidden, shown, roll}
use Rattle.run_data.proofs.Scoping.{GoesOn, goes_nowhere, goes_further, goes_behind}

-- ---- what stands where there is a scope

pub good_is : (good : Bool) (scope next : Scope) → same_scope_if good scope ≡ Some next → IsTrue good × (next ≡ scope)
good_is true scope next e = let same : scope ≡ next = cc in (refl, sym same)
good_is false scope next e = absurd (cc)

pub when_is : (good : Bool) (behind next : Option Scope) (found : Scope) → behind ≡ next → next_scope_if good behind ≡ Some found → IsTrue good × (next ≡ Some found)
when_is true behind next found same e = (refl, sym same ∙ e)
when_is false behind next found same e = absurd (cc)

-- a local that takes the next slot
pub record Takes (slot : ℕ) (kind : Option Kind) (scope next : Scope) : Type 0 where
  pub of : Kind
  pub kind_is : kind ≡ Some of
  pub slot_is : slot ≡ length scope
  pub next_is : next ≡ scope ++ Some of ∷ []

if_next : (is_next : Bool) (slot : ℕ) (kind : Kind) (scope next : Scope) → (IsTrue is_next → slot ≡ length scope) →
    ◌≡◌ {A = Option Scope} (if is_next then Some (scope ++ Some kind ∷ []) else None) (Some next) → Takes slot (Some kind) scope next
if_next true slot kind scope next same e =
    let found : scope ++ Some kind ∷ [] ≡ next = cc in
    record { of = kind; kind_is = refl; slot_is = same refl; next_is = sym found }
if_next false slot kind scope next same e = absurd (cc)

pub takes : (slot : ℕ) (kind : Option Kind) (scope next : Scope) → with_local slot kind scope ≡ Some next → Takes slot kind scope next
takes slot None scope next e = absurd (cc)
takes slot (Some kind) scope next e = if_next (nat_eq slot (length scope)) slot kind scope next (λ h. eqb-true slot (length scope) h) e

pub then_is : (f : Scope → Option Scope) (found : Option Scope) (last : Scope) → option_and_then f found ≡ Some last →
    (next : Scope) × (found ≡ Some next) × (f next ≡ Some last)
then_is f None last e = absurd (cc)
then_is f (Some next) last e = (next, refl, e)

-- ---- blocks

pub braces : (setting : Setting) (block : List Stmt) (scope next : Scope) → braces_checked setting block scope ≡ Some next →
    (inner : Scope) × (block_checked setting block scope ≡ Some inner) × (next ≡ behind scope inner)
braces setting block scope next e =
    let found = then_is (λ inner. Some (behind scope inner)) (block_checked setting block scope) next e in
    let same : Some (behind scope found.0) ≡ Some next = found.2 in
    let one : behind scope found.0 ≡ next = cc in
    (found.0, found.1, sym one)

-- an `if` that is as it should be
pub record IsChoice (setting : Setting) (test : Expr) (block other : List Stmt) (scope next : Scope) : Type 0 where
  pub tests : IsTrue (is_in setting scope test Truth)
  pub first : Scope
  pub second : Scope
  pub block_is : block_checked setting block scope ≡ Some first
  pub other_is : block_checked setting other (behind scope first) ≡ Some second
  pub next_is : next ≡ behind (behind scope first) second

pub choice_is : (setting : Setting) (test : Expr) (block other : List Stmt) (scope next : Scope) →
    checked setting (If test block other) scope ≡ Some next → IsChoice setting test block other scope next
choice_is setting test block other scope next e =
    let good = when_is (is_in setting scope test Truth) _ _ next refl (sym (checked_If setting test block other scope) ∙ e) in
    let both = then_is (braces_checked setting other) (braces_checked setting block scope) next good.1 in
    let first = braces setting block scope both.0 both.1 in
    let second = braces setting other (behind scope first.0) next (subst (λ (middle : Scope). braces_checked setting other middle ≡ Some next) first.2 both.2) in
    record { tests = good.0; first = first.0; second = second.0; block_is = first.1; other_is = second.1; next_is = second.2 }

-- a `while` that is as it should be
pub record IsLoop (setting : Setting) (test : Expr) (body : List Stmt) (scope next : Scope) : Type 0 where
  pub tests : IsTrue (is_in setting scope test Truth)
  pub inner : Scope
  pub body_is : block_checked setting body scope ≡ Some inner
  pub next_is : next ≡ behind scope inner

pub loop_is : (setting : Setting) (test : Expr) (body : List Stmt) (scope next : Scope) →
    checked setting (While test body) scope ≡ Some next → IsLoop setting test body scope next
loop_is setting test body scope next e =
    let good = when_is (is_in setting scope test Truth) _ _ next refl (sym (checked_While setting test body scope) ∙ e) in
    let found = braces setting body scope next good.1 in
    record { tests = good.0; inner = found.0; body_is = found.1; next_is = found.2 }

-- ---- the scope goes on

takes_goes : (slot : ℕ) (kind : Option Kind) (scope next : Scope) → with_local slot kind scope ≡ Some next → GoesOn scope next
takes_goes slot kind scope next e = let taken = takes slot kind scope next e in (Some taken.of ∷ [], taken.next_is)

good_goes : (good : Bool) (scope next : Scope) → same_scope_if good scope ≡ Some next → GoesOn scope next
good_goes good scope next e = subst (λ (l : Scope). GoesOn scope l) (sym (good_is good scope next e).1) (goes_nowhere scope)

call_goes : (into : Option ℕ) (result : Option Kind) (scope next : Scope) → behind_call into result scope ≡ Some next → GoesOn scope next
call_goes None result scope next e = let same : scope ≡ next = cc in subst (λ (l : Scope). GoesOn scope l) same (goes_nowhere scope)
call_goes (Some slot) result scope next e = takes_goes slot result scope next e

module _ (setting : Setting) where
  abbrev Goes : Stmt → Type 0
  Goes stmt = (scope next : Scope) → checked setting stmt scope ≡ Some next → GoesOn scope next

  layer_goes : (x : Stmt-F Stmt) → simple_step x ≡ true → Goes (roll-Stmt x)
  unfolding checked roll-Stmt shown hidden roll
  layer_goes (Stmt-F.Let slot value) h scope next e = takes_goes slot (kind_in setting scope value) scope next e
  layer_goes (Stmt-F.Assign slot value) h scope next e = good_goes (is_assigned setting scope slot value) scope next e
  layer_goes (Stmt-F.Emit cell what) h scope next e = good_goes (is_emission setting scope cell what) scope next e
  layer_goes (Stmt-F.Delay by) h scope next e = good_goes _ scope next e
  layer_goes (Stmt-F.WaitUntil condition) h scope next e = good_goes _ scope next e
  layer_goes (Stmt-F.Spawn kind arguments) h scope next e = good_goes _ scope next e
  layer_goes (Stmt-F.Call kind arguments into) h scope next e =
      call_goes into _ scope next (when_is _ _ _ next refl e).1
  layer_goes (Stmt-F.If test block other) h scope next e = absurd (cc)
  layer_goes (Stmt-F.While test body) h scope next e = absurd (cc)
  layer_goes (Stmt-F.Return value) h scope next e = good_goes (is_returned setting scope value setting.result) scope next e

  simple_goes : (stmt : Stmt) → is_simple stmt ≡ true → Goes stmt
  unfolding is_simple
  simple_goes stmt h = subst Goes (roll-out-Stmt stmt) (layer_goes (out-Stmt stmt) h)

  block_goes_by : (block : List Stmt) → AllOf Goes block → (scope next : Scope) → block_checked setting block scope ≡ Some next → GoesOn scope next
  block_goes_by [] all scope next e = let same : scope ≡ next = cc in subst (λ (l : Scope). GoesOn scope l) same (goes_nowhere scope)
  block_goes_by (stmt ∷ rest) all scope next e =
      let found = then_is (block_checked setting rest) (checked setting stmt scope) next e in
      goes_further scope found.0 next (all.0 scope found.0 found.1) (block_goes_by rest all.1 found.0 next found.2)

  pub stmt_goes : (stmt : Stmt) → Goes stmt
  stmt_goes = stmt_ind Goes simple_goes
      (λ test block other in_block in_other scope next e.
      let is = choice_is setting test block other scope next e in
      subst (λ (l : Scope). GoesOn scope l) (sym is.next_is)
      (goes_further scope (behind scope is.first) (behind (behind scope is.first) is.second) (goes_behind scope is.first) (goes_behind (behind scope is.first) is.second)))
      (λ test body in_body scope next e.
      let is = loop_is setting test body scope next e in
      subst (λ (l : Scope). GoesOn scope l) (sym is.next_is) (goes_behind scope is.inner))

  pub block_goes : (block : List Stmt) (scope next : Scope) → block_checked setting block scope ≡ Some next → GoesOn scope next
  block_goes block = block_goes_by block (each Goes stmt_goes block)
