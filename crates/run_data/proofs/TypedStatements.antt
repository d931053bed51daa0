-- A statement that is as it should be is well typed by the values of locals that suit the scope in front of it, and the
-- locals after it suit the scope behind it.
use Rattle.std.proofs.Common.{◌≡◌, ℕ, zero, suc, ◌<◌, ◌≤◌, true, ◌&&◌, IsTrue, List, [], ◌∷◌, ◌++◌, Option, Some, None, is_some, length, map, option_map, slice_get, nat_lt, nat_le, refl, sym, ap, ◌∙◌, subst, arith, length-append, lt-ltb, eq-eqb}
use Rattle.aerie_base.specs.declared.values.Kind.{Kind}
use Rattle.aerie_base.specs.declared.values.Kind.TheVariants.{Int, Truth, Enum}
use Rattle.aerie_base.specs.declared.values.Value.{Value}
use Rattle.aerie_base.specs.declared.operands.CellRead.TheVariants as read
use Rattle.aerie_base.specs.declared.expressions.Expr.{Expr}
use Rattle.aerie_base.specs.declared.statements.Emission.{Emission}
use Rattle.aerie_base.specs.declared.statements.Emission.TheVariants as emission
use Rattle.aerie_base.specs.declared.statements.Stmt.{Stmt, out-Stmt, roll-Stmt, roll-out-Stmt}
use Rattle.aerie_base.specs.declared.statements.Stmt.TheVariants.{rolls-If, rolls-While}
use Rattle.aerie_base.specs.declared.statements.Stmt.TheOpen.{Stmt-F}
use Rattle.aerie_base.specs.declared.models.Parameter.{Parameter}
use Rattle.aerie_base.specs.declared.models.Activity.{Activity}
use Rattle.aerie_base.specs.declared.models.model.Parts.{Parts}
use Rattle.aerie_base.specs.expressions.Soundness.{Within}
use Rattle.aerie_base.specs.expressions.Typing.{same_kind, slot_kinds}
use Rattle.aerie_base.specs.models.Bodies.{Setting, checked, is_in, kind_in, is_wanted_kind, is_assigned, is_emission, are_arguments, is_invoked, is_returned, behind_call}
use Rattle.aerie_base.specs.models.Scopes.{Scope, known}
use Rattle.aerie_base.specs.models.Signatures.{Signature, signature_of, signatures_of, signature_result, activity_result}
use Rattle.aerie_base.specs.models.SignatureLaws.{signature_at, result_at}
use Rattle.aerie_base.specs.models.Cells.{read_kind}
use Rattle.aerie_base.specs.models.Expressions.{is_kind_of}
use Rattle.aerie_base.specs.models.Conditions.{is_condition}
use Rattle.aerie_base.specs.statements.Places.{simple_step}
use denote.Hole.Carrier.{hidden, shown, roll}
use Rattle.run_data.specs.Scopes.{suits}
use Rattle.run_data.specs.Typed.{is_typed, has_kind, kind_here, is_typed_emission, are_typed_arguments, is_typed_child, is_taken, is_typed_stmt}
use Rattle.run_data.proofs.Scoping.{both_hold, and_holds}
use Rattle.run_data.proofs.CheckedForms.{good_is, when_is, takes, choice_is, loop_is}
use Rattle.run_data.proofs.KnownKinds.{kind_is, known_within, typed_within, condition_within}
use Rattle.run_data.proofs.ModelBodies.{setting_of}

-- ---- single facts

itself : (kind : Kind) → IsTrue (same_kind kind kind)
itself Int = refl
itself Truth = refl
itself (Enum number) = eq-eqb number number refl

pub same_kinds : (a b : Kind) → a ≡ b → IsTrue (same_kind a b)
same_kinds a b e = subst (λ (k : Kind). IsTrue (same_kind a k)) e (itself a)

found_kind : (found : Option Kind) (of : Kind) → found ≡ Some of → IsTrue (is_kind_of found of)
found_kind found of e = subst (λ (k : Option Kind). IsTrue (is_kind_of k of)) (sym e) (itself of)

found_some : (found : Option Kind) (of : Kind) → found ≡ Some of → IsTrue (is_some found)
found_some found of e = subst (λ (k : Option Kind). IsTrue (is_some k)) (sym e) refl

found_there : (wanted found : Option Kind) (of : Kind) → wanted ≡ Some of → found ≡ Some of → IsTrue (is_wanted_kind wanted found)
found_there wanted found of e h =
    subst (λ (k : Option Kind). IsTrue (is_wanted_kind k found)) (sym e) (found_kind found of h)

pub there_is : (wanted found : Option Kind) → IsTrue (is_wanted_kind wanted found) → (of : Kind) × (wanted ≡ Some of) × (found ≡ Some of)
there_is None found h = absurd (cc)
there_is (Some of) found h = (of, refl, kind_is found of h)

below : (slot count : ℕ) → slot < count → IsTrue (nat_lt slot count)
below slot count h = lt-ltb slot count h

-- a slot whose local has a type is one of the slots
pub has_slot : (locals : List Value) (slot : ℕ) (of : Kind) → slot_kinds locals slot ≡ Some of → slot < length locals
has_slot [] zero of e = absurd (cc)
has_slot [] (suc slot) of e = absurd (cc)
has_slot (value ∷ locals) zero of e = omega arith
has_slot (value ∷ locals) (suc slot) of e = omega (arith, has_slot locals slot of e)

-- ---- statements

module _ (model : Parts) (parameters : ℕ) (result : Option Kind) (scope : Scope) (locals : List Value)
    (few : length scope ≤ length locals) (suit : IsTrue (suits scope locals)) where
  abbrev setting : Setting
  setting = setting_of model parameters result

  -- what is known of a statement, by its form
  abbrev pub Fits : {A : Type 0} → Scope → Stmt-F A → Type 0
  Fits next (Stmt-F.Let slot value) =
      (of : Kind) × (kind_here locals (read_kind model.cells) value ≡ Some of) × (slot ≡ length scope) × (next ≡ scope ++ Some of ∷ [])
  Fits next (Stmt-F.Assign slot value) =
      (of : Kind) × (known scope slot ≡ Some of) × (kind_here locals (read_kind model.cells) value ≡ Some of) × (next ≡ scope)
  Fits next (Stmt-F.Emit cell what) = IsTrue (is_typed_emission model locals cell what) × (next ≡ scope)
  Fits next (Stmt-F.Delay by) = (kind_here locals (read_kind model.cells) by ≡ Some Int) × (next ≡ scope)
  Fits next (Stmt-F.WaitUntil condition) =
      IsTrue (is_condition model.enums (slot_kinds locals) (read_kind model.cells) condition) × (next ≡ scope)
  Fits next (Stmt-F.Spawn kind arguments) = IsTrue (is_typed_child model locals (slice_get model.activities kind) arguments) × (next ≡ scope)
  Fits next (Stmt-F.Call kind arguments into) =
      IsTrue (is_typed_child model locals (slice_get model.activities kind) arguments)
      × (behind_call into (activity_result (slice_get model.activities kind)) scope ≡ Some next)
  Fits next (Stmt-F.If test block other) = kind_here locals (read_kind model.cells) test ≡ Some Truth
  Fits next (Stmt-F.While test body) = kind_here locals (read_kind model.cells) test ≡ Some Truth
  Fits next (Stmt-F.Return None) = (result ≡ None) × (next ≡ scope)
  Fits next (Stmt-F.Return (Some value)) =
      (of : Kind) × (result ≡ Some of) × (kind_here locals (read_kind model.cells) value ≡ Some of) × (next ≡ scope)

  within : Within (known scope) (slot_kinds locals)
  within = known_within scope locals few suit

  -- an expression has its type by the values of the locals too
  kind_kept : (expr : Expr) (of : Kind) → kind_in setting scope expr ≡ Some of → kind_here locals (read_kind model.cells) expr ≡ Some of
  kind_kept expr of e = typed_within model.enums (known scope) (slot_kinds locals) (read_kind model.cells) within expr of e

  is_kept : (expr : Expr) (of : Kind) → IsTrue (is_in setting scope expr of) → kind_here locals (read_kind model.cells) expr ≡ Some of
  is_kept expr of h = kind_kept expr of (kind_is (kind_in setting scope expr) of h)

  number_emission : (found : Option Kind) (by : Expr) → IsTrue (is_kind_of found Int && is_in setting scope by Int) →
      IsTrue (is_kind_of found Int && has_kind locals (read_kind model.cells) by Int)
  number_emission found by h =
      let parts = both_hold (is_kind_of found Int) (is_in setting scope by Int) h in
      and_holds (is_kind_of found Int) (has_kind locals (read_kind model.cells) by Int) parts.0
      (found_kind (kind_here locals (read_kind model.cells) by) Int (is_kept by Int parts.1))

  emission_typed : (cell : ℕ) (what : Emission) → IsTrue (is_emission setting scope cell what) → IsTrue (is_typed_emission model locals cell what)
  emission_typed cell (emission.Add by) h = number_emission (read_kind model.cells (read.Counter cell)) by h
  emission_typed cell (emission.Set to) h =
      let found = there_is (read_kind model.cells (read.Register cell)) (kind_in setting scope to) h in
      found_there (read_kind model.cells (read.Register cell)) (kind_here locals (read_kind model.cells) to) found.0 found.1 (kind_kept to found.0 found.2)
  emission_typed cell (emission.Volume by) h = number_emission (read_kind model.cells (read.Volume cell)) by h
  emission_typed cell (emission.Rate by) h = number_emission (read_kind model.cells (read.Rate cell)) by h

  arguments_typed : (arguments : List Expr) (needed : List Parameter) → IsTrue (are_arguments setting scope arguments (map (λ parameter. parameter.kind) needed)) → IsTrue (are_typed_arguments model locals arguments needed)
  arguments_typed [] [] h = refl
  arguments_typed [] (parameter ∷ needed) h = absurd (cc)
  arguments_typed (argument ∷ arguments) [] h = absurd (cc)
  arguments_typed (argument ∷ arguments) (parameter ∷ needed) h =
      let parts = both_hold (is_in setting scope argument parameter.kind) (are_arguments setting scope arguments (map (λ parameter. parameter.kind) needed)) h in
      and_holds (has_kind locals (read_kind model.cells) argument parameter.kind) (are_typed_arguments model locals arguments needed)
      (found_kind (kind_here locals (read_kind model.cells) argument) parameter.kind (is_kept argument parameter.kind parts.0))
      (arguments_typed arguments needed parts.1)

  child_typed : (found : Option Activity) (arguments : List Expr) → IsTrue (is_invoked setting scope (option_map signature_of found) arguments) → IsTrue (is_typed_child model locals found arguments)
  child_typed None arguments h = absurd (cc)
  child_typed (Some activity) arguments h = arguments_typed arguments activity.parameters h

  -- the signatures of a setting are those of the model's activity types
  invoked_typed : (kind : ℕ) (arguments : List Expr) → IsTrue (is_invoked setting scope (slice_get (signatures_of model.activities) kind) arguments) → IsTrue (is_typed_child model locals (slice_get model.activities kind) arguments)
  invoked_typed kind arguments h =
      child_typed (slice_get model.activities kind) arguments (subst (λ (found : Option Signature). IsTrue (is_invoked setting scope found arguments)) (signature_at model.activities kind) h)

  returned_fits : (value : Option Expr) (wanted : Option Kind) (next : Scope) → wanted ≡ result → IsTrue (is_returned setting scope value wanted) → next ≡ scope → Fits {A = Stmt} next (Stmt-F.Return value)
  returned_fits None None next same h e = (sym same, e)
  returned_fits None (Some wanted) next same h e = absurd (cc)
  returned_fits (Some value) None next same h e = absurd (cc)
  returned_fits (Some value) (Some wanted) next same h e = (wanted, sym same, is_kept value wanted h, e)

  layer_fits : (x : Stmt-F Stmt) (next : Scope) → checked setting (roll-Stmt x) scope ≡ Some next → simple_step x ≡ true → Fits next x
  unfolding checked roll-Stmt shown hidden roll
  layer_fits (Stmt-F.Let slot value) next e h =
      let taken = takes slot (kind_in setting scope value) scope next e in
      (taken.of, kind_kept value taken.of taken.kind_is, taken.slot_is, taken.next_is)
  layer_fits (Stmt-F.Assign slot value) next e h =
      let good = good_is (is_assigned setting scope slot value) scope next e in
      let parts = both_hold (nat_le parameters slot) (is_wanted_kind (known scope slot) (kind_in setting scope value)) good.0 in
      let found = there_is (known scope slot) (kind_in setting scope value) parts.1 in
      (found.0, found.1, kind_kept value found.0 found.2, good.1)
  layer_fits (Stmt-F.Emit cell what) next e h =
      let good = good_is (is_emission setting scope cell what) scope next e in (emission_typed cell what good.0, good.1)
  layer_fits (Stmt-F.Delay by) next e h =
      let good = good_is (is_in setting scope by Int) scope next e in (is_kept by Int good.0, good.1)
  layer_fits (Stmt-F.WaitUntil condition) next e h =
      let good = good_is (is_condition model.enums (known scope) (read_kind model.cells) condition) scope next e in
      (condition_within model.enums (known scope) (slot_kinds locals) (read_kind model.cells) within condition good.0, good.1)
  layer_fits (Stmt-F.Spawn kind arguments) next e h =
      let good = good_is (is_invoked setting scope (slice_get (signatures_of model.activities) kind) arguments) scope next e in
      (invoked_typed kind arguments good.0, good.1)
  layer_fits (Stmt-F.Call kind arguments into) next e h =
      let after : Option Scope = behind_call into (signature_result (slice_get (signatures_of model.activities) kind)) scope in
      let good = when_is (is_invoked setting scope (slice_get (signatures_of model.activities) kind) arguments) after after next refl e in
      (invoked_typed kind arguments good.0, subst (λ (of : Option Kind). behind_call into of scope ≡ Some next) (result_at model.activities kind) good.1)
  layer_fits (Stmt-F.If test block other) next e h = absurd (cc)
  layer_fits (Stmt-F.While test body) next e h = absurd (cc)
  layer_fits (Stmt-F.Return value) next e h =
      let good = good_is (is_returned setting scope value result) scope next e in
      returned_fits value result next refl good.0 good.1

  fits_by : (x : Stmt-F Stmt) (next : Scope) → checked setting (roll-Stmt x) scope ≡ Some next → Fits next x
  fits_by (Stmt-F.If test block other) next e =
      let is = choice_is setting test block other scope next (ap (λ (s : Stmt). checked setting s scope) (sym (rolls-If test block other)) ∙ e) in
      is_kept test Truth is.tests
  fits_by (Stmt-F.While test body) next e =
      let is = loop_is setting test body scope next (ap (λ (s : Stmt). checked setting s scope) (sym (rolls-While test body)) ∙ e) in
      is_kept test Truth is.tests
  fits_by (Stmt-F.Let slot value) next e = layer_fits (Stmt-F.Let slot value) next e refl
  fits_by (Stmt-F.Assign slot value) next e = layer_fits (Stmt-F.Assign slot value) next e refl
  fits_by (Stmt-F.Emit cell what) next e = layer_fits (Stmt-F.Emit cell what) next e refl
  fits_by (Stmt-F.Delay by) next e = layer_fits (Stmt-F.Delay by) next e refl
  fits_by (Stmt-F.WaitUntil condition) next e = layer_fits (Stmt-F.WaitUntil condition) next e refl
  fits_by (Stmt-F.Spawn kind arguments) next e = layer_fits (Stmt-F.Spawn kind arguments) next e refl
  fits_by (Stmt-F.Call kind arguments into) next e = layer_fits (Stmt-F.Call kind arguments into) next e refl
  fits_by (Stmt-F.Return value) next e = layer_fits (Stmt-F.Return value) next e refl

  -- a statement that is as it should be fits
  pub stmt_fits : (stmt : Stmt) (next : Scope) → checked setting stmt scope ≡ Some next → Fits next (out-Stmt stmt)
  stmt_fits stmt next e = fits_by (out-Stmt stmt) next (ap (λ (s : Stmt). checked setting s scope) (roll-out-Stmt stmt) ∙ e)

  -- ---- and is well typed

  slot_there : (slot : ℕ) (of : Kind) → known scope slot ≡ Some of → slot < length locals
  slot_there slot of e = has_slot locals slot of (within slot of e)

  next_slot : (slot : ℕ) (of : Kind) (next : Scope) → slot ≡ length scope → next ≡ scope ++ Some of ∷ [] → length next ≤ length locals → slot < length locals
  next_slot slot of next e n small = omega (arith, e, ap (λ (s : Scope). length s) n, length-append scope (Some of ∷ []), small)

  taken_typed : (into : Option ℕ) (of : Option Kind) (next : Scope) → behind_call into of scope ≡ Some next → length next ≤ length locals → IsTrue (is_taken locals into of)
  taken_typed None of next e small = refl
  taken_typed (Some slot) of next e small =
      let taken = takes slot of scope next e in
      and_holds (nat_lt slot (length locals)) (is_some of)
      (below slot (length locals) (next_slot slot taken.of next taken.slot_is taken.next_is small))
      (found_some of taken.of taken.kind_is)

  pub fits_typed : {A : Type 0} (x : Stmt-F A) (next : Scope) → length next ≤ length locals → Fits next x → IsTrue (is_typed_stmt model locals x)
  fits_typed (Stmt-F.Let slot value) next small fit =
      and_holds (nat_lt slot (length locals)) (is_typed locals (read_kind model.cells) value)
      (below slot (length locals) (next_slot slot fit.0 next fit.2 fit.3 small))
      (found_some (kind_here locals (read_kind model.cells) value) fit.0 fit.1)
  fits_typed (Stmt-F.Assign slot value) next small fit =
      and_holds (nat_lt slot (length locals)) (is_typed locals (read_kind model.cells) value)
      (below slot (length locals) (slot_there slot fit.0 fit.1))
      (found_some (kind_here locals (read_kind model.cells) value) fit.0 fit.2)
  fits_typed (Stmt-F.Emit cell what) next small fit = fit.0
  fits_typed (Stmt-F.Delay by) next small fit = found_kind (kind_here locals (read_kind model.cells) by) Int fit.0
  fits_typed (Stmt-F.WaitUntil condition) next small fit = fit.0
  fits_typed (Stmt-F.Spawn kind arguments) next small fit = fit.0
  fits_typed (Stmt-F.Call kind arguments into) next small fit =
      and_holds (is_typed_child model locals (slice_get model.activities kind) arguments) (is_taken locals into (activity_result (slice_get model.activities kind)))
      fit.0 (taken_typed into (activity_result (slice_get model.activities kind)) next fit.1 small)
  fits_typed (Stmt-F.If test block other) next small fit = found_kind (kind_here locals (read_kind model.cells) test) Truth fit
  fits_typed (Stmt-F.While test body) next small fit = found_kind (kind_here locals (read_kind model.cells) test) Truth fit
  fits_typed (Stmt-F.Return None) next small fit = refl
  fits_typed (Stmt-F.Return (Some value)) next small fit = found_some (kind_here locals (read_kind model.cells) value) fit.0 fit.2
