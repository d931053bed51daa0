-- The literals of a statement that is as it should be are values of the model.
use Rattle.std.proofs.Common.{◌≡◌, ℕ, Bool, true, false, ◌&&◌, nat_le, if◌then◌else◌, IsTrue, List, [], ◌∷◌, Option, Some, None, slice_get, refl, ap, ◌∙◌}
use Rattle.aerie_base.specs.declared.values.Kind.{Kind}
use Rattle.aerie_base.specs.declared.values.Kind.TheVariants.{Int}
use Rattle.aerie_base.specs.declared.operands.CellRead.TheVariants as read
use Rattle.aerie_base.specs.declared.expressions.Expr.{Expr}
use Rattle.aerie_base.specs.declared.statements.Emission.{Emission}
use Rattle.aerie_base.specs.declared.statements.Emission.TheVariants as emission
use Rattle.aerie_base.specs.declared.statements.Stmt.{Stmt, out-Stmt, roll-Stmt, roll-out-Stmt}
use Rattle.aerie_base.specs.declared.statements.Stmt.TheOpen.{Stmt-F}
use Rattle.aerie_base.specs.declared.models.EnumType.{EnumType}
use Rattle.aerie_base.specs.expressions.Typing.{kind_of}
use Rattle.aerie_base.specs.models.Bodies.{Setting, checked, is_in, kind_in, is_wanted_kind, is_assigned, is_emission, are_arguments, is_invoked, is_returned, behind_call}
use Rattle.aerie_base.specs.models.Cells.{read_kind}
use Rattle.aerie_base.specs.models.Expressions.{typed, is_kind_of, has_literals, expr_depth}
use Rattle.aerie_base.specs.models.Limits.{depth_limit}
use Rattle.aerie_base.specs.models.Scopes.{Scope, known}
use Rattle.aerie_base.specs.models.Signatures.{Signature, signature_result}
use denote.Hole.Carrier.{hidden, shown, roll}
use Rattle.run_data.specs.Steps.{emission_expr}
use Rattle.run_data.specs.laws.Orders.{EachOf}
use Rattle.run_data.proofs.Scoping.{both_hold}
use Rattle.run_data.proofs.CheckedForms.{good_is, when_is, takes}
use Rattle.run_data.proofs.KnownKinds.{kind_is}
use Rattle.run_data.proofs.TypedStatements.{there_is}

module _ (enums : List EnumType) where
  abbrev pub IsGood : Expr → Type 0
  IsGood expr = IsTrue (has_literals enums expr)

  -- what a statement without blocks evaluates has literals of the model
  abbrev pub Literals : {A : Type 0} → Stmt-F A → Type 0
  Literals (Stmt-F.Let slot value) = IsGood value
  Literals (Stmt-F.Assign slot value) = IsGood value
  Literals (Stmt-F.Emit cell what) = IsGood (emission_expr what)
  Literals (Stmt-F.Delay by) = Unit {0}
  Literals (Stmt-F.WaitUntil condition) = Unit {0}
  Literals (Stmt-F.Spawn kind arguments) = EachOf IsGood arguments
  Literals (Stmt-F.Call kind arguments into) = EachOf IsGood arguments
  Literals (Stmt-F.If test block other) = Unit {0}
  Literals (Stmt-F.While test body) = Unit {0}
  Literals (Stmt-F.Return None) = Unit {0}
  Literals (Stmt-F.Return (Some value)) = IsGood value

good_if : (good : Bool) (found : Option Kind) (of : Kind) → (if good then found else None) ≡ Some of → good ≡ true
good_if true found of e = refl
good_if false found of e = absurd (cc)

module _ (setting : Setting) (scope : Scope) where
  good_kind : (expr : Expr) (of : Kind) → kind_in setting scope expr ≡ Some of → IsGood setting.enums expr
  unfolding typed
  good_kind expr of e =
      (both_hold (has_literals setting.enums expr) (nat_le (expr_depth expr) depth_limit)
      (good_if (has_literals setting.enums expr && nat_le (expr_depth expr) depth_limit) (kind_of expr (known scope) (read_kind setting.cells)) of e)).0

  good_in : (expr : Expr) (of : Kind) → IsTrue (is_in setting scope expr of) → IsGood setting.enums expr
  good_in expr of h = good_kind expr of (kind_is (kind_in setting scope expr) of h)

  emission_good : (cell : ℕ) (what : Emission) → IsTrue (is_emission setting scope cell what) → IsGood setting.enums (emission_expr what)
  emission_good cell (emission.Add by) h =
      good_in by Int (both_hold (is_kind_of (read_kind setting.cells (read.Counter cell)) Int) (is_in setting scope by Int) h).1
  emission_good cell (emission.Set to) h =
      let found = there_is (read_kind setting.cells (read.Register cell)) (kind_in setting scope to) h in good_kind to found.0 found.2
  emission_good cell (emission.Volume by) h =
      good_in by Int (both_hold (is_kind_of (read_kind setting.cells (read.Volume cell)) Int) (is_in setting scope by Int) h).1
  emission_good cell (emission.Rate by) h =
      good_in by Int (both_hold (is_kind_of (read_kind setting.cells (read.Rate cell)) Int) (is_in setting scope by Int) h).1

  arguments_good : (arguments : List Expr) (kinds : List Kind) → IsTrue (are_arguments setting scope arguments kinds) → EachOf (IsGood setting.enums) arguments
  arguments_good [] kinds h = tt
  arguments_good (argument ∷ arguments) [] h = absurd (cc)
  arguments_good (argument ∷ arguments) (kind ∷ kinds) h =
      let parts = both_hold (is_in setting scope argument kind) (are_arguments setting scope arguments kinds) h in
      (good_in argument kind parts.0, arguments_good arguments kinds parts.1)

  invoked_good : (found : Option Signature) (arguments : List Expr) → IsTrue (is_invoked setting scope found arguments) → EachOf (IsGood setting.enums) arguments
  invoked_good None arguments h = absurd (cc)
  invoked_good (Some signature) arguments h = arguments_good arguments signature.parameters h

  returned_good : (value : Option Expr) (wanted : Option Kind) → IsTrue (is_returned setting scope value wanted) → Literals setting.enums {A = Stmt} (Stmt-F.Return value)
  returned_good None wanted h = tt
  returned_good (Some value) None h = absurd (cc)
  returned_good (Some value) (Some wanted) h = good_in value wanted h

  layer_good : (x : Stmt-F Stmt) (next : Scope) → checked setting (roll-Stmt x) scope ≡ Some next → Literals setting.enums x
  unfolding checked roll-Stmt shown hidden roll
  layer_good (Stmt-F.Let slot value) next e = let taken = takes slot (kind_in setting scope value) scope next e in good_kind value taken.of taken.kind_is
  layer_good (Stmt-F.Assign slot value) next e =
      let good = good_is (is_assigned setting scope slot value) scope next e in
      let parts = both_hold (nat_le setting.parameters slot) (is_wanted_kind (known scope slot) (kind_in setting scope value)) good.0 in
      let found = there_is (known scope slot) (kind_in setting scope value) parts.1 in
      good_kind value found.0 found.2
  layer_good (Stmt-F.Emit cell what) next e = emission_good cell what (good_is (is_emission setting scope cell what) scope next e).0
  layer_good (Stmt-F.Delay by) next e = tt
  layer_good (Stmt-F.WaitUntil condition) next e = tt
  layer_good (Stmt-F.Spawn kind arguments) next e =
      invoked_good (slice_get setting.signatures kind) arguments (good_is (is_invoked setting scope (slice_get setting.signatures kind) arguments) scope next e).0
  layer_good (Stmt-F.Call kind arguments into) next e =
      let behind : Option Scope = behind_call into (signature_result (slice_get setting.signatures kind)) scope in
      invoked_good (slice_get setting.signatures kind) arguments (when_is (is_invoked setting scope (slice_get setting.signatures kind) arguments) behind behind next refl e).0
  layer_good (Stmt-F.If test block other) next e = tt
  layer_good (Stmt-F.While test body) next e = tt
  layer_good (Stmt-F.Return value) next e = returned_good value setting.result (good_is (is_returned setting scope value setting.result) scope next e).0

  pub stmt_good : (stmt : Stmt) (next : Scope) → checked setting stmt scope ≡ Some next → Literals setting.enums (out-Stmt stmt)
  stmt_good stmt next e = layer_good (out-Stmt stmt) next (ap (λ (s : Stmt). checked setting s scope) (roll-out-Stmt stmt) ∙ e)
