-- A well-typed statement has what it needs of the state of a step whose cells are of the model.
use Rattle.std.proofs.Common.{◌≡◌, ℕ, zero, suc, ◌<◌, ◌&&◌, Bool, IsTrue, List, [], ◌∷◌, Option, Some, None, length, nat_lt, refl, sym, ap, ◌∙◌, subst, arith}
use Rattle.std.specs.Prelude.{IsSome, is_some, slice_get}
use mathlib.Core.Bool.{true≢false}
use Rattle.aerie_base.specs.declared.values.Kind.{Kind}
use Rattle.aerie_base.specs.declared.values.Kind.TheVariants.{Int, Truth}
use Rattle.aerie_base.specs.declared.operands.CellRead.{CellRead}
use Rattle.aerie_base.specs.declared.operands.CellRead.TheVariants as read
use Rattle.aerie_base.specs.declared.expressions.Expr.{Expr}
use Rattle.aerie_base.specs.declared.statements.Emission.{Emission}
use Rattle.aerie_base.specs.declared.statements.Emission.TheVariants as emission
use Rattle.aerie_base.specs.declared.statements.Stmt.TheOpen.{Stmt-F}
use Rattle.aerie_base.specs.declared.models.Parameter.{Parameter}
use Rattle.aerie_base.specs.declared.models.Activity.{Activity}
use Rattle.aerie_base.specs.declared.models.model.Parts.{Parts}
use Rattle.aerie_base.specs.expressions.Readings.{cell_of}
use Rattle.aerie_base.specs.expressions.Typing.{kind_of, slot_kinds}
use Rattle.aerie_base.specs.models.Bodies.{is_wanted_kind}
use Rattle.aerie_base.specs.models.Cells.{read_kind}
use Rattle.aerie_base.specs.models.Expressions.{is_kind_of}
use Rattle.effect_cells.specs.declared.effects.CellState.{CellState}
use Rattle.effect_cells.specs.Reads.{state_kind}
use Rattle.run_data.specs.StepStates.{StepState}
use Rattle.run_data.specs.Jobs.{AreCellsOf}
use Rattle.run_data.specs.Steps.{emission_expr}
use Rattle.run_data.specs.Typed.{is_typed_stmt, is_typed_emission, is_typed_child, are_typed_arguments, has_kind, kind_here}
use Rattle.task_step.specs.Doable.{cells_of, kinds_of, HasType, have_types, IsDoable}

first_of : (a b : Bool) → IsTrue (a && b) → IsTrue a
first_of a b h = grind arith

second_of : (a b : Bool) → IsTrue (a && b) → IsTrue b
second_of a b h = grind arith

below : (a b : ℕ) → IsTrue (nat_lt a b) → a < b
below a b h = grind arith

-- ---- types

kind_some : (found : Option Kind) (kind : Kind) → IsTrue (is_kind_of found kind) → IsSome found
kind_some None kind h = h
kind_some (Some found) kind h = refl

there_some : (wanted found : Option Kind) → IsTrue (is_wanted_kind wanted found) → IsSome wanted × IsSome found
there_some None found h = absurd (true≢false (sym h))
there_some (Some wanted) found h = (refl, kind_some found wanted h)

module _ (model : Parts) (so_far : StepState) (of_model : AreCellsOf model (cells_of so_far)) where
  same_kinds : kinds_of so_far ≡ read_kind model.cells
  same_kinds = λ i what. of_model.kinds what i

  has_type : (expr : Expr) → IsSome (kind_here so_far.locals (read_kind model.cells) expr) → HasType so_far expr
  has_type expr = subst (λ kinds. IsSome (kind_of expr (slot_kinds so_far.locals) kinds)) (sym same_kinds)

  of_kind : (expr : Expr) (kind : Kind) → IsTrue (has_kind so_far.locals (read_kind model.cells) expr kind) → HasType so_far expr
  of_kind expr kind h = has_type expr (kind_some (kind_here so_far.locals (read_kind model.cells) expr) kind h)

  -- ---- cells

  none_there : (what : CellRead) → state_kind what None ≡ None
  none_there (read.Counter cell) = refl
  none_there (read.Register cell) = refl
  none_there (read.Conflicted cell) = refl
  none_there (read.Volume cell) = refl
  none_there (read.Rate cell) = refl

  there_below : {A : Type 0} (xs : List A) (i : ℕ) → IsSome (slice_get xs i) → i < length xs
  there_below [] i h = absurd (true≢false (sym h))
  there_below (x ∷ xs) zero h = omega arith
  there_below (x ∷ xs) (suc i) h = omega (arith, there_below xs i h)

  state_there : (what : CellRead) (there : Option CellState) → IsSome (state_kind what there) → IsSome there
  state_there what None h = absurd (true≢false (sym h ∙ ap is_some (none_there what)))
  state_there what (Some s) h = refl

  cell_there : (what : CellRead) → IsSome (read_kind model.cells what) → cell_of what < length (cells_of so_far)
  cell_there what h =
      there_below (cells_of so_far) (cell_of what)
      (state_there what (slice_get (cells_of so_far) (cell_of what)) (subst (λ kinds. IsSome (kinds what)) (sym same_kinds) h))

  -- ---- statements

  emits : (cell : ℕ) (what : Emission) → IsTrue (is_typed_emission model so_far.locals cell what) →
      (cell < length (cells_of so_far)) × HasType so_far (emission_expr what)
  emits cell (emission.Add by) h = (
    cell_there (read.Counter cell) (kind_some (read_kind model.cells (read.Counter cell)) Int (first_of _ _ h)),
    of_kind by Int (second_of _ _ h),
  )
  emits cell (emission.Set to) h =
      let both = there_some (read_kind model.cells (read.Register cell)) (kind_here so_far.locals (read_kind model.cells) to) h in
      (cell_there (read.Register cell) both.0, has_type to both.1)
  emits cell (emission.Volume by) h = (
    cell_there (read.Volume cell) (kind_some (read_kind model.cells (read.Volume cell)) Int (first_of _ _ h)),
    of_kind by Int (second_of _ _ h),
  )
  emits cell (emission.Rate by) h = (
    cell_there (read.Rate cell) (kind_some (read_kind model.cells (read.Rate cell)) Int (first_of _ _ h)),
    of_kind by Int (second_of _ _ h),
  )

  both_of : (a b : Bool) → IsTrue a → IsTrue b → IsTrue (a && b)
  both_of a b h k = grind arith

  arguments : (exprs : List Expr) (parameters : List Parameter) → IsTrue (are_typed_arguments model so_far.locals exprs parameters) → IsTrue (have_types so_far exprs)
  arguments [] parameters h = refl
  arguments (expr ∷ exprs) [] h = absurd (true≢false (sym h))
  arguments (expr ∷ exprs) (parameter ∷ parameters) h =
      both_of _ _ (of_kind expr parameter.kind (first_of _ _ h)) (arguments exprs parameters (second_of _ _ h))

  child : (activity : Option Activity) (exprs : List Expr) → IsTrue (is_typed_child model so_far.locals activity exprs) → IsTrue (have_types so_far exprs)
  child None exprs h = absurd (true≢false (sym h))
  child (Some activity) exprs h = arguments exprs activity.parameters h

  pub doable : {A : Type 0} (stmt : Stmt-F A) → IsTrue (is_typed_stmt model so_far.locals stmt) → IsDoable so_far stmt
  doable (Stmt-F.Let slot expr) h = (below slot (length so_far.locals) (first_of _ _ h), has_type expr (second_of _ _ h))
  doable (Stmt-F.Assign slot expr) h = (below slot (length so_far.locals) (first_of _ _ h), has_type expr (second_of _ _ h))
  doable (Stmt-F.Emit cell what) h = emits cell what h
  doable (Stmt-F.Delay expr) h = of_kind expr Int h
  doable (Stmt-F.WaitUntil condition) h = (model.enums, slot_kinds so_far.locals, read_kind model.cells, h)
  doable (Stmt-F.Spawn kind exprs) h = child (slice_get model.activities kind) exprs h
  doable (Stmt-F.Call kind exprs into) h = child (slice_get model.activities kind) exprs (first_of _ _ h)
  doable (Stmt-F.If test block other) h = of_kind test Truth h
  doable (Stmt-F.While test body) h = of_kind test Truth h
  doable (Stmt-F.Return None) h = tt
  doable (Stmt-F.Return (Some expr)) h = has_type expr h
