-- When a statement is well typed where a run comes to it, and when the statements left go with the locals.
use Rattle.std.specs.Prelude.{◌≡◌, ℕ, Bool, true, false, ◌&&◌, IsTrue, List, [], ◌∷◌, Option, Some, None, is_some, length, nat_lt, slice_get}
use Rattle.aerie_base.specs.declared.values.Kind.{Kind}
use Rattle.aerie_base.specs.declared.values.Kind.TheVariants.{Int, Truth}
use Rattle.aerie_base.specs.declared.values.Value.{Value}
use Rattle.aerie_base.specs.declared.operands.CellRead.TheVariants as read
use Rattle.aerie_base.specs.declared.expressions.Expr.{Expr}
use Rattle.aerie_base.specs.declared.statements.Emission.{Emission}
use Rattle.aerie_base.specs.declared.statements.Emission.TheVariants as emission
use Rattle.aerie_base.specs.declared.statements.Stmt.TheOpen.{Stmt-F}
use Rattle.aerie_base.specs.declared.models.Parameter.{Parameter}
use Rattle.aerie_base.specs.declared.models.Activity.{Activity}
use Rattle.aerie_base.specs.declared.models.model.Parts.{Parts}
use Rattle.aerie_base.specs.expressions.Typing.{kind_of, slot_kinds}
use Rattle.aerie_base.specs.statements.Places.{Placed, left}
use Rattle.aerie_base.specs.models.Bodies.{is_wanted_kind}
use Rattle.aerie_base.specs.models.Signatures.{activity_result}
use Rattle.aerie_base.specs.models.Cells.{read_kind}
use Rattle.aerie_base.specs.models.Conditions.{ReadKinds, is_condition}
use Rattle.aerie_base.specs.models.Expressions.{is_kind_of}
use Rattle.run_data.specs.declared.tasks.BodyId.{BodyId}
use Rattle.run_data.specs.TaskStates.{body_of}
use Rattle.run_data.specs.Jobs.{is_state_of}

-- ---- expressions

-- the type of an expression, by the locals' values and the types of the reads
abbrev pub kind_here : List Value → ReadKinds → Expr → Option Kind
kind_here locals kinds expr = kind_of expr (slot_kinds locals) kinds

-- whether it has a type
abbrev pub is_typed : List Value → ReadKinds → Expr → Bool
is_typed locals kinds expr = is_some (kind_here locals kinds expr)

-- whether it has this type
abbrev pub has_kind : List Value → ReadKinds → Expr → Kind → Bool
has_kind locals kinds expr kind = is_kind_of (kind_here locals kinds expr) kind

-- ---- what statements evaluate

-- an effect on a cell of its kind, by a value of the type that the cell takes
abbrev pub is_typed_emission : Parts → List Value → ℕ → Emission → Bool
is_typed_emission model locals cell (emission.Add by) =
    is_kind_of (read_kind model.cells (read.Counter cell)) Int && has_kind locals (read_kind model.cells) by Int
is_typed_emission model locals cell (emission.Set to) =
    is_wanted_kind (read_kind model.cells (read.Register cell)) (kind_here locals (read_kind model.cells) to)
is_typed_emission model locals cell (emission.Volume by) =
    is_kind_of (read_kind model.cells (read.Volume cell)) Int && has_kind locals (read_kind model.cells) by Int
is_typed_emission model locals cell (emission.Rate by) =
    is_kind_of (read_kind model.cells (read.Rate cell)) Int && has_kind locals (read_kind model.cells) by Int

-- as many arguments as parameters, each of its parameter's type
abbrev pub are_typed_arguments : Parts → List Value → List Expr → List Parameter → Bool
are_typed_arguments model locals [] [] = true
are_typed_arguments model locals [] (parameter ∷ parameters) = false
are_typed_arguments model locals (argument ∷ arguments) [] = false
are_typed_arguments model locals (argument ∷ arguments) (parameter ∷ parameters) =
    has_kind locals (read_kind model.cells) argument parameter.kind && are_typed_arguments model locals arguments parameters

-- an activity type of the model, with its arguments
abbrev pub is_typed_child : Parts → List Value → Option Activity → List Expr → Bool
is_typed_child model locals None arguments = false
is_typed_child model locals (Some activity) arguments = are_typed_arguments model locals arguments activity.parameters

-- a result that is taken is there, and so is the slot that takes it
abbrev pub is_taken : List Value → Option ℕ → Option Kind → Bool
is_taken locals None result = true
is_taken locals (Some slot) result = nat_lt slot (length locals) && is_some result

abbrev pub is_typed_result : Parts → List Value → Option Expr → Bool
is_typed_result model locals None = true
is_typed_result model locals (Some value) = is_typed locals (read_kind model.cells) value

-- whether what a statement evaluates is well typed, and what it names is there; its blocks are not looked into
abbrev pub is_typed_stmt : {A : Type 0} → Parts → List Value → Stmt-F A → Bool
is_typed_stmt model locals (Stmt-F.Let slot value) =
    nat_lt slot (length locals) && is_typed locals (read_kind model.cells) value
is_typed_stmt model locals (Stmt-F.Assign slot value) =
    nat_lt slot (length locals) && is_typed locals (read_kind model.cells) value
is_typed_stmt model locals (Stmt-F.Emit cell what) = is_typed_emission model locals cell what
is_typed_stmt model locals (Stmt-F.Delay by) = has_kind locals (read_kind model.cells) by Int
is_typed_stmt model locals (Stmt-F.WaitUntil condition) =
    is_condition model.enums (slot_kinds locals) (read_kind model.cells) condition
is_typed_stmt model locals (Stmt-F.Spawn kind arguments) =
    is_typed_child model locals (slice_get model.activities kind) arguments
is_typed_stmt model locals (Stmt-F.Call kind arguments into) =
    is_typed_child model locals (slice_get model.activities kind) arguments
    && is_taken locals into (activity_result (slice_get model.activities kind))
is_typed_stmt model locals (Stmt-F.If test block other) = has_kind locals (read_kind model.cells) test Truth
is_typed_stmt model locals (Stmt-F.While test body) = has_kind locals (read_kind model.cells) test Truth
is_typed_stmt model locals (Stmt-F.Return value) = is_typed_result model locals value

-- ---- what is left

-- These statements are left of a body with these locals: none, or what is left at the place of the first, where the state
-- with these locals is one of the model's.
abbrev pub AreLeft : Parts → BodyId → List Placed → List Value → Type 0
AreLeft model kind [] locals = Unit {0}
AreLeft model kind (here ∷ rest) locals =
    (left (body_of model kind) here.at ≡ here ∷ rest)
    × IsTrue (is_state_of model (record { kind = kind; at = here.at; locals = locals }))
