-- What a statement needs of the state of a step in which it is done: its expressions have types, and what it names is there.
use Rattle.std.specs.Prelude.{◌<◌, Bool, true, ◌&&◌, IsTrue, IsSome, is_some, List, [], ◌∷◌, Option, Some, None, length}
use Rattle.aerie_base.specs.declared.values.Kind.{Kind}
use Rattle.aerie_base.specs.declared.operands.CellRead.{CellRead}
use Rattle.aerie_base.specs.declared.expressions.Expr.{Expr}
use Rattle.aerie_base.specs.declared.statements.Stmt.{out-Stmt}
use Rattle.aerie_base.specs.declared.statements.Stmt.TheOpen.{Stmt-F}
use Rattle.aerie_base.specs.expressions.Typing.{kind_of, slot_kinds}
use Rattle.effect_cells.specs.declared.effects.CellState.{CellState}
use Rattle.effect_cells.specs.Reads.{kind_on}
use Rattle.body_code.specs.declared.instructions.Instruction.{Instruction}
use Rattle.body_code.specs.declared.instructions.Instruction.TheVariants.{Do, Test, Jump, End}
use Rattle.run_data.specs.StepStates.{StepState, after_items}
use Rattle.run_data.specs.Steps.{emission_expr}
use Rattle.task_step.specs.Fillable.{IsConditionOfSome}

-- the cells as a step sees them by now
abbrev pub cells_of : StepState → List CellState
cells_of so_far = after_items so_far.view so_far.items

-- the type of each read that there is by now
abbrev pub kinds_of : StepState → CellRead → Option Kind
kinds_of so_far = kind_on (cells_of so_far)

-- an expression has a type
abbrev pub HasType : StepState → Expr → Type 0
HasType so_far expr = IsSome (kind_of expr (slot_kinds so_far.locals) (kinds_of so_far))

-- whether each of the expressions has a type
abbrev pub have_types : StepState → List Expr → Bool
have_types so_far [] = true
have_types so_far (expr ∷ rest) = is_some (kind_of expr (slot_kinds so_far.locals) (kinds_of so_far)) && have_types so_far rest

-- a statement, of which blocks are not looked into, has what it needs
abbrev pub IsDoable : {A : Type 0} → StepState → Stmt-F A → Type 0
IsDoable so_far (Stmt-F.Let slot expr) = (slot < length so_far.locals) × HasType so_far expr
IsDoable so_far (Stmt-F.Assign slot expr) = (slot < length so_far.locals) × HasType so_far expr
IsDoable so_far (Stmt-F.Emit cell what) = (cell < length (cells_of so_far)) × HasType so_far (emission_expr what)
IsDoable so_far (Stmt-F.Delay expr) = HasType so_far expr
IsDoable so_far (Stmt-F.WaitUntil condition) = IsConditionOfSome condition
IsDoable so_far (Stmt-F.Spawn child exprs) = IsTrue (have_types so_far exprs)
IsDoable so_far (Stmt-F.Call child exprs into) = IsTrue (have_types so_far exprs)
IsDoable so_far (Stmt-F.If test block other) = HasType so_far test
IsDoable so_far (Stmt-F.While test body) = HasType so_far test
IsDoable so_far (Stmt-F.Return None) = Unit {0}
IsDoable so_far (Stmt-F.Return (Some expr)) = HasType so_far expr

-- an instruction of flat code has what it needs
abbrev pub CanRun : StepState → Instruction → Type 0
CanRun so_far (Do stmt) = IsDoable so_far (out-Stmt stmt)
CanRun so_far (Test test otherwise) = HasType so_far test
CanRun so_far (Jump to) = Unit {0}
CanRun so_far End = Unit {0}

-- the instruction at a place has what it needs
abbrev pub CanRunAt : StepState → Option Instruction → Type 0
CanRunAt so_far None = Unit {0}
CanRunAt so_far (Some instruction) = CanRun so_far instruction
