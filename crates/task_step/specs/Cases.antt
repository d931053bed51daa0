-- Worked cases of steps: frames of jobs of small models, in a view where the counter `n` has 2.
use Rattle.std.specs.Prelude.{◌≡◌, ℕ, pos, negsuc, false, List, [], ◌∷◌, Option, Some, None, refl}
use Rattle.aerie_base.specs.declared.values.Value.{Value}
use Rattle.aerie_base.specs.declared.values.Value.TheVariants as value
use Rattle.aerie_base.specs.declared.faults.Fault.TheVariants.{Divide, NegativeDelay}
use Rattle.aerie_base.specs.declared.operands.CellRead.TheVariants as read
use Rattle.aerie_base.specs.declared.operands.Operand.TheVariants as operand
use Rattle.aerie_base.specs.declared.expressions.Comparison.TheVariants as by
use Rattle.aerie_base.specs.declared.expressions.Operator.TheVariants as operator
use Rattle.aerie_base.specs.declared.expressions.Expr.{Expr, Literal, Negate, Binary}
use Rattle.aerie_base.specs.declared.expressions.Expr.TheBlock.{hidden-the_row-Expr-0, shape-the_row-Expr-0}
use Rattle.aerie_base.specs.declared.linear.Linear.{Linear}
use Rattle.aerie_base.specs.declared.conditions.Cond.{Compare}
use Rattle.aerie_base.specs.declared.statements.Stmt.{Stmt, Let, Assign, Delay, WaitUntil, Spawn, Call, If, While, Return, out-Stmt}
use Rattle.aerie_base.specs.declared.statements.Stmt.TheBlock.{hidden-the_row-Stmt-0, shape-the_row-Stmt-0, shown-the_row-Stmt-0}
use Rattle.aerie_base.specs.Paths.{root}
use Rattle.aerie_base.specs.conditions.Filling.{filled}
use Rattle.aerie_base.specs.expressions.Evaluation.{evaluated}
use Rattle.aerie_base.specs.statements.Places.{left, lefts, size}
use denote.Hole.Carrier.{hidden, shown, out}
use Rattle.effect_cells.specs.declared.effects.CellState.{CellState}
use Rattle.effect_cells.specs.declared.effects.CellState.TheVariants as state
use Rattle.effect_cells.specs.declared.effects.Effect.TheVariants as effect
use Rattle.run_data.specs.Frames.{job_frame}
use Rattle.run_data.specs.declared.tasks.BodyId.TheVariants as body
use Rattle.run_data.specs.declared.tasks.TaskState.{TaskState}
use Rattle.run_data.specs.declared.jobs.Job.{Job}
use Rattle.run_data.specs.declared.frames.Item.{Item}
use Rattle.run_data.specs.declared.frames.Item.TheVariants as item
use Rattle.run_data.specs.declared.frames.Status.{Status}
use Rattle.run_data.specs.declared.frames.Status.TheVariants.{Delayed, Waiting, Calling, Done, Faulted}
use Rattle.run_data.specs.TaskFrames.{Frame}
use Rattle.run_data.specs.cases.SmallModels.{number, local, reading, activity, small_model, add, delay, ints}

-- ---- steps of one body

abbrev at_place : ℕ → List Value → TaskState
at_place at locals = record { kind = body.Activity 0; at = at; locals = locals }

-- a job at the first place of a body, with these locals
abbrev job : List Value → Job
job locals = record { path = root 1; state = at_place 0 locals; view = state.Counter (pos 2) ∷ [] }

-- the frame of its step, which may cost so much
abbrev frame_in : List Stmt → List Value → ℕ → Option Frame
frame_in stmts locals fuel = job_frame (small_model [] (activity [] 2 stmts ∷ []) []) fuel (job locals)

-- a frame of that job
abbrev frame : List Value → List (ℕ × CellState) → List Item → Status → ℕ → Option Frame
frame locals reads items status cost = Some (record { path = root 1; before = at_place 0 locals; reads = reads; items = items; status = status; cost = cost })

abbrev n : Expr
n = reading (read.Counter 0)

abbrev n_read : List (ℕ × CellState)
n_read = (0, state.Counter (pos 2)) ∷ []

abbrev added : ℕ → Item
added by = item.Emit 0 (effect.Add (pos by))

-- ---- `let x = 3; while x > 0 { n += x * n; x = x - 1; } delay 5us;`

abbrev looping : List Stmt
looping =
    Let 0 (number 3)
    ∷ While (Binary (operator.Compare by.More) (local 0) (number 0))
    (add (Binary operator.Times (local 0) n) ∷ Assign 0 (Binary operator.Minus (local 0) (number 1)) ∷ [])
    ∷ delay 5 ∷ []

-- each statement and each test costs one; later reads see the effects before them, and the read of `n` is listed once
pub the_loop_ends : frame_in looping (ints (0 ∷ [])) 12
    ≡ frame (ints (0 ∷ [])) n_read (added 6 ∷ added 16 ∷ added 24 ∷ []) (Delayed (pos 5) (at_place 6 (ints (0 ∷ [])))) 12
unfolding left lefts size evaluated out-Stmt out shown hidden shown-the_row-Stmt-0 hidden-the_row-Stmt-0 shape-the_row-Stmt-0 hidden-the_row-Expr-0 shape-the_row-Expr-0
the_loop_ends = refl

pub the_fuel_is_one_short : frame_in looping (ints (0 ∷ [])) 11 ≡ None
unfolding left lefts size evaluated out-Stmt out shown hidden shown-the_row-Stmt-0 hidden-the_row-Stmt-0 shape-the_row-Stmt-0 hidden-the_row-Expr-0 shape-the_row-Expr-0
the_fuel_is_one_short = refl

-- ---- faults and delays

-- `n += n / 0;`
pub a_division_by_zero : frame_in (add (Binary operator.Divide n (number 0)) ∷ []) [] 1 ≡ frame [] n_read [] (Faulted Divide) 1
unfolding left lefts size evaluated out-Stmt out shown hidden shown-the_row-Stmt-0 hidden-the_row-Stmt-0 shape-the_row-Stmt-0 hidden-the_row-Expr-0 shape-the_row-Expr-0
a_division_by_zero = refl

pub a_negative_delay : frame_in (Delay (Negate (number 1)) ∷ []) [] 1 ≡ frame [] [] [] (Faulted NegativeDelay) 1
unfolding left lefts size evaluated out-Stmt out shown hidden shown-the_row-Stmt-0 hidden-the_row-Stmt-0 shape-the_row-Stmt-0 hidden-the_row-Expr-0 shape-the_row-Expr-0
a_negative_delay = refl

pub a_delay_of_nothing : frame_in (delay 0 ∷ []) [] 1 ≡ frame [] [] [] (Delayed (pos 0) (at_place 1 [])) 1
unfolding left lefts size evaluated out-Stmt out shown hidden shown-the_row-Stmt-0 hidden-the_row-Stmt-0 shape-the_row-Stmt-0 hidden-the_row-Expr-0 shape-the_row-Expr-0
a_delay_of_nothing = refl

-- ---- children and results

-- `spawn A(x, y);` with 5 and 3, and then the end of the body
pub arguments_in_order : frame_in (Spawn 0 (local 0 ∷ local 1 ∷ []) ∷ []) (ints (5 ∷ 3 ∷ [])) 1
    ≡ frame (ints (5 ∷ 3 ∷ [])) [] (item.Child 0 (ints (5 ∷ 3 ∷ [])) ∷ []) (Done None) 1
unfolding left lefts size evaluated out-Stmt out shown hidden shown-the_row-Stmt-0 hidden-the_row-Stmt-0 shape-the_row-Stmt-0 hidden-the_row-Expr-0 shape-the_row-Expr-0
arguments_in_order = refl

-- `n += 1; let y = call A(n);`: the argument sees the effect
pub a_call_that_takes_its_result : frame_in (add (number 1) ∷ Call 0 (n ∷ []) (Some 1) ∷ []) (ints (5 ∷ 3 ∷ [])) 2
    ≡ frame (ints (5 ∷ 3 ∷ [])) n_read (added 1 ∷ item.Child 0 (ints (3 ∷ [])) ∷ []) (Calling (Some 1) (at_place 2 (ints (5 ∷ 3 ∷ [])))) 2
unfolding left lefts size evaluated out-Stmt out shown hidden shown-the_row-Stmt-0 hidden-the_row-Stmt-0 shape-the_row-Stmt-0 hidden-the_row-Expr-0 shape-the_row-Expr-0
a_call_that_takes_its_result = refl

-- `return y - x;`
pub a_result : frame_in (Return (Some (Binary operator.Minus (local 1) (local 0))) ∷ []) (ints (5 ∷ 3 ∷ [])) 1
    ≡ frame (ints (5 ∷ 3 ∷ [])) [] [] (Done (Some (value.Int (negsuc 1)))) 1
unfolding left lefts size evaluated out-Stmt out shown hidden shown-the_row-Stmt-0 hidden-the_row-Stmt-0 shape-the_row-Stmt-0 hidden-the_row-Expr-0 shape-the_row-Expr-0
a_result = refl

-- ---- reads and conditions

-- `if false && n > 0 { }`: the right side is not evaluated, and so nothing is read
pub the_right_side_is_not_read :
    frame_in (If (Binary operator.And (Literal (value.Truth false)) (Binary (operator.Compare by.More) n (number 0))) [] [] ∷ []) [] 1
    ≡ frame [] [] [] (Done None) 1
unfolding left lefts size evaluated out-Stmt out shown hidden shown-the_row-Stmt-0 hidden-the_row-Stmt-0 shape-the_row-Stmt-0 hidden-the_row-Expr-0 shape-the_row-Expr-0
the_right_side_is_not_read = refl

abbrev term : operand.the_data → Linear
term of = record { terms = record { coefficient = pos 1; operand = of } ∷ []; constant = pos 0 }

-- `wait until n >= x;` with 5: the local is filled in, and the condition is not judged, so that nothing is read
pub a_wait_with_a_local :
    frame_in (WaitUntil (Compare (term (operand.Read (read.Counter 0))) by.AtLeast (term (operand.Local 0))) ∷ []) (ints (5 ∷ [])) 1
    ≡ frame (ints (5 ∷ [])) [] []
    (Waiting (Compare (term (operand.Read (read.Counter 0))) by.AtLeast (record { terms = []; constant = pos 5 })) (at_place 1 (ints (5 ∷ [])))) 1
unfolding filled left lefts size evaluated out-Stmt out shown hidden shown-the_row-Stmt-0 hidden-the_row-Stmt-0 shape-the_row-Stmt-0 hidden-the_row-Expr-0 shape-the_row-Expr-0
a_wait_with_a_local = refl
