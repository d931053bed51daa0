-- One step of a task: it runs the statements that are left until the task delays, waits, calls, ends or faults.
use Rattle.std.specs.Prelude.{ℕ, zero, suc, ◌+◌, ℤ, pos, negsuc, Bool, List, [], ◌∷◌, ◌++◌, Option, Some, None, Result, Ok, Err, if◌then◌else◌}
use Rattle.aerie_base.specs.declared.values.Value.{Value}
use Rattle.aerie_base.specs.declared.faults.Fault.{Fault}
use Rattle.aerie_base.specs.declared.faults.Fault.TheVariants.{NegativeDelay}
use Rattle.aerie_base.specs.declared.expressions.Expr.{Expr}
use Rattle.aerie_base.specs.declared.statements.Emission.{Emission}
use Rattle.aerie_base.specs.declared.statements.Emission.TheVariants as emission
use Rattle.aerie_base.specs.declared.statements.Stmt.{Stmt, out-Stmt}
use Rattle.aerie_base.specs.declared.statements.Stmt.TheOpen.{Stmt-F}
use Rattle.aerie_base.specs.conditions.Filling.{filled}
use Rattle.aerie_base.specs.expressions.Arithmetic.{number_in, truth_in}
use Rattle.aerie_base.specs.expressions.Evaluation.{Evaluated}
use Rattle.aerie_base.specs.statements.Places.{Placed, placed, left, block_size}
use Rattle.effect_cells.specs.declared.effects.CellState.{CellState}
use Rattle.effect_cells.specs.declared.effects.Effect.{Effect}
use Rattle.effect_cells.specs.declared.effects.Effect.TheVariants.{Add, Register, Flow}
use Rattle.effect_cells.specs.declared.registers.Change.TheVariants.{Set}
use Rattle.run_data.specs.declared.tasks.BodyId.{BodyId}
use Rattle.run_data.specs.declared.tasks.TaskState.{TaskState}
use Rattle.run_data.specs.declared.frames.Item.TheVariants as item
use Rattle.run_data.specs.declared.frames.Status.{Status}
use Rattle.run_data.specs.declared.frames.Status.TheVariants.{Delayed, Waiting, Calling, Done, Faulted}
use Rattle.run_data.specs.StepStates.{StepState, starting, valued, with_flags, assigned, giving, paid}

-- ---- what statements make of values

-- a delay by less than 0 is a fault
abbrev pub delay_of : ℤ → TaskState → Status
delay_of (pos micros) next = Delayed (pos micros) next
delay_of (negsuc below) next = Faulted NegativeDelay

abbrev pub emission_expr : Emission → Expr
emission_expr (emission.Add expr) = expr
emission_expr (emission.Set expr) = expr
emission_expr (emission.Volume expr) = expr
emission_expr (emission.Rate expr) = expr

abbrev pub effect_of : Emission → Value → Effect
effect_of (emission.Add expr) value = Add (number_in value)
effect_of (emission.Set expr) value = Register (Set value)
effect_of (emission.Volume expr) value = Flow (number_in value) (pos 0)
effect_of (emission.Rate expr) value = Flow (pos 0) (number_in value)

-- ---- one statement

-- after a statement the step goes on or has ended
pub data Acted : Type 0 where
  onward : StepState → Acted
  ended : Status → StepState → Acted

-- on with a value, where there is one; a fault ends the step
abbrev pub with_evaluated : StepState → Evaluated → (Value → StepState → Acted) → Acted
with_evaluated so_far (Ok value, read_flags) go = go value (with_flags so_far read_flags)
with_evaluated so_far (Err fault, read_flags) go = ended (Faulted fault) (with_flags so_far read_flags)

abbrev pub with_value : StepState → Expr → (Value → StepState → Acted) → Acted
with_value so_far expr go = with_evaluated so_far (valued so_far expr) go

abbrev pub with_first : Value → Result (List Value) Fault → Result (List Value) Fault
with_first first (Ok values) = Ok (first ∷ values)
with_first first (Err fault) = Err fault

abbrev pub first_of : StepState → Evaluated → (StepState → Result (List Value) Fault × StepState) → Result (List Value) Fault × StepState
first_of so_far (Ok value, read_flags) go = let rest = go (with_flags so_far read_flags) in (with_first value rest.0, rest.1)
first_of so_far (Err fault, read_flags) go = (Err fault, with_flags so_far read_flags)

-- the values of arguments, in the order of the parameters, or the first fault
abbrev pub valued_all : List Expr → StepState → Result (List Value) Fault × StepState
valued_all [] so_far = (Ok [], so_far)
valued_all (expr ∷ rest) so_far = first_of so_far (valued so_far expr) (valued_all rest)

abbrev pub with_all : Result (List Value) Fault × StepState → (List Value → StepState → Acted) → Acted
with_all (Ok values, so_far) go = go values so_far
with_all (Err fault, so_far) go = ended (Faulted fault) so_far

abbrev pub with_values : StepState → List Expr → (List Value → StepState → Acted) → Acted
with_values so_far exprs go = with_all (valued_all exprs so_far) go

-- the state directly behind a place
abbrev pub state_behind : BodyId → ℕ → StepState → TaskState
state_behind kind at so_far = record { kind = kind; at = at + 1; locals = so_far.locals }

-- a statement without blocks, at its place
abbrev pub act : {A : Type 0} → BodyId → ℕ → Stmt-F A → StepState → Acted
act kind at (Stmt-F.Let slot expr) so_far = with_value so_far expr (λ value c. onward (assigned c slot value))
act kind at (Stmt-F.Assign slot expr) so_far = with_value so_far expr (λ value c. onward (assigned c slot value))
act kind at (Stmt-F.Emit cell what) so_far =
    with_value so_far (emission_expr what) (λ value c. onward (giving c (item.Emit cell (effect_of what value))))
act kind at (Stmt-F.Delay expr) so_far =
    with_value so_far expr (λ value c. ended (delay_of (number_in value) (state_behind kind at c)) c)
act kind at (Stmt-F.WaitUntil condition) so_far =
    ended (Waiting (filled condition so_far.locals) (state_behind kind at so_far)) so_far
act kind at (Stmt-F.Spawn child exprs) so_far =
    with_values so_far exprs (λ values c. onward (giving c (item.Child child values)))
act kind at (Stmt-F.Call child exprs into) so_far =
    with_values so_far exprs (λ values c. ended (Calling into (state_behind kind at c)) (giving c (item.Child child values)))
act kind at (Stmt-F.Return (Some expr)) so_far = with_value so_far expr (λ value c. ended (Done (Some value)) c)
act kind at (Stmt-F.Return None) so_far = ended (Done None) so_far
act kind at (Stmt-F.If test block other) so_far = ended (Done None) so_far
act kind at (Stmt-F.While test body) so_far = ended (Done None) so_far

-- ---- the step

-- how the step ended and what it did, or none where its cost passes what it may
abbrev pub Stepped : Type 0
Stepped = Option (Status × StepState)

abbrev pub after : Acted → (StepState → Stepped) → Stepped
after (onward so_far) go = go so_far
after (ended status so_far) go = Some (status, so_far)

-- after a test the step goes on by its answer
abbrev pub after_test : StepState → Evaluated → (Bool → StepState → Stepped) → Stepped
after_test so_far (Ok value, read_flags) go = go (truth_in value) (with_flags so_far read_flags)
after_test so_far (Err fault, read_flags) go = Some (Faulted fault, with_flags so_far read_flags)

-- one statement at its place, and then what is left
abbrev pub perform : BodyId → Placed → List Placed → Stmt-F Stmt → StepState → (List Placed → StepState → Stepped) → Stepped
perform kind here rest (Stmt-F.If test block other) so_far go =
    after_test so_far (valued so_far test) (λ holds c.
    go ((if holds then placed (here.at + 1) block else placed (here.at + 2 + block_size block) other) ++ rest) c)
perform kind here rest (Stmt-F.While test body) so_far go =
    after_test so_far (valued so_far test) (λ holds c.
    go (if holds then placed (here.at + 1) body ++ here ∷ rest else rest) c)
perform kind here rest simple so_far go = after (act kind here.at simple so_far) (go rest)

-- the step from the statements that are left, which may cost so much more
abbrev pub steps : BodyId → ℕ → List Placed → StepState → Stepped
steps kind budget [] so_far = Some (Done None, so_far)
steps kind zero (here ∷ rest) so_far = None
steps kind (suc budget) (here ∷ rest) so_far = perform kind here rest (out-Stmt here.what) (paid so_far) (steps kind budget)

-- the step of a task from its state, in a view of the cells, which may cost so much
abbrev pub step_of : List Stmt → TaskState → List CellState → ℕ → Stepped
step_of body state view budget = steps state.kind budget (left body state.at) (starting view state.locals)
