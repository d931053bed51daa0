-- Wherever a run comes in a body of a valid model, the statement there is well typed, and the locals go with the place.
use Rattle.std.specs.Prelude.{◌≡◌, ℕ, ◌+◌, Bool, IsTrue, List, [], ◌∷◌, ◌++◌, Option, Some, None, option_map, option_and_then, slice_get, if◌then◌else◌}
use Rattle.aerie_base.specs.declared.values.Kind.{Kind}
use Rattle.aerie_base.specs.declared.values.Value.{Value}
use Rattle.aerie_base.specs.declared.expressions.Expr.{Expr}
use Rattle.aerie_base.specs.declared.statements.Stmt.{Stmt, out-Stmt}
use Rattle.aerie_base.specs.declared.statements.Stmt.TheOpen.{Stmt-F}
use Rattle.aerie_base.specs.declared.models.model.Parts.{Parts}
use Rattle.aerie_base.specs.expressions.Arithmetic.{value_kind}
use Rattle.aerie_base.specs.statements.Places.{Placed, placed, left, block_size}
use Rattle.aerie_base.specs.models.Signatures.{activity_result}
use Rattle.aerie_base.specs.models.ValidModel.{valid_model}
use Rattle.run_data.specs.declared.tasks.BodyId.{BodyId}
use Rattle.run_data.specs.declared.tasks.BodyId.TheVariants as body
use Rattle.run_data.specs.declared.tasks.TaskState.{TaskState}
use Rattle.run_data.specs.declared.frames.Item.{Item}
use Rattle.run_data.specs.declared.frames.Item.TheVariants as item
use Rattle.run_data.specs.declared.frames.Status.{Status}
use Rattle.run_data.specs.declared.frames.Status.TheVariants.{Delayed, Waiting, Calling, Done, Faulted}
use Rattle.run_data.specs.StepStates.{StepState, after_items}
use Rattle.run_data.specs.Endings.{with_result}
use Rattle.run_data.specs.Jobs.{is_state_of, AreCellsOf}
use Rattle.run_data.specs.Steps.{act, onward, ended}
use Rattle.run_data.specs.TaskStates.{body_of}
use Rattle.run_data.specs.Typed.{is_typed_stmt, AreLeft}

-- ---- where a run is

-- what is left at a state of the model goes with the locals of the state
abbrev pub StatesBegin : Type 0
StatesBegin =
    (model : Parts) (state : TaskState) → IsTrue (valid_model model) → IsTrue (is_state_of model state) →
    AreLeft model state.kind (left (body_of model state.kind) state.at) state.locals

-- the next statement is well typed
abbrev pub NextIsTyped : Type 0
NextIsTyped =
    (model : Parts) (kind : BodyId) (here : Placed) (rest : List Placed) (locals : List Value) → IsTrue (valid_model model) →
    AreLeft model kind (here ∷ rest) locals → IsTrue (is_typed_stmt model locals (out-Stmt here.what))

-- ---- where it goes on

-- Where a statement is done and the run goes on, what is left behind it goes with the locals that there are then, and the
-- cells that the step sees are of the model as they were.
abbrev pub RunsOn : Type 0
RunsOn =
    (model : Parts) (kind : BodyId) (here : Placed) (rest : List Placed) (so_far next : StepState) → IsTrue (valid_model model) →
    AreLeft model kind (here ∷ rest) so_far.locals → AreCellsOf model (after_items so_far.view so_far.items) →
    act kind here.at (out-Stmt here.what) so_far ≡ onward next →
    AreLeft model kind rest next.locals × AreCellsOf model (after_items next.view next.items)

-- Behind the test of an `if`, what is left goes with the same locals, whichever block is taken.
abbrev pub ChoiceRunsOn : Type 0
ChoiceRunsOn =
    (model : Parts) (kind : BodyId) (here : Placed) (rest : List Placed) (locals : List Value)
    (test : Expr) (block other : List Stmt) (holds : Bool) → IsTrue (valid_model model) →
    AreLeft model kind (here ∷ rest) locals → out-Stmt here.what ≡ Stmt-F.If test block other →
    AreLeft model kind ((if holds then placed (here.at + 1) block else placed (here.at + 2 + block_size block) other) ++ rest) locals

-- Behind the test of a `while` likewise, whether the block is run once more or the run goes on behind it.
abbrev pub LoopRunsOn : Type 0
LoopRunsOn =
    (model : Parts) (kind : BodyId) (here : Placed) (rest : List Placed) (locals : List Value)
    (test : Expr) (block : List Stmt) (holds : Bool) → IsTrue (valid_model model) →
    AreLeft model kind (here ∷ rest) locals → out-Stmt here.what ≡ Stmt-F.While test block →
    AreLeft model kind (if holds then placed (here.at + 1) block ++ here ∷ rest else rest) locals

-- ---- where the step ends

abbrev pub or_this : Option ℕ → ℕ → Option ℕ
or_this None kind = Some kind
or_this (Some later) kind = Some later

-- the activity type of the last child
abbrev pub last_child : List Item → Option ℕ
last_child [] = None
last_child (item.Emit cell effect ∷ rest) = last_child rest
last_child (item.Child kind arguments ∷ rest) = or_this (last_child rest) kind

-- the type of the result of an activity type, by its number
abbrev pub result_kind : Parts → ℕ → Option Kind
result_kind model kind = activity_result (slice_get model.activities kind)

-- the type of what a body returns; daemons return nothing
abbrev pub body_result : Parts → BodyId → Option Kind
body_result model (body.Activity kind) = result_kind model kind
body_result model (body.Daemon number) = None

-- The state from which a task goes on is of the model. Behind a call it is so with any result that the type of the child
-- may give: the child that was made last is the one that is called.
abbrev pub NextIsOfModel : Parts → List Item → Status → Type 0
NextIsOfModel model items (Delayed by next) = IsTrue (is_state_of model next)
NextIsOfModel model items (Waiting condition next) = IsTrue (is_state_of model next)
NextIsOfModel model items (Calling into next) =
    (result : Option Value) → option_map value_kind result ≡ option_and_then (result_kind model) (last_child items) →
    IsTrue (is_state_of model (with_result into result next))
NextIsOfModel model items (Done result) = Unit {0}
NextIsOfModel model items (Faulted fault) = Unit {0}

-- where a statement ends the step, the task goes on from a state of the model, if it goes on
abbrev pub StepEndsWell : Type 0
StepEndsWell =
    (model : Parts) (kind : BodyId) (here : Placed) (rest : List Placed) (so_far last : StepState) (status : Status) →
    IsTrue (valid_model model) →
    AreLeft model kind (here ∷ rest) so_far.locals → AreCellsOf model (after_items so_far.view so_far.items) →
    act kind here.at (out-Stmt here.what) so_far ≡ ended status last → NextIsOfModel model last.items status
