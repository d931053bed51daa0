-- What statements without blocks leave of the state of a step: its view of the cells and its cost.
use Rattle.std.proofs.Common.{◌≡◌, ℕ, List, [], ◌∷◌, Some, None, Result, Ok, Err, Bool, refl, sym, subst}
use Rattle.aerie_base.specs.declared.values.Value.{Value}
use Rattle.aerie_base.specs.declared.faults.Fault.{Fault}
use Rattle.aerie_base.specs.declared.expressions.Expr.{Expr}
use Rattle.aerie_base.specs.declared.statements.Stmt.{Stmt}
use Rattle.aerie_base.specs.declared.statements.Stmt.TheOpen.{Stmt-F}
use Rattle.aerie_base.specs.expressions.Evaluation.{Evaluated}
use Rattle.run_data.specs.declared.tasks.BodyId.{BodyId}
use Rattle.run_data.specs.StepStates.{StepState, valued, with_flags}
use Rattle.run_data.specs.Steps.{Acted, onward, ended, with_evaluated, first_of, valued_all, with_all, act, emission_expr}

-- the same view and the same cost
pub record Keeps (before after : StepState) : Type 0 where
  pub view : after.view ≡ before.view
  pub cost : after.cost ≡ before.cost

abbrev pub ActedKeeps : StepState → Acted → Type 0
ActedKeeps so_far (onward next) = Keeps so_far next
ActedKeeps so_far (ended status last) = Keeps so_far last

evaluated_keeps : (so_far : StepState) (result : Evaluated) (go : Value → StepState → Acted) → ((value : Value) (read_flags : List Bool) → ActedKeeps so_far (go value (with_flags so_far read_flags))) →
    ActedKeeps so_far (with_evaluated so_far result go)
evaluated_keeps so_far (Err fault, read_flags) go kept = record { view = refl; cost = refl }
evaluated_keeps so_far (Ok value, read_flags) go kept = kept value read_flags

first_notes : (so_far : StepState) (result : Evaluated) (go : StepState → Result (List Value) Fault × StepState) →
    ((read_flags : List Bool) → (later : List Bool) × ((go (with_flags so_far read_flags)).1 ≡ with_flags so_far later)) →
    (later : List Bool) × ((first_of so_far result go).1 ≡ with_flags so_far later)
first_notes so_far (Err fault, read_flags) go h = (read_flags, refl)
first_notes so_far (Ok value, read_flags) go h = h read_flags

pub all_notes : (exprs : List Expr) (so_far : StepState) → (later : List Bool) × ((valued_all exprs so_far).1 ≡ with_flags so_far later)
all_notes [] so_far = (so_far.read_flags, refl)
all_notes (expr ∷ rest) so_far = first_notes so_far (valued so_far expr) (valued_all rest) (λ read_flags. all_notes rest (with_flags so_far read_flags))

all_keeps : (so_far : StepState) (result : Result (List Value) Fault × StepState) (go : List Value → StepState → Acted) →
    ((later : List Bool) × (result.1 ≡ with_flags so_far later)) → ((values : List Value) (read_flags : List Bool) → ActedKeeps so_far (go values (with_flags so_far read_flags))) →
    ActedKeeps so_far (with_all result go)
all_keeps so_far (Err fault, last) go is kept =
    record { view = λ i. (is.1 i).view; cost = λ i. (is.1 i).cost }
all_keeps so_far (Ok values, last) go is kept = subst (λ c. ActedKeeps so_far (go values c)) (sym is.1) (kept values is.0)

pub act_keeps : (kind : BodyId) (at : ℕ) (stmt : Stmt-F Stmt) (so_far : StepState) → ActedKeeps so_far (act kind at stmt so_far)
act_keeps kind at (Stmt-F.Let slot expr) so_far = evaluated_keeps so_far (valued so_far expr) _ (λ value read_flags. record { view = refl; cost = refl })
act_keeps kind at (Stmt-F.Assign slot expr) so_far = evaluated_keeps so_far (valued so_far expr) _ (λ value read_flags. record { view = refl; cost = refl })
act_keeps kind at (Stmt-F.Emit cell what) so_far = evaluated_keeps so_far (valued so_far (emission_expr what)) _ (λ value read_flags. record { view = refl; cost = refl })
act_keeps kind at (Stmt-F.Delay expr) so_far = evaluated_keeps so_far (valued so_far expr) _ (λ value read_flags. record { view = refl; cost = refl })
act_keeps kind at (Stmt-F.WaitUntil condition) so_far = record { view = refl; cost = refl }
act_keeps kind at (Stmt-F.Spawn child exprs) so_far = all_keeps so_far (valued_all exprs so_far) _ (all_notes exprs so_far) (λ values read_flags. record { view = refl; cost = refl })
act_keeps kind at (Stmt-F.Call child exprs into) so_far = all_keeps so_far (valued_all exprs so_far) _ (all_notes exprs so_far) (λ values read_flags. record { view = refl; cost = refl })
act_keeps kind at (Stmt-F.If test block other) so_far = record { view = refl; cost = refl }
act_keeps kind at (Stmt-F.While test body) so_far = record { view = refl; cost = refl }
act_keeps kind at (Stmt-F.Return None) so_far = record { view = refl; cost = refl }
act_keeps kind at (Stmt-F.Return (Some expr)) so_far = evaluated_keeps so_far (valued so_far expr) _ (λ value read_flags. record { view = refl; cost = refl })
