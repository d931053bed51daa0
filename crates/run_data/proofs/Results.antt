-- A task of an activity type that has a result ends with a value of its type.
use Rattle.std.proofs.Common.{◌≡◌, ℕ, zero, suc, ◌+◌, ℤ, pos, negsuc, Bool, true, false, IsTrue, List, [], ◌∷◌, ◌++◌, Option, Some, None, is_some, Ok, Err, slice_get, refl, sym, ap, ◌∙◌, subst, if◌then◌else◌}
use Rattle.aerie_base.specs.declared.values.Kind.{Kind}
use Rattle.aerie_base.specs.declared.values.Value.{Value}
use Rattle.aerie_base.specs.declared.faults.Fault.{Fault}
use Rattle.aerie_base.specs.declared.statements.Stmt.{Stmt, out-Stmt}
use Rattle.aerie_base.specs.declared.statements.Stmt.TheOpen.{Stmt-F}
use Rattle.aerie_base.specs.declared.models.Activity.{Activity}
use Rattle.aerie_base.specs.declared.models.model.Parts.{Parts}
use Rattle.aerie_base.specs.declared.expressions.Expr.{Expr}
use Rattle.aerie_base.specs.expressions.Arithmetic.{ValueOrFault, value_kind, number_in, truth_in}
use Rattle.aerie_base.specs.expressions.Evaluation.{Evaluated}
use Rattle.aerie_base.specs.expressions.Soundness.{Gives, sound}
use Rattle.aerie_base.specs.models.Activities.{is_return, is_return_step}
use Rattle.aerie_base.specs.models.Signatures.{activity_result}
use Rattle.aerie_base.specs.models.Cells.{read_kind}
use Rattle.aerie_base.specs.models.ValidModel.{valid_model}
use Rattle.aerie_base.specs.statements.Places.{Placed, placed, left, block_size, simple_step}
use Rattle.run_data.specs.declared.tasks.BodyId.{BodyId}
use Rattle.run_data.specs.declared.tasks.TaskState.{TaskState}
use Rattle.run_data.specs.declared.frames.Status.{Status}
use Rattle.run_data.specs.declared.frames.Status.TheVariants.{Done, Faulted}
use Rattle.run_data.specs.declared.jobs.Job.{Job}
use Rattle.run_data.specs.Frames.{job_step}
use Rattle.run_data.specs.StepStates.{StepState, after_items, starting, value_read, valued, with_flags, paid}
use Rattle.run_data.specs.Jobs.{is_state_of, AreCellsOf}
use Rattle.run_data.specs.Steps.{Acted, onward, ended, act, with_evaluated, valued_all, emission_expr, delay_of, state_behind, Stepped, after, after_test, perform, steps}
use Rattle.run_data.specs.TaskStates.{body_of, activity_body}
use Rattle.run_data.specs.Typed.{AreLeft, kind_here}
use Rattle.run_data.specs.laws.Typing.{body_result}
use Rattle.run_data.specs.laws.Results.{IsUnderWay, EndsAsDeclared, ResultsFit, BeginsUnderWay}
use Rattle.run_data.proofs.Keeping.{all_notes}
use Rattle.run_data.proofs.CellKinds.{value_read_readings}
use Rattle.run_data.proofs.ModelBodies.{IsBodyOf, activity_ends}
use Rattle.run_data.proofs.PlacesHold.{Onward, IsLeft}
use Rattle.run_data.proofs.BodyPlaces.{its_setting, its_scopes, its_lefts, get_is}
use Rattle.run_data.proofs.TypedStatements.{Fits, stmt_fits}
use Rattle.run_data.proofs.TypedActs.{ActedGoes, all_acts}
use Rattle.run_data.proofs.Typing.{Now, now, body_there, states_begin, choice_runs_on, loop_runs_on, acted_there}
use Rattle.run_data.proofs.Returns.{EndsReturn, in_front, left_ends, first_left}

-- a result of which there is none in the case that there is one
pub unless_some : (found : Option Kind) → (IsTrue (is_some found) → ⊥) → found ≡ None
unless_some None h = refl
unless_some (Some of) h = absurd (h refl)

not_some : (found : Option Kind) → found ≡ None → IsTrue (is_some found) → ⊥
not_some None e h = absurd (cc)
not_some (Some of) e h = absurd (cc)

any_act : (P : Acted → Type 0) (so_far : StepState) (result : Evaluated) (go : Value → StepState → Acted) →
    ((fault : Fault) (read_flags : List Bool) → P (ended (Faulted fault) (with_flags so_far read_flags))) → ((value : Value) (read_flags : List Bool) → result.0 ≡ Ok value → P (go value (with_flags so_far read_flags))) →
    P (with_evaluated so_far result go)
any_act P so_far (Ok value, read_flags) go faulted goes = goes value read_flags refl
any_act P so_far (Err fault, read_flags) go faulted goes = faulted fault read_flags

module _ (model : Parts) (valid : IsTrue (valid_model model)) (kind : BodyId) where
  -- where the body has a result, what is left ends in a `return`
  abbrev Under : List Placed → Type 0
  Under list = IsTrue (is_some (body_result model kind)) → EndsReturn list

  -- a statement that is no `return` is not the last
  rest_under : (here : Placed) (rest : List Placed) → (IsTrue (is_return here.what) → ⊥) → Under (here ∷ rest) → Under rest
  rest_under here [] differs h some = absurd (differs (h some))
  rest_under here (next ∷ rest) differs h some = h some

  under_way : (at : ℕ) (rest : List Placed) → left (body_of model kind) at ≡ rest → Under rest → left (body_of model kind) at ≡ [] → body_result model kind ≡ None
  under_way at rest e h none =
      unless_some (body_result model kind) (λ some. subst EndsReturn (sym e ∙ none) (h some))

  not_return : (here : Placed) (x : Stmt-F Stmt) → out-Stmt here.what ≡ x → is_return_step x ≡ false → IsTrue (is_return here.what) → ⊥
  unfolding is_return
  not_return here x e differs h = let yes_it : is_return_step x ≡ true = sym (ap (λ (y : Stmt-F Stmt). is_return_step y) e) ∙ h in absurd (cc)

  -- what is to hold after a statement
  abbrev Ended : Acted → Type 0
  Ended (onward next) = Unit {0}
  Ended (ended status last) = EndsAsDeclared model kind status

  -- a value has the type of its expression
  value_has : (so_far : StepState) (expr : Expr) (of : Kind) (value : Value) → AreCellsOf model (after_items so_far.view so_far.items) →
      kind_here so_far.locals (read_kind model.cells) expr ≡ Some of → (valued so_far expr).0 ≡ Ok value → value_kind value ≡ of
  value_has so_far expr of value cells e is =
      subst (λ (o : ValueOrFault). Gives of o) is
      (sound expr so_far.locals (read_kind model.cells) (value_read so_far.view so_far.items) so_far.read_flags of (value_read_readings model so_far.view so_far.items cells) e)

  delay_under : (by : ℤ) (next : TaskState) → IsUnderWay model next → EndsAsDeclared model kind (delay_of by next)
  delay_under (pos micros) next h = h
  delay_under (negsuc below) next h = tt

  module _ (here : Placed) (rest : List Placed) (so_far : StepState) (first : AreLeft model kind (here ∷ rest) so_far.locals)
      (cells : AreCellsOf model (after_items so_far.view so_far.items)) (under : Under (here ∷ rest)) where
    n : Now model kind here rest so_far.locals
    n = now model kind here rest so_far.locals valid first

    abbrev FitsHere : Stmt-F Stmt → Type 0
    FitsHere = Fits model n.is.parameters n.is.result n.suits_it.scope so_far.locals n.few n.suits_it.suit n.stands.next

    abbrev OnwardHere : Stmt-F Stmt → Type 0
    OnwardHere = Onward (its_setting model kind n.is) n.is.slots (its_scopes model kind n.is) (its_lefts model kind n.is) here rest n.suits_it.scope n.stands.next

    next_left : IsLeft (its_setting model kind n.is) n.is.slots (its_scopes model kind n.is) (its_lefts model kind n.is) (here.at + 1) rest → left (body_of model kind) (here.at + 1) ≡ rest
    unfolding left
    next_left h = get_is (its_lefts model kind n.is) (here.at + 1) rest h

    goes_on : (x : Stmt-F Stmt) → out-Stmt here.what ≡ x → is_return_step x ≡ false →
        IsLeft (its_setting model kind n.is) n.is.slots (its_scopes model kind n.is) (its_lefts model kind n.is) (here.at + 1) rest → left (body_of model kind) (here.at + 1) ≡ [] → body_result model kind ≡ None
    goes_on x e differs h = under_way (here.at + 1) rest (next_left h) (rest_under here rest (not_return here x e differs) under)

    acted_ends : (x : Stmt-F Stmt) → out-Stmt here.what ≡ x → FitsHere x → OnwardHere x → simple_step x ≡ true → Ended (act kind here.at x so_far)
    acted_ends (Stmt-F.Let slot expr) e fit on simple = any_act Ended so_far (valued so_far expr) _ (λ fault read_flags. tt) (λ value read_flags is. tt)
    acted_ends (Stmt-F.Assign slot expr) e fit on simple = any_act Ended so_far (valued so_far expr) _ (λ fault read_flags. tt) (λ value read_flags is. tt)
    acted_ends (Stmt-F.Emit cell what) e fit on simple = any_act Ended so_far (valued so_far (emission_expr what)) _ (λ fault read_flags. tt) (λ value read_flags is. tt)
    acted_ends (Stmt-F.Delay expr) e fit on simple =
        any_act Ended so_far (valued so_far expr) _ (λ fault read_flags. tt)
        (λ value read_flags is. delay_under (number_in value) (state_behind kind here.at (with_flags so_far read_flags)) (goes_on (Stmt-F.Delay expr) e refl on.2))
    acted_ends (Stmt-F.WaitUntil condition) e fit on simple = goes_on (Stmt-F.WaitUntil condition) e refl on.2
    acted_ends (Stmt-F.Spawn child exprs) e fit on simple =
        all_acts Ended (λ result. Unit {0}) so_far (valued_all exprs so_far) _ (all_notes exprs so_far) tt (λ fault read_flags. tt) (λ values read_flags given. tt)
    acted_ends (Stmt-F.Call child exprs into) e fit on simple =
        all_acts Ended (λ result. Unit {0}) so_far (valued_all exprs so_far) _ (all_notes exprs so_far) tt (λ fault read_flags. tt)
        (λ values read_flags given. goes_on (Stmt-F.Call child exprs into) e refl on.2)
    acted_ends (Stmt-F.If test block other) e fit on simple = absurd (cc)
    acted_ends (Stmt-F.While test block) e fit on simple = absurd (cc)
    acted_ends (Stmt-F.Return None) e fit on simple = sym (n.is.result_is ∙ fit.0)
    acted_ends (Stmt-F.Return (Some expr)) e fit on simple =
        any_act Ended so_far (valued so_far expr) _ (λ fault read_flags. tt)
        (λ value read_flags is. ap Some (value_has so_far expr fit.0 value cells fit.2 is) ∙ sym (n.is.result_is ∙ fit.1))

    pub act_ends : (x : Stmt-F Stmt) → out-Stmt here.what ≡ x → simple_step x ≡ true → Ended (act kind here.at x so_far)
    act_ends x e simple =
        acted_ends x e
        (subst FitsHere e (stmt_fits model n.is.parameters n.is.result n.suits_it.scope so_far.locals n.few n.suits_it.suit here.what n.stands.next n.stands.checks))
        (subst OnwardHere e n.stands.onward) simple

  -- ---- a step

  abbrev Declared : Stepped → Type 0
  Declared None = Unit {0}
  Declared (Some (status, so_far)) = EndsAsDeclared model kind status

  record IsThere (list : List Placed) (so_far : StepState) : Type 0 where
    first : AreLeft model kind list so_far.locals
    cells : AreCellsOf model (after_items so_far.view so_far.items)
    under : Under list

  tested : (so_far : StepState) (result : Evaluated) (go : Bool → StepState → Stepped) → ((holds : Bool) (read_flags : List Bool) → Declared (go holds (with_flags so_far read_flags))) → Declared (after_test so_far result go)
  tested so_far (Ok value, read_flags) go goes = goes (truth_in value) read_flags
  tested so_far (Err fault, read_flags) go goes = tt

  after_acted : (before : StepState) (rest : List Placed) (acted : Acted) (go : StepState → Stepped) → Under rest → ActedGoes model kind rest before acted → Ended acted →
      ((next : StepState) → IsThere rest next → Declared (go next)) → Declared (after acted go)
  after_acted before rest (onward next) go under on ends goes = goes next (record { first = on.0; cells = on.1; under = under })
  after_acted before rest (ended status last) go under on ends goes = ends

  module _ (here : Placed) (rest : List Placed) (so_far : StepState) (h : IsThere (here ∷ rest) so_far) (go : List Placed → StepState → Stepped)
      (goes : (list : List Placed) (next : StepState) → IsThere list next → Declared (go list next)) where
    -- a `return` goes no further
    simple_returns : (x : Stmt-F Stmt) → out-Stmt here.what ≡ x → simple_step x ≡ true → (is_return_step x ≡ false) → Declared (after (act kind here.at x so_far) (go rest))
    simple_returns x e simple differs =
        after_acted so_far rest (act kind here.at x so_far) (go rest) (rest_under here rest (not_return here x e differs) h.under)
        (acted_there model kind here rest so_far valid h.first h.cells (act kind here.at x so_far) (ap (λ (y : Stmt-F Stmt). act kind here.at y so_far) e))
        (act_ends here rest so_far h.first h.cells h.under x e simple) (goes rest)

    returned : (value : Option Expr) → out-Stmt here.what ≡ Stmt-F.Return value → Ended (act {A = Stmt} kind here.at (Stmt-F.Return value) so_far) → Declared (after (act {A = Stmt} kind here.at (Stmt-F.Return value) so_far) (go rest))
    returned None e ends = ends
    returned (Some expr) e ends = by_value (valued so_far expr) ends
      where
        by_value : (result : Evaluated) → Ended (with_evaluated so_far result (λ value c. ended (Done (Some value)) c)) → Declared (after (with_evaluated so_far result (λ value c. ended (Done (Some value)) c)) (go rest))
        by_value (Ok value, read_flags) done = done
        by_value (Err fault, read_flags) done = done

    there : (list : List Placed) (read_flags : List Bool) → AreLeft model kind list so_far.locals → Under list → IsThere list (with_flags so_far read_flags)
    there list read_flags left under = record { first = left; cells = h.cells; under = under }

    chosen : (holds : Bool) (a b : List Placed) → Under rest → Under ((if holds then a else b) ++ rest)
    chosen holds a b under some = in_front (if holds then a else b) rest (under some)

    repeated : (holds : Bool) (a : List Placed) → Under (here ∷ rest) → Under rest → Under (if holds then a ++ here ∷ rest else rest)
    repeated true a again under some = in_front a (here ∷ rest) (again some)
    repeated false a again under some = under some

    performed : (x : Stmt-F Stmt) → out-Stmt here.what ≡ x → Declared (perform kind here rest x so_far go)
    performed (Stmt-F.If test block other) e =
        tested so_far (valued so_far test) _ (λ holds read_flags. goes _ (with_flags so_far read_flags)
        (there ((if holds then placed (here.at + 1) block else placed (here.at + 2 + block_size block) other) ++ rest) read_flags
        (choice_runs_on model kind here rest so_far.locals test block other holds valid h.first e)
        (chosen holds (placed (here.at + 1) block) (placed (here.at + 2 + block_size block) other) (rest_under here rest (not_return here (Stmt-F.If test block other) e refl) h.under))))
    performed (Stmt-F.While test block) e =
        tested so_far (valued so_far test) _ (λ holds read_flags. goes _ (with_flags so_far read_flags)
        (there (if holds then placed (here.at + 1) block ++ here ∷ rest else rest) read_flags
        (loop_runs_on model kind here rest so_far.locals test block holds valid h.first e)
        (repeated holds (placed (here.at + 1) block) h.under (rest_under here rest (not_return here (Stmt-F.While test block) e refl) h.under))))
    performed (Stmt-F.Let slot value) e = simple_returns (Stmt-F.Let slot value) e refl refl
    performed (Stmt-F.Assign slot value) e = simple_returns (Stmt-F.Assign slot value) e refl refl
    performed (Stmt-F.Emit cell what) e = simple_returns (Stmt-F.Emit cell what) e refl refl
    performed (Stmt-F.Delay by) e = simple_returns (Stmt-F.Delay by) e refl refl
    performed (Stmt-F.WaitUntil condition) e = simple_returns (Stmt-F.WaitUntil condition) e refl refl
    performed (Stmt-F.Spawn child arguments) e = simple_returns (Stmt-F.Spawn child arguments) e refl refl
    performed (Stmt-F.Call child arguments into) e = simple_returns (Stmt-F.Call child arguments into) e refl refl
    performed (Stmt-F.Return value) e = returned value e (act_ends here rest so_far h.first h.cells h.under (Stmt-F.Return value) e refl)

  steps_declared : (budget : ℕ) (list : List Placed) (so_far : StepState) → IsThere list so_far → Declared (steps kind budget list so_far)
  steps_declared budget [] so_far h = sym (unless_some (body_result model kind) h.under)
  steps_declared zero (here ∷ rest) so_far h = tt
  steps_declared (suc budget) (here ∷ rest) so_far h =
      performed here rest (paid so_far) (record { first = h.first; cells = h.cells; under = h.under }) (steps kind budget) (steps_declared budget) (out-Stmt here.what) refl

  -- where something is left, or there is no result, what is left ends in a `return` where there is a result
  begins_under : (at : ℕ) → IsBodyOf model kind → (left (body_of model kind) at ≡ [] → body_result model kind ≡ None) → Under (left (body_of model kind) at)
  begins_under at is h some =
      left_ends (body_of model kind) at (is.ends (subst (λ (o : Option Kind). IsTrue (is_some o)) is.result_is some))
      (λ e. not_some (body_result model kind) (h e) some)

-- however large the numbers of the view are
pub step_declared : (model : Parts) (budget : ℕ) (job : Job) (status : Status) (so_far : StepState) → IsTrue (valid_model model) → IsTrue (is_state_of model job.state) → AreCellsOf model job.view →
    IsUnderWay model job.state → job_step model budget job ≡ Some (status, so_far) → EndsAsDeclared model job.state.kind status
step_declared model budget job status so_far valid of_model view under e =
    let kind = job.state.kind in
    subst (Declared model valid kind) e
    (steps_declared model valid kind budget _ (starting job.view job.state.locals)
    (record {
      first = states_begin model job.state valid of_model;
      cells = view;
      under = begins_under model valid kind job.state.at (body_there model kind job.state.at job.state.locals valid of_model) under;
    }))

pub results_fit : ResultsFit
results_fit model budget job status so_far valid is under e = step_declared model budget job status so_far valid is.state is.view under e

-- ---- where an activity begins

begins_by : (model : Parts) (valid : IsTrue (valid_model model)) (kind : ℕ) (found : Option Activity) → slice_get model.activities kind ≡ found → left (activity_body found) 0 ≡ [] → activity_result found ≡ None
begins_by model valid kind None e none = refl
begins_by model valid kind (Some activity) e none =
    unless_some activity.result (λ some. first_left activity.body (activity_ends model valid kind activity e some) none)

pub begins_under_way : BeginsUnderWay
begins_under_way model kind arguments valid none = begins_by model valid kind (slice_get model.activities kind) refl none
