-- The effects of a step leave the cells of the model with their types, and a task goes on in its own body.
use Rattle.std.proofs.Common.{◌≡◌, ℕ, zero, suc, ℤ, pos, negsuc, Bool, IsTrue, List, [], ◌∷◌, ◌++◌, Option, Some, None, Ok, Err, slice_get, refl, ap, subst}
use Rattle.aerie_base.specs.declared.values.Kind.{Kind}
use Rattle.aerie_base.specs.declared.values.Value.{Value}
use Rattle.aerie_base.specs.declared.statements.Emission.{Emission}
use Rattle.aerie_base.specs.declared.statements.Stmt.{Stmt, out-Stmt}
use Rattle.aerie_base.specs.declared.statements.Stmt.TheOpen.{Stmt-F}
use Rattle.aerie_base.specs.declared.models.model.Parts.{Parts}
use Rattle.aerie_base.specs.expressions.Arithmetic.{number_in, truth_in}
use Rattle.aerie_base.specs.expressions.Evaluation.{Evaluated}
use Rattle.aerie_base.specs.expressions.Soundness.{Gives, sound}
use Rattle.aerie_base.specs.models.Cells.{read_kind}
use Rattle.aerie_base.specs.models.ValidModel.{valid_model}
use Rattle.aerie_base.specs.statements.Places.{Placed}
use Rattle.effect_cells.specs.declared.effects.CellState.{CellState}
use Rattle.effect_cells.specs.declared.effects.Effect.{Effect}
use Rattle.run_data.specs.declared.tasks.BodyId.{BodyId}
use Rattle.run_data.specs.declared.frames.Item.{Item}
use Rattle.run_data.specs.declared.frames.Item.TheVariants as item
use Rattle.run_data.specs.declared.frames.Status.{Status}
use Rattle.run_data.specs.declared.frames.Status.TheVariants.{Delayed, Waiting, Calling, Done, Faulted}
use Rattle.run_data.specs.StepStates.{StepState, after_items, value_read, starting, valued, with_flags, paid, giving}
use Rattle.run_data.specs.Frames.{job_step}
use Rattle.run_data.specs.Jobs.{is_state_of, AreCellsOf}
use Rattle.run_data.specs.Steps.{Acted, onward, ended, Stepped, act, after, after_test, perform, steps, with_evaluated, valued_all, emission_expr, effect_of, delay_of, state_behind}
use Rattle.run_data.specs.Typed.{AreLeft, kind_here, is_typed_stmt, is_typed_emission}
use Rattle.run_data.specs.declared.jobs.Job.{Job}
use Rattle.run_data.specs.laws.Typing.{last_child, or_this}
use Rattle.run_data.proofs.CellKinds.{LeavesKinds, value_read_readings}
use Rattle.run_data.proofs.Keeping.{all_notes}
use Rattle.run_data.proofs.TypedActs.{all_acts, emission_leaves}
use Rattle.run_data.proofs.Typing.{next_is_typed, states_begin, runs_on}
use Rattle.run_data.proofs.Performing.{performed_by}

-- ---- effects

-- on whatever cells of the model, the effect leaves its cell with its type
abbrev pub EffectFits : Parts → ℕ → Effect → Type 0
EffectFits model cell effect = (cells : List CellState) → AreCellsOf model cells → LeavesKinds effect (slice_get cells cell)

abbrev pub EffectsFit : Parts → List Item → Type 0
EffectsFit model [] = Unit {0}
EffectsFit model (item.Emit cell effect ∷ rest) = EffectFits model cell effect × EffectsFit model rest
EffectsFit model (item.Child kind arguments ∷ rest) = EffectsFit model rest

effect_more : (model : Parts) (items : List Item) (cell : ℕ) (effect : Effect) → EffectsFit model items → EffectFits model cell effect → EffectsFit model (items ++ item.Emit cell effect ∷ [])
effect_more model [] cell effect all one = (one, tt)
effect_more model (item.Emit other change ∷ items) cell effect all one = (all.0, effect_more model items cell effect all.1 one)
effect_more model (item.Child kind arguments ∷ items) cell effect all one = effect_more model items cell effect all one

child_more : (model : Parts) (items : List Item) (kind : ℕ) (arguments : List Value) → EffectsFit model items → EffectsFit model (items ++ item.Child kind arguments ∷ [])
child_more model [] kind arguments all = tt
child_more model (item.Emit other change ∷ items) kind arguments all = (all.0, child_more model items kind arguments all.1)
child_more model (item.Child other values ∷ items) kind arguments all = child_more model items kind arguments all

-- the child that was made last
made_last : (items : List Item) (kind : ℕ) (arguments : List Value) → last_child (items ++ item.Child kind arguments ∷ []) ≡ Some kind
made_last [] kind arguments = refl
made_last (item.Emit cell effect ∷ items) kind arguments = made_last items kind arguments
made_last (item.Child other values ∷ items) kind arguments = ap (λ (later : Option ℕ). or_this later other) (made_last items kind arguments)

-- ---- how a step ends

-- the task goes on in its body, and a caller has made a child
abbrev pub StaysIn : BodyId → List Item → Status → Type 0
StaysIn kind items (Delayed by next) = next.kind ≡ kind
StaysIn kind items (Waiting condition next) = next.kind ≡ kind
StaysIn kind items (Calling into next) = (next.kind ≡ kind) × ((child : ℕ) × (last_child items ≡ Some child))
StaysIn kind items (Done result) = Unit {0}
StaysIn kind items (Faulted fault) = Unit {0}

module _ (model : Parts) (valid : IsTrue (valid_model model)) (kind : BodyId) where
  abbrev pub Leaves : Status → StepState → Type 0
  Leaves status last = EffectsFit model last.items × StaysIn kind last.items status

  abbrev ActedLeaves : Acted → Type 0
  ActedLeaves (onward next) = EffectsFit model next.items
  ActedLeaves (ended status last) = Leaves status last

  abbrev StepLeaves : Stepped → Type 0
  StepLeaves None = Unit {0}
  StepLeaves (Some (status, last)) = Leaves status last

  module _ (here : Placed) (so_far : StepState) (cells : AreCellsOf model (after_items so_far.view so_far.items)) (fit : EffectsFit model so_far.items) where
    value_leaves : (result : Evaluated) (go : Value → StepState → Acted) → ((value : Value) (read_flags : List Bool) → ActedLeaves (go value (with_flags so_far read_flags))) →
        ActedLeaves (with_evaluated so_far result go)
    value_leaves (Ok value, read_flags) go goes = goes value read_flags
    value_leaves (Err fault, read_flags) go goes = (fit, tt)

    emit_leaves : (cell : ℕ) (what : Emission) → IsTrue (is_typed_emission model so_far.locals cell what) → (result : Evaluated) →
        ((of : Kind) → kind_here so_far.locals (read_kind model.cells) (emission_expr what) ≡ Some of → Gives of result.0) →
        ActedLeaves (with_evaluated so_far result (λ value c. onward (giving c (item.Emit cell (effect_of what value)))))
    emit_leaves cell what typed (Err fault, read_flags) gives = (fit, tt)
    emit_leaves cell what typed (Ok value, read_flags) gives =
        effect_more model so_far.items cell (effect_of what value) fit
        (λ others are. (let leaves = emission_leaves model so_far.locals others cell what are typed in leaves.2 value (gives leaves.0 leaves.1)))

    delay_leaves : (by : ℤ) (read_flags : List Bool) → ActedLeaves (ended (delay_of by (state_behind kind here.at (with_flags so_far read_flags))) (with_flags so_far read_flags))
    delay_leaves (pos micros) read_flags = (fit, refl)
    delay_leaves (negsuc below) read_flags = (fit, tt)

    act_leaves : (x : Stmt-F Stmt) → IsTrue (is_typed_stmt model so_far.locals x) → ActedLeaves (act kind here.at x so_far)
    act_leaves (Stmt-F.Let slot expr) typed = value_leaves (valued so_far expr) _ (λ value read_flags. fit)
    act_leaves (Stmt-F.Assign slot expr) typed = value_leaves (valued so_far expr) _ (λ value read_flags. fit)
    act_leaves (Stmt-F.Emit cell what) typed =
        emit_leaves cell what typed (valued so_far (emission_expr what))
        (λ of e. sound (emission_expr what) so_far.locals (read_kind model.cells) (value_read so_far.view so_far.items) so_far.read_flags of (value_read_readings model so_far.view so_far.items cells) e)
    act_leaves (Stmt-F.Delay expr) typed = value_leaves (valued so_far expr) _ (λ value read_flags. delay_leaves (number_in value) read_flags)
    act_leaves (Stmt-F.WaitUntil condition) typed = (fit, refl)
    act_leaves (Stmt-F.Spawn child exprs) typed =
        all_acts ActedLeaves (λ result. Unit {0}) so_far (valued_all exprs so_far) _ (all_notes exprs so_far) tt (λ fault read_flags. (fit, tt))
        (λ values read_flags given. child_more model so_far.items child values fit)
    act_leaves (Stmt-F.Call child exprs into) typed =
        all_acts ActedLeaves (λ result. Unit {0}) so_far (valued_all exprs so_far) _ (all_notes exprs so_far) tt (λ fault read_flags. (fit, tt))
        (λ values read_flags given. (child_more model so_far.items child values fit, (refl, (child, made_last so_far.items child values))))
    act_leaves (Stmt-F.If test block other) typed = (fit, tt)
    act_leaves (Stmt-F.While test body) typed = (fit, tt)
    act_leaves (Stmt-F.Return None) typed = (fit, tt)
    act_leaves (Stmt-F.Return (Some expr)) typed = value_leaves (valued so_far expr) _ (λ value read_flags. (fit, tt))

  -- ---- the step

  record IsHere (list : List Placed) (so_far : StepState) : Type 0 where
    left : AreLeft model kind list so_far.locals
    cells : AreCellsOf model (after_items so_far.view so_far.items)
    fit : EffectsFit model so_far.items

  tested : (so_far : StepState) (result : Evaluated) (go : Bool → StepState → Stepped) → EffectsFit model so_far.items →
      ((holds : Bool) (read_flags : List Bool) → StepLeaves (go holds (with_flags so_far read_flags))) → StepLeaves (after_test so_far result go)
  tested so_far (Ok value, read_flags) go fit goes = goes (truth_in value) read_flags
  tested so_far (Err fault, read_flags) go fit goes = (fit, tt)

  module _ (here : Placed) (rest : List Placed) (so_far : StepState) (h : IsHere (here ∷ rest) so_far) (go : List Placed → StepState → Stepped)
      (goes : (list : List Placed) (next : StepState) → IsHere list next → StepLeaves (go list next)) where
    after_acted : (acted : Acted) → act kind here.at (out-Stmt here.what) so_far ≡ acted → ActedLeaves acted → StepLeaves (after acted (go rest))
    after_acted (onward next) e leaves =
        let on = runs_on model kind here rest so_far next valid h.left h.cells e in
        goes rest next (record { left = on.0; cells = on.1; fit = leaves })
    after_acted (ended status last) e leaves = leaves

    simple : (x : Stmt-F Stmt) → out-Stmt here.what ≡ x → StepLeaves (after (act kind here.at x so_far) (go rest))
    simple x e =
        after_acted (act kind here.at x so_far) (ap (λ (y : Stmt-F Stmt). act kind here.at y so_far) e)
        (act_leaves here so_far h.cells h.fit x (subst (λ (y : Stmt-F Stmt). IsTrue (is_typed_stmt model so_far.locals y)) e (next_is_typed model kind here rest so_far.locals valid h.left)))

    there : (list : List Placed) (read_flags : List Bool) → AreLeft model kind list so_far.locals → IsHere list (with_flags so_far read_flags)
    there list read_flags left = record { left = left; cells = h.cells; fit = h.fit }

    performed : (x : Stmt-F Stmt) → out-Stmt here.what ≡ x → StepLeaves (perform kind here rest x so_far go)
    performed =
        performed_by model kind here rest so_far go valid h.left StepLeaves (λ test go_on. tested so_far (valued so_far test) go_on h.fit)
        (λ list flags left. goes list (with_flags so_far flags) (there list flags left)) simple

  steps_leave : (budget : ℕ) (list : List Placed) (so_far : StepState) → IsHere list so_far → StepLeaves (steps kind budget list so_far)
  steps_leave budget [] so_far h = (h.fit, tt)
  steps_leave zero (here ∷ rest) so_far h = tt
  steps_leave (suc budget) (here ∷ rest) so_far h =
      performed here rest (paid so_far) (record { left = h.left; cells = h.cells; fit = h.fit }) (steps kind budget) (steps_leave budget) (out-Stmt here.what) refl

-- what a step of a task of a valid model leaves
pub step_leaves : (model : Parts) (valid : IsTrue (valid_model model)) (budget : ℕ) (job : Job) (status : Status) (so_far : StepState) →
    IsTrue (is_state_of model job.state) → AreCellsOf model job.view → job_step model budget job ≡ Some (status, so_far) → Leaves model valid job.state.kind status so_far
step_leaves model valid budget job status so_far of_model view e =
    subst (StepLeaves model valid job.state.kind) e
    (steps_leave model valid job.state.kind budget _ (starting job.view job.state.locals)
    (record { left = states_begin model job.state valid of_model; cells = view; fit = tt }))
