-- Each effect of a step of a valid model is accepted by the cells of the model, and so each of a making.
use Rattle.std.proofs.Common.{◌≡◌, ℕ, zero, suc, ◌+◌, Bool, true, ◌&&◌, IsTrue, List, [], ◌∷◌, ◌++◌, Some, None, Ok, Err, refl, ap, ◌∙◌, subst, arith}
use Rattle.std.specs.List.{All}
use Rattle.aerie_base.specs.declared.values.Value.{Value}
use Rattle.aerie_base.specs.declared.statements.Stmt.{Stmt, out-Stmt}
use Rattle.aerie_base.specs.declared.statements.Stmt.TheOpen.{Stmt-F}
use Rattle.aerie_base.specs.declared.models.model.Parts.{Parts}
use Rattle.aerie_base.specs.expressions.Arithmetic.{truth_in}
use Rattle.aerie_base.specs.expressions.Evaluation.{Evaluated}
use Rattle.aerie_base.specs.models.ValidModel.{valid_model}
use Rattle.aerie_base.specs.statements.Places.{Placed}
use Rattle.effect_cells.specs.declared.effects.CellState.{CellState}
use Rattle.effect_cells.specs.declared.effects.Effect.{Effect}
use Rattle.effect_cells.specs.Cells.{accepts, emitted, fits_cells}
use Rattle.run_data.specs.declared.tasks.BodyId.{BodyId}
use Rattle.run_data.specs.declared.jobs.Job.{Job}
use Rattle.run_data.specs.TaskFrames.{Frame}
use Rattle.run_data.specs.declared.frames.Item.{Item}
use Rattle.run_data.specs.declared.frames.Item.TheVariants as item
use Rattle.run_data.specs.Batches.{tree_of}
use Rattle.run_data.specs.Frames.{Making, with_effect, with_frame, job_step, frame_of, child_job, of_items, of_step, too_deep, made_within, made_by, room_of}
use Rattle.run_data.specs.Jobs.{is_state_of, AreCellsOf, IsJobOf}
use Rattle.run_data.specs.StepStates.{StepState, after_items, starting, valued, with_flags, paid}
use Rattle.run_data.specs.Steps.{Acted, onward, ended, act, Stepped, after, after_test, perform, steps, with_evaluated, valued_all, emission_expr, effect_of}
use Rattle.run_data.specs.Typed.{AreLeft, is_typed_stmt}
use Rattle.run_data.specs.Tasks.{ready_jobs}
use Rattle.run_data.specs.laws.ModelSteps.{AreChildrenOf}
use Rattle.run_data.specs.laws.Orders.{EachOf, FitsCells, MadeFitsCells, ReadyOrderDoesNotMatter}
use Rattle.run_data.proofs.CellKinds.{cells_emitted}
use Rattle.run_data.proofs.Keeping.{all_notes}
use Rattle.run_data.proofs.ModelSteps.{step_keeps}
use Rattle.run_data.proofs.Orders.{child_fits, order_does_not_matter}
use Rattle.run_data.proofs.ReachedStates.{reached_is_of_model}
use Rattle.run_data.proofs.SmallActs.{emission_accepted, each_more}
use Rattle.run_data.proofs.StepLeavings.{EffectsFit, step_leaves}
use Rattle.run_data.proofs.TypedActs.{all_acts}
use Rattle.run_data.proofs.Typing.{next_is_typed, states_begin, runs_on}
use Rattle.run_data.proofs.Performing.{performed_by}

module _ (model : Parts) where
  -- whatever cells of the model accept it
  abbrev pub IsAccepted : Item → Type 0
  IsAccepted (item.Emit cell effect) = (cells : List CellState) → AreCellsOf model cells → accepts cells cell effect ≡ true
  IsAccepted (item.Child kind arguments) = Unit {0}

  abbrev Accepts : Acted → Type 0
  Accepts (onward next) = EachOf IsAccepted next.items
  Accepts (ended status last) = EachOf IsAccepted last.items

  module _ (kind : BodyId) (at : ℕ) (so_far : StepState) (all : EachOf IsAccepted so_far.items) where
    by_value : (result : Evaluated) (go : Value → StepState → Acted) → ((value : Value) (flags : List Bool) → Accepts (go value (with_flags so_far flags))) → Accepts (with_evaluated so_far result go)
    by_value (Ok value, flags) go goes = goes value flags
    by_value (Err fault, flags) go goes = all

    child_more : (child : ℕ) (values : List Value) → EachOf IsAccepted (so_far.items ++ item.Child child values ∷ [])
    child_more child values = each_more IsAccepted so_far.items (item.Child child values) all tt

    act_accepts : (x : Stmt-F Stmt) → IsTrue (is_typed_stmt model so_far.locals x) → Accepts (act kind at x so_far)
    act_accepts (Stmt-F.Let slot expr) typed = by_value (valued so_far expr) _ (λ value flags. all)
    act_accepts (Stmt-F.Assign slot expr) typed = by_value (valued so_far expr) _ (λ value flags. all)
    act_accepts (Stmt-F.Emit cell what) typed =
        by_value (valued so_far (emission_expr what)) _
        (λ value flags. each_more IsAccepted so_far.items (item.Emit cell (effect_of what value)) all (λ cells are. emission_accepted model so_far.locals cells cell what value are typed))
    act_accepts (Stmt-F.Delay expr) typed = by_value (valued so_far expr) _ (λ value flags. all)
    act_accepts (Stmt-F.WaitUntil condition) typed = all
    act_accepts (Stmt-F.Spawn child exprs) typed =
        all_acts Accepts (λ result. Unit {0}) so_far (valued_all exprs so_far) _ (all_notes exprs so_far) tt (λ fault flags. all) (λ values flags given. child_more child values)
    act_accepts (Stmt-F.Call child exprs into) typed =
        all_acts Accepts (λ result. Unit {0}) so_far (valued_all exprs so_far) _ (all_notes exprs so_far) tt (λ fault flags. all) (λ values flags given. child_more child values)
    act_accepts (Stmt-F.If test block other) typed = all
    act_accepts (Stmt-F.While test body) typed = all
    act_accepts (Stmt-F.Return None) typed = all
    act_accepts (Stmt-F.Return (Some expr)) typed = by_value (valued so_far expr) _ (λ value flags. all)

  module _ (valid : IsTrue (valid_model model)) (kind : BodyId) where
    abbrev Stays : Stepped → Type 0
    Stays None = Unit {0}
    Stays (Some (status, so_far)) = EachOf IsAccepted so_far.items

    record IsThere (list : List Placed) (so_far : StepState) : Type 0 where
      left : AreLeft model kind list so_far.locals
      cells : AreCellsOf model (after_items so_far.view so_far.items)
      all : EachOf IsAccepted so_far.items

    module _ (here : Placed) (rest : List Placed) (so_far : StepState) (h : IsThere (here ∷ rest) so_far) (go : List Placed → StepState → Stepped)
        (goes : (list : List Placed) (next : StepState) → IsThere list next → Stays (go list next)) where
      after_acted : (acted : Acted) → act kind here.at (out-Stmt here.what) so_far ≡ acted → Accepts acted → Stays (after acted (go rest))
      after_acted (onward next) e all =
          let on = runs_on model kind here rest so_far next valid h.left h.cells e in
          goes rest next (record { left = on.0; cells = on.1; all = all })
      after_acted (ended status last) e all = all

      simple : (x : Stmt-F Stmt) → out-Stmt here.what ≡ x → Stays (after (act kind here.at x so_far) (go rest))
      simple x e =
          after_acted (act kind here.at x so_far) (ap (λ (y : Stmt-F Stmt). act kind here.at y so_far) e)
          (act_accepts kind here.at so_far h.all x (subst (λ (y : Stmt-F Stmt). IsTrue (is_typed_stmt model so_far.locals y)) e (next_is_typed model kind here rest so_far.locals valid h.left)))

      there : (list : List Placed) (flags : List Bool) → AreLeft model kind list so_far.locals → IsThere list (with_flags so_far flags)
      there list flags left = record { left = left; cells = h.cells; all = h.all }

      tested : (result : Evaluated) (then_ : Bool → StepState → Stepped) → ((holds : Bool) (flags : List Bool) → Stays (then_ holds (with_flags so_far flags))) → Stays (after_test so_far result then_)
      tested (Ok value, flags) then_ g = g (truth_in value) flags
      tested (Err fault, flags) then_ g = h.all

      performed : (x : Stmt-F Stmt) → out-Stmt here.what ≡ x → Stays (perform kind here rest x so_far go)
      performed =
          performed_by model kind here rest so_far go valid h.left Stays (λ test. tested (valued so_far test))
          (λ list flags left. goes list (with_flags so_far flags) (there list flags left)) simple

    steps_accepted : (budget : ℕ) (list : List Placed) (so_far : StepState) → IsThere list so_far → Stays (steps kind budget list so_far)
    steps_accepted budget [] so_far h = h.all
    steps_accepted zero (here ∷ rest) so_far h = tt
    steps_accepted (suc budget) (here ∷ rest) so_far h =
        performed here rest (paid so_far) (record { left = h.left; cells = h.cells; all = h.all }) (steps kind budget) (steps_accepted budget) (out-Stmt here.what) refl

  module _ (valid : IsTrue (valid_model model)) (budget : ℕ) where
    -- a state and a view of the model
    record IsGood (job : Job) : Type 0 where
      state : IsTrue (is_state_of model job.state)
      view : AreCellsOf model job.view

    step_accepted : (job : Job) (stepped : Stepped) → IsGood job → job_step model budget job ≡ stepped → Stays valid job.state.kind stepped
    step_accepted job stepped is e =
        subst (Stays valid job.state.kind) e
        (steps_accepted valid job.state.kind budget _ (starting job.view job.state.locals)
        (record { left = states_begin model job.state valid is.state; cells = is.view; all = tt }))

    -- ---- makings

    module _ (cells : List CellState) (are : AreCellsOf model cells) where
      effect_fits : (cell : ℕ) (effect : Effect) (making : Making) → accepts cells cell effect ≡ true → FitsCells cells making → FitsCells cells (with_effect cell effect making)
      effect_fits cell effect None h k = tt
      effect_fits cell effect (Some made) h k = ap (λ b. b && fits_cells cells (tree_of made)) h ∙ k

      frame_fits : (frame : Frame) (making : Making) → FitsCells cells making → FitsCells cells (with_frame frame making)
      frame_fits frame None k = tt
      frame_fits frame (Some made) k = k

      items_fit : (of_child : Job → Making) (maker : List ℕ) (number : ℕ) (view : List CellState) (items : List Item) → AreCellsOf model view → EachOf IsAccepted items → EffectsFit model items → AreChildrenOf model items →
          ((child : Job) → IsGood child → FitsCells cells (of_child child)) → FitsCells cells (of_items model of_child maker number view items)
      items_fit of_child maker number view [] of_view all fit children h = refl
      items_fit of_child maker number view (item.Emit cell effect ∷ rest) of_view all fit children h =
          effect_fits cell effect (of_items model of_child maker number (emitted view cell effect) rest) (all.0 cells are)
          (items_fit of_child maker number (emitted view cell effect) rest (cells_emitted model view cell effect of_view (fit.0 view of_view)) all.1 fit.1 children h)
      items_fit of_child maker number view (item.Child kind arguments ∷ rest) of_view all fit children h =
          child_fits cells (of_child (child_job model maker number view kind arguments)) (of_items model of_child maker (number + 1) view rest)
          (h (child_job model maker number view kind arguments) (record { state = children.0; view = of_view }))
          (items_fit of_child maker (number + 1) view rest of_view all.1 fit children.1 h)

      step_fits : (of_child : Job → Making) (job : Job) (number : ℕ) (stepped : Stepped) → job_step model budget job ≡ stepped → IsGood job → Stays valid job.state.kind stepped →
          ((child : Job) → IsGood child → FitsCells cells (of_child child)) → FitsCells cells (of_step model of_child job number stepped)
      step_fits of_child job number None e is all h = tt
      step_fits of_child job number (Some (status, so_far)) e is all h =
          frame_fits (frame_of job status so_far) (of_items model of_child job.path number job.view so_far.items)
          (items_fit of_child job.path number job.view so_far.items is.view all (step_leaves model valid budget job status so_far is.state is.view e).0
          (step_keeps model budget job status so_far valid is.state is.view e).0.children h)

      within_fits : (room number : ℕ) (job : Job) → IsGood job → FitsCells cells (made_within model budget room number job)
      within_fits zero number job is =
          step_fits (too_deep job.path) job number (job_step model budget job) refl is (step_accepted job (job_step model budget job) is refl) (λ child also. refl)
      within_fits (suc room) number job is =
          step_fits (made_within model budget room 0) job number (job_step model budget job) refl is (step_accepted job (job_step model budget job) is refl) (λ child. within_fits room 0 child)

pub made_fits_cells : MadeFitsCells
made_fits_cells model budget cells job valid is are =
    within_fits model valid budget cells are (room_of job.1.path) job.0 job.1 (record { state = is.state; view = is.view })

-- ---- ready jobs

each_of : (P Q : ℕ × Job → Type 0) → ((job : ℕ × Job) → P job → Q job) → (jobs : List (ℕ × Job)) → All P jobs → EachOf Q jobs
each_of P Q gives [] all = tt
each_of P Q gives (job ∷ rest) all =
    (gives job (all 0 job (omega arith)), each_of P Q gives rest (λ k d less. all (suc k) d (omega arith)))

pub ready_order : ReadyOrderDoesNotMatter
ready_order model plan bound at others valid of_model reached order =
    let is = reached_is_of_model model plan bound at valid of_model reached in
    order_does_not_matter model bound at.spent at.cells (ready_jobs at.cells at.table) others is.apart
    (each_of (λ job. IsJobOf model job.1) (λ job. FitsCells at.cells (made_by model bound job)) (λ job good. made_fits_cells model bound at.cells job valid good is.cells)
    (ready_jobs at.cells at.table) is.jobs) order
