-- A step of a job of a valid model leaves all of the model.
use Rattle.std.proofs.Common.{◌≡◌, ℕ, zero, suc, Bool, IsTrue, List, [], ◌∷◌, Some, None, Ok, Err, refl, ap, ◌∙◌, subst}
use Rattle.aerie_base.specs.declared.faults.Fault.{Fault}
use Rattle.aerie_base.specs.declared.statements.Stmt.{Stmt, out-Stmt}
use Rattle.aerie_base.specs.declared.statements.Stmt.TheOpen.{Stmt-F}
use Rattle.aerie_base.specs.declared.models.model.Parts.{Parts}
use Rattle.aerie_base.specs.expressions.Arithmetic.{truth_in}
use Rattle.aerie_base.specs.expressions.Evaluation.{Evaluated}
use Rattle.aerie_base.specs.models.ValidModel.{valid_model}
use Rattle.aerie_base.specs.statements.Places.{Placed}
use Rattle.effect_cells.specs.declared.effects.CellState.{CellState}
use Rattle.run_data.specs.declared.tasks.BodyId.{BodyId}
use Rattle.run_data.specs.declared.frames.Status.{Status}
use Rattle.run_data.specs.declared.frames.Status.TheVariants.{Faulted}
use Rattle.run_data.specs.declared.jobs.Job.{Job}
use Rattle.run_data.specs.Frames.{job_step}
use Rattle.run_data.specs.StepStates.{StepState, after_items, starting, valued, with_flags, paid}
use Rattle.run_data.specs.Jobs.{is_state_of, AreCellsOf}
use Rattle.run_data.specs.Steps.{Acted, onward, ended, act, Stepped, after, after_test, perform, steps}
use Rattle.run_data.specs.Typed.{AreLeft}
use Rattle.run_data.specs.laws.ModelSteps.{AreChildrenOf, StaysOfModel, StepsKeepModel}
use Rattle.run_data.proofs.Keeping.{ActedKeeps, act_keeps}
use Rattle.run_data.proofs.TypedActs.{ActedGoes}
use Rattle.run_data.proofs.Typing.{states_begin, acted_there}
use Rattle.run_data.proofs.Performing.{performed_by}

module _ (model : Parts) (valid : IsTrue (valid_model model)) (kind : BodyId) (view : List CellState) where
  -- what is to hold of a step
  abbrev Stays : Stepped → Type 0
  Stays None = Unit {0}
  Stays (Some (status, so_far)) = StaysOfModel model status so_far × (so_far.view ≡ view)

  -- where a step is
  record IsThere (list : List Placed) (so_far : StepState) : Type 0 where
    left : AreLeft model kind list so_far.locals
    cells : AreCellsOf model (after_items so_far.view so_far.items)
    children : AreChildrenOf model so_far.items
    same : so_far.view ≡ view

  faulted : (list : List Placed) (so_far : StepState) (fault : Fault) (read_flags : List Bool) → IsThere list so_far → Stays (Some (Faulted fault, with_flags so_far read_flags))
  faulted list so_far fault read_flags h = (record { next = tt; waits = tt; children = h.children; cells = h.cells }, h.same)

  tested : (list : List Placed) (so_far : StepState) (result : Evaluated) (go : Bool → StepState → Stepped) → IsThere list so_far →
      ((holds : Bool) (read_flags : List Bool) → Stays (go holds (with_flags so_far read_flags))) → Stays (after_test so_far result go)
  tested list so_far (Ok value, read_flags) go h goes = goes (truth_in value) read_flags
  tested list so_far (Err fault, read_flags) go h goes = faulted list so_far fault read_flags h

  after_acted : (list : List Placed) (before : StepState) (rest : List Placed) (acted : Acted) (go : StepState → Stepped) → IsThere list before → ActedGoes model kind rest before acted → ActedKeeps before acted →
      ((next : StepState) → IsThere rest next → Stays (go next)) → Stays (after acted go)
  after_acted list before rest (onward next) go h on kept goes =
      goes next (record { left = on.0; cells = on.1; children = on.2 h.children; same = kept.view ∙ h.same })
  after_acted list before rest (ended status last) go h on kept goes =
      (record { next = on.0; waits = on.3; children = on.2 h.children; cells = on.1 }, kept.view ∙ h.same)

  module _ (here : Placed) (rest : List Placed) (so_far : StepState) (h : IsThere (here ∷ rest) so_far) (go : List Placed → StepState → Stepped)
      (goes : (list : List Placed) (next : StepState) → IsThere list next → Stays (go list next)) where
    simple_stays : (x : Stmt-F Stmt) → out-Stmt here.what ≡ x → Stays (after (act kind here.at x so_far) (go rest))
    simple_stays x e =
        after_acted (here ∷ rest) so_far rest (act kind here.at x so_far) (go rest) h
        (acted_there model kind here rest so_far valid h.left h.cells (act kind here.at x so_far) (ap (λ (y : Stmt-F Stmt). act kind here.at y so_far) e))
        (act_keeps kind here.at x so_far) (goes rest)

    there : (list : List Placed) (read_flags : List Bool) → AreLeft model kind list so_far.locals → IsThere list (with_flags so_far read_flags)
    there list read_flags left = record { left = left; cells = h.cells; children = h.children; same = h.same }

    performed : (x : Stmt-F Stmt) → out-Stmt here.what ≡ x → Stays (perform kind here rest x so_far go)
    performed =
        performed_by model kind here rest so_far go valid h.left Stays (λ test go_on. tested (here ∷ rest) so_far (valued so_far test) go_on h)
        (λ list flags left. goes list (with_flags so_far flags) (there list flags left)) simple_stays

  steps_stay : (budget : ℕ) (list : List Placed) (so_far : StepState) → IsThere list so_far → Stays (steps kind budget list so_far)
  steps_stay budget [] so_far h = (record { next = tt; waits = tt; children = h.children; cells = h.cells }, h.same)
  steps_stay zero (here ∷ rest) so_far h = tt
  steps_stay (suc budget) (here ∷ rest) so_far h =
      performed here rest (paid so_far) (record { left = h.left; cells = h.cells; children = h.children; same = h.same })
      (steps kind budget) (steps_stay budget) (out-Stmt here.what) refl

-- however large the numbers of the view are
pub step_keeps : (model : Parts) (budget : ℕ) (job : Job) (status : Status) (so_far : StepState) → IsTrue (valid_model model) → IsTrue (is_state_of model job.state) → AreCellsOf model job.view →
    job_step model budget job ≡ Some (status, so_far) → StaysOfModel model status so_far × (so_far.view ≡ job.view)
step_keeps model budget job status so_far valid of_model view e =
    subst (Stays model valid job.state.kind job.view) e
    (steps_stay model valid job.state.kind job.view budget _ (starting job.view job.state.locals)
    (record { left = states_begin model job.state valid of_model; cells = view; children = tt; same = refl }))

pub steps_keep_model : StepsKeepModel
steps_keep_model model budget job status so_far valid is e = step_keeps model budget job status so_far valid is.state is.view e
