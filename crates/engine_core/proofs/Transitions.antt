-- A file of lemmas: what it proves need not be read to trust a clause.
--
-- From one point on to the next that has a job, or to the run.
use Rattle.std.proofs.Common.{◌≡◌, ℕ, ◌<◌, ◌≤◌, Bool, true, false, not, IsTrue, List, [], ◌∷◌, refl, sym, ap, ◌∙◌, subst}
use Rattle.aerie_base.specs.Ranges.{step_limit}
use Rattle.aerie_base.specs.declared.models.model.Parts.{Parts}
use Rattle.aerie_base.specs.declared.plans.Plan.{Plan}
use Rattle.aerie_base.specs.models.ValidModel.{valid_model}
use Rattle.aerie_base.specs.plans.OfModel.{IsPlanOf}
use Rattle.run_data.specs.declared.jobs.Job.{Job}
use Rattle.run_data.specs.declared.runs.Run.{Run}
use Rattle.run_data.specs.Fresh.{SimulationState, start}
use Rattle.run_data.specs.Tasks.{ready_jobs}
use Rattle.run_data.specs.Transitions.{Next, more, finished, begins}
use Rattle.run_data.specs.laws.PrunedStates.{pruned, PrunedStep}
use Rattle.run_data.specs.laws.ReachedStates.{ReachedIsOfModel}
use Rattle.run_data.specs.laws.Weights.{WeightFalls}
use Rattle.engine_core.specs.EngineStates.{IsReachedPruned, IsEngineState, HasJob, jobs_in, LeadsTo, there, on, after_transition}
use Rattle.engine_core.specs.Simulations.{point_in, are_none, is_idle_at, StandsAt, IsOnCourse, IsBeforeBatch, IsTransitionFrom, engine_state_of}
use Rattle.engine_core.specs.declared.simulation.Request.{Request}
use Rattle.engine_core.specs.declared.simulation.Simulation.{Simulation}
use Rattle.engine_core.specs.EnginePoints.{point_weight, reached_on, transition_less}

pub none_are : (jobs : List (ℕ × Job)) → are_none jobs ≡ true → jobs ≡ []
none_are [] e = refl
none_are (job ∷ rest) e = absurd (cc)

pub some_are : (jobs : List (ℕ × Job)) → are_none jobs ≡ false → jobs ≡ [] → ⊥
some_are [] e none = absurd (cc)
some_are (job ∷ rest) e none = absurd (cc)

pub has_job : (point : Next SimulationState Run) → is_idle_at point ≡ false → HasJob point
has_job (more at) e = some_are (ready_jobs at.cells at.table) e
has_job (finished run) e = tt

module _ (step : PrunedStep) (model : Parts) (plan : Plan) (bound : ℕ) (valid : IsTrue (valid_model model)) (good : IsPlanOf model plan) (of_model : ReachedIsOfModel) (falls : WeightFalls) where
  pub weight_less : (point : Next SimulationState Run) → IsReachedPruned model plan bound point → is_idle_at point ≡ true →
      point_weight plan bound (after_transition model plan bound point) < point_weight plan bound point
  weight_less (more at) comes idle = transition_less step model plan bound valid good of_model falls at comes
  weight_less (finished run) comes idle = absurd (cc)

pub leads_on : (model : Parts) (plan : Plan) (bound : ℕ) (point later : Next SimulationState Run) → is_idle_at point ≡ true → LeadsTo model plan bound (after_transition model plan bound point) later →
    LeadsTo model plan bound point later
leads_on model plan bound (more at) later idle leads = on (none_are (ready_jobs at.cells at.table) idle) leads
leads_on model plan bound (finished run) later idle leads = absurd (cc)

-- where a simulation on course stands after its transition it is on course
pub on_course : PrunedStep → (model : Parts) → IsTrue (valid_model model) → (before after : Simulation) → IsOnCourse model before → IsTransitionFrom model before after → IsOnCourse model after
on_course step model valid before after course stands = record {
  plan = subst (λ (r : Request). IsPlanOf model r.plan) (sym stands.request) course.plan;
  bound = subst (λ (r : Request). r.bound ≤ step_limit) (sym stands.request) course.bound;
  reached =
      subst (λ (p : Next SimulationState Run). IsReachedPruned model after.request.plan after.request.bound p) (sym stands.point)
      (subst (λ (r : Request). IsReachedPruned model r.plan r.bound (after_transition model before.request.plan before.request.bound (point_in before))) (sym stands.request)
      (reached_on step model before.request.plan before.request.bound valid course.plan (point_in before) course.reached));
  tasks = stands.tasks;
}

-- where it stands as before it is on course
still_on_course : (model : Parts) (before after : Simulation) → IsOnCourse model before → StandsAt before.request (point_in before) after → IsOnCourse model after
still_on_course model before after course stands = record {
  plan = subst (λ (r : Request). IsPlanOf model r.plan) (sym stands.request) course.plan;
  bound = subst (λ (r : Request). r.bound ≤ step_limit) (sym stands.request) course.bound;
  reached =
      subst (λ (p : Next SimulationState Run). IsReachedPruned model after.request.plan after.request.bound p) (sym stands.point)
      (subst (λ (r : Request). IsReachedPruned model r.plan r.bound (point_in before)) (sym stands.request) course.reached);
  tasks = stands.tasks;
}

-- ---- between transitions

-- the simulation is on course, what is simulated is the same, and where it leads to the first one leads to
pub record IsLed (model : Parts) (first now : Simulation) : Type 0 where
  pub course : IsOnCourse model now
  pub request : now.request ≡ first.request
  pub leads : (later : Next SimulationState Run) → LeadsTo model first.request.plan first.request.bound (point_in now) later →
      LeadsTo model first.request.plan first.request.bound (point_in first) later

pub led_first : (model : Parts) (first : Simulation) → IsOnCourse model first → IsLed model first first
led_first model first course = record { course = course; request = refl; leads = λ later leads. leads }

module _ (step : PrunedStep) (model : Parts) (valid : IsTrue (valid_model model)) (first now : Simulation) (led : IsLed model first now) where
  from_first : after_transition model now.request.plan now.request.bound (point_in now) ≡ after_transition model first.request.plan first.request.bound (point_in now)
  from_first = ap (λ (r : Request). after_transition model r.plan r.bound (point_in now)) led.request

  module _ (idle : is_idle_at (point_in now) ≡ true) (next : Simulation) (stands : IsTransitionFrom model now next) where
    pub led_on : IsLed model first next
    led_on = record {
      course = on_course step model valid now next led.course stands;
      request = stands.request ∙ led.request;
      leads = λ later leads.
          led.leads later
          (leads_on model first.request.plan first.request.bound (point_in now) later idle
          (subst (λ (p : Next SimulationState Run). LeadsTo model first.request.plan first.request.bound p later) (stands.point ∙ from_first) leads));
    }

    pub led_less : ReachedIsOfModel → WeightFalls →
        point_weight first.request.plan first.request.bound (point_in next) < point_weight first.request.plan first.request.bound (point_in now)
    led_less of_model falls =
        subst (λ (p : Next SimulationState Run). point_weight first.request.plan first.request.bound p < point_weight first.request.plan first.request.bound (point_in now))
        (sym (stands.point ∙ from_first))
        (weight_less step model first.request.plan first.request.bound valid (subst (λ (r : Request). IsPlanOf model r.plan) led.request led.course.plan) of_model falls (point_in now)
        (subst (λ (r : Request). IsReachedPruned model r.plan r.bound (point_in now)) led.request led.course.reached) idle)

pub led_there : (model : Parts) (first now after : Simulation) → IsLed model first now → is_idle_at (point_in now) ≡ false → StandsAt now.request (point_in now) after →
    LeadsTo model first.request.plan first.request.bound (point_in first) (point_in after)
led_there model first now after led busy stands =
    subst (λ (p : Next SimulationState Run). LeadsTo model first.request.plan first.request.bound (point_in first) p) (sym stands.point)
    (led.leads (point_in now) (there (has_job (point_in now) busy)))

-- so it is before a batch, or at the run
pub stands_before : (model : Parts) (first now after : Simulation) (jobs : List (ℕ × Job)) → IsLed model first now → is_idle_at (point_in now) ≡ false → StandsAt now.request (point_in now) after →
    jobs ≡ jobs_in (point_in now) → IsBeforeBatch model jobs after
stands_before model first now after jobs led busy stands ready = record {
  course = still_on_course model now after led.course stands;
  has_job = subst HasJob (sym stands.point) (has_job (point_in now) busy);
  ready = ready ∙ ap jobs_in (sym stands.point);
}

-- an engine on course before a job, or at the run, stands
pub stands_there : (model : Parts) (simulation : Simulation) → IsOnCourse model simulation → HasJob (point_in simulation) → IsEngineState (engine_state_of model simulation)
stands_there model simulation course job = record { plan = course.plan; bound = course.bound; reached = course.reached; has_job = job }

pub idle_is : (ready : Bool) (jobs : List (ℕ × Job)) → (ready ≡ false → jobs ≡ []) → (ready ≡ true → jobs ≡ [] → ⊥) → not ready ≡ are_none jobs
idle_is true [] none some = absurd (some refl refl)
idle_is true (job ∷ rest) none some = refl
idle_is false [] none some = refl
idle_is false (job ∷ rest) none some = let k : job ∷ rest ≡ [] = none refl in absurd (cc)

-- ---- at the start

module _ (model : Parts) (plan : Plan) (bound : ℕ) (simulation : Simulation)
    (stands : StandsAt (record { plan = plan; bound = bound }) (more (pruned (start model plan))) simulation) where
  pub on_course_first : IsPlanOf model plan → bound ≤ step_limit → IsOnCourse model simulation
  on_course_first good small = record {
    plan = subst (λ (r : Request). IsPlanOf model r.plan) (sym stands.request) good;
    bound = subst (λ (r : Request). r.bound ≤ step_limit) (sym stands.request) small;
    reached =
        subst (λ (p : Next SimulationState Run). IsReachedPruned model simulation.request.plan simulation.request.bound p) (sym stands.point)
        (subst (λ (r : Request). IsReachedPruned model r.plan r.bound (more (pruned (start model plan)))) (sym stands.request)
        (record { whole = more (start model plan); reached = begins; is = refl }));
    tasks = stands.tasks;
  }

  pub leads_first : (point : Next SimulationState Run) → LeadsTo model simulation.request.plan simulation.request.bound (point_in simulation) point →
      LeadsTo model plan bound (more (pruned (start model plan))) point
  leads_first point leads =
      subst (λ (p : Next SimulationState Run). LeadsTo model plan bound p point) stands.point
      (subst (λ (r : Request). LeadsTo model r.plan r.bound (point_in simulation) point) stands.request leads)
