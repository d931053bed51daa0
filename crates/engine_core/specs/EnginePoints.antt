-- A file of lemmas: what it proves need not be read to trust a clause.
--
-- From one point of an engine to the next: where it is reached, what it weighs, whether a job is there.
use Rattle.std.proofs.Common.{◌≡◌, ℕ, ◌+◌, ◌<◌, ◌≤◌, IsTrue, List, [], ◌∷◌, refl, sym, ap, ◌∙◌, subst, arith, length, map}
use Rattle.aerie_base.specs.declared.models.model.Parts.{Parts}
use Rattle.aerie_base.specs.declared.plans.Plan.{Plan}
use Rattle.aerie_base.specs.models.ValidModel.{valid_model}
use Rattle.aerie_base.specs.plans.OfModel.{IsPlanOf}
use Rattle.run_data.specs.declared.jobs.Job.{Job}
use Rattle.run_data.specs.declared.runs.Run.{Run}
use Rattle.run_data.specs.Fresh.{SimulationState, next_state, IsReached}
use Rattle.run_data.specs.Transitions.{Next, more, finished, onward}
use Rattle.run_data.specs.laws.PrunedStates.{pruned, pruned_point, PrunedStep}
use Rattle.run_data.specs.laws.ReachedStates.{ReachedIsOfModel}
use Rattle.run_data.specs.laws.Weights.{weight, WeightFalls}
use Rattle.engine_core.specs.EngineStates.{IsReachedPruned, LeadsTo, there, on, after_transition, EngineState, jobs_in}
use Rattle.engine_core.specs.PrunedPoints.{HasWhole, has_whole, next_pruned, weight_of_whole}
use Rattle.run_data.specs.declared.frames.Record.{Record}
use Rattle.run_data.specs.Counts.{rose_not}
use Rattle.run_data.specs.Waves.{last_count}
use Rattle.engine_core.specs.BatchGenerations.{Ran}

-- more where the simulation goes on than where it is over
abbrev pub point_weight : Plan → ℕ → Next SimulationState Run → ℕ
point_weight plan bound (more at) = weight plan bound at + 1
point_weight plan bound (finished run) = 0

-- ---- one transition

module _ (step : PrunedStep) (model : Parts) (plan : Plan) (bound : ℕ) (valid : IsTrue (valid_model model)) (good : IsPlanOf model plan) where
  pub reached_on : (point : Next SimulationState Run) → IsReachedPruned model plan bound point → IsReachedPruned model plan bound (after_transition model plan bound point)
  reached_on (more at) comes = by (has_whole model plan bound at comes)
    where
      by : HasWhole model plan bound at → IsReachedPruned model plan bound (pruned_point (next_state model plan bound at))
      by from = record { whole = next_state model plan bound from.whole; reached = onward from.reached; is = next_pruned step model plan bound valid good at from }
  reached_on (finished run) comes = comes

  module _ (of_model : ReachedIsOfModel) (falls : WeightFalls) where
    -- what has ended has no weight
    weight_pruned : (point : Next SimulationState Run) → IsReached model plan bound point → point_weight plan bound (pruned_point point) ≡ point_weight plan bound point
    weight_pruned (more whole) reached =
        ap (λ n. n + 1) (sym (weight_of_whole of_model model plan bound valid good (pruned whole) (record { whole = whole; reached = reached; is = refl })))
    weight_pruned (finished run) reached = refl

    pub transition_less : (at : SimulationState) → IsReachedPruned model plan bound (more at) →
        point_weight plan bound (pruned_point (next_state model plan bound at)) < weight plan bound at + 1
    transition_less at comes = by (has_whole model plan bound at comes)
      where
        falls_from : (whole : SimulationState) → IsReached model plan bound (more whole) → (point : Next SimulationState Run) → next_state model plan bound whole ≡ point →
            point_weight plan bound point < weight plan bound whole + 1
        falls_from whole reached (more later) is = let less = falls model plan bound whole later reached is in omega (arith, less)
        falls_from whole reached (finished run) is = omega arith

        by : HasWhole model plan bound at → point_weight plan bound (pruned_point (next_state model plan bound at)) < weight plan bound at + 1
        by from =
            let less = falls_from from.whole from.reached (next_state model plan bound from.whole) refl in
            let after = weight_pruned (next_state model plan bound from.whole) (onward from.reached) in
            let before = weight_of_whole of_model model plan bound valid good at from in
            let same = ap (point_weight plan bound) (next_pruned step model plan bound valid good at from) in
            omega (arith, less, after, before, same)

-- ---- from one batch to the next

module _ (step : PrunedStep) (of_model : ReachedIsOfModel) (falls : WeightFalls) (model : Parts) (plan : Plan) (bound : ℕ) (valid : IsTrue (valid_model model)) (good : IsPlanOf model plan) where
  led_less : (point later : Next SimulationState Run) → IsReachedPruned model plan bound point → LeadsTo model plan bound point later → point_weight plan bound later ≤ point_weight plan bound point
  led_less point later comes (there job) = omega arith
  led_less point later comes (on {at} none leads) =
      let less = transition_less step model plan bound valid good of_model falls at comes in
      let further = led_less (pruned_point (next_state model plan bound at)) later (reached_on step model plan bound valid good (more at) comes) leads in
      omega (arith, less, further)

  -- a step with a batch leads to a lower weight
  pub step_less : (at : SimulationState) (later : Next SimulationState Run) → IsReachedPruned model plan bound (more at) → LeadsTo model plan bound (pruned_point (next_state model plan bound at)) later →
      point_weight plan bound later < point_weight plan bound (more at)
  step_less at later comes leads =
      let less = transition_less step model plan bound valid good of_model falls at comes in
      let further = led_less (pruned_point (next_state model plan bound at)) later (reached_on step model plan bound valid good (more at) comes) leads in
      omega (arith, less, further)

module _ (engine later : EngineState) (some : jobs_in engine.point ≡ [] → ⊥)
    (leads : LeadsTo engine.model engine.plan engine.bound (after_transition engine.model engine.plan engine.bound engine.point) later.point) where
  pub step_smaller : PrunedStep → ReachedIsOfModel → WeightFalls → IsTrue (valid_model engine.model) → IsPlanOf engine.model engine.plan →
      IsReachedPruned engine.model engine.plan engine.bound engine.point → later.plan ≡ engine.plan → later.bound ≡ engine.bound →
      point_weight later.plan later.bound later.point < point_weight engine.plan engine.bound engine.point
  step_smaller step of_model falls valid good reached same_plan same_bound =
      subst (λ n. point_weight later.plan n later.point < point_weight engine.plan engine.bound engine.point) (sym same_bound)
      (subst (λ (p : Plan). point_weight p engine.bound later.point < point_weight engine.plan engine.bound engine.point) (sym same_plan)
      (by engine.point some reached leads))
    where
      by : (point : Next SimulationState Run) → (jobs_in point ≡ [] → ⊥) → IsReachedPruned engine.model engine.plan engine.bound point →
          LeadsTo engine.model engine.plan engine.bound (after_transition engine.model engine.plan engine.bound point) later.point →
          point_weight engine.plan engine.bound later.point < point_weight engine.plan engine.bound point
      by (more at) jobs comes goes = step_less step of_model falls engine.model engine.plan engine.bound valid good at later.point comes goes
      by (finished run) jobs comes goes = absurd (jobs refl)

-- ---- where nothing is run

pub ran_not : (was : Parts → Type 0) (records : List Record) (address opened steps looks : ℕ) → opened ≤ last_count → Ran was was records records address address opened steps looks opened steps looks
ran_not was records address opened steps looks small = record {
  models = λ of. (λ h. h, λ h. h);
  records = refl;
  same_address = refl;
  rose = rose_not opened steps small;
  looked = omega arith;
}

-- ---- jobs

-- no job is there where the list of jobs is empty
pub no_job : (jobs : List (ℕ × Job)) (listed : List Job) → listed ≡ map (λ job. job.1) jobs → length listed ≡ 0 → jobs ≡ []
no_job [] listed is none = refl
no_job (job ∷ rest) listed is none = (let long = ap (λ (l : List Job). length l) is in absurd (omega (arith, long, none)))

pub some_job : (jobs : List (ℕ × Job)) (listed : List Job) → listed ≡ map (λ job. job.1) jobs → (length listed ≡ 0 → ⊥) → jobs ≡ [] → ⊥
some_job jobs listed is some none = some (ap (λ (l : List Job). length l) is ∙ ap (λ (l : List (ℕ × Job)). length (map (λ job. job.1) l)) none)
