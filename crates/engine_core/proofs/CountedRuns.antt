-- A file of lemmas: what it proves need not be read to trust a clause.
--
-- The loop over an engine: it is of one plan, and what was run so far is counted.
use Rattle.std.proofs.Common.{◌≡◌, ℕ, ◌+◌, ◌*◌, ◌<◌, ◌≤◌, List, [], ◌∷◌, length, IsTrue, refl, sym, ◌∙◌, subst, arith}
use Rattle.aerie_base.specs.declared.models.model.Parts.{Parts}
use Rattle.aerie_base.specs.declared.plans.Plan.{Plan}
use Rattle.aerie_base.specs.models.ValidModel.{valid_model}
use Rattle.run_data.specs.declared.frames.Record.{Record}
use Rattle.run_data.specs.declared.jobs.Job.{Job}
use Rattle.run_data.specs.declared.runs.Run.{Run}
use Rattle.run_data.specs.Fresh.{start, IsFresh}
use Rattle.run_data.specs.Records.{unmatched}
use Rattle.run_data.specs.Transitions.{more, finished}
use Rattle.run_data.specs.laws.PrunedStates.{pruned, PrunedStep}
use Rattle.run_data.specs.laws.ReachedStates.{ReachedIsOfModel}
use Rattle.run_data.specs.laws.Weights.{WeightFalls}
use Rattle.run_data.specs.RunFrames.{PaysForRun, LooksForRun}
use Rattle.engine_core.specs.EngineStates.{EngineState, IsEngineState, LeadsTo, after_transition, jobs_in, PaysForBatch, LooksForBatch}
use Rattle.engine_core.proofs.RunCounts.{SoFar, step_pays, step_looks, pays_first, looks_first, at_run}
use Rattle.engine_core.specs.EnginePoints.{point_weight, step_smaller}

-- whether a job is left, by the number of jobs
pub none_left : (jobs : List (ℕ × Job)) (count : ℕ) → count ≡ length jobs → count ≤ 0 → jobs ≡ []
none_left [] count is none = refl
none_left (job ∷ rest) count is none = absurd (omega (arith, is, none))

pub some_left : (jobs : List (ℕ × Job)) (count : ℕ) → count ≡ length jobs → 0 < count → jobs ≡ [] → ⊥
some_left [] count is some none = omega (arith, is, some)
some_left (job ∷ rest) count is some none = absurd (cc)

pub record IsCounted (model : Parts) (plan : Plan) (bound : ℕ) (records : List Record) (steps looks : ℕ) (engine : EngineState) (steps_now looks_now : ℕ) : Type 0 where
  pub stands : IsEngineState engine
  pub same_model : engine.model ≡ model
  pub same_plan : engine.plan ≡ plan
  pub same_bound : engine.bound ≡ bound
  pub pays : SoFar (λ frames. steps_now ≤ steps + unmatched frames records) engine.point
  pub few_looks : SoFar (λ frames. looks_now ≤ looks + 2 * length frames) engine.point

pub counted_first : (model : Parts) (plan : Plan) (bound : ℕ) (records : List Record) (steps looks : ℕ) (engine : EngineState) → IsEngineState engine → engine.model ≡ model → engine.plan ≡ plan →
    engine.bound ≡ bound → LeadsTo model plan bound (more (pruned (start model plan))) engine.point → IsCounted model plan bound records steps looks engine steps looks
counted_first model plan bound records steps looks engine stands same_model same_plan same_bound leads = record {
  stands = stands;
  same_model = same_model;
  same_plan = same_plan;
  same_bound = same_bound;
  pays = pays_first model plan bound steps records engine.point leads;
  few_looks = looks_first model plan bound looks engine.point leads;
}

module _ (model : Parts) (plan : Plan) (bound : ℕ) (records : List Record) (steps looks : ℕ) (engine : EngineState) (steps_now looks_now : ℕ)
    (counted : IsCounted model plan bound records steps looks engine steps_now looks_now) where
  module _ (some : jobs_in engine.point ≡ [] → ⊥) (later : EngineState)
      (leads : LeadsTo engine.model engine.plan engine.bound (after_transition engine.model engine.plan engine.bound engine.point) later.point)
      (same_model : later.model ≡ engine.model) (same_plan : later.plan ≡ engine.plan) (same_bound : later.bound ≡ engine.bound) where
    pub counted_on : IsEngineState later → (has : List Record) → has ≡ records → (steps_later looks_later : ℕ) → PaysForBatch engine has steps_now steps_later → LooksForBatch engine looks_now looks_later →
        IsCounted model plan bound records steps looks later steps_later looks_later
    counted_on stands has same steps_later looks_later pays few = record {
      stands = stands;
      same_model = same_model ∙ counted.same_model;
      same_plan = same_plan ∙ counted.same_plan;
      same_bound = same_bound ∙ counted.same_bound;
      pays = step_pays engine later some leads records steps steps_now steps_later (subst (λ (r : List Record). PaysForBatch engine r steps_now steps_later) same pays) counted.pays;
      few_looks = step_looks engine later some leads looks looks_now looks_later few counted.few_looks;
    }

    pub counted_less : PrunedStep → ReachedIsOfModel → WeightFalls → IsTrue (valid_model model) →
        point_weight later.plan later.bound later.point < point_weight engine.plan engine.bound engine.point
    counted_less step of_model falls valid =
        step_smaller engine later some leads step of_model falls (subst (λ (m : Parts). IsTrue (valid_model m)) (sym counted.same_model) valid) counted.stands.plan counted.stands.reached same_plan same_bound

  module _ (run : Run) (is : engine.point ≡ finished run) where
    pub run_pays : PaysForRun run records steps steps_now
    run_pays = at_run (λ frames. steps_now ≤ steps + unmatched frames records) engine.point run is counted.pays

    pub run_looks : LooksForRun run looks looks_now
    run_looks = at_run (λ frames. looks_now ≤ looks + 2 * length frames) engine.point run is counted.few_looks

    pub run_fresh : IsFresh engine.model engine.plan engine.bound run → IsFresh model plan bound run
    run_fresh fresh =
        subst (λ (m : Parts). IsFresh m plan bound run) counted.same_model
        (subst (λ (p : Plan). IsFresh engine.model p bound run) counted.same_plan
        (subst (λ n. IsFresh engine.model engine.plan n run) counted.same_bound fresh))
