-- A simulation without an old run goes on as one beside a run that has no instants.
use Rattle.std.proofs.Common.{◌≡◌, inr, ℕ, ◌+◌, ◌*◌, ◌<◌, ◌≤◌, false, IsTrue, List, [], ◌∷◌, ◌++◌, length, None, refl, ap, subst}
use Rattle.aerie_base.specs.declared.models.model.Parts.{Parts}
use Rattle.aerie_base.specs.declared.plans.Plan.{Plan}
use Rattle.aerie_base.specs.models.ValidModel.{valid_model}
use Rattle.run_data.specs.TaskFrames.{Frame}
use Rattle.run_data.specs.declared.frames.Record.{Record}
use Rattle.run_data.specs.declared.runs.Instant.{Instant}
use Rattle.run_data.specs.declared.runs.Outcome.TheVariants.{Completed}
use Rattle.run_data.specs.declared.runs.Run.{Run}
use Rattle.run_data.specs.Records.{unmatched}
use Rattle.run_data.specs.RunFrames.{frames_in_batches, frames_in_instants, PaysForRun, LooksForRun}
use Rattle.run_data.specs.Transitions.{finished}
use Rattle.run_data.specs.laws.PrunedStates.{PrunedStep}
use Rattle.run_data.specs.laws.ReachedStates.{ReachedIsOfModel}
use Rattle.run_data.specs.laws.Weights.{WeightFalls}
use Rattle.engine_core.specs.EngineStates.{EngineState, IsEngineState, IsNextOf, PaysForBatch, LooksForBatch, jobs_in}
use Rattle.engine_core.specs.EnginePoints.{point_weight}
use Rattle.resimulate.specs.EvenInstants.{PassesEven, frames_of_others}
use Rattle.resimulate.specs.Walks.{GoesOn, counts_by}
use Rattle.resimulate.proofs.EngineBatches.{differs_from_none}
use Rattle.resimulate.proofs.Looping.{IsBeside, beside_on, beside_less, run_pays, run_looks}

abbrev pub no_instants : Plan → Run
no_instants plan = record { plan = plan; bound = 0; instants = []; reach = 0; outcome = Completed }

none_pass : (plan : Plan) → PassesEven (no_instants plan) (λ one. false)
none_pass plan instant passes = absurd (cc)

-- where no instant passes all frames count
all_count : (instants : List Instant) → frames_of_others (λ one. false) instants ≡ frames_in_instants instants
all_count [] = refl
all_count (first ∷ rest) = ap (λ (l : List Frame). frames_in_batches first.batches ++ l) (all_count rest)

module _ (model : Parts) (plan : Plan) (bound : ℕ) (records : List Record) (steps looks : ℕ) (engine : EngineState) (steps_now looks_now : ℕ)
    (alone : IsBeside model plan bound (no_instants plan) records steps looks engine steps_now looks_now) where
  module _ (some : jobs_in engine.point ≡ [] → ⊥) (later : EngineState) (same_model : later.model ≡ engine.model) (same_plan : later.plan ≡ engine.plan) (same_bound : later.bound ≡ engine.bound)
      (stands : IsEngineState later) (next : IsNextOf engine later) (has : List Record) (same : has ≡ records) (steps_later looks_later : ℕ) (pays : PaysForBatch engine has steps_now steps_later)
      (few : LooksForBatch engine looks_now looks_later) where
    goes : GoesOn engine later None has (counts_by steps_now steps_later looks_now looks_later)
    goes = record {
      model = same_model;
      plan = same_plan;
      bound = same_bound;
      stands = stands;
      next = next;
      counts = inr (record { differs = differs_from_none engine; pays = pays; looks = few });
    }

    pub alone_on : IsBeside model plan bound (no_instants plan) records steps looks later steps_later looks_later
    alone_on = beside_on model plan bound (no_instants plan) records steps looks engine steps_now looks_now alone some later None has same steps_later looks_later goes tt refl

    pub alone_less : PrunedStep → ReachedIsOfModel → WeightFalls → IsTrue (valid_model model) →
        point_weight later.plan later.bound later.point < point_weight engine.plan engine.bound engine.point
    alone_less = beside_less model plan bound (no_instants plan) records steps looks engine steps_now looks_now alone some later None has same steps_later looks_later goes

  module _ (run : Run) (is : engine.point ≡ finished run) where
    pub alone_pays : PaysForRun run records steps steps_now
    alone_pays done =
        subst (λ (l : List Frame). steps_now ≤ steps + unmatched l records) (all_count run.instants)
        (run_pays model plan bound (no_instants plan) records steps looks engine steps_now looks_now alone run is done (λ one. false) (none_pass plan))

    pub alone_looks : LooksForRun run looks looks_now
    alone_looks done =
        subst (λ (l : List Frame). looks_now ≤ looks + 2 * length l) (all_count run.instants)
        (run_looks model plan bound (no_instants plan) records steps looks engine steps_now looks_now alone run is done (λ one. false) (none_pass plan))
