-- The loop over an engine beside an old run.
use Rattle.std.proofs.Common.{◌≡◌, ◌⊎◌, inl, inr, ℕ, ◌+◌, ◌*◌, ◌<◌, ◌≤◌, List, [], ◌∷◌, ◌++◌, length, Option, IsTrue, sym, ap, ◌∙◌, subst, length-append, arith}
use Rattle.aerie_base.specs.declared.models.model.Parts.{Parts}
use Rattle.aerie_base.specs.declared.plans.Plan.{Plan}
use Rattle.aerie_base.specs.models.ValidModel.{valid_model}
use Rattle.effect_cells.specs.declared.effects.CellState.{CellState}
use Rattle.run_data.specs.TaskFrames.{Frame}
use Rattle.run_data.specs.declared.frames.Record.{Record}
use Rattle.run_data.specs.declared.runs.Run.{Run}
use Rattle.run_data.specs.Batches.{batch, committed}
use Rattle.run_data.specs.Counts.{unmatched_append}
use Rattle.run_data.specs.Fresh.{SimulationState, IsFresh}
use Rattle.run_data.specs.Records.{unmatched}
use Rattle.run_data.specs.Tasks.{ready_jobs}
use Rattle.run_data.specs.Transitions.{Next, more, finished}
use Rattle.run_data.specs.laws.PrunedStates.{PrunedStep}
use Rattle.run_data.specs.laws.ReachedStates.{ReachedIsOfModel}
use Rattle.run_data.specs.laws.Rising.{RiseFromStart}
use Rattle.run_data.specs.laws.Weights.{WeightFalls}
use Rattle.engine_core.specs.EngineStates.{EngineState, IsEngineState, jobs_in, time_in, batches_in}
use Rattle.engine_core.specs.EnginePoints.{step_smaller, point_weight}
use Rattle.resimulate.specs.EvenInstants.{PaysForUneven, LooksForUneven}
use Rattle.resimulate.specs.Bookmarks.{IsEngineOf}
use Rattle.resimulate.specs.OldBatches.{batch_at}
use Rattle.resimulate.specs.Walks.{BatchDiffers, WasTakenOver, WasStepped, GoesOn, counts_by}
use Rattle.resimulate.proofs.BesideCounts.{NoneBegins, CountsAt, RiseWith, stepped, counts_first, counts_last}
use Rattle.resimulate.proofs.OldInstants.{batch_found}

abbrev pub cost_by : List Record → List Frame → ℕ
cost_by records frames = unmatched frames records

abbrev pub looks_by : List Frame → ℕ
looks_by frames = 2 * length frames

pub cost_adds : (records : List Record) (first rest : List Frame) → cost_by records (first ++ rest) ≡ cost_by records first + cost_by records rest
cost_adds records first rest = unmatched_append first rest records

pub looks_adds : (first rest : List Frame) → looks_by (first ++ rest) ≡ looks_by first + looks_by rest
looks_adds first rest = (let whole = length-append first rest in omega (arith, whole))

-- an engine of a plan, and what was counted beside an old run
pub record IsBeside (model : Parts) (plan : Plan) (bound : ℕ) (old : Run) (records : List Record) (steps looks : ℕ) (engine : EngineState) (steps_now looks_now : ℕ) : Type 0 where
  pub stands : IsEngineState engine
  pub same_model : engine.model ≡ model
  pub same_plan : engine.plan ≡ plan
  pub same_bound : engine.bound ≡ bound
  pub pays : CountsAt old (cost_by records) steps engine.point steps_now
  pub few_looks : CountsAt old looks_by looks engine.point looks_now

pub beside_first : (model : Parts) (plan : Plan) (bound : ℕ) (old : Run) (records : List Record) (steps looks : ℕ) (engine : EngineState) → IsEngineOf model plan bound engine →
    IsBeside model plan bound old records steps looks engine steps looks
beside_first model plan bound old records steps looks engine begins = record {
  stands = begins.stands;
  same_model = begins.same_model;
  same_plan = begins.same_plan;
  same_bound = begins.same_bound;
  pays = counts_first old (cost_by records) (cost_adds records) steps engine.point;
  few_looks = counts_first old looks_by looks_adds looks engine.point;
}

module _ (model : Parts) (plan : Plan) (bound : ℕ) (old : Run) (records : List Record) (steps looks : ℕ) (engine : EngineState) (steps_now looks_now : ℕ)
    (beside : IsBeside model plan bound old records steps looks engine steps_now looks_now) where
  module _ (some : jobs_in engine.point ≡ [] → ⊥) (later : EngineState) (old_batch : Option (List Frame)) (has : List Record) (same : has ≡ records) (steps_later looks_later : ℕ)
      (goes : GoesOn engine later old_batch has (counts_by steps_now steps_later looks_now looks_later)) where
    module _ (rise : RiseFromStart old.instants) (is_old : old_batch ≡ batch_at (time_in engine.point) (length (batches_in engine.point)) old.instants) where
      none_begins : BatchDiffers old_batch engine → (at : SimulationState) (cells : List CellState) (touched : List ℕ) (frames : List Frame) → engine.point ≡ more at →
          batch engine.model engine.bound at.spent at.cells (ready_jobs at.cells at.table) ≡ committed cells touched frames → NoneBegins old at.time (at.batches ++ frames ∷ [])
      none_begins differs at cells touched frames is whole instant contains at_time rest begins =
          differs at cells touched frames is whole
          (is_old ∙ ap (λ (p : Next SimulationState Run). batch_at (time_in p) (length (batches_in p)) old.instants) is
          ∙ batch_found old.instants rise instant contains at.time at_time at.batches frames rest begins)

      steps_rise : (at : SimulationState) (cells : List CellState) (touched : List ℕ) (frames : List Frame) → engine.point ≡ more at →
          batch engine.model engine.bound at.spent at.cells (ready_jobs at.cells at.table) ≡ committed cells touched frames →
          RiseWith old (cost_by records) (cost_adds records) steps at steps_now steps_later frames
      steps_rise at cells touched frames is whole = by goes.counts
        where
          by : WasTakenOver (counts_by steps_now steps_later looks_now looks_later)
              ⊎ WasStepped old_batch engine has (counts_by steps_now steps_later looks_now looks_later) →
              RiseWith old (cost_by records) (cost_adds records) steps at steps_now steps_later frames
          by (inl taken) = inl taken.steps
          by (inr steps_on) =
              inr (
                subst (λ (r : List Record). steps_later ≤ steps_now + unmatched frames r) same (steps_on.pays at cells touched frames is whole),
                none_begins steps_on.differs at cells touched frames is whole,
              )

      looks_rise : (at : SimulationState) (cells : List CellState) (touched : List ℕ) (frames : List Frame) → engine.point ≡ more at →
          batch engine.model engine.bound at.spent at.cells (ready_jobs at.cells at.table) ≡ committed cells touched frames →
          RiseWith old looks_by looks_adds looks at looks_now looks_later frames
      looks_rise at cells touched frames is whole = by goes.counts
        where
          by : WasTakenOver (counts_by steps_now steps_later looks_now looks_later)
              ⊎ WasStepped old_batch engine has (counts_by steps_now steps_later looks_now looks_later) →
              RiseWith old looks_by looks_adds looks at looks_now looks_later frames
          by (inl taken) = inl taken.looks
          by (inr steps_on) = inr (steps_on.looks at cells touched frames is whole, none_begins steps_on.differs at cells touched frames is whole)

      pub beside_on : IsBeside model plan bound old records steps looks later steps_later looks_later
      beside_on = record {
        stands = goes.stands;
        same_model = goes.model ∙ beside.same_model;
        same_plan = goes.plan ∙ beside.same_plan;
        same_bound = goes.bound ∙ beside.same_bound;
        pays = stepped old (cost_by records) (cost_adds records) steps engine later some goes.next steps_now steps_later steps_rise beside.pays;
        few_looks = stepped old looks_by looks_adds looks engine later some goes.next looks_now looks_later looks_rise beside.few_looks;
      }

    pub beside_less : PrunedStep → ReachedIsOfModel → WeightFalls → IsTrue (valid_model model) →
        point_weight later.plan later.bound later.point < point_weight engine.plan engine.bound engine.point
    beside_less step of_model falls valid =
        step_smaller engine later some goes.next step of_model falls (subst (λ (m : Parts). IsTrue (valid_model m)) (sym beside.same_model) valid) beside.stands.plan beside.stands.reached goes.plan goes.bound

  module _ (run : Run) (is : engine.point ≡ finished run) where
    pub run_pays : PaysForUneven old run records steps steps_now
    run_pays = counts_last old (cost_by records) (cost_adds records) steps engine.point run steps_now is beside.pays

    pub run_looks : LooksForUneven old run looks looks_now
    run_looks = counts_last old looks_by looks_adds looks engine.point run looks_now is beside.few_looks

    pub run_fresh : IsFresh engine.model engine.plan engine.bound run → IsFresh model plan bound run
    run_fresh fresh =
        subst (λ (m : Parts). IsFresh m plan bound run) beside.same_model
        (subst (λ (p : Plan). IsFresh engine.model p bound run) beside.same_plan
        (subst (λ n. IsFresh engine.model engine.plan n run) beside.same_bound fresh))
