-- Runs that were made: of which plan they are the fresh run.
use Rattle.std.proofs.Common.{◌≡◌, ℕ, Option, Some, None, IfSome, ap, sym, subst, ◌∙◌}
use Rattle.aerie_base.specs.declared.models.model.Parts.{Parts}
use Rattle.aerie_base.specs.declared.plans.Plan.{Plan}
use Rattle.aerie_base.specs.plans.OfModel.{IsPlanOf}
use Rattle.run_data.specs.declared.runs.Run.{Run}
use Rattle.run_data.specs.Fresh.{IsFresh}
use Rattle.run_data.specs.laws.FreshRuns.{FreshRunIsOfPlan}
use Rattle.run_data.specs.KeptRuns.{KeptRun}
use Rattle.bench.specs.Benches.{BenchOf, IsFreshRunOf, IsMadeFor}

pub fresh_as_is : FreshRunIsOfPlan → (model other : Parts) (plan : Plan) (bound : ℕ) (run : Run) → other ≡ model → IsFresh model plan bound run →
    IsFresh other run.plan run.bound run
fresh_as_is of_plan model other plan bound run is fresh =
    let same = of_plan model plan bound run fresh in
    subst (λ (of : Parts). IsFresh of run.plan run.bound run) (sym is)
    (subst (λ (planned : Plan). IsFresh model planned run.bound run) (sym same.0) (subst (λ (most : ℕ). IsFresh model plan most run) (sym same.1) fresh))

-- the plan of a fresh run is of the model, as the plan is of which it is the run
pub plan_as_is : FreshRunIsOfPlan → (model other : Parts) (plan : Plan) (bound : ℕ) (run : Run) → other ≡ model → IsFresh model plan bound run →
    IsPlanOf model plan → IsPlanOf other run.plan
plan_as_is of_plan model other plan bound run is fresh of_model =
    subst (λ (of : Parts). IsPlanOf of run.plan) (sym is) (subst (λ (planned : Plan). IsPlanOf model planned) (sym (of_plan model plan bound run fresh).0) of_model)

pub fresh_of : FreshRunIsOfPlan → (model : Parts) (plan : Plan) (bound : ℕ) (run : Run) (kept : KeptRun) → kept.model ≡ model → kept.run ≡ run →
    IsFresh model plan bound run → IsFreshRunOf kept plan bound
fresh_of of_plan model plan bound run kept model_is run_is fresh = record {
  plan = ap (λ (of : Run). of.plan) run_is ∙ (of_plan model plan bound run fresh).0;
  fresh = subst (λ (of : Parts). IsFresh of plan bound kept.run) (sym model_is) (subst (λ (of : Run). IsFresh model plan bound of) (sym run_is) fresh);
}

-- a kept run whose plan and bound are these
pub fresh_there : (kept : KeptRun) (run : Run) (plan : Plan) (bound : ℕ) → run ≡ kept.run → IsFresh kept.model kept.run.plan kept.run.bound kept.run →
    run.plan ≡ plan → run.bound ≡ bound → IsFreshRunOf kept plan bound
fresh_there kept run plan bound is fresh planned bounded =
    let plan_is : kept.run.plan ≡ plan = ap (λ (of : Run). of.plan) (sym is) ∙ planned in
    let bound_is : kept.run.bound ≡ bound = ap (λ (of : Run). of.bound) (sym is) ∙ bounded in
    record {
      plan = plan_is;
      fresh = subst (λ (of : Plan). IsFresh kept.model of bound kept.run) plan_is (subst (λ (most : ℕ). IsFresh kept.model kept.run.plan most kept.run) bound_is fresh);
    }

pub made_for : (bench : BenchOf) (model : Parts) (bound : ℕ) (planned : Plan) (kept : KeptRun) → model ≡ bench.model → bound ≡ bench.bound → kept.model ≡ model →
    IsFreshRunOf kept planned bound → IsMadeFor bench planned kept
made_for bench model bound planned kept model_is bound_is kept_is fresh = record {
  model = kept_is ∙ model_is;
  plan = fresh.plan;
  fresh =
      subst (λ (of : Parts). IsFresh of planned bench.bound kept.run) (kept_is ∙ model_is)
      (subst (λ (most : ℕ). IsFresh kept.model planned most kept.run) bound_is fresh.fresh);
}

-- a kept run, where there is one, of another name of the model
pub some_model : (old : Option KeptRun) (model other : Parts) → model ≡ other → IfSome old (λ kept. kept.model ≡ model) → IfSome old (λ kept. kept.model ≡ other)
some_model (Some kept) model other is of_model = of_model ∙ is
some_model None model other is of_model = tt
