-- The fresh run of a plan is the one that the function gives, and it is of that plan.
use Rattle.std.proofs.Common.{◌≡◌, ℕ, sym, ap, subst}
use Rattle.aerie_base.specs.declared.models.model.Parts.{Parts}
use Rattle.aerie_base.specs.declared.plans.Plan.{Plan}
use Rattle.run_data.specs.declared.runs.Run.{Run}
use Rattle.run_data.specs.Fresh.{IsFresh}
use Rattle.run_data.specs.KeptRuns.{KeptRun}
use Rattle.run_data.specs.laws.Ending.{FreshRunByTransitions, HasFreshRun}
use Rattle.run_data.specs.laws.FreshRuns.{FreshRunIsOfPlan}
use Rattle.scheduler.specs.FreshRuns.{run_in, fresh_run, kept_run}

-- a run that is fresh is the one that the function gives
pub fresh_is : FreshRunByTransitions → (model : Parts) (bound : ℕ) (plan : Plan) (run : Run) → IsFresh model plan bound run → run ≡ fresh_run model bound plan
unfolding fresh_run
fresh_is same model bound plan run fresh = sym (ap (run_in plan bound) ((same model plan bound run).0 fresh))

-- and that one is fresh
pub is_fresh : FreshRunByTransitions → HasFreshRun → (model : Parts) (bound : ℕ) (plan : Plan) → IsFresh model plan bound (fresh_run model bound plan)
is_fresh same has model bound plan =
    let found = has model plan bound in
    subst (λ (run : Run). IsFresh model plan bound run) (fresh_is same model bound plan found.0 found.1) found.1

-- its plan is the plan
pub plan_is : FreshRunByTransitions → HasFreshRun → FreshRunIsOfPlan → (model : Parts) (bound : ℕ) (plan : Plan) → (fresh_run model bound plan).plan ≡ plan
plan_is same has of model bound plan = (of model plan bound (fresh_run model bound plan) (is_fresh same has model bound plan)).0

-- a kept run by its two parts
pub kept_is : (kept : KeptRun) (model : Parts) (bound : ℕ) (plan : Plan) → kept.model ≡ model → kept.run ≡ fresh_run model bound plan → kept ≡ kept_run model bound plan
kept_is kept model bound plan e f = λ i. record { model = e i; run = f i }
