-- A plan without directives is of every model, whatever its next id.
use Rattle.std.proofs.Common.{◌≡◌, ℕ, suc, ◌≤◌, List, [], Some, refl, arith, lt-ltb}
use Rattle.aerie_base.specs.declared.models.model.Parts.{Parts}
use Rattle.aerie_base.specs.declared.plans.Directive.{Directive}
use Rattle.aerie_base.specs.declared.plans.Plan.{Plan}
use Rattle.aerie_base.specs.plans.OfModel.{IsPlanOf, followed}

never : (id steps : ℕ) → followed [] (suc steps) id ≡ Some id → ⊥
never id steps e = absurd (cc)

-- a plan of the first model with these directives
abbrev pub plan_with : ℕ → ℕ → List Directive → Plan
plan_with duration next_id directives = record { model = 0; duration = duration; next_id = next_id; directives = directives }

pub empty_is : (model : Parts) (duration next_id : ℕ) → 1 ≤ duration → 1 ≤ next_id → IsPlanOf model (plan_with duration next_id [])
empty_is model duration next_id some first = record {
  duration = some;
  count = omega arith;
  next_id = first;
  ids = lt-ltb 0 next_id first;
  directives = refl;
  anchors = never;
}
