-- The models of a mission, by the plans that a lock answers.
use Rattle.std.proofs.Common.{◌≡◌, sym, ap, subst, ◌∙◌, ℕ, zero, suc, ◌<◌, List, [], ◌∷◌, length, Some, slice_get, arith}
use Rattle.std.specs.List.{AllByRecursion}
use Rattle.std.proofs.lemmas.Option.{none-some, same_Some}
use Rattle.aerie_base.specs.declared.models.model.Parts.{Parts}
use Rattle.aerie_base.specs.declared.plans.Plan.{Plan}
use Rattle.aerie_base.specs.plans.OfModel.{IsPlanOf}
use Rattle.hangar_lock.specs.Passes.{LockView, PassView}
use Rattle.client_work.specs.declared.missions.Mission.{Mission}
use Rattle.client_work.specs.declared.missions.RuledModel.{RuledModel}
use Rattle.client_work.specs.Fetching.{IsPlanOfMission}
use Rattle.client_work.specs.Meanings.{ruled_or_nothing}
use Rattle.client_work.specs.Working.{IsAtWork, IsPlanAt, IsRuled, ruled_models}

within : (models : List RuledModel) (place : ℕ) (model : Parts) → slice_get (ruled_models models) place ≡ Some model → place < length models
within [] place model at = absurd (none-some model at)
within (ruled ∷ models) zero model at = omega arith
within (ruled ∷ models) (suc place) model at = let rest = within models place model at in omega (arith, rest)

-- the model at a place is that of the ruled model there
model_at : (models : List RuledModel) (place : ℕ) (model : Parts) → slice_get (ruled_models models) place ≡ Some model →
    (ruled_or_nothing (slice_get models place)).model ≡ model
model_at [] place model at = absurd (none-some model at)
model_at (ruled ∷ models) zero model at = same_Some ruled.model model at
model_at (ruled ∷ models) (suc place) model at = model_at models place model at

ruled_at : (models : List RuledModel) (place : ℕ) → AllByRecursion IsRuled models → place < length models → IsRuled (ruled_or_nothing (slice_get models place))
ruled_at [] place all less = absurd (omega (arith, less))
ruled_at (ruled ∷ models) zero all less = all.0
ruled_at (ruled ∷ models) (suc place) all less = ruled_at models place all.1 (omega (arith, less))

module _ (mission : Mission) (lock : LockView) (pass : PassView) (at : IsAtWork mission lock pass) where
  -- a plan that the lock answers is of one of the mission's models
  pub of_mission : (plan : Plan) → IsPlanAt lock plan → IsPlanOfMission mission plan
  of_mission plan is =
      let place : slice_get (ruled_models mission.models) plan.model ≡ Some is.among.model = ap (λ (models : List Parts). slice_get models plan.model) (sym at.models) ∙ is.among.place in
      record {
        within = within mission.models plan.model is.among.model place;
        of_model = subst (λ (model : Parts). IsPlanOf model plan) (sym (model_at mission.models plan.model is.among.model place)) is.among.of_model;
        ruled = ruled_at mission.models plan.model at.ruled (within mission.models plan.model is.among.model place);
      }

-- a pass that has gained entries is where it was
pub still_at : (mission : Mission) (lock : LockView) (before after : PassView) → IsAtWork mission lock before → after.lock ≡ before.lock → IsAtWork mission lock after
still_at mission lock before after at same = record { own = same ∙ at.own; some_model = at.some_model; models = at.models; ruled = at.ruled; bound = at.bound }
