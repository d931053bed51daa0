-- A workspace of one model.
use Rattle.std.proofs.Common.{◌≡◌, List, [], ◌∷◌, slice_get, refl, ap, arith}
use Rattle.aerie_base.specs.declared.models.model.Parts.{Parts}
use Rattle.aerie_base.specs.declared.plans.Plan.{Plan}
use Rattle.aerie_base.specs.plans.OfModel.{IsPlanOf}
use Rattle.plan_edit.specs.declared.mappings.Mapping.{Mapping}
use Rattle.commands.specs.SessionModels.{AreModels, IsPlanAmong}

one_model : (model : Parts) → AreModels (model ∷ []) []
one_model model = record { some_model = omega arith; few_models = omega arith; names = refl; between = tt }

pub models_are : (models : List Parts) (mappings : List Mapping) (model : Parts) → models ≡ model ∷ [] → mappings ≡ [] → AreModels models mappings
models_are models mappings model is none = rw (is, none) (one_model model)

pub plan_is_among : (models : List Parts) (model : Parts) (plan : Plan) → models ≡ model ∷ [] → plan.model ≡ 0 → IsPlanOf model plan → IsPlanAmong models plan
plan_is_among models model plan is first of = rw is record { model = model; place = ap (λ n. slice_get (model ∷ []) n) first; of_model = of }
