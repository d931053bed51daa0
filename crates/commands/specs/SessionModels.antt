-- The models of a session, with plans and mappings among them.
use Rattle.std.specs.Prelude.{◌≡◌, ℕ, ◌≤◌, IsTrue, List, [], map, length, slice_get, Some}
use Rattle.std.specs.List.{AllByRecursion}
use Rattle.aerie_base.specs.declared.models.model.Parts.{Parts}
use Rattle.aerie_base.specs.declared.plans.Plan.{Plan}
use Rattle.aerie_base.specs.models.Names.{are_distinct}
use Rattle.aerie_base.specs.plans.OfModel.{IsPlanOf}
use Rattle.plan_edit.specs.declared.mappings.Mapping.{Mapping}
use Rattle.plan_edit.specs.Mappings.{IsMappingOf}

-- the most models of a session
abbrev pub model_limit : ℕ
model_limit = 4

-- a plan of the one of the models that stands at its place
pub record IsPlanAmong (models : List Parts) (plan : Plan) : Type 0 where
  pub model : Parts
  pub place : slice_get models plan.model ≡ Some model
  pub of_model : IsPlanOf model plan

-- a plan of the first model with no directive, which lasts so long
abbrev pub empty_plan : ℕ → Plan
empty_plan duration = record { model = 0; duration = duration; next_id = 1; directives = [] }

-- a mapping from one of the models to one of them
pub record IsMappingIn (models : List Parts) (mapping : Mapping) : Type 0 where
  pub old : Parts
  pub new : Parts
  pub from : slice_get models mapping.from ≡ Some old
  pub to : slice_get models mapping.to ≡ Some new
  pub fits : IsMappingOf old new mapping

-- 1 to 4 models of different names, and mappings between them
pub record AreModels (models : List Parts) (mappings : List Mapping) : Type 0 where
  pub some_model : 1 ≤ length models
  pub few_models : length models ≤ model_limit
  pub names : IsTrue (are_distinct (map (λ model. model.name) models))
  pub between : AllByRecursion (IsMappingIn models) mappings
