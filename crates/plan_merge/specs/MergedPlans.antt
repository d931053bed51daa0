-- What a merge of plans of one model is.
use Rattle.std.specs.Prelude.{◌≡◌, Ok}
use Rattle.aerie_base.specs.declared.models.model.Parts.{Parts}
use Rattle.aerie_base.specs.declared.plans.Plan.{Plan}
use Rattle.aerie_base.specs.plans.OfModel.{IsPlanOf}
use Rattle.plan_merge.specs.declared.answers.Merged.{Merged}
use Rattle.plan_merge.specs.Merging.{merge_of}
use Rattle.plan_merge.specs.Plans.{IsInOrder}

-- a plan of the model that lasts as long as another and names the same model
pub record IsLike (model : Parts) (other plan : Plan) : Type 0 where
  pub of_model : IsPlanOf model plan
  pub same_model : plan.model ≡ other.model
  pub lasts : plan.duration ≡ other.duration

-- what is merged of a source and a target of a model is a plan of that model, like the target
abbrev pub MergesAreOfTheModel : Type 0
MergesAreOfTheModel = (model : Parts) (base source target : Plan) (merged : Merged) →
    IsPlanOf model source → IsPlanOf model target → source.duration ≡ target.duration →
    merge_of base source target ≡ Ok merged → IsInOrder merged.plan → IsLike model target merged.plan
