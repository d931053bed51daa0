-- What a Fetch gives.
use Rattle.std.specs.Prelude.{◌<◌, Result, Ok, Err, length}
use Rattle.aerie_base.specs.declared.plans.Plan.{Plan}
use Rattle.aerie_base.specs.plans.OfModel.{IsPlanOf}
use Rattle.hangar_core.specs.declared.replies.Reply.{Reply}
use Rattle.hangar_core.specs.declared.replies.Reply.TheVariants.{Fetched}
use Rattle.client_work.specs.declared.fetching.FetchedBranch.{FetchedBranch}
use Rattle.client_work.specs.declared.missions.Mission.{Mission}
use Rattle.client_work.specs.Meanings.{ruled_by}
use Rattle.client_work.specs.Working.{IsRuled}

-- the branch that was fetched, or the refusal
abbrev pub fetched_by : Reply → Result FetchedBranch Reply
fetched_by (Fetched revision plan kept) = Ok (record { revision = revision; plan = plan; kept = kept })
fetched_by other = Err other

-- the reply that gave it
abbrev pub reply_with : FetchedBranch → Reply
reply_with branch = Fetched branch.revision branch.plan branch.kept

-- a plan of one of the mission's models, whose rules are of that model
pub record IsPlanOfMission (mission : Mission) (plan : Plan) : Type 0 where
  pub within : plan.model < length mission.models
  pub of_model : IsPlanOf (ruled_by mission.models plan).model plan
  pub ruled : IsRuled (ruled_by mission.models plan)
