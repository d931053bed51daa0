-- What a Fetch answers, and that it changes nothing.
use Rattle.std.proofs.Common.{◌≡◌, ℕ, Option, ap, subst}
use Rattle.aerie_base.specs.declared.plans.Plan.{Plan}
use Rattle.run_data.specs.KeptRuns.{KeptRun}
use Rattle.hangar_core.specs.declared.actions.Action.{Action}
use Rattle.hangar_core.specs.declared.replies.Reply.{Reply}
use Rattle.hangar_core.specs.declared.replies.Reply.TheVariants as reply
use Rattle.hangar_core.specs.declared.workspaces.Workspace.{Workspace}
use Rattle.hangar_core.specs.Replies.{accepted_with}
use Rattle.hangar_core.specs.ValidWorkspaces.{CountedWorkspace, IsOfSameSession, IsPlanIn, IsReplyOf, IsStepped}

pub fetch_changes_nothing : (before after : CountedWorkspace) (action : Action) (told : Reply) (revision : ℕ) (plan : Plan) (kept : Option KeptRun) →
    IsStepped before after action told → told ≡ reply.Fetched revision plan kept → after ≡ before
fetch_changes_nothing before after action told revision plan kept stepped is = stepped.unmoved (ap accepted_with is)

pub fetched_plan_is_in : (before after : CountedWorkspace) (action : Action) (told : Reply) (revision : ℕ) (plan copy : Plan) (kept : Option KeptRun) →
    IsStepped before after action told → told ≡ reply.Fetched revision plan kept → copy ≡ plan →
    IsPlanIn before.workspace.models before.workspace.duration copy
fetched_plan_is_in before after action told revision plan copy kept stepped is same =
    rw same (subst (IsReplyOf before.workspace.models before.workspace.duration) is stepped.of_models).0

pub plan_stays_in : (before after : Workspace) (plan : Plan) → IsOfSameSession before after → IsPlanIn before.models before.duration plan → IsPlanIn after.models after.duration plan
plan_stays_in before after plan same is = rw (same.models, same.duration) is
