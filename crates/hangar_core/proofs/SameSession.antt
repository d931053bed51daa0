-- A step leaves the models, the mappings and the duration of a session as they are.
use Rattle.std.proofs.Common.{ℕ, List, Option, Some, None, refl}
use Rattle.aerie_base.specs.declared.plans.Plan.{Plan}
use Rattle.commands.specs.SessionModels.{empty_plan}
use Rattle.run_data.specs.KeptRuns.{KeptRun}
use Rattle.hangar_core.specs.declared.actions.Action.{Action}
use Rattle.hangar_core.specs.declared.actions.Action.TheVariants.{New, Fork, Drop, Edit, Migrate, Fetch, Attach, Place}
use Rattle.hangar_core.specs.declared.branches.Branch.{Branch}
use Rattle.hangar_core.specs.declared.replies.Reply.{Reply}
use Rattle.hangar_core.specs.declared.workspaces.Workspace.{Workspace}
use Rattle.hangar_core.specs.Changing.{Told}
use Rattle.hangar_core.specs.Opening.{dropped_where, forked_from, opened_unless, refusal_to_open}
use Rattle.hangar_core.specs.ValidWorkspaces.{IsOfSameSession}
use Rattle.hangar_core.specs.Steps.{step}
use Rattle.hangar_core.specs.Workspaces.{branch_named, on_found}

itself : (w : Workspace) → IsOfSameSession w w
itself w = record { models = refl; mappings = refl; duration = refl }

found_same : (w : Workspace) (name : List ℕ) (change : Branch → Told) (found : Option Branch) → IsOfSameSession w (on_found w name change found).1
found_same w name change None = itself w
found_same w name change (Some branch) = record { models = refl; mappings = refl; duration = refl }

opened_same : (w : Workspace) (name : List ℕ) (plan : Plan) (kept : Option KeptRun) (refusal : Option Reply) → IsOfSameSession w (opened_unless w name plan kept refusal).1
opened_same w name plan kept (Some refusal) = itself w
opened_same w name plan kept None = record { models = refl; mappings = refl; duration = refl }

forked_same : (w : Workspace) (name : List ℕ) (source : Option Branch) → IsOfSameSession w (forked_from w name source).1
forked_same w name None = itself w
forked_same w name (Some source) = opened_same w name source.plan source.kept (refusal_to_open w name)

dropped_same : (w : Workspace) (name : List ℕ) (found : Option Branch) → IsOfSameSession w (dropped_where w name found).1
dropped_same w name None = itself w
dropped_same w name (Some branch) = record { models = refl; mappings = refl; duration = refl }

pub step_same : (w : Workspace) (action : Action) → IsOfSameSession w (step w action).1
unfolding step
step_same w (New branch) = opened_same w branch (empty_plan w.duration) None (refusal_to_open w branch)
step_same w (Fork branch source) = forked_same w branch (branch_named w source)
step_same w (Drop branch) = dropped_same w branch (branch_named w branch)
step_same w (Edit branch edit) = found_same w branch _ (branch_named w branch)
step_same w (Migrate branch model) = found_same w branch _ (branch_named w branch)
step_same w (Fetch branch) = found_same w branch _ (branch_named w branch)
step_same w (Attach branch kept) = found_same w branch _ (branch_named w branch)
step_same w (Place branch seen plan) = found_same w branch _ (branch_named w branch)
