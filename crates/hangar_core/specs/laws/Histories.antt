-- What does not change along a list of actions.
use Rattle.std.specs.Prelude.{◌≡◌, ℕ, ◌≤◌, List, Some}
use Rattle.hangar_core.specs.declared.actions.Action.{Action}
use Rattle.hangar_core.specs.declared.branches.Branch.{Branch}
use Rattle.hangar_core.specs.declared.workspaces.Workspace.{Workspace}
use Rattle.hangar_core.specs.Steps.{after_actions}
use Rattle.hangar_core.specs.Workspaces.{branch_named}

-- a name has a branch in a workspace, and after some actions again one
pub record Meets (workspace : Workspace) (name : List ℕ) (actions : List Action) (before after : Branch) : Type 0 where
  pub now : branch_named workspace name ≡ Some before
  pub then : branch_named (after_actions workspace actions) name ≡ Some after

-- the revisions of a name never fall, also where it is dropped and begun again
abbrev pub RevisionsNeverFall : Type 0
RevisionsNeverFall = (workspace : Workspace) (name : List ℕ) (actions : List Action) (before after : Branch) →
    Meets workspace name actions before after → before.revision ≤ after.revision

-- a name and a revision name at most one plan
abbrev pub RevisionsNamePlans : Type 0
RevisionsNamePlans = (workspace : Workspace) (name : List ℕ) (actions : List Action) (before after : Branch) →
    Meets workspace name actions before after → before.revision ≡ after.revision → before.plan ≡ after.plan
