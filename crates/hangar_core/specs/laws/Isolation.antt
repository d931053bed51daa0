-- An action on one branch looks at that branch alone.
use Rattle.std.specs.Prelude.{◌≡◌, ℕ, List, Option, Some, None}
use Rattle.hangar_core.specs.declared.actions.Action.{Action}
use Rattle.hangar_core.specs.declared.actions.Action.TheVariants.{New, Fork, Drop, Edit, Migrate, Fetch, Attach, Place}
use Rattle.hangar_core.specs.declared.workspaces.Workspace.{Workspace}
use Rattle.hangar_core.specs.Steps.{step}
use Rattle.hangar_core.specs.Workspaces.{branch_named}

-- the branch that an action is on alone; New and Fork look at the others
abbrev pub only_branch : Action → Option (List ℕ)
only_branch (New branch) = None
only_branch (Fork branch source) = None
only_branch (Drop branch) = Some branch
only_branch (Edit branch edit) = Some branch
only_branch (Migrate branch model) = Some branch
only_branch (Fetch branch) = Some branch
only_branch (Attach branch kept) = Some branch
only_branch (Place branch seen plan) = Some branch

-- two workspaces of the same models and mappings, in which a branch has the same revision, plan and kept run, or is in neither
pub record AreAlikeOn (name : List ℕ) (workspace other : Workspace) : Type 0 where
  pub models : workspace.models ≡ other.models
  pub mappings : workspace.mappings ≡ other.mappings
  pub branch : branch_named workspace name ≡ branch_named other name

-- what two workspaces make of an action: the same reply, and the same branch
pub record ActsAlikeOn (name : List ℕ) (action : Action) (workspace other : Workspace) : Type 0 where
  pub reply : (step workspace action).0 ≡ (step other action).0
  pub after : AreAlikeOn name (step workspace action).1 (step other action).1

abbrev pub BranchesAreIsolated : Type 0
BranchesAreIsolated = (action : Action) (name : List ℕ) (workspace other : Workspace) →
    only_branch action ≡ Some name → AreAlikeOn name workspace other → ActsAlikeOn name action workspace other

-- and every other branch stays as it was
abbrev pub OtherBranchesStay : Type 0
OtherBranchesStay = (action : Action) (name another : List ℕ) (workspace : Workspace) →
    only_branch action ≡ Some name → (name ≡ another → ⊥) →
    branch_named (step workspace action).1 another ≡ branch_named workspace another
