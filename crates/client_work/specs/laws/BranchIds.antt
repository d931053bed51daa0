-- Along a journal no id of a branch is used again.
use Rattle.std.specs.Prelude.{◌≡◌, ℕ, ◌≤◌, ◌<◌, IsTrue, List, ◌++◌, Some}
use Rattle.std.specs.List.{AllByRecursion}
use Rattle.aerie_base.specs.declared.plans.Plan.{Plan}
use Rattle.aerie_base.specs.plans.OfModel.{is_there}
use Rattle.hangar_core.specs.declared.actions.Action.TheVariants.{Drop}
use Rattle.hangar_core.specs.declared.branches.Branch.{Branch}
use Rattle.commands.specs.declared.commands.Command.{Command}
use Rattle.hangar_core.specs.declared.workspaces.Workspace.{Workspace}
use Rattle.hangar_core.specs.Fits.{Fits}
use Rattle.hangar_core.specs.Journals.{Entries, after_entries}
use Rattle.hangar_core.specs.Workspaces.{branch_named}
use Rattle.client_work.specs.declared.missions.RuledModel.{RuledModel}
use Rattle.client_work.specs.Meanings.{meanings_of}

-- The later one of two plans of a branch: its next id is not lower, and below the next id of the earlier plan it has no ids but those
-- that the earlier plan has.
pub record UsesNoIdAgain (before after : Plan) : Type 0 where
  pub next_id : before.next_id ≤ after.next_id
  pub old_ids : (id : ℕ) → id < before.next_id → IsTrue (is_there after.directives (Some id)) → IsTrue (is_there before.directives (Some id))

-- a name has a branch behind some entries, and behind more, none of which drops it, again one
pub record StandsAlong (first : Workspace) (front more : Entries) (name : List ℕ) (before after : Branch) : Type 0 where
  pub there : branch_named (after_entries first front) name ≡ Some before
  pub still_there : branch_named (after_entries first (front ++ more)) name ≡ Some after
  pub never_dropped : AllByRecursion (λ x. x.0.action ≡ Drop name → ⊥) more

-- in a journal that fits the commands of some clients
abbrev pub NoIdIsUsedAgain : Type 0
NoIdIsUsedAgain =
    (models : List RuledModel) (bound : ℕ) (first : Workspace) (clients : List (List Command)) (front more rest : Entries) (name : List ℕ) (before after : Branch) →
    Fits (meanings_of models bound) first clients (front ++ more ++ rest) → StandsAlong first front more name before after →
    UsesNoIdAgain before.plan after.plan
