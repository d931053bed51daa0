-- The workspace machine: what each action answers, and the workspace after it.
use Rattle.std.specs.Prelude.{List, [], ◌∷◌}
use Rattle.hangar_core.specs.declared.actions.Action.{Action}
use Rattle.hangar_core.specs.declared.actions.Action.TheVariants.{New, Fork, Drop, Edit, Migrate, Fetch, Attach, Place}
use Rattle.hangar_core.specs.declared.workspaces.Workspace.{Workspace}
use Rattle.hangar_core.specs.Workspaces.{Answered, on_branch}
use Rattle.hangar_core.specs.Opening.{new_branch, forked, dropped_branch}
use Rattle.hangar_core.specs.Changing.{migrated_branch, fetched, attached, placed_branch}
use Rattle.hangar_core.specs.Edits.{edited_as}

-- one step of the workspace
unfoldable pub step : Workspace → Action → Answered
step workspace (New branch) = new_branch workspace branch
step workspace (Fork branch source) = forked workspace branch source
step workspace (Drop branch) = dropped_branch workspace branch
step workspace (Edit branch edit) = on_branch workspace branch (edited_as workspace.models edit)
step workspace (Migrate branch model) =
    on_branch workspace branch (migrated_branch workspace.models workspace.mappings model)
step workspace (Fetch branch) = on_branch workspace branch fetched
step workspace (Attach branch kept) = on_branch workspace branch (attached kept)
step workspace (Place branch seen plan) = on_branch workspace branch (placed_branch seen plan)

-- the workspace after some actions, one after another
abbrev pub after_actions : Workspace → List Action → Workspace
after_actions workspace [] = workspace
after_actions workspace (action ∷ actions) = after_actions (step workspace action).1 actions
