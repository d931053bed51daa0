-- A workspace: the models of a session, the mappings between them, and branches of plans in the order in which they began.
use Rattle.std.specs.Prelude.{ℕ, Bool, List, map, slice_get, option_and_then, Option, Some, None, if◌then◌else◌}
use Rattle.std.specs.List.{find}
use Rattle.aerie_base.specs.models.Names.{same_name}
use Rattle.hangar_core.specs.declared.branches.Branch.{Branch}
use Rattle.hangar_core.specs.declared.replies.Reply.{Reply}
use Rattle.hangar_core.specs.declared.replies.Reply.TheVariants.{NoBranch}
use Rattle.hangar_core.specs.declared.workspaces.Workspace.{Workspace}

-- the most branches that stand at a time
abbrev pub branch_limit : ℕ
branch_limit = 64

-- what an action answers, and the workspace after it
abbrev pub Answered : Type 0
Answered = Reply × Workspace

-- a refusal changes nothing
abbrev pub refused : Workspace → Reply → Answered
refused workspace reply = (reply, workspace)

-- what stands at a position, if it is given
abbrev pub item_there : {A : Type 0} → List A → Option ℕ → Option A
item_there items place = option_and_then (slice_get items) place

-- ---- branches by name

abbrev pub has_name : List ℕ → Branch → Bool
has_name name branch = same_name branch.name name

abbrev pub branch_named : Workspace → List ℕ → Option Branch
branch_named workspace name = find (has_name name) workspace.branches

-- another branch in the place of the one with a name
abbrev pub put_where_named : List ℕ → Branch → Branch → Branch
put_where_named name branch other = if has_name name other then branch else other

abbrev pub with_branch : Workspace → List ℕ → Branch → Workspace
with_branch workspace name branch = record workspace { branches = map (put_where_named name branch) workspace.branches }

-- ---- actions on one branch

-- what becomes of the branch with a name, and what is answered
abbrev pub changed_to : Workspace → List ℕ → Reply × Branch → Answered
changed_to workspace name told = (told.0, with_branch workspace name told.1)

abbrev pub on_found : Workspace → List ℕ → (Branch → Reply × Branch) → Option Branch → Answered
on_found workspace name change None = refused workspace NoBranch
on_found workspace name change (Some branch) = changed_to workspace name (change branch)

-- a change of the branch with a name, or NoBranch. All else stays
abbrev pub on_branch : Workspace → List ℕ → (Branch → Reply × Branch) → Answered
on_branch workspace name change = on_found workspace name change (branch_named workspace name)
