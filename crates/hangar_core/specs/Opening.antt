-- Branches begin and end.
use Rattle.std.specs.Prelude.{◌≡◌, ℕ, ◌+◌, not, nat_lt, Bool, List, [], ◌∷◌, ◌++◌, filter, length, slice_get, Option, Some, None, is_some, if◌then◌else◌}
use Rattle.std.specs.Map.{lookup}
use Rattle.std.specs.Ordering.{nat_cmp}
use Rattle.std.specs.BTreeMap.{insert_entry, is_at}
use Rattle.std.specs.Cmp.Lexicographic.{slice_cmp}
use Rattle.aerie_base.specs.declared.plans.Plan.{Plan}
use Rattle.commands.specs.SessionModels.{empty_plan}
use Rattle.run_data.specs.KeptRuns.{KeptRun}
use Rattle.hangar_core.specs.declared.branches.Branch.{Branch}
use Rattle.hangar_core.specs.declared.replies.Reply.{Reply}
use Rattle.hangar_core.specs.declared.replies.Reply.TheVariants.{Opened, Dropped, NoBranch, BranchExists, TooManyBranches}
use Rattle.hangar_core.specs.declared.workspaces.Workspace.{Workspace}
use Rattle.hangar_core.specs.Workspaces.{Answered, branch_limit, branch_named, has_name, refused}

-- ---- the last revisions of names that were dropped

-- in order of name
abbrev pub LastRevisions : Type 0
LastRevisions = List (List ℕ × ℕ)

abbrev pub last_revision : LastRevisions → List ℕ → Option ℕ
last_revision dropped name = lookup (is_at (slice_cmp nat_cmp name)) dropped

-- a dropped name with its last revision, in place of what was remembered of it
abbrev pub remembered : LastRevisions → List ℕ → ℕ → LastRevisions
remembered dropped name revision = insert_entry (slice_cmp nat_cmp) dropped name revision

abbrev pub revision_after : Option ℕ → ℕ
revision_after None = 0
revision_after (Some last) = last + 1

-- the revision at which a branch with a name begins: 0, or one more than the last that the name had
abbrev pub first_revision : LastRevisions → List ℕ → ℕ
first_revision dropped name = revision_after (last_revision dropped name)

-- ---- a branch begins

-- why no branch with a name can begin
abbrev pub refusal_to_open : Workspace → List ℕ → Option Reply
refusal_to_open workspace name =
    if is_some (branch_named workspace name) then Some BranchExists
    else if nat_lt (length workspace.branches) branch_limit then None
    else Some TooManyBranches

abbrev pub opened_branch : Workspace → List ℕ → Plan → Option KeptRun → Branch
opened_branch workspace name plan kept =
    record { name = name; revision = first_revision workspace.dropped name; plan = plan; kept = kept }

-- a branch with a plan and a kept run is the last of all
abbrev pub with_opened : Workspace → Branch → Workspace
with_opened workspace branch = record workspace { branches = workspace.branches ++ branch ∷ [] }

abbrev pub opened_with : Workspace → Branch → Answered
opened_with workspace branch = (Opened branch.revision, with_opened workspace branch)

abbrev pub opened_unless : Workspace → List ℕ → Plan → Option KeptRun → Option Reply → Answered
opened_unless workspace name plan kept (Some refusal) = refused workspace refusal
opened_unless workspace name plan kept None =
    opened_with workspace (opened_branch workspace name plan kept)

abbrev pub opened : Workspace → List ℕ → Plan → Option KeptRun → Answered
opened workspace name plan kept = opened_unless workspace name plan kept (refusal_to_open workspace name)

-- New: an empty plan, and no kept run
abbrev pub new_branch : Workspace → List ℕ → Answered
new_branch workspace name = opened workspace name (empty_plan workspace.duration) None

-- a branch with the plan and the kept run of another
abbrev pub IsForkOf : Branch → List ℕ → ℕ → Option Branch → Type 0
IsForkOf branch name revision None = ⊥
IsForkOf branch name revision (Some source) = branch ≡ record { name = name; revision = revision; plan = source.plan; kept = source.kept }

abbrev pub forked_from : Workspace → List ℕ → Option Branch → Answered
forked_from workspace name None = refused workspace NoBranch
forked_from workspace name (Some source) = opened workspace name source.plan source.kept

-- from the branch at a position
abbrev pub forked_at : Workspace → List ℕ → ℕ → Answered
forked_at workspace name at = forked_from workspace name (slice_get workspace.branches at)

-- Fork: the plan and the kept run of another branch
abbrev pub forked : Workspace → List ℕ → List ℕ → Answered
forked workspace name source = forked_from workspace name (branch_named workspace source)

-- ---- a branch ends

abbrev pub has_other_name : List ℕ → Branch → Bool
has_other_name name branch = not (has_name name branch)

-- every branch but the one with a name, whose revision is remembered
abbrev pub without_branch : Workspace → List ℕ → ℕ → Workspace
without_branch workspace name revision = record workspace {
  branches = filter (has_other_name name) workspace.branches;
  dropped = remembered workspace.dropped name revision;
}

abbrev pub dropped_where : Workspace → List ℕ → Option Branch → Answered
dropped_where workspace name None = refused workspace NoBranch
dropped_where workspace name (Some branch) = (Dropped, without_branch workspace name branch.revision)

-- the branch at a position
abbrev pub dropped_at : Workspace → List ℕ → ℕ → Answered
dropped_at workspace name at = dropped_where workspace name (slice_get workspace.branches at)

-- Drop: the branch leaves
abbrev pub dropped_branch : Workspace → List ℕ → Answered
dropped_branch workspace name = dropped_where workspace name (branch_named workspace name)
