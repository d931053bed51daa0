-- Clients on branches of their own do not see each other.
use Rattle.std.specs.Prelude.{◌≡◌, ℕ, Bool, false, List, [], ◌∷◌, ◌++◌, Option, Some, None}
use Rattle.std.specs.List.{AllByRecursion, filter}
use Rattle.aerie_base.specs.declared.plans.Plan.{Plan}
use Rattle.aerie_base.specs.models.Names.{same_name}
use Rattle.run_data.specs.KeptRuns.{KeptRun}
use Rattle.commands.specs.declared.commands.Command.TheVariants.{Simulate}
use Rattle.hangar_core.specs.declared.entries.Entry.{Entry}
use Rattle.hangar_core.specs.declared.replies.Reply.{Reply}
use Rattle.hangar_core.specs.declared.replies.Reply.TheVariants.{Fetched}
use Rattle.hangar_core.specs.declared.workspaces.Workspace.{Workspace}
use Rattle.hangar_core.specs.Journals.{Entries, IsReplay}
use Rattle.hangar_core.specs.laws.Isolation.{only_branch}
use Rattle.report_text.specs.declared.answers.Answer.{Answer}
use Rattle.client_work.specs.declared.missions.Mission.{Mission}
use Rattle.client_work.specs.Told.{command_told, is_attached}

-- ---- entries of a branch

-- whether what an action is on alone is the branch with a name
abbrev pub is_branch : List ℕ → Option (List ℕ) → Bool
is_branch name None = false
is_branch name (Some branch) = same_name branch name

-- the entries on the branch with a name
abbrev pub entries_on : List ℕ → Entries → Entries
entries_on name entries = filter (λ x. is_branch name (only_branch x.0.action)) entries

-- an entry on one branch alone: no branch is begun
abbrev pub IsOnOneBranch : Entry × Reply → Type 0
IsOnOneBranch x = (branch : List ℕ) × (only_branch x.0.action ≡ Some branch)

-- behind any beginning of a journal, what is done on a branch is answered as if nothing were done on the others
abbrev pub BranchesStandApart : Type 0
BranchesStandApart = (first : Workspace) (front later : Entries) (name : List ℕ) → AllByRecursion IsOnOneBranch later →
    IsReplay first (front ++ later) → IsReplay first (front ++ entries_on name later)

-- ---- reports

-- what is reported of a simulation of a branch, by the fetch and the reply to the Attach
abbrev pub report_told : Mission → Option ℕ → List ℕ → ℕ → Plan → Option KeptRun → Reply → Answer
report_told mission count branch revision plan kept attach =
    command_told mission count (Simulate branch) (Fetched revision plan kept ∷ attach ∷ [])

-- the report of a simulation is a function of the plan that was fetched and its revision, and tells whether the run was kept: it
-- rests neither on the branch nor on a run that was kept before
abbrev pub ReportsTellOfPlans : Type 0
ReportsTellOfPlans = (mission : Mission) (count : Option ℕ) (branch another : List ℕ) (revision : ℕ) (plan : Plan)
    (kept other : Option KeptRun) (attach attach' : Reply) → is_attached attach ≡ is_attached attach' →
    report_told mission count branch revision plan kept attach ≡ report_told mission count another revision plan other attach'
