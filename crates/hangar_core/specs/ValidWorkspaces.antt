-- What holds of every workspace, of the actions that it takes, and of what it answers.
use Rattle.std.specs.Prelude.{◌≡◌, ℕ, ◌+◌, ◌≤◌, ◌<◌, ◌^◌, IsTrue, List, [], ◌∷◌, map, length, slice_get, Option, Some, None}
use Rattle.std.specs.List.{AllByRecursion}
use Rattle.aerie_base.specs.declared.models.model.Parts.{Parts}
use Rattle.aerie_base.specs.declared.plans.Plan.{Plan}
use Rattle.aerie_base.specs.models.Names.{are_distinct}
use Rattle.plan_edit.specs.declared.mappings.Mapping.{Mapping}
use Rattle.commands.specs.SessionModels.{AreModels, IsPlanAmong}
use Rattle.run_data.specs.KeptRuns.{KeptRun}
use Rattle.hangar_core.specs.declared.actions.Action.{Action}
use Rattle.hangar_core.specs.declared.actions.Action.TheVariants.{New, Fork, Drop, Edit, Migrate, Fetch, Attach, Place}
use Rattle.hangar_core.specs.declared.branches.Branch.{Branch}
use Rattle.hangar_core.specs.declared.changes.BranchChange.{BranchChange}
use Rattle.hangar_core.specs.declared.changes.BranchChange.TheVariants as change
use Rattle.hangar_core.specs.declared.replies.Reply.{Reply}
use Rattle.hangar_core.specs.declared.replies.Reply.TheVariants as reply
use Rattle.hangar_core.specs.declared.workspaces.Workspace.{Workspace}
use Rattle.hangar_core.specs.Replies.{accepted_with}
use Rattle.hangar_core.specs.Steps.{step}
use Rattle.hangar_core.specs.Workspaces.{branch_limit}

-- ---- what a workspace holds

-- a plan of one of the models, which lasts as long as all
pub record IsPlanIn (models : List Parts) (duration : ℕ) (plan : Plan) : Type 0 where
  pub among : IsPlanAmong models plan
  pub lasts : plan.duration ≡ duration

-- a kept run of one of the models
pub record IsKeptIn (models : List Parts) (kept : KeptRun) : Type 0 where
  pub place : ℕ
  pub of_model : slice_get models place ≡ Some kept.model

abbrev pub IsKeptIfAny : List Parts → Option KeptRun → Type 0
IsKeptIfAny models None = Unit {0}
IsKeptIfAny models (Some kept) = IsKeptIn models kept

pub record IsBranchIn (models : List Parts) (duration : ℕ) (branch : Branch) : Type 0 where
  pub plan : IsPlanIn models duration branch.plan
  pub kept : IsKeptIfAny models branch.kept

abbrev pub branch_names : List Branch → List (List ℕ)
branch_names branches = map (λ branch. branch.name) branches

-- models and mappings, and at most 64 branches of different names, each with a plan and a kept run of one of the models
pub record IsWorkspace (workspace : Workspace) : Type 0 where
  pub among : AreModels workspace.models workspace.mappings
  pub lasts : 1 ≤ workspace.duration
  pub few : length workspace.branches ≤ branch_limit
  pub names : IsTrue (are_distinct (branch_names workspace.branches))
  pub branches : AllByRecursion (IsBranchIn workspace.models workspace.duration) workspace.branches

-- the workspace with which a session begins: one branch, at revision 0 and with no kept run
abbrev pub first_workspace : List Parts → List Mapping → List ℕ → Plan → Workspace
first_workspace models mappings name plan = record {
  models = models;
  mappings = mappings;
  duration = plan.duration;
  branches = record { name = name; revision = 0; plan = plan; kept = None } ∷ [];
  dropped = [];
}

-- ---- how many actions were accepted

-- no revision is above a number: of a branch, or the last one of a dropped name
pub record AreRevisionsWithin (most : ℕ) (workspace : Workspace) : Type 0 where
  pub branches : AllByRecursion (λ branch. branch.revision ≤ most) workspace.branches
  pub dropped : AllByRecursion (λ last. last.1 ≤ most) workspace.dropped

-- a workspace of which no revision is above the number of actions that were accepted
pub record IsHangar (accepted : ℕ) (workspace : Workspace) : Type 0 where
  pub stands : IsWorkspace workspace
  pub revisions : AreRevisionsWithin accepted workspace

-- a workspace, beside the number of actions that were accepted
pub record CountedWorkspace : Type 0 where
  pub workspace : Workspace
  pub accepted : ℕ

-- ---- actions and replies

-- an action that a workspace takes: what it positions or keeps is of one of the models
abbrev pub IsActionOn : Workspace → Action → Type 0
IsActionOn workspace (New branch) = Unit {0}
IsActionOn workspace (Fork branch source) = Unit {0}
IsActionOn workspace (Drop branch) = Unit {0}
IsActionOn workspace (Edit branch edit) = Unit {0}
IsActionOn workspace (Migrate branch model) = Unit {0}
IsActionOn workspace (Fetch branch) = Unit {0}
IsActionOn workspace (Attach branch kept) = IsKeptIn workspace.models kept
IsActionOn workspace (Place branch seen plan) = IsPlanIn workspace.models workspace.duration plan

-- a change of a branch, likewise
abbrev pub IsChangeOn : List Parts → ℕ → BranchChange → Type 0
IsChangeOn models duration (change.Edit edit) = Unit {0}
IsChangeOn models duration (change.Migrate model) = Unit {0}
IsChangeOn models duration change.Fetch = Unit {0}
IsChangeOn models duration (change.Attach kept) = IsKeptIn models kept
IsChangeOn models duration (change.Place seen plan) = IsPlanIn models duration plan

-- what a branch of a workspace becomes is one of the workspace as well
abbrev pub StaysIn : List Parts → Branch → Branch → Type 0
StaysIn models before after = (duration : ℕ) → IsBranchIn models duration before → IsBranchIn models duration after

-- by a change that the workspace takes
abbrev pub StaysWith : List Parts → BranchChange → Branch → Branch → Type 0
StaysWith models change before after =
    (duration : ℕ) → IsChangeOn models duration change → IsBranchIn models duration before → IsBranchIn models duration after

-- all of them
abbrev pub AllStayWith : List Parts → BranchChange → List Branch → List Branch → Type 0
AllStayWith models change before after =
    (duration : ℕ) → IsChangeOn models duration change →
    AllByRecursion (IsBranchIn models duration) before → AllByRecursion (IsBranchIn models duration) after

-- a branch whose plan is of one of the models, and whose revision may rise
abbrev pub MayChange : List Parts → Option Branch → Type 0
MayChange models None = ⊥
MayChange models (Some branch) = IsPlanAmong models branch.plan × (branch.revision < 2 ^ 63)

-- what a Fetch answers is of one of the models
abbrev pub IsReplyOf : List Parts → ℕ → Reply → Type 0
IsReplyOf models duration (reply.Fetched revision plan kept) = IsPlanIn models duration plan × IsKeptIfAny models kept
IsReplyOf models duration (reply.Opened revision) = Unit {0}
IsReplyOf models duration reply.Dropped = Unit {0}
IsReplyOf models duration (reply.Added id revision) = Unit {0}
IsReplyOf models duration (reply.Edited revision) = Unit {0}
IsReplyOf models duration (reply.Loaded first count revision) = Unit {0}
IsReplyOf models duration reply.Attached = Unit {0}
IsReplyOf models duration (reply.Placed revision) = Unit {0}
IsReplyOf models duration reply.NoBranch = Unit {0}
IsReplyOf models duration reply.BranchExists = Unit {0}
IsReplyOf models duration reply.TooManyBranches = Unit {0}
IsReplyOf models duration reply.NoMapping = Unit {0}
IsReplyOf models duration (reply.Unmapped id) = Unit {0}
IsReplyOf models duration (reply.Misfit id number) = Unit {0}
IsReplyOf models duration (reply.Edit refusal) = Unit {0}
IsReplyOf models duration (reply.Stale seen now) = Unit {0}

-- a workspace of the same session: what no action changes
pub record IsOfSameSession (before after : Workspace) : Type 0 where
  pub models : after.models ≡ before.models
  pub mappings : after.mappings ≡ before.mappings
  pub duration : after.duration ≡ before.duration

-- what a step of a hangar leaves: the machine's reply and workspace, one accepted action more or none, and a workspace of the
-- same session that stands, whose plans and runs the reply tells of
pub record IsStepped (before after : CountedWorkspace) (action : Action) (told : Reply) : Type 0 where
  pub machine : (told, after.workspace) ≡ step before.workspace action
  pub counted : after.accepted ≡ before.accepted + accepted_with told
  pub unmoved : accepted_with told ≡ 0 → after ≡ before
  pub stands : IsWorkspace after.workspace
  pub session : IsOfSameSession before.workspace after.workspace
  pub of_models : IsReplyOf before.workspace.models before.workspace.duration told
