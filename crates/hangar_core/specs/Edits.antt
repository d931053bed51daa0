-- What is answered of edits, and what becomes of a branch by a change.
use Rattle.std.specs.Prelude.{◌≡◌, ℕ, List, set, slice_get, Option, Some, None, Result, Ok, Err, IfOk, IfErr, OnOk, OnErr}
use Rattle.aerie_base.specs.declared.memory.OutOfMemory.{OutOfMemory}
use Rattle.aerie_base.specs.declared.models.model.Parts.{Parts}
use Rattle.aerie_base.specs.declared.plans.Plan.{Plan}
use Rattle.plan_edit.specs.declared.errors.EditError.{EditError}
use Rattle.plan_edit.specs.declared.errors.EditError.TheVariants as error
use Rattle.aerie_base.specs.plans.OfModel.{IsPlanOf}
use Rattle.plan_edit.specs.Answers.{IsRefusal}
use Rattle.commands.specs.Edits.{edit_of}
use Rattle.commands.specs.declared.edits.Edit.{Edit}
use Rattle.commands.specs.declared.edits.Edit.TheVariants.{Add, Remove, Move, Set, Load}
use Rattle.hangar_core.specs.declared.changes.BranchChange.{BranchChange}
use Rattle.hangar_core.specs.declared.changes.BranchChange.TheVariants as change
use Rattle.hangar_core.specs.declared.branches.Branch.{Branch}
use Rattle.hangar_core.specs.declared.replies.Reply.{Reply}
use Rattle.hangar_core.specs.declared.replies.Reply.TheVariants as told
use Rattle.plan_edit.specs.declared.mappings.Mapping.{Mapping}
use Rattle.hangar_core.specs.declared.workspaces.Workspace.{Workspace}
use Rattle.hangar_core.specs.Workspaces.{Answered, on_branch}
use Rattle.hangar_core.specs.Changing.{Told, attached, edited, fetched, migrated_branch, placed_branch, told_added, told_edited, told_loaded}

-- what is answered, from the old plan, the new one and the revision
abbrev pub told_of : Edit → Plan → Plan → ℕ → Reply
told_of (Add at kind arguments) = told_added
told_of (Remove id) = told_edited
told_of (Move id at) = told_edited
told_of (Set id parameter value) = told_edited
told_of (Load text) = told_loaded

-- what an edit leaves of a plan by its model, and answers: the edited plan and what tells of it with a revision, or a refusal and
-- the plan as it was
pub record IsEdited (edit : Edit) (model : Parts) (revision : ℕ) (before after : Plan) (answer : Result Reply EditError) : Type 0 where
  pub edited : OnOk answer (edit_of edit model before ≡ Ok after)
  pub told : IfOk answer (λ reply. reply ≡ told_of edit before after revision)
  pub refused : IfErr answer (IsRefusal (edit_of edit model before))
  pub unchanged : OnErr answer (after ≡ before)
  pub plan : IsPlanOf model after

-- an edit of the plan of a branch
abbrev pub edited_as : List Parts → Edit → Branch → Told
edited_as models edit = edited models (edit_of edit) (told_of edit)

-- a refusal is told as it is, and want of memory is none
abbrev pub IsToldRefusal : EditError → Result Reply OutOfMemory → Type 0
IsToldRefusal refusal (Ok reply) = (reply ≡ told.Edit refusal) × (refusal ≡ error.OutOfMemory → ⊥)
IsToldRefusal refusal (Err memory) = Unit {0}

-- what becomes of a branch by a change
abbrev pub change_of : List Parts → List Mapping → BranchChange → Branch → Told
change_of models mappings (change.Edit edit) = edited_as models edit
change_of models mappings (change.Migrate model) = migrated_branch models mappings model
change_of models mappings change.Fetch = fetched
change_of models mappings (change.Attach kept) = attached kept
change_of models mappings (change.Place seen plan) = placed_branch seen plan

-- a change of the branch with a name
abbrev pub changed_by : Workspace → List ℕ → BranchChange → Answered
changed_by workspace name change = on_branch workspace name (change_of workspace.models workspace.mappings change)

-- what becomes of the branch at a position by a change; all others stay
abbrev pub IsMadeOf : Told → ℕ → List Branch → List Branch → Reply → Type 0
IsMadeOf made at before after reply = (reply ≡ made.0) × (after ≡ set before at made.1)

abbrev pub IsMadeWhere : List Parts → List Mapping → BranchChange → ℕ → List Branch → List Branch → Reply → Option Branch → Type 0
IsMadeWhere models mappings change at before after reply None = ⊥
IsMadeWhere models mappings change at before after reply (Some branch) = IsMadeOf (change_of models mappings change branch) at before after reply

abbrev pub IsMadeAt : List Parts → List Mapping → BranchChange → ℕ → List Branch → List Branch → Reply → Type 0
IsMadeAt models mappings change at before after reply = IsMadeWhere models mappings change at before after reply (slice_get before at)

abbrev pub IsRevisionOf : ℕ → Option Branch → Type 0
IsRevisionOf revision None = ⊥
IsRevisionOf revision (Some branch) = revision ≡ branch.revision
