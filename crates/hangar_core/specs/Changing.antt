-- What becomes of one branch by an action on it.
use Rattle.std.specs.Prelude.{◌≡◌, ℕ, ◌+◌, ◌&&◌, nat_eq, Bool, false, List, length, slice_get, Option, Some, None, Result, Ok, Err, if◌then◌else◌}
use Rattle.std.specs.List.{find}
use Rattle.aerie_base.specs.declared.models.model.Parts.{Parts}
use Rattle.aerie_base.specs.declared.plans.Plan.{Plan}
use Rattle.aerie_base.specs.models.Names.{same_name}
use Rattle.plan_edit.specs.declared.errors.EditError.{EditError}
use Rattle.plan_edit.specs.declared.errors.EditError.TheVariants.{UnknownType}
use Rattle.plan_edit.specs.declared.errors.MigrateError.{MigrateError}
use Rattle.plan_edit.specs.declared.errors.MigrateError.TheVariants as migration
use Rattle.plan_edit.specs.declared.mappings.Mapping.{Mapping}
use Rattle.plan_edit.specs.Migrating.{migrate_of}
use Rattle.run_data.specs.KeptRuns.{KeptRun}
use Rattle.hangar_core.specs.declared.branches.Branch.{Branch}
use Rattle.hangar_core.specs.declared.replies.Reply.{Reply}
use Rattle.hangar_core.specs.declared.replies.Reply.TheVariants.{Added, Edited, Loaded, Fetched, Attached, Placed, NoMapping, Unmapped, Misfit, Edit, Stale}

-- what is answered, and the branch after it
abbrev pub Told : Type 0
Told = Reply × Branch

-- what a change makes of a branch, with the reply
abbrev pub IsMadeBy : (Branch → Told) → Branch → Branch → Reply → Type 0
IsMadeBy change before after reply = (reply, after) ≡ change before

-- another plan, one revision on
abbrev pub with_plan : Branch → Plan → Branch
with_plan branch plan = record branch { revision = branch.revision + 1; plan = plan }

-- ---- edits

-- an edit by a model, where it is there; the model of a plan of a workspace is
abbrev pub by_model : Option Parts → (Parts → Result Plan EditError) → Result Plan EditError
by_model None edit = Err UnknownType
by_model (Some model) edit = edit model

-- the edited plan with the reply that tells of it, or the refusal
abbrev pub if_edited : Branch → (Plan → ℕ → Reply) → Result Plan EditError → Told
if_edited branch reply (Err refusal) = (Edit refusal, branch)
if_edited branch reply (Ok plan) = (reply plan (branch.revision + 1), with_plan branch plan)

-- an edit of the plan by its model. The reply is made from the old plan, the new one and the revision
abbrev pub edited : List Parts → (Parts → Plan → Result Plan EditError) → (Plan → Plan → ℕ → Reply) → Branch → Told
edited models edit reply branch =
    if_edited branch (reply branch.plan) (by_model (slice_get models branch.plan.model) (λ model. edit model branch.plan))

-- an added directive has the id that was the next one
abbrev pub told_added : Plan → Plan → ℕ → Reply
told_added old new revision = Added old.next_id revision

-- the directives of a loaded plan have the ids from what was the next one on
abbrev pub told_loaded : Plan → Plan → ℕ → Reply
told_loaded old new revision = Loaded old.next_id (length new.directives) revision

abbrev pub told_edited : Plan → Plan → ℕ → Reply
told_edited old new revision = Edited revision

-- ---- migration

-- whether the model at a position has a name
abbrev pub is_named : Option Parts → List ℕ → Bool
is_named None name = false
is_named (Some model) name = same_name model.name name

-- the first mapping from the model at a position to one with a name
abbrev pub goes_to : List Parts → ℕ → List ℕ → Mapping → Bool
goes_to models from name mapping = nat_eq mapping.from from && is_named (slice_get models mapping.to) name

abbrev pub mapping_to : List Parts → List Mapping → ℕ → List ℕ → Option Mapping
mapping_to models mappings from name = find (goes_to models from name) mappings

-- the plan in another model, or why it is not taken there
abbrev pub if_migrated : Branch → Result Plan MigrateError → Told
if_migrated branch (Ok plan) = (Edited (branch.revision + 1), with_plan branch plan)
if_migrated branch (Err (migration.Unmapped id)) = (Unmapped id, branch)
if_migrated branch (Err (migration.Misfit id number)) = (Misfit id number, branch)
if_migrated branch (Err migration.OutOfMemory) = (NoMapping, branch)

-- to a model, where it is there; the models of a mapping of a workspace are
abbrev pub migrated_to : Branch → Mapping → Option Parts → Told
migrated_to branch mapping None = (NoMapping, branch)
migrated_to branch mapping (Some model) = if_migrated branch (migrate_of model mapping branch.plan)

abbrev pub migrated_by : List Parts → Branch → Option Mapping → Told
migrated_by models branch None = (NoMapping, branch)
migrated_by models branch (Some mapping) = migrated_to branch mapping (slice_get models mapping.to)

-- by a mapping that is there
abbrev pub migrated_through : List Parts → Mapping → Branch → Told
migrated_through models mapping branch = migrated_by models branch (Some mapping)

-- Migrate: the plan in the model with a name; the kept run stays
abbrev pub migrated_branch : List Parts → List Mapping → List ℕ → Branch → Told
migrated_branch models mappings name branch = migrated_by models branch (mapping_to models mappings branch.plan.model name)

-- ---- reading, keeping, placing

-- Fetch: nothing changes
abbrev pub fetched : Branch → Told
fetched branch = (Fetched branch.revision branch.plan branch.kept, branch)

-- Attach: the run is kept, whatever the revision
abbrev pub attached : KeptRun → Branch → Told
attached kept branch = (Attached, record branch { kept = Some kept })

-- Place: another plan, where the revision is the one that was seen
abbrev pub placed_branch : ℕ → Plan → Branch → Told
placed_branch seen plan branch =
    if nat_eq branch.revision seen then (Placed (branch.revision + 1), with_plan branch plan)
    else (Stale seen branch.revision, branch)
