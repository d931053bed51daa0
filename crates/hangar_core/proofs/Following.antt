-- What an action on a branch leaves of it.
use Rattle.std.proofs.Common.{◌≡◌, ℕ, ◌+◌, ◌≤◌, Bool, true, false, List, Option, Some, None, Result, Ok, Err, refl, arith, nat_eq, slice_get}
use Rattle.std.specs.Prelude.{if◌then◌else◌}
use Rattle.aerie_base.specs.declared.models.model.Parts.{Parts}
use Rattle.aerie_base.specs.declared.plans.Plan.{Plan}
use Rattle.plan_edit.specs.declared.errors.EditError.{EditError}
use Rattle.plan_edit.specs.declared.errors.MigrateError.{MigrateError}
use Rattle.plan_edit.specs.declared.errors.MigrateError.TheVariants as migration
use Rattle.plan_edit.specs.declared.mappings.Mapping.{Mapping}
use Rattle.plan_edit.specs.Migrating.{migrate_of}
use Rattle.run_data.specs.KeptRuns.{KeptRun}
use Rattle.hangar_core.specs.declared.branches.Branch.{Branch}
use Rattle.hangar_core.specs.declared.replies.Reply.{Reply}
use Rattle.hangar_core.specs.declared.replies.Reply.TheVariants as reply
use Rattle.hangar_core.specs.Changing.{Told, attached, by_model, edited, if_edited, if_migrated, mapping_to, migrated_branch, migrated_by, migrated_to, placed_branch, with_plan}

-- the name stays, the revision does not fall, and where it stays the plan stays
pub record Follows (before after : Branch) : Type 0 where
  pub name : after.name ≡ before.name
  pub rises : before.revision ≤ after.revision
  pub plan : before.revision ≡ after.revision → before.plan ≡ after.plan

pub itself : (branch : Branch) → Follows branch branch
itself branch = record { name = refl; rises = omega arith; plan = λ e. refl }

later : (branch : Branch) (plan : Plan) → Follows branch (with_plan branch plan)
later branch plan = record { name = refl; rises = omega arith; plan = λ e. absurd (omega (arith, e)) }

if_edited_follows : (branch : Branch) (reply : Plan → ℕ → Reply) (made : Result Plan EditError) → Follows branch (if_edited branch reply made).1
if_edited_follows branch reply (Err refusal) = itself branch
if_edited_follows branch reply (Ok plan) = later branch plan

pub edited_follows : (models : List Parts) (edit : Parts → Plan → Result Plan EditError) (reply : Plan → Plan → ℕ → Reply) (branch : Branch) →
    Follows branch (edited models edit reply branch).1
edited_follows models edit reply branch = if_edited_follows branch (reply branch.plan) (by_model (slice_get models branch.plan.model) (λ model. edit model branch.plan))

if_migrated_follows : (branch : Branch) (made : Result Plan MigrateError) → Follows branch (if_migrated branch made).1
if_migrated_follows branch (Ok plan) = later branch plan
if_migrated_follows branch (Err (migration.Unmapped id)) = itself branch
if_migrated_follows branch (Err (migration.Misfit id number)) = itself branch
if_migrated_follows branch (Err migration.OutOfMemory) = itself branch

migrated_to_follows : (branch : Branch) (mapping : Mapping) (model : Option Parts) → Follows branch (migrated_to branch mapping model).1
migrated_to_follows branch mapping None = itself branch
migrated_to_follows branch mapping (Some model) = if_migrated_follows branch (migrate_of model mapping branch.plan)

migrated_by_follows : (models : List Parts) (branch : Branch) (mapping : Option Mapping) → Follows branch (migrated_by models branch mapping).1
migrated_by_follows models branch None = itself branch
migrated_by_follows models branch (Some mapping) = migrated_to_follows branch mapping (slice_get models mapping.to)

pub migrated_follows : (models : List Parts) (mappings : List Mapping) (name : List ℕ) (branch : Branch) → Follows branch (migrated_branch models mappings name branch).1
migrated_follows models mappings name branch = migrated_by_follows models branch (mapping_to models mappings branch.plan.model name)

pub attached_follows : (kept : KeptRun) (branch : Branch) → Follows branch (attached kept branch).1
attached_follows kept branch = record { name = refl; rises = omega arith; plan = λ e. refl }

abbrev FollowsTold : Branch → Told → Type 0
FollowsTold branch told = Follows branch told.1

pub placed_follows : (seen : ℕ) (plan : Plan) (branch : Branch) → Follows branch (placed_branch seen plan branch).1
placed_follows seen plan branch = go (nat_eq branch.revision seen)
  where
    go : (r : Bool) → FollowsTold branch (if r then (reply.Placed (branch.revision + 1), with_plan branch plan) else (reply.Stale seen branch.revision, branch))
    go true = later branch plan
    go false = itself branch
