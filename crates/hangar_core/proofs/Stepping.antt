-- What a step of a hangar leaves.
use Rattle.std.proofs.Common.{◌≡◌, ℕ, ◌+◌, Bool, true, false, List, [], ◌∷◌, Option, Some, None, Result, Ok, Err, is_some, nat_lt, nat_eq, length, find, refl, sym, ap, ◌∙◌, subst, slice_get, arith, if◌then◌else◌}
use Rattle.std.specs.List.{AllByRecursion}
use Rattle.aerie_base.specs.declared.models.model.Parts.{Parts}
use Rattle.aerie_base.specs.declared.plans.Plan.{Plan}
use Rattle.plan_edit.specs.declared.errors.EditError.{EditError}
use Rattle.plan_edit.specs.declared.errors.MigrateError.{MigrateError}
use Rattle.plan_edit.specs.declared.errors.MigrateError.TheVariants as migration
use Rattle.plan_edit.specs.declared.mappings.Mapping.{Mapping}
use Rattle.plan_edit.specs.Migrating.{migrate_of}
use Rattle.commands.specs.Edits.{edit_of}
use Rattle.commands.specs.SessionModels.{empty_plan}
use Rattle.commands.specs.declared.edits.Edit.{Edit as PlanEdit}
use Rattle.commands.specs.declared.edits.Edit.TheVariants as edit
use Rattle.run_data.specs.KeptRuns.{KeptRun}
use Rattle.hangar_core.specs.declared.actions.Action.{Action}
use Rattle.hangar_core.specs.declared.actions.Action.TheVariants.{New, Fork, Drop, Edit, Migrate, Fetch, Attach, Place}
use Rattle.hangar_core.specs.declared.branches.Branch.{Branch}
use Rattle.hangar_core.specs.declared.replies.Reply.{Reply}
use Rattle.hangar_core.specs.declared.replies.Reply.TheVariants as reply
use Rattle.hangar_core.specs.declared.workspaces.Workspace.{Workspace}
use Rattle.hangar_core.specs.Replies.{accepted_with}
use Rattle.hangar_core.specs.Workspaces.{Answered, branch_limit, branch_named, has_name, on_branch, on_found}
use Rattle.hangar_core.specs.Opening.{dropped_where, forked_from, opened, opened_unless}
use Rattle.hangar_core.specs.Changing.{Told, attached, by_model, edited, fetched, if_edited, if_migrated, mapping_to, migrated_by, migrated_to, placed_branch, with_plan}
use Rattle.hangar_core.specs.Edits.{told_of}
use Rattle.hangar_core.specs.ValidWorkspaces.{AreRevisionsWithin, CountedWorkspace, IsBranchIn, IsHangar, IsOfSameSession, IsReplyOf, IsStepped, IsWorkspace}
use Rattle.hangar_core.specs.Steps.{step}
use Rattle.hangar_core.proofs.Plain.{none_some, some_same}
use Rattle.hangar_core.proofs.Counts.{step_counts, step_stays}
use Rattle.hangar_core.proofs.SameSession.{step_same}

-- ---- what is answered

all_found : (P : Branch → Type 0) (name : List ℕ) (xs : List Branch) (x : Branch) → AllByRecursion P xs → find (has_name name) xs ≡ Some x → P x
all_found P name [] x h e = absurd (none_some None x refl e)
all_found P name (y ∷ ys) x h e = go (has_name name y) e (all_found P name ys x h.1)
  where
    go : (r : Bool) → (if r then Some y else find (has_name name) ys) ≡ Some x → (find (has_name name) ys ≡ Some x → P x) → P x
    go true k more = subst P (some_same (Some y) y x refl k) h.0
    go false k more = more k

module _ (models : List Parts) (duration : ℕ) where
  IsTold : Told → Type 0
  IsTold told = IsReplyOf models duration told.0

  if_edited_told : (branch : Branch) (told : Plan → ℕ → Reply) → ((plan : Plan) (revision : ℕ) → IsReplyOf models duration (told plan revision)) →
      (made : Result Plan EditError) → IsReplyOf models duration (if_edited branch told made).0
  if_edited_told branch told one (Err refusal) = tt
  if_edited_told branch told one (Ok plan) = one plan (branch.revision + 1)

  edited_told : (edit : Parts → Plan → Result Plan EditError) (told : Plan → Plan → ℕ → Reply) →
      ((old new : Plan) (revision : ℕ) → IsReplyOf models duration (told old new revision)) → (branch : Branch) → IsReplyOf models duration (edited models edit told branch).0
  edited_told edit told one branch =
      if_edited_told branch (told branch.plan) (one branch.plan) (by_model (slice_get models branch.plan.model) (λ model. edit model branch.plan))

  told_stands : (edit : PlanEdit) (old new : Plan) (revision : ℕ) → IsReplyOf models duration (told_of edit old new revision)
  told_stands (edit.Add at kind arguments) old new revision = tt
  told_stands (edit.Remove id) old new revision = tt
  told_stands (edit.Move id at) old new revision = tt
  told_stands (edit.Set id parameter value) old new revision = tt
  told_stands (edit.Load text) old new revision = tt

  if_migrated_told : (branch : Branch) (made : Result Plan MigrateError) → IsReplyOf models duration (if_migrated branch made).0
  if_migrated_told branch (Ok plan) = tt
  if_migrated_told branch (Err (migration.Unmapped id)) = tt
  if_migrated_told branch (Err (migration.Misfit id number)) = tt
  if_migrated_told branch (Err migration.OutOfMemory) = tt

  migrated_to_told : (branch : Branch) (mapping : Mapping) (model : Option Parts) → IsReplyOf models duration (migrated_to branch mapping model).0
  migrated_to_told branch mapping None = tt
  migrated_to_told branch mapping (Some model) = if_migrated_told branch (migrate_of model mapping branch.plan)

  migrated_by_told : (branch : Branch) (mapping : Option Mapping) → IsReplyOf models duration (migrated_by models branch mapping).0
  migrated_by_told branch None = tt
  migrated_by_told branch (Some mapping) = migrated_to_told branch mapping (slice_get models mapping.to)

  placed_told : (seen : ℕ) (plan : Plan) (branch : Branch) → IsReplyOf models duration (placed_branch seen plan branch).0
  placed_told seen plan branch = go (nat_eq branch.revision seen)
    where
      told : Told → Type 0
      told made = IsReplyOf models duration made.0

      go : (r : Bool) → IsReplyOf models duration ((λ (made : Told). made.0) (if r then (reply.Placed (branch.revision + 1), with_plan branch plan) else (reply.Stale seen branch.revision, branch)))
      go true = tt
      go false = tt

found_told : (w : Workspace) (name : List ℕ) (change : Branch → Told) → IsWorkspace w →
    ((branch : Branch) → IsBranchIn w.models w.duration branch → IsReplyOf w.models w.duration (change branch).0) →
    IsReplyOf w.models w.duration (on_branch w name change).0
found_told w name change h told = go (branch_named w name) refl
  where
    go : (found : Option Branch) → branch_named w name ≡ found → IsReplyOf w.models w.duration (on_found w name change found).0
    go None e = tt
    go (Some branch) e = told branch (all_found (IsBranchIn w.models w.duration) name w.branches branch h.branches e)

opened_told : (w : Workspace) (name : List ℕ) (plan : Plan) (kept : Option KeptRun) → IsReplyOf w.models w.duration (opened w name plan kept).0
opened_told w name plan kept = go (is_some (branch_named w name)) (nat_lt (length w.branches) branch_limit)
  where
    go : (there roomy : Bool) → IsReplyOf w.models w.duration
        (opened_unless w name plan kept (if there then Some reply.BranchExists else if roomy then None else Some reply.TooManyBranches)).0
    go true roomy = tt
    go false true = tt
    go false false = tt

forked_told : (w : Workspace) (name : List ℕ) (source : Option Branch) → IsReplyOf w.models w.duration (forked_from w name source).0
forked_told w name None = tt
forked_told w name (Some source) = opened_told w name source.plan source.kept

dropped_told : (w : Workspace) (name : List ℕ) (found : Option Branch) → IsReplyOf w.models w.duration (dropped_where w name found).0
dropped_told w name None = tt
dropped_told w name (Some branch) = tt

step_told : (w : Workspace) (action : Action) → IsWorkspace w → IsReplyOf w.models w.duration (step w action).0
unfolding step
step_told w (New branch) h = opened_told w branch (empty_plan w.duration) None
step_told w (Fork branch source) h = forked_told w branch (branch_named w source)
step_told w (Drop branch) h = dropped_told w branch (branch_named w branch)
step_told w (Edit branch edit) h = found_told w branch _ h
    (λ b _. edited_told w.models w.duration (edit_of edit) (told_of edit) (told_stands w.models w.duration edit) b)
step_told w (Migrate branch model) h = found_told w branch _ h
    (λ b _. migrated_by_told w.models w.duration b (mapping_to w.models w.mappings b.plan.model model))
step_told w (Fetch branch) h = found_told w branch fetched h (λ b of. (of.plan, of.kept))
step_told w (Attach branch kept) h = found_told w branch (attached kept) h (λ b _. tt)
step_told w (Place branch seen plan) h = found_told w branch (placed_branch seen plan) h (λ b _. placed_told w.models w.duration seen plan b)

-- ---- what is left

pub hangar_after : (accepted count : ℕ) (w new : Workspace) (action : Action) (told : Reply) → IsHangar accepted w → ◌≡◌ {A = Answered} (told, new) (step w action) →
    count ≡ accepted_with told → IsWorkspace new → IsHangar (accepted + count) new
hangar_after accepted count w new action told h e n s = record {
  stands = s;
  revisions = subst (λ (k : ℕ). AreRevisionsWithin (accepted + k) new) (sym n)
      (subst (λ (a : Answered). AreRevisionsWithin (accepted + accepted_with a.0) a.1) (sym e) (step_counts accepted w action h.revisions));
}

counted : (w : Workspace) (n m : ℕ) → n ≡ m → ◌≡◌ {A = CountedWorkspace} (record { workspace = w; accepted = n }) (record { workspace = w; accepted = m })
counted w n m e = ap (λ (k : ℕ). record { workspace = w; accepted = k }) e

pub stepped : (before : CountedWorkspace) (accepted count : ℕ) (w new : Workspace) (action : Action) (told : Reply) → ◌≡◌ {A = CountedWorkspace} (record { workspace = w; accepted = accepted }) before →
    IsHangar accepted w → ◌≡◌ {A = Answered} (told, new) (step w action) → count ≡ accepted_with told → IsWorkspace new →
    IsStepped before (record { workspace = new; accepted = accepted + count }) action told
stepped before accepted count w new action told b h e n s =
    subst (λ (old : CountedWorkspace). IsStepped old (record { workspace = new; accepted = accepted + count }) action told) b record {
      machine = e;
      counted = ap (λ (k : ℕ). accepted + k) n;
      unmoved = λ z.
          ap (λ (x : Workspace). record { workspace = x; accepted = accepted + count })
          (ap (λ (a : Answered). a.1) e ∙ step_stays w action h.stands.names (ap (λ (a : Answered). accepted_with a.0) (sym e) ∙ z))
          ∙ counted w (accepted + count) accepted (omega (arith, n, z));
      stands = s;
      session = subst (λ (a : Answered). IsOfSameSession w a.1) (sym e) (step_same w action);
      of_models = subst (λ (a : Answered). IsReplyOf w.models w.duration a.0) (sym e) (step_told w action h.stands);
    }
