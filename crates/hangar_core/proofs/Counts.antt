-- Revisions and the number of accepted actions.
use Rattle.std.proofs.Common.{Ordering, ◌≡◌, ℕ, ◌+◌, ◌≤◌, Bool, true, false, IsTrue, List, [], ◌∷◌, ◌++◌, map, cond, find, filter, Option, Some, None, Result, Ok, Err, refl, ap, ◌∙◌, subst, nat_eq, slice_get, arith, if◌then◌else◌, not}
use Rattle.std.specs.List.{AllByRecursion}
use Rattle.std.specs.Ordering.{nat_cmp, is_eq, match_ordering}
use Rattle.std.specs.declared.cmp.Ordering.TheVariants.{Less, Equal, Greater}
use Rattle.std.specs.BTreeMap.{insert_entry}
use Rattle.std.specs.Cmp.Lexicographic.{slice_cmp}
use Rattle.aerie_base.specs.declared.models.model.Parts.{Parts}
use Rattle.aerie_base.specs.declared.plans.Plan.{Plan}
use Rattle.aerie_base.specs.models.Names.{are_distinct}
use Rattle.plan_edit.specs.declared.errors.EditError.{EditError}
use Rattle.plan_edit.specs.declared.errors.MigrateError.{MigrateError}
use Rattle.plan_edit.specs.declared.errors.MigrateError.TheVariants as migration
use Rattle.plan_edit.specs.declared.mappings.Mapping.{Mapping}
use Rattle.plan_edit.specs.Migrating.{migrate_of}
use Rattle.commands.specs.SessionModels.{empty_plan}
use Rattle.commands.specs.declared.edits.Edit.{Edit as PlanEdit}
use Rattle.commands.specs.declared.edits.Edit.TheVariants as edit
use Rattle.run_data.specs.KeptRuns.{KeptRun}
use Rattle.hangar_core.specs.declared.actions.Action.{Action}
use Rattle.hangar_core.specs.declared.actions.Action.TheVariants.{New, Fork, Drop, Edit, Migrate, Fetch, Attach, Place}
use Rattle.hangar_core.specs.declared.branches.Branch.{Branch}
use Rattle.hangar_core.specs.declared.replies.Reply.{Reply}
use Rattle.hangar_core.specs.declared.replies.Reply.TheVariants as reply
use Rattle.hangar_core.specs.declared.workspaces.Workspace.{Workspace}
use Rattle.hangar_core.specs.Replies.{accepted_with}
use Rattle.hangar_core.specs.Workspaces.{branch_named, has_name, on_branch, on_found, put_where_named, with_branch}
use Rattle.hangar_core.specs.Opening.{LastRevisions, dropped_branch, dropped_where, first_revision, forked_from, has_other_name, last_revision, opened, opened_branch, opened_unless, refusal_to_open, remembered, revision_after}
use Rattle.hangar_core.specs.Changing.{Told, attached, by_model, edited, fetched, if_edited, if_migrated, mapping_to, migrated_by, migrated_to, placed_branch, with_plan}
use Rattle.hangar_core.specs.Edits.{edited_as, told_of}
use Rattle.hangar_core.specs.ValidWorkspaces.{AreRevisionsWithin, branch_names}
use Rattle.hangar_core.specs.Steps.{step}
use Rattle.hangar_core.proofs.Plain.{none_some, some_same}
use Rattle.hangar_core.proofs.Positions.{put_same}

-- what a change answers goes with what it leaves: a revision more is an accepted one, and a refusal leaves the branch
pub record Tells (branch : Branch) (told : Told) : Type 0 where
  pub counts : told.1.revision ≤ branch.revision + accepted_with told.0
  pub stays : accepted_with told.0 ≡ 0 → told.1 ≡ branch

nothing : (branch : Branch) (refusal : Reply) → accepted_with refusal ≡ 0 → Tells branch (refusal, branch)
nothing branch refusal e = record { counts = omega arith; stays = λ _. refl }

raised : (branch : Branch) (plan : Plan) (told : Reply) → accepted_with told ≡ 1 → Tells branch (told, with_plan branch plan)
raised branch plan told e = record { counts = omega (arith, e); stays = λ z. absurd (omega (arith, e, z)) }

if_edited_tells : (branch : Branch) (told : Plan → ℕ → Reply) → ((plan : Plan) (revision : ℕ) → accepted_with (told plan revision) ≡ 1) →
    (made : Result Plan EditError) → Tells branch (if_edited branch told made)
if_edited_tells branch told one (Err refusal) = nothing branch (reply.Edit refusal) refl
if_edited_tells branch told one (Ok plan) = raised branch plan (told plan (branch.revision + 1)) (one plan (branch.revision + 1))

pub edited_tells : (models : List Parts) (edit : Parts → Plan → Result Plan EditError) (told : Plan → Plan → ℕ → Reply) →
    ((old new : Plan) (revision : ℕ) → accepted_with (told old new revision) ≡ 1) → (branch : Branch) → Tells branch (edited models edit told branch)
edited_tells models edit told one branch =
    if_edited_tells branch (told branch.plan) (one branch.plan) (by_model (slice_get models branch.plan.model) (λ model. edit model branch.plan))

told_counts : (edit : PlanEdit) (old new : Plan) (revision : ℕ) → accepted_with (told_of edit old new revision) ≡ 1
told_counts (edit.Add at kind arguments) old new revision = refl
told_counts (edit.Remove id) old new revision = refl
told_counts (edit.Move id at) old new revision = refl
told_counts (edit.Set id parameter value) old new revision = refl
told_counts (edit.Load text) old new revision = refl

edit_tells : (models : List Parts) (edit : PlanEdit) (branch : Branch) → Tells branch (edited_as models edit branch)
edit_tells models edit = edited_tells models _ (told_of edit) (told_counts edit)

if_migrated_tells : (branch : Branch) (made : Result Plan MigrateError) → Tells branch (if_migrated branch made)
if_migrated_tells branch (Ok plan) = raised branch plan (reply.Edited (branch.revision + 1)) refl
if_migrated_tells branch (Err (migration.Unmapped id)) = nothing branch (reply.Unmapped id) refl
if_migrated_tells branch (Err (migration.Misfit id number)) = nothing branch (reply.Misfit id number) refl
if_migrated_tells branch (Err migration.OutOfMemory) = nothing branch reply.NoMapping refl

migrated_to_tells : (branch : Branch) (mapping : Mapping) (model : Option Parts) → Tells branch (migrated_to branch mapping model)
migrated_to_tells branch mapping None = nothing branch reply.NoMapping refl
migrated_to_tells branch mapping (Some model) = if_migrated_tells branch (migrate_of model mapping branch.plan)

migrated_by_tells : (models : List Parts) (branch : Branch) (mapping : Option Mapping) → Tells branch (migrated_by models branch mapping)
migrated_by_tells models branch None = nothing branch reply.NoMapping refl
migrated_by_tells models branch (Some mapping) = migrated_to_tells branch mapping (slice_get models mapping.to)

fetched_tells : (branch : Branch) → Tells branch (fetched branch)
fetched_tells branch = record { counts = omega arith; stays = λ _. refl }

attached_tells : (kept : KeptRun) (branch : Branch) → Tells branch (attached kept branch)
attached_tells kept branch = record { counts = omega arith; stays = λ z. absurd (omega (arith, z)) }

placed_tells : (seen : ℕ) (plan : Plan) (branch : Branch) → Tells branch (placed_branch seen plan branch)
placed_tells seen plan branch = go (nat_eq branch.revision seen)
  where
    go : (r : Bool) → Tells branch (if r then (reply.Placed (branch.revision + 1), with_plan branch plan) else (reply.Stale seen branch.revision, branch))
    go true = raised branch plan (reply.Placed (branch.revision + 1)) refl
    go false = nothing branch (reply.Stale seen branch.revision) refl

-- ---- a refusal changes nothing

found_stays : (w : Workspace) (name : List ℕ) (change : Branch → Told) → ((branch : Branch) → Tells branch (change branch)) → IsTrue (are_distinct (branch_names w.branches)) →
    accepted_with (on_branch w name change).0 ≡ 0 → (on_branch w name change).1 ≡ w
found_stays w name change tells d = go (branch_named w name) refl
  where
    go : (found : Option Branch) → branch_named w name ≡ found → accepted_with (on_found w name change found).0 ≡ 0 → (on_found w name change found).1 ≡ w
    go None e z = refl
    go (Some now) e z =
        ap (λ (b : Branch). with_branch w name b) ((tells now).stays z)
        ∙ ap (λ (branches : List Branch). record w { branches = branches }) (put_same name w.branches now d e)

opened_stays : (w : Workspace) (name : List ℕ) (plan : Plan) (kept : Option KeptRun) →
    accepted_with (opened w name plan kept).0 ≡ 0 → (opened w name plan kept).1 ≡ w
opened_stays w name plan kept = go (refusal_to_open w name)
  where
    go : (refusal : Option Reply) → accepted_with (opened_unless w name plan kept refusal).0 ≡ 0 → (opened_unless w name plan kept refusal).1 ≡ w
    go None z = absurd (omega (arith, z))
    go (Some refusal) z = refl

forked_stays : (w : Workspace) (name : List ℕ) (source : Option Branch) → accepted_with (forked_from w name source).0 ≡ 0 → (forked_from w name source).1 ≡ w
forked_stays w name None z = refl
forked_stays w name (Some source) z = opened_stays w name source.plan source.kept z

dropped_stays : (w : Workspace) (name : List ℕ) (found : Option Branch) → accepted_with (dropped_where w name found).0 ≡ 0 → (dropped_where w name found).1 ≡ w
dropped_stays w name None z = refl
dropped_stays w name (Some now) z = absurd (omega (arith, z))

pub step_stays : (w : Workspace) (action : Action) → IsTrue (are_distinct (branch_names w.branches)) → accepted_with (step w action).0 ≡ 0 → (step w action).1 ≡ w
unfolding step
step_stays w (New branch) d z = opened_stays w branch (empty_plan w.duration) None z
step_stays w (Fork branch source) d z = forked_stays w branch (branch_named w source) z
step_stays w (Drop branch) d z = dropped_stays w branch (branch_named w branch) z
step_stays w (Edit branch edit) d z = found_stays w branch _ (edit_tells w.models edit) d z
step_stays w (Migrate branch model) d z =
    found_stays w branch _ (λ b. migrated_by_tells w.models b (mapping_to w.models w.mappings b.plan.model model)) d z
step_stays w (Fetch branch) d z = found_stays w branch fetched fetched_tells d z
step_stays w (Attach branch kept) d z = found_stays w branch (attached kept) (attached_tells kept) d z
step_stays w (Place branch seen plan) d z = found_stays w branch (placed_branch seen plan) (placed_tells seen plan) d z

-- ---- no revision is above the number of accepted actions

abbrev Within : ℕ → List Branch → Type 0
Within most branches = AllByRecursion (λ branch. branch.revision ≤ most) branches

abbrev LastWithin : ℕ → LastRevisions → Type 0
LastWithin most dropped = AllByRecursion (λ last. last.1 ≤ most) dropped

within_more : (most count : ℕ) (branches : List Branch) → Within most branches → Within (most + count) branches
within_more most count [] h = tt
within_more most count (b ∷ bs) h = (omega (arith, h.0), within_more most count bs h.1)

last_more : (most count : ℕ) (dropped : LastRevisions) → LastWithin most dropped → LastWithin (most + count) dropped
last_more most count [] h = tt
last_more most count (e ∷ es) h = (omega (arith, h.0), last_more most count es h.1)

within_put : (most : ℕ) (name : List ℕ) (b : Branch) (branches : List Branch) → b.revision ≤ most → Within most branches →
    Within most (map (put_where_named name b) branches)
within_put most name b [] l h = tt
within_put most name b (y ∷ ys) l h = (go (has_name name y), within_put most name b ys l h.1)
  where
    go : (r : Bool) → (if r then b else y).revision ≤ most
    go true = l
    go false = h.0

within_found : (most : ℕ) (name : List ℕ) (branches : List Branch) (b : Branch) → Within most branches → find (has_name name) branches ≡ Some b → b.revision ≤ most
within_found most name [] b h e = absurd (none_some None b refl e)
within_found most name (y ∷ ys) b h e = go (has_name name y) e (within_found most name ys b h.1)
  where
    go : (r : Bool) → cond r (Some y) (find (has_name name) ys) ≡ Some b → (find (has_name name) ys ≡ Some b → b.revision ≤ most) → b.revision ≤ most
    go true k more = subst (λ (x : Branch). x.revision ≤ most) (some_same (Some y) y b refl k) h.0
    go false k more = more k

within_left : (most : ℕ) (name : List ℕ) (branches : List Branch) → Within most branches → Within most (filter (has_other_name name) branches)
within_left most name [] h = tt
within_left most name (y ∷ ys) h = go (has_name name y) (within_left most name ys h.1)
  where
    go : (r : Bool) → Within most (filter (has_other_name name) ys) → Within most (cond (not r) (y ∷ filter (has_other_name name) ys) (filter (has_other_name name) ys))
    go true more = more
    go false more = (h.0, more)

within_added : (most : ℕ) (branches : List Branch) (b : Branch) → Within most branches → b.revision ≤ most → Within most (branches ++ b ∷ [])
within_added most [] b h l = (l, tt)
within_added most (y ∷ ys) b h l = (h.0, within_added most ys b h.1 l)

last_within : (most : ℕ) (name : List ℕ) (dropped : LastRevisions) → LastWithin most dropped → first_revision dropped name ≤ most + 1
last_within most name [] h = omega arith
last_within most name (e ∷ es) h = go (is_eq (slice_cmp nat_cmp name e.0)) (last_within most name es h.1)
  where
    go : (r : Bool) → first_revision es name ≤ most + 1 → revision_after (cond r (Some e.1) (last_revision es name)) ≤ most + 1
    go true more = let l = h.0 in omega (arith, l)
    go false more = more

last_put : (most : ℕ) (name : List ℕ) (revision : ℕ) (dropped : LastRevisions) → revision ≤ most → LastWithin most dropped →
    LastWithin most (remembered dropped name revision)
last_put most name revision [] l h = (l, tt)
last_put most name revision (e ∷ es) l h = go (slice_cmp nat_cmp name e.0) (last_put most name revision es l h.1)
  where
    go : (o : Ordering) → LastWithin most (remembered es name revision) →
        LastWithin most (match_ordering o ((name, revision) ∷ e ∷ es) ((e.0, revision) ∷ es) (e ∷ insert_entry (slice_cmp nat_cmp) es name revision))
    go Less more = (l, h)
    go Equal more = (l, h.1)
    go Greater more = (h.0, more)

found_counts : (most : ℕ) (w : Workspace) (name : List ℕ) (change : Branch → Told) → ((branch : Branch) → Tells branch (change branch)) → AreRevisionsWithin most w →
    AreRevisionsWithin (most + accepted_with (on_branch w name change).0) (on_branch w name change).1
found_counts most w name change tells h = go (branch_named w name) refl
  where
    go : (found : Option Branch) → branch_named w name ≡ found →
        AreRevisionsWithin (most + accepted_with (on_found w name change found).0) (on_found w name change found).1
    go None e = record { branches = within_more most 0 w.branches h.branches; dropped = last_more most 0 w.dropped h.dropped }
    go (Some now) e =
        let count : ℕ = accepted_with (change now).0 in
        let own : now.revision ≤ most = within_found most name w.branches now h.branches e in
        let counts = (tells now).counts in
        record {
          branches = within_put (most + count) name (change now).1 w.branches (omega (arith, own, counts)) (within_more most count w.branches h.branches);
          dropped = last_more most count w.dropped h.dropped;
        }

opened_counts : (most : ℕ) (w : Workspace) (name : List ℕ) (plan : Plan) (kept : Option KeptRun) → AreRevisionsWithin most w →
    AreRevisionsWithin (most + accepted_with (opened w name plan kept).0) (opened w name plan kept).1
opened_counts most w name plan kept h = go (refusal_to_open w name)
  where
    go : (refusal : Option Reply) → AreRevisionsWithin (most + accepted_with (opened_unless w name plan kept refusal).0) (opened_unless w name plan kept refusal).1
    go None = record {
      branches = within_added (most + 1) w.branches (opened_branch w name plan kept) (within_more most 1 w.branches h.branches) (last_within most name w.dropped h.dropped);
      dropped = last_more most 1 w.dropped h.dropped;
    }
    go (Some refusal) =
        record { branches = within_more most (accepted_with refusal) w.branches h.branches; dropped = last_more most (accepted_with refusal) w.dropped h.dropped }

forked_counts : (most : ℕ) (w : Workspace) (name : List ℕ) (source : Option Branch) → AreRevisionsWithin most w →
    AreRevisionsWithin (most + accepted_with (forked_from w name source).0) (forked_from w name source).1
forked_counts most w name None h = record { branches = within_more most 0 w.branches h.branches; dropped = last_more most 0 w.dropped h.dropped }
forked_counts most w name (Some source) h = opened_counts most w name source.plan source.kept h

dropped_counts : (most : ℕ) (w : Workspace) (name : List ℕ) → AreRevisionsWithin most w →
    AreRevisionsWithin (most + accepted_with (dropped_branch w name).0) (dropped_branch w name).1
dropped_counts most w name h = go (branch_named w name) refl
  where
    go : (found : Option Branch) → branch_named w name ≡ found →
        AreRevisionsWithin (most + accepted_with (dropped_where w name found).0) (dropped_where w name found).1
    go None e = record { branches = within_more most 0 w.branches h.branches; dropped = last_more most 0 w.dropped h.dropped }
    go (Some now) e =
        let own : now.revision ≤ most = within_found most name w.branches now h.branches e in
        record {
          branches = within_more most 1 _ (within_left most name w.branches h.branches);
          dropped = last_put (most + 1) name now.revision w.dropped (omega (arith, own)) (last_more most 1 w.dropped h.dropped);
        }

pub step_counts : (most : ℕ) (w : Workspace) (action : Action) → AreRevisionsWithin most w →
    AreRevisionsWithin (most + accepted_with (step w action).0) (step w action).1
unfolding step
step_counts most w (New branch) h = opened_counts most w branch (empty_plan w.duration) None h
step_counts most w (Fork branch source) h = forked_counts most w branch (branch_named w source) h
step_counts most w (Drop branch) h = dropped_counts most w branch h
step_counts most w (Edit branch edit) h = found_counts most w branch _ (edit_tells w.models edit) h
step_counts most w (Migrate branch model) h =
    found_counts most w branch _ (λ b. migrated_by_tells w.models b (mapping_to w.models w.mappings b.plan.model model)) h
step_counts most w (Fetch branch) h = found_counts most w branch fetched fetched_tells h
step_counts most w (Attach branch kept) h = found_counts most w branch (attached kept) (attached_tells kept) h
step_counts most w (Place branch seen plan) h = found_counts most w branch (placed_branch seen plan) (placed_tells seen plan) h
