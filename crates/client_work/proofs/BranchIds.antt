-- Along a journal that fits no id of a branch is used again.
use Rattle.std.proofs.Common.{◌≡◌, ℕ, ◌+◌, Bool, true, false, List, [], ◌∷◌, ◌++◌, map, nat_eq, append_assoc, append-nil, Option, Some, None, refl, sym, ap, ◌∙◌, subst, eqb-true, true≢false}
use Rattle.std.specs.List.{AllByRecursion}
use Rattle.std.specs.Prelude.{cond, find, if◌then◌else◌}
use Rattle.std.specs.Cmp.Lexicographic.{bytes_decides}
use Rattle.std.proofs.lemmas.Option.{none-some, same_Some}
use Rattle.aerie_base.specs.declared.plans.Plan.{Plan}
use Rattle.aerie_base.specs.models.Names.{same_name}
use Rattle.run_data.specs.KeptRuns.{KeptRun}
use Rattle.commands.specs.Edits.{edit_of}
use Rattle.hangar_core.specs.declared.actions.Action.{Action}
use Rattle.hangar_core.specs.declared.actions.Action.TheVariants.{New, Fork, Drop, Edit, Migrate, Fetch, Attach, Place}
use Rattle.hangar_core.specs.declared.branches.Branch.{Branch}
use Rattle.commands.specs.declared.commands.Command.{Command}
use Rattle.hangar_core.specs.declared.replies.Reply.{Reply}
use Rattle.hangar_core.specs.declared.replies.Reply.TheVariants as reply
use Rattle.hangar_core.specs.declared.workspaces.Workspace.{Workspace}
use Rattle.hangar_core.specs.Changing.{Told as Changed, attached, fetched, migrated_branch, placed_branch, with_plan}
use Rattle.hangar_core.specs.Edits.{told_of}
use Rattle.hangar_core.specs.Fits.{Fits, Meanings}
use Rattle.hangar_core.specs.Journals.{Entries, IsReplay, after_entries}
use Rattle.commands.specs.SessionModels.{empty_plan}
use Rattle.hangar_core.specs.Opening.{forked_from, opened, opened_unless, refusal_to_open}
use Rattle.hangar_core.specs.Steps.{after_actions, step}
use Rattle.hangar_core.specs.Workspaces.{branch_named, has_name, on_branch, on_found, put_where_named}
use Rattle.hangar_core.specs.laws.Histories.{RevisionsNamePlans}
use Rattle.hangar_core.specs.laws.Isolation.{OtherBranchesStay, only_branch}
use Rattle.client_work.proofs.PlaceOrigins.{MeaningsGoOn, Told, place_origin}
use Rattle.client_work.proofs.EditedIds.{GoesOn, Rises, attached_rises, edit_goes, edited_rises, fetched_rises, goes_further, goes_nowhere, migrated_rises, stays}

-- ---- branches by name

passes_found : (name : List ℕ) (branches : List Branch) (branch : Branch) → find (has_name name) branches ≡ Some branch → has_name name branch ≡ true
passes_found name [] branch e = absurd (none-some branch e)
passes_found name (first ∷ rest) branch e = by (has_name name first) refl e (passes_found name rest branch)
  where
    by : (passes : Bool) → has_name name first ≡ passes → cond passes (Some first) (find (has_name name) rest) ≡ Some branch →
        (find (has_name name) rest ≡ Some branch → has_name name branch ≡ true) → has_name name branch ≡ true
    by true h e others = ap (has_name name) (sym (same_Some first branch e)) ∙ h
    by false h e others = others e

put_found : (name : List ℕ) (other : Branch) → has_name name other ≡ true → (branches : List Branch) (branch : Branch) → find (has_name name) branches ≡ Some branch →
    find (has_name name) (map (put_where_named name other) branches) ≡ Some other
put_found name other same [] branch e = absurd (none-some branch e)
put_found name other same (first ∷ rest) branch e = by (has_name name first) refl e (put_found name other same rest branch)
  where
    by : (passes : Bool) → has_name name first ≡ passes → cond passes (Some first) (find (has_name name) rest) ≡ Some branch →
        (find (has_name name) rest ≡ Some branch → find (has_name name) (map (put_where_named name other) rest) ≡ Some other) →
        find (has_name name) (map (put_where_named name other) (first ∷ rest)) ≡ Some other
    by true h e others =
        ap (λ (t : Bool). cond (has_name name (cond t other first)) (Some (cond t other first)) (find (has_name name) (map (put_where_named name other) rest))) h
        ∙ ap (λ (t : Bool). cond t (Some other) (find (has_name name) (map (put_where_named name other) rest))) same
    by false h e others =
        ap (λ (t : Bool). cond (has_name name (cond t other first)) (Some (cond t other first)) (find (has_name name) (map (put_where_named name other) rest))) h
        ∙ ap (λ (t : Bool). cond t (Some first) (find (has_name name) (map (put_where_named name other) rest))) h
        ∙ others e

front_found : (name : List ℕ) (branches others : List Branch) (branch : Branch) → find (has_name name) branches ≡ Some branch → find (has_name name) (branches ++ others) ≡ Some branch
front_found name [] others branch e = absurd (none-some branch e)
front_found name (first ∷ rest) others branch e = by (has_name name first) e (front_found name rest others branch)
  where
    by : (passes : Bool) → cond passes (Some first) (find (has_name name) rest) ≡ Some branch →
        (find (has_name name) rest ≡ Some branch → find (has_name name) (rest ++ others) ≡ Some branch) → cond passes (Some first) (find (has_name name) (rest ++ others)) ≡ Some branch
    by true e later = e
    by false e later = later e

-- ---- a step

-- the branch stands behind it, and its plan goes on from what it was
record StandsIn (workspace : Workspace) (name : List ℕ) (before : Branch) : Type 0 where
  pub after : Branch
  pub there : branch_named workspace name ≡ Some after
  pub plan : GoesOn before.plan after.plan

still : (workspace : Workspace) (name : List ℕ) (before : Branch) → branch_named workspace name ≡ Some before → StandsIn workspace name before
still workspace name before there = record { after = before; there = there; plan = goes_nowhere before.plan }

opened_still : (workspace : Workspace) (on : List ℕ) (plan : Plan) (kept : Option KeptRun) (name : List ℕ) (before : Branch) → branch_named workspace name ≡ Some before →
    StandsIn (opened workspace on plan kept).1 name before
opened_still workspace on plan kept name before there = by (refusal_to_open workspace on)
  where
    by : (refusal : Option Reply) → StandsIn (opened_unless workspace on plan kept refusal).1 name before
    by (Some refusal) = still workspace name before there
    by None = record { after = before; there = front_found name workspace.branches _ before there; plan = goes_nowhere before.plan }

forked_still : (workspace : Workspace) (on : List ℕ) (source : Option Branch) (name : List ℕ) (before : Branch) → branch_named workspace name ≡ Some before →
    StandsIn (forked_from workspace on source).1 name before
forked_still workspace on None name before there = still workspace name before there
forked_still workspace on (Some source) name before there = opened_still workspace on source.plan source.kept name before there

-- a change of the branch itself
changed_still : (workspace : Workspace) (name : List ℕ) (change : Branch → Changed) (before : Branch) → branch_named workspace name ≡ Some before → Rises before (change before).1 →
    StandsIn (on_branch workspace name change).1 name before
changed_still workspace name change before there rises =
    subst (λ (found : Option Branch). StandsIn (on_found workspace name change found).1 name before) (sym there) (record {
      after = (change before).1;
      there =
          put_found name (change before).1 (ap (λ (n : List ℕ). same_name n name) rises.name ∙ passes_found name workspace.branches before there)
          workspace.branches before there;
      plan = rises.plan;
    })

abbrev RisesTo : Branch → Changed → Type 0
RisesTo branch changed = Rises branch changed.1

placed_rises : (seen : ℕ) (plan : Plan) (branch : Branch) → (branch.revision ≡ seen → GoesOn branch.plan plan) → Rises branch (placed_branch seen plan branch).1
placed_rises seen plan branch goes = by (nat_eq branch.revision seen) refl
  where
    by : (same : Bool) → nat_eq branch.revision seen ≡ same →
        RisesTo branch (if same then (reply.Placed (branch.revision + 1), with_plan branch plan) else (reply.Stale seen branch.revision, branch))
    by true e = record { name = refl; plan = goes (eqb-true branch.revision seen e) }
    by false e = stays branch

-- two names are one or are not
data Compared (name another : List ℕ) : Type 0 where
  one : name ≡ another → Compared name another
  two : (name ≡ another → ⊥) → Compared name another

compared : (name another : List ℕ) → Compared name another
compared name another = by (same_name name another) refl
  where
    by : (same : Bool) → same_name name another ≡ same → Compared name another
    by true e = one ((bytes_decides name another).0 e)
    by false e = two (λ is. true≢false (sym ((bytes_decides name another).1 is) ∙ e))

module _ (others_stay : OtherBranchesStay) where
  -- an action on one branch alone
  on_one : (action : Action) (on name : List ℕ) (workspace : Workspace) (before : Branch) → only_branch action ≡ Some on → branch_named workspace name ≡ Some before →
      (on ≡ name → StandsIn (step workspace action).1 name before) → StandsIn (step workspace action).1 name before
  on_one action on name workspace before only there own = by (compared on name)
    where
      by : Compared on name → StandsIn (step workspace action).1 name before
      by (one same) = own same
      by (two apart) = record { after = before; there = others_stay action on name workspace only apart ∙ there; plan = goes_nowhere before.plan }

  -- a change of the branch with a name
  on_own : (on name : List ℕ) (workspace : Workspace) (change : Branch → Changed) (before : Branch) → branch_named workspace name ≡ Some before → Rises before (change before).1 →
      on ≡ name → StandsIn (on_branch workspace on change).1 name before
  on_own on name workspace change before there rises same =
      subst (λ (n : List ℕ). StandsIn (on_branch workspace n change).1 name before) (sym same) (changed_still workspace name change before there rises)

  step_stands : (workspace : Workspace) (action : Action) (name : List ℕ) (before : Branch) → branch_named workspace name ≡ Some before → (action ≡ Drop name → ⊥) →
      ((seen : ℕ) (plan : Plan) → action ≡ Place name seen plan → before.revision ≡ seen → GoesOn before.plan plan) → StandsIn (step workspace action).1 name before
  unfolding step
  step_stands w (New on) name before there stays placed = opened_still w on (empty_plan w.duration) None name before there
  step_stands w (Fork on source) name before there stays placed = forked_still w on (branch_named w source) name before there
  step_stands w (Drop on) name before there stays placed = on_one (Drop on) on name w before refl there (λ same. absurd (stays (ap Drop same)))
  step_stands w (Edit on edit) name before there stays placed =
      on_one (Edit on edit) on name w before refl there
      (on_own on name w _ before there (edited_rises w.models (edit_of edit) (told_of edit) (edit_goes edit) before))
  step_stands w (Migrate on model) name before there stays placed =
      on_one (Migrate on model) on name w before refl there (on_own on name w (migrated_branch w.models w.mappings model) before there (migrated_rises w.models w.mappings model before))
  step_stands w (Fetch on) name before there stays placed = on_one (Fetch on) on name w before refl there (on_own on name w fetched before there (fetched_rises before))
  step_stands w (Attach on kept) name before there stays placed = on_one (Attach on kept) on name w before refl there (on_own on name w (attached kept) before there (attached_rises kept before))
  step_stands w (Place on seen plan) name before there stays placed =
      on_one (Place on seen plan) on name w before refl there (λ same.
      on_own on name w (placed_branch seen plan) before there (placed_rises seen plan before (placed seen plan (ap (λ (n : List ℕ). Place n seen plan) same))) same)

-- ---- a journal

after_both : (first : Workspace) (front back : Entries) → after_entries first (front ++ back) ≡ after_entries (after_entries first front) back
after_both first [] back = refl
after_both first (entry ∷ front) back = after_both (step first entry.0.action).1 front back

abbrev actions_of : Entries → List Action
actions_of entries = map (λ (x : Told). x.0.action) entries

after_actions_of : (first : Workspace) (entries : Entries) → after_entries first entries ≡ after_actions first (actions_of entries)
after_actions_of first [] = refl
after_actions_of first (entry ∷ entries) = after_actions_of (step first entry.0.action).1 entries

replay_at : (first : Workspace) (front back : Entries) (x : Told) → IsReplay first (front ++ x ∷ back) → x.1 ≡ (step (after_entries first front) x.0.action).0
replay_at first [] back x is = is.0
replay_at first (entry ∷ front) back x is = replay_at (step first entry.0.action).1 front back x is.1

-- what was fetched was there
fetched_there : (workspace : Workspace) (name : List ℕ) (revision : ℕ) (plan : Plan) (kept : Option KeptRun) → reply.Fetched revision plan kept ≡ (step workspace (Fetch name)).0 →
    (branch : Branch) × (branch_named workspace name ≡ Some branch) × (branch.revision ≡ revision) × (branch.plan ≡ plan)
unfolding step
fetched_there workspace name revision plan kept e = by (branch_named workspace name) refl e
  where
    by : (found : Option Branch) → branch_named workspace name ≡ found → reply.Fetched revision plan kept ≡ (on_found workspace name fetched found).0 →
        (branch : Branch) × (branch_named workspace name ≡ Some branch) × (branch.revision ≡ revision) × (branch.plan ≡ plan)
    by None there e = absurd (cc)
    by (Some branch) there e =
        let revision_is : branch.revision ≡ revision = cc in
        let plan_is : branch.plan ≡ plan = cc in
        (branch, there, revision_is, plan_is)

module _ (meanings : Meanings) (go_on : MeaningsGoOn meanings) (others_stay : OtherBranchesStay) (name_plans : RevisionsNamePlans) (first : Workspace) (clients : List (List Command)) where
  -- a plan that is placed at the revision of a branch goes on from the branch's
  placed_goes : (front back : Entries) (x : Told) → Fits meanings first clients (front ++ x ∷ back) → (name : List ℕ) (before : Branch) → branch_named (after_entries first front) name ≡ Some before →
      (seen : ℕ) (plan : Plan) → x.0.action ≡ Place name seen plan → before.revision ≡ seen → GoesOn before.plan plan
  placed_goes front back x fits name before there seen plan places at_seen =
      let origin = place_origin meanings go_on first clients front back x name seen plan places fits in
      let early = after_entries first origin.front in
      let whole : front ++ x ∷ back ≡ origin.front ++ origin.fetch ∷ (origin.back ++ x ∷ back) =
      ap (λ (entries : Entries). entries ++ x ∷ back) origin.there ∙ append_assoc origin.front (origin.fetch ∷ origin.back) (x ∷ back) in
      let answer = replay_at first origin.front (origin.back ++ x ∷ back) origin.fetch (subst (IsReplay first) whole fits.replayed) in
      let found = fetched_there early name seen origin.old origin.kept (sym origin.told ∙ answer ∙ ap (λ (a : Action). (step early a).0) origin.fetches) in
      let now : branch_named (after_actions early (actions_of (origin.fetch ∷ origin.back))) name ≡ Some before =
      ap (λ (w : Workspace). branch_named w name)
      (sym (after_actions_of early (origin.fetch ∷ origin.back)) ∙ sym (after_both first origin.front (origin.fetch ∷ origin.back)) ∙ ap (after_entries first) (sym origin.there))
      ∙ there in
      let same : found.0.plan ≡ before.plan = name_plans early name (actions_of (origin.fetch ∷ origin.back)) found.0 before (record { then = now; now = found.1 }) (found.2 ∙ sym at_seen) in
      subst (λ (p : Plan). GoesOn p plan) (sym found.3 ∙ same) origin.goes_on

  along : (front more rest : Entries) (name : List ℕ) (before : Branch) → Fits meanings first clients (front ++ more ++ rest) → branch_named (after_entries first front) name ≡ Some before →
      AllByRecursion (λ (x : Told). x.0.action ≡ Drop name → ⊥) more → StandsIn (after_entries first (front ++ more)) name before
  along front [] rest name before fits there never =
      subst (λ (entries : Entries). StandsIn (after_entries first entries) name before) (sym (append-nil front)) (still (after_entries first front) name before there)
  along front (x ∷ more) rest name before fits there never =
      let here = append_assoc front (x ∷ []) more in
      let fits_here : Fits meanings first clients (front ++ x ∷ (more ++ rest)) = subst (Fits meanings first clients) (append_assoc front (x ∷ more) rest) fits in
      let one = step_stands others_stay (after_entries first front) x.0.action name before there never.0
      (λ seen plan places at_seen. placed_goes front (more ++ rest) x fits_here name before there seen plan places at_seen) in
      let next : branch_named (after_entries first (front ++ x ∷ [])) name ≡ Some one.after = ap (λ (w : Workspace). branch_named w name) (after_both first front (x ∷ [])) ∙ one.there in
      let others = along (front ++ x ∷ []) more rest name one.after (subst (Fits meanings first clients) (ap (λ (entries : Entries). entries ++ rest) (sym here)) fits) next never.1 in
      record {
        after = others.after;
        there = ap (λ (entries : Entries). branch_named (after_entries first entries) name) (sym here) ∙ others.there;
        plan = goes_further before.plan one.after.plan others.after.plan one.plan others.plan;
      }

  pub goes_on : (front more rest : Entries) (name : List ℕ) (before after : Branch) → Fits meanings first clients (front ++ more ++ rest) →
      branch_named (after_entries first front) name ≡ Some before → branch_named (after_entries first (front ++ more)) name ≡ Some after →
      AllByRecursion (λ (x : Told). x.0.action ≡ Drop name → ⊥) more → GoesOn before.plan after.plan
  goes_on front more rest name before after fits there now never =
      let last = along front more rest name before fits there never in
      subst (λ (branch : Branch). GoesOn before.plan branch.plan) (same_Some last.after after (sym last.there ∙ now)) last.plan
