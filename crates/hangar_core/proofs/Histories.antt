-- Names, revisions and plans along a list of actions.
use Rattle.std.proofs.Common.{◌≡◌, ℕ, ◌+◌, ◌<◌, ◌≤◌, Bool, true, false, List, [], ◌∷◌, length, Option, Some, None, is_some, refl, sym, ap, ◌∙◌, subst, true≢false, arith}
use Rattle.std.specs.Prelude.{if◌then◌else◌, nat_lt}
use Rattle.aerie_base.specs.declared.plans.Plan.{Plan}
use Rattle.aerie_base.specs.models.Names.{same_name}
use Rattle.commands.specs.SessionModels.{empty_plan}
use Rattle.run_data.specs.KeptRuns.{KeptRun}
use Rattle.hangar_core.specs.declared.actions.Action.{Action}
use Rattle.hangar_core.specs.declared.actions.Action.TheVariants.{New, Fork, Drop, Edit, Migrate, Fetch, Attach, Place}
use Rattle.hangar_core.specs.declared.branches.Branch.{Branch}
use Rattle.hangar_core.specs.declared.replies.Reply.{Reply}
use Rattle.hangar_core.specs.declared.replies.Reply.TheVariants.{BranchExists, TooManyBranches}
use Rattle.hangar_core.specs.declared.workspaces.Workspace.{Workspace}
use Rattle.hangar_core.specs.Workspaces.{branch_limit, branch_named, has_name, on_branch, on_found, with_branch}
use Rattle.hangar_core.specs.Opening.{LastRevisions, dropped_branch, dropped_where, first_revision, forked_from, opened, opened_branch, opened_unless, refusal_to_open, remembered, revision_after, without_branch}
use Rattle.hangar_core.specs.Changing.{Told, attached, fetched, placed_branch}
use Rattle.hangar_core.specs.Edits.{told_of}
use Rattle.hangar_core.specs.Steps.{step, after_actions}
use Rattle.hangar_core.specs.laws.Histories.{Meets, RevisionsNeverFall, RevisionsNamePlans}
use Rattle.hangar_core.proofs.Plain.{none_some}
use Rattle.hangar_core.proofs.Named.{same_when, name_is, apart_when, found_passes, put_found, put_other, last_found, front_found, none_left, others_left}
use Rattle.hangar_core.proofs.Lasts.{last_of_own, last_of_other}
use Rattle.hangar_core.proofs.Following.{Follows, itself, edited_follows, migrated_follows, attached_follows, placed_follows}

-- the branch of a name is at this revision with this plan, or past it, or was dropped at it or later
abbrev pub PastOf : Branch → LastRevisions → List ℕ → Option Branch → Type 0
PastOf before dropped name None = before.revision < first_revision dropped name
PastOf before dropped name (Some now) = (before.revision ≤ now.revision) × (before.revision ≡ now.revision → before.plan ≡ now.plan)

abbrev pub IsPast : Branch → List ℕ → Workspace → Type 0
IsPast before name workspace = PastOf before workspace.dropped name (branch_named workspace name)

-- two names are one or are not
data Compared (name another : List ℕ) : Type 0 where
  one : name ≡ another → Compared name another
  two : (name ≡ another → ⊥) → Compared name another

compared : (name another : List ℕ) → Compared name another
compared name another = go (same_name name another) refl
  where
    go : (r : Bool) → same_name name another ≡ r → Compared name another
    go true e = one (name_is name another e)
    go false e = two (λ k. true≢false (sym (same_when name another k) ∙ e))

-- ---- a change of a branch

past_on : (before now after : Branch) → (before.revision ≤ now.revision) × (before.revision ≡ now.revision → before.plan ≡ now.plan) →
    Follows now after → (before.revision ≤ after.revision) × (before.revision ≡ after.revision → before.plan ≡ after.plan)
past_on before now after h f =
    (omega (arith, h.0, f.rises), λ e. h.1 (omega (arith, h.0, f.rises, e)) ∙ f.plan (omega (arith, h.0, f.rises, e)))

changed_past : (before : Branch) (name : List ℕ) (workspace : Workspace) (on : List ℕ) (change : Branch → Told) →
    ((branch : Branch) → Follows branch (change branch).1) → IsPast before name workspace → IsPast before name (on_branch workspace on change).1
changed_past before name workspace on change follows h = go (branch_named workspace on) refl (compared on name)
  where
    go : (found : Option Branch) → branch_named workspace on ≡ found → Compared on name → IsPast before name (on_found workspace on change found).1
    go None e c = h
    go (Some now) e (one k) =
        let now_there : branch_named workspace name ≡ Some now = subst (λ n. branch_named workspace n ≡ Some now) k e in
        let passes : has_name on (change now).1 ≡ true =
        ap (λ n. same_name n on) (follows now).name ∙ found_passes on workspace.branches now e in
        let after_there : branch_named (with_branch workspace on (change now).1) name ≡ Some (change now).1 =
        subst (λ n. branch_named (with_branch workspace on (change now).1) n ≡ Some (change now).1) k
        (put_found on (change now).1 passes workspace.branches now e) in
        subst (PastOf before workspace.dropped name) (sym after_there)
        (past_on before now (change now).1 (subst (PastOf before workspace.dropped name) now_there h) (follows now))
    go (Some now) e (two n) =
        let passes : has_name on (change now).1 ≡ true =
        ap (λ n. same_name n on) (follows now).name ∙ found_passes on workspace.branches now e in
        subst (PastOf before workspace.dropped name) (sym (put_other on name n (change now).1 passes workspace.branches)) h

-- ---- a branch begins

pub free_name : (workspace : Workspace) (name : List ℕ) → refusal_to_open workspace name ≡ None → branch_named workspace name ≡ None
free_name workspace name e = go (branch_named workspace name) refl
  where
    go : (found : Option Branch) → branch_named workspace name ≡ found → branch_named workspace name ≡ None
    go None h = h
    go (Some branch) h = absurd (none_some (refusal_to_open workspace name) BranchExists e
        (ap (λ (o : Option Branch). if is_some o then Some BranchExists
        else if nat_lt (length workspace.branches) branch_limit then None else Some TooManyBranches) h))

opened_past : (before : Branch) (name : List ℕ) (workspace : Workspace) (on : List ℕ) (plan : Plan) (kept : Option KeptRun) →
    IsPast before name workspace → IsPast before name (opened workspace on plan kept).1
opened_past before name workspace on plan kept h = go (refusal_to_open workspace on) refl (compared on name)
  where
    go : (refusal : Option Reply) → refusal_to_open workspace on ≡ refusal → Compared on name →
        IsPast before name (opened_unless workspace on plan kept refusal).1
    go (Some refusal) e c = h
    go None e (one k) =
        let free : branch_named workspace on ≡ None = free_name workspace on e in
        let there = subst (λ n. branch_named (opened_unless workspace on plan kept None).1 n ≡ Some (opened_branch workspace on plan kept)) k
        (last_found on workspace.branches (opened_branch workspace on plan kept) free (same_when on on refl)) in
        let past : before.revision < first_revision workspace.dropped name =
        subst (PastOf before workspace.dropped name) (subst (λ n. branch_named workspace n ≡ None) k free) h in
        let own : first_revision workspace.dropped on ≡ first_revision workspace.dropped name = ap (first_revision workspace.dropped) k in
        subst (PastOf before workspace.dropped name) (sym there)
        (omega (arith, past, own), λ same. absurd (omega (arith, past, own, same)))
    go None e (two n) =
        subst (PastOf before workspace.dropped name)
        (sym (front_found name workspace.branches (opened_branch workspace on plan kept) (apart_when on name n))) h

forked_past : (before : Branch) (name : List ℕ) (workspace : Workspace) (on : List ℕ) (source : Option Branch) →
    IsPast before name workspace → IsPast before name (forked_from workspace on source).1
forked_past before name workspace on None h = h
forked_past before name workspace on (Some source) h = opened_past before name workspace on source.plan source.kept h

-- ---- a branch ends

still_past : (before : Branch) (old new : LastRevisions) (name : List ℕ) (found : Option Branch) →
    first_revision new name ≡ first_revision old name → PastOf before old name found → PastOf before new name found
still_past before old new name None e p = subst (λ (r : ℕ). before.revision < r) (sym e) p
still_past before old new name (Some now) e p = p

dropped_past : (before : Branch) (name : List ℕ) (workspace : Workspace) (on : List ℕ) →
    IsPast before name workspace → IsPast before name (dropped_branch workspace on).1
dropped_past before name workspace on h = go (branch_named workspace on) refl (compared on name)
  where
    go : (found : Option Branch) → branch_named workspace on ≡ found → Compared on name → IsPast before name (dropped_where workspace on found).1
    go None e c = h
    go (Some now) e (one k) =
        let gone : branch_named (without_branch workspace on now.revision) name ≡ None =
        subst (λ n. branch_named (without_branch workspace on now.revision) n ≡ None) k (none_left on workspace.branches) in
        let past = subst (PastOf before workspace.dropped name) (subst (λ n. branch_named workspace n ≡ Some now) k e) h in
        let first : first_revision (remembered workspace.dropped on now.revision) name ≡ now.revision + 1 =
        subst (λ n. first_revision (remembered workspace.dropped on now.revision) n ≡ now.revision + 1) k
        (ap revision_after (last_of_own on now.revision workspace.dropped)) in
        subst (PastOf before (remembered workspace.dropped on now.revision) name) (sym gone) (omega (arith, past.0, first))
    go (Some now) e (two n) =
        let still = others_left on name n workspace.branches in
        let first : first_revision (remembered workspace.dropped on now.revision) name ≡ first_revision workspace.dropped name =
        ap revision_after (last_of_other name on n now.revision workspace.dropped) in
        subst (PastOf before (remembered workspace.dropped on now.revision) name) (sym still)
        (still_past before workspace.dropped (remembered workspace.dropped on now.revision) name (branch_named workspace name) first h)

-- ---- every action

pub step_past : (before : Branch) (name : List ℕ) (workspace : Workspace) (action : Action) →
    IsPast before name workspace → IsPast before name (step workspace action).1
unfolding step
step_past before name w (New branch) h = opened_past before name w branch (empty_plan w.duration) None h
step_past before name w (Fork branch source) h = forked_past before name w branch (branch_named w source) h
step_past before name w (Drop branch) h = dropped_past before name w branch h
step_past before name w (Edit branch edit) h = changed_past before name w branch _ (edited_follows w.models _ (told_of edit)) h
step_past before name w (Migrate branch model) h = changed_past before name w branch _ (migrated_follows w.models w.mappings model) h
step_past before name w (Fetch branch) h = changed_past before name w branch fetched itself h
step_past before name w (Attach branch kept) h = changed_past before name w branch (attached kept) (attached_follows kept) h
step_past before name w (Place branch seen plan) h = changed_past before name w branch (placed_branch seen plan) (placed_follows seen plan) h

actions_past : (before : Branch) (name : List ℕ) (workspace : Workspace) (actions : List Action) →
    IsPast before name workspace → IsPast before name (after_actions workspace actions)
actions_past before name workspace [] h = h
actions_past before name workspace (action ∷ actions) h =
    actions_past before name (step workspace action).1 actions (step_past before name workspace action h)

meeting : (workspace : Workspace) (name : List ℕ) (actions : List Action) (before after : Branch) → Meets workspace name actions before after →
    (before.revision ≤ after.revision) × (before.revision ≡ after.revision → before.plan ≡ after.plan)
meeting workspace name actions before after m =
    let begins : IsPast before name workspace =
    subst (PastOf before workspace.dropped name) (sym m.now) (omega arith, λ e. refl) in
    subst (PastOf before (after_actions workspace actions).dropped name) m.then (actions_past before name workspace actions begins)

pub never_fall : RevisionsNeverFall
never_fall workspace name actions before after m = (meeting workspace name actions before after m).0

pub name_plans : RevisionsNamePlans
name_plans workspace name actions before after m e = (meeting workspace name actions before after m).1 e
