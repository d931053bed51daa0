-- An action on one branch in two workspaces.
use Rattle.std.proofs.Common.{◌≡◌, ℕ, List, Option, Some, None, refl, sym, ap, ◌∙◌, subst}
use Rattle.aerie_base.specs.declared.models.model.Parts.{Parts}
use Rattle.aerie_base.specs.models.Names.{same_name}
use Rattle.plan_edit.specs.declared.mappings.Mapping.{Mapping}
use Rattle.hangar_core.specs.declared.actions.Action.{Action}
use Rattle.hangar_core.specs.declared.actions.Action.TheVariants.{New, Fork, Drop, Edit, Migrate, Fetch, Attach, Place}
use Rattle.hangar_core.specs.declared.branches.Branch.{Branch}
use Rattle.hangar_core.specs.declared.workspaces.Workspace.{Workspace}
use Rattle.hangar_core.specs.Workspaces.{Answered, branch_named, on_branch, on_found, with_branch}
use Rattle.hangar_core.specs.Opening.{dropped_branch, dropped_where}
use Rattle.hangar_core.specs.Changing.{Told, attached, fetched, migrated_branch, placed_branch}
use Rattle.hangar_core.specs.Edits.{edited_as, told_of}
use Rattle.hangar_core.specs.Steps.{step}
use Rattle.hangar_core.specs.laws.Isolation.{AreAlikeOn, BranchesAreIsolated, only_branch, OtherBranchesStay}
use Rattle.hangar_core.proofs.Plain.{none_some, some_same}
use Rattle.hangar_core.proofs.Named.{found_passes, put_found, put_other, none_left, others_left}
use Rattle.hangar_core.proofs.Following.{Follows, itself, edited_follows, migrated_follows, attached_follows, placed_follows}

-- what a change makes of a branch, by the models and the mappings
abbrev Maker : Type 0
Maker = List Parts → List Mapping → Branch → Told

abbrev Keeps : Maker → Type 0
Keeps make = (models : List Parts) (mappings : List Mapping) (branch : Branch) → Follows branch (make models mappings branch).1

-- two answers of two workspaces: the same reply, and alike again
record Alike (name : List ℕ) (one other : Answered) : Type 0 where
  reply : one.0 ≡ other.0
  after : AreAlikeOn name one.1 other.1

put_there : (make : Maker) (models : List Parts) (mappings : List Mapping) (workspace : Workspace) (name : List ℕ) → Keeps make →
    (now : Branch) → branch_named workspace name ≡ Some now →
    branch_named (with_branch workspace name (make models mappings now).1) name ≡ Some (make models mappings now).1
put_there make models mappings workspace name keeps now e =
    put_found name (make models mappings now).1
    (ap (λ n. same_name n name) (keeps models mappings now).name ∙ found_passes name workspace.branches now e) workspace.branches now e

made_alike : (make : Maker) → Keeps make → (name : List ℕ) (w v : Workspace) → AreAlikeOn name w v →
    Alike name (on_branch w name (make w.models w.mappings)) (on_branch v name (make v.models v.mappings))
made_alike make keeps name w v alike = go (branch_named w name) refl (sym alike.branch)
  where
    same : (now : Branch) → make w.models w.mappings now ≡ make v.models v.mappings now
    same now = ap (λ models. make models w.mappings now) alike.models ∙ ap (λ mappings. make v.models mappings now) alike.mappings

    go : (found : Option Branch) → branch_named w name ≡ found → branch_named v name ≡ branch_named w name →
        Alike name (on_branch w name (make w.models w.mappings)) (on_branch v name (make v.models v.mappings))
    go None e f = rw (f, e) record { reply = refl; after = alike }
    go (Some now) e f = rw (f, e) record {
      reply = ap (λ (told : Told). told.0) (same now);
      after = record {
        models = alike.models;
        mappings = alike.mappings;
        branch = put_there make w.models w.mappings w name keeps now e
            ∙ ap (λ (told : Told). Some told.1) (same now)
            ∙ sym (put_there make v.models v.mappings v name keeps now (f ∙ e));
      };
    }

dropped_alike : (name : List ℕ) (w v : Workspace) → AreAlikeOn name w v → Alike name (dropped_branch w name) (dropped_branch v name)
dropped_alike name w v alike = go (branch_named w name) refl (sym alike.branch)
  where
    go : (found : Option Branch) → branch_named w name ≡ found → branch_named v name ≡ branch_named w name →
        Alike name (dropped_branch w name) (dropped_branch v name)
    go None e f = rw (f, e) record { reply = refl; after = alike }
    go (Some now) e f = rw (f, e) record {
      reply = refl;
      after = record {
        models = alike.models;
        mappings = alike.mappings;
        branch = none_left name w.branches ∙ sym (none_left name v.branches);
      };
    }

-- ---- every action

abbrev StepsAlike : List ℕ → Action → Workspace → Workspace → Type 0
StepsAlike name action w v = Alike name (step w action) (step v action)

on_own : (action : Action) (branch name : List ℕ) (w v : Workspace) → Some branch ≡ Some name →
    (AreAlikeOn branch w v → StepsAlike branch action w v) → AreAlikeOn name w v → StepsAlike name action w v
on_own action branch name w v e go alike =
    let k : branch ≡ name = some_same (Some branch) branch name refl e in
    subst (λ n. StepsAlike n action w v) k (go (subst (λ n. AreAlikeOn n w v) (sym k) alike))

steps_alike : (action : Action) (name : List ℕ) (w v : Workspace) → only_branch action ≡ Some name → AreAlikeOn name w v → StepsAlike name action w v
unfolding step
steps_alike (New branch) name w v e alike = absurd (none_some _ name refl e)
steps_alike (Fork branch source) name w v e alike = absurd (none_some _ name refl e)
steps_alike (Drop branch) name w v e alike = on_own (Drop branch) branch name w v e (dropped_alike branch w v) alike
steps_alike (Edit branch edit) name w v e alike =
    on_own (Edit branch edit) branch name w v e
    (made_alike (λ models mappings. edited_as models edit) (λ models mappings. edited_follows models _ (told_of edit)) branch w v) alike
steps_alike (Migrate branch model) name w v e alike =
    on_own (Migrate branch model) branch name w v e
    (made_alike (λ models mappings. migrated_branch models mappings model) (λ models mappings. migrated_follows models mappings model) branch w v) alike
steps_alike (Fetch branch) name w v e alike =
    on_own (Fetch branch) branch name w v e (made_alike (λ models mappings. fetched) (λ models mappings. itself) branch w v) alike
steps_alike (Attach branch kept) name w v e alike =
    on_own (Attach branch kept) branch name w v e (made_alike (λ models mappings. attached kept) (λ models mappings. attached_follows kept) branch w v) alike
steps_alike (Place branch seen plan) name w v e alike =
    on_own (Place branch seen plan) branch name w v e (made_alike (λ models mappings. placed_branch seen plan) (λ models mappings. placed_follows seen plan) branch w v) alike

pub isolated : BranchesAreIsolated
isolated action name w v e alike =
    let told = steps_alike action name w v e alike in
    record { reply = told.reply; after = told.after }

-- ---- the other branches

made_others : (change : Branch → Told) → ((branch : Branch) → Follows branch (change branch).1) → (name another : List ℕ) → (name ≡ another → ⊥) →
    (w : Workspace) → branch_named (on_branch w name change).1 another ≡ branch_named w another
made_others change follows name another n w = go (branch_named w name) refl
  where
    go : (found : Option Branch) → branch_named w name ≡ found → branch_named (on_found w name change found).1 another ≡ branch_named w another
    go None e = refl
    go (Some now) e =
        put_other name another n (change now).1
        (ap (λ m. same_name m name) (follows now).name ∙ found_passes name w.branches now e) w.branches

dropped_others : (name another : List ℕ) → (name ≡ another → ⊥) → (w : Workspace) → branch_named (dropped_branch w name).1 another ≡ branch_named w another
dropped_others name another n w = go (branch_named w name)
  where
    go : (found : Option Branch) → branch_named (dropped_where w name found).1 another ≡ branch_named w another
    go None = refl
    go (Some now) = others_left name another n w.branches

apart_too : (branch name another : List ℕ) → Some branch ≡ Some name → (name ≡ another → ⊥) → branch ≡ another → ⊥
apart_too branch name another e n k = n (sym (some_same (Some branch) branch name refl e) ∙ k)

pub others_stay : OtherBranchesStay
unfolding step
others_stay (New branch) name another w e n = absurd (none_some _ name refl e)
others_stay (Fork branch source) name another w e n = absurd (none_some _ name refl e)
others_stay (Drop branch) name another w e n = dropped_others branch another (apart_too branch name another e n) w
others_stay (Edit branch edit) name another w e n = made_others _ (edited_follows w.models _ (told_of edit)) branch another (apart_too branch name another e n) w
others_stay (Migrate branch model) name another w e n = made_others _ (migrated_follows w.models w.mappings model) branch another (apart_too branch name another e n) w
others_stay (Fetch branch) name another w e n = made_others fetched itself branch another (apart_too branch name another e n) w
others_stay (Attach branch kept) name another w e n = made_others (attached kept) (attached_follows kept) branch another (apart_too branch name another e n) w
others_stay (Place branch seen plan) name another w e n = made_others (placed_branch seen plan) (placed_follows seen plan) branch another (apart_too branch name another e n) w
