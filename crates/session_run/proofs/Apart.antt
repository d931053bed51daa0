-- Two workspaces that are alike on a branch stay so while actions on other branches are done in one of them.
use Rattle.std.proofs.Common.{◌≡◌, ℕ, Bool, true, false, List, [], ◌∷◌, ◌++◌, Option, Some, None, refl, sym, ap, ◌∙◌, subst, true≢false, if◌then◌else◌}
use Rattle.std.specs.List.{AllByRecursion}
use Rattle.std.specs.Cmp.Lexicographic.{bytes_decides}
use Rattle.aerie_base.specs.models.Names.{same_name}
use Rattle.hangar_core.specs.declared.actions.Action.{Action}
use Rattle.hangar_core.specs.declared.actions.Action.TheVariants.{New, Fork, Drop, Edit, Migrate, Fetch, Attach, Place}
use Rattle.hangar_core.specs.declared.branches.Branch.{Branch}
use Rattle.hangar_core.specs.declared.replies.Reply.{Reply}
use Rattle.hangar_core.specs.declared.workspaces.Workspace.{Workspace}
use Rattle.hangar_core.specs.Journals.{after_entries, Entries, IsReplay}
use Rattle.hangar_core.specs.laws.Isolation.{AreAlikeOn, BranchesAreIsolated, only_branch, OtherBranchesStay}
use Rattle.hangar_core.specs.Opening.{dropped_where}
use Rattle.hangar_core.specs.Steps.{step}
use Rattle.hangar_core.specs.Workspaces.{Answered, branch_named, on_found}
use Rattle.report_text.specs.declared.answers.Answer.TheVariants as answer
use Rattle.client_work.specs.Meanings.{ruled_by, simulated}
use Rattle.session_run.specs.laws.BranchesApart.{BranchesStandApart, entries_on, is_branch, IsOnOneBranch, ReportsTellOfPlans}
use Rattle.session_run.proofs.Replayed.{replay_behind, replay_front}

-- ---- models and mappings stay

record HasKept (w : Workspace) (answered : Answered) : Type 0 where
  models : answered.1.models ≡ w.models
  mappings : answered.1.mappings ≡ w.mappings

found_keeps : (w : Workspace) (name : List ℕ) (change : Branch → Reply × Branch) (found : Option Branch) → HasKept w (on_found w name change found)
found_keeps w name change None = record { models = refl; mappings = refl }
found_keeps w name change (Some branch) = record { models = refl; mappings = refl }

dropped_keeps : (w : Workspace) (name : List ℕ) (found : Option Branch) → HasKept w (dropped_where w name found)
dropped_keeps w name None = record { models = refl; mappings = refl }
dropped_keeps w name (Some branch) = record { models = refl; mappings = refl }

no_branch : (name : List ℕ) → None ≡ Some name → ⊥
no_branch name e = cc

step_keeps : (action : Action) (name : List ℕ) (w : Workspace) → only_branch action ≡ Some name → HasKept w (step w action)
unfolding step
step_keeps (New branch) name w e = absurd (no_branch name e)
step_keeps (Fork branch source) name w e = absurd (no_branch name e)
step_keeps (Drop branch) name w e = dropped_keeps w branch (branch_named w branch)
step_keeps (Edit branch edit) name w e = found_keeps w branch _ (branch_named w branch)
step_keeps (Migrate branch model) name w e = found_keeps w branch _ (branch_named w branch)
step_keeps (Fetch branch) name w e = found_keeps w branch _ (branch_named w branch)
step_keeps (Attach branch kept) name w e = found_keeps w branch _ (branch_named w branch)
step_keeps (Place branch seen plan) name w e = found_keeps w branch _ (branch_named w branch)

-- ---- on another branch, and on this one

module _ (alike : BranchesAreIsolated) (others : OtherBranchesStay) (name : List ℕ) where
  elsewhere : (action : Action) (branch : List ℕ) (w v : Workspace) → only_branch action ≡ Some branch → (branch ≡ name → ⊥) → AreAlikeOn name w v → AreAlikeOn name (step w action).1 v
  elsewhere action branch w v on apart are =
      let kept : HasKept w (step w action) = step_keeps action branch w on in
      record {
        models = kept.models ∙ are.models;
        mappings = kept.mappings ∙ are.mappings;
        branch = others action branch name w on apart ∙ are.branch;
      }

  -- behind two workspaces that are alike
  apart_behind : (later : Entries) (w v : Workspace) → AllByRecursion IsOnOneBranch later → AreAlikeOn name w v → IsReplay w later → IsReplay v (entries_on name later)
  apart_behind [] w v all are replay = tt
  apart_behind (x ∷ later) w v all are replay = go (same_name all.0.0 name) refl (λ u still. apart_behind later (step w x.0.action).1 u all.1 still replay.1)
    where
      branch : List ℕ
      branch = all.0.0

      -- by whether the entry is on the branch
      go : (same : Bool) → same_name branch name ≡ same → ((u : Workspace) → AreAlikeOn name (step w x.0.action).1 u → IsReplay u (entries_on name later)) →
          IsReplay v (entries_on name (x ∷ later))
      go true e rest =
          let on : only_branch x.0.action ≡ Some name = all.0.1 ∙ ap Some ((bytes_decides branch name).0 e) in
          let acts = alike x.0.action name w v on are in
          subst (λ (o : Option (List ℕ)). IsReplay v (if is_branch name o then x ∷ entries_on name later else entries_on name later)) (sym all.0.1)
          (rw e (replay.0 ∙ acts.reply, rest (step v x.0.action).1 acts.after))
      go false e rest =
          let apart : branch ≡ name → ⊥ = λ is. true≢false (sym ((bytes_decides branch name).1 is) ∙ e) in
          subst (λ (o : Option (List ℕ)). IsReplay v (if is_branch name o then x ∷ entries_on name later else entries_on name later)) (sym all.0.1)
          (rw e (rest v (elsewhere x.0.action branch w v all.0.1 apart are)))

replay_both : (w : Workspace) (front later : Entries) → IsReplay w front → IsReplay (after_entries w front) later → IsReplay w (front ++ later)
replay_both w [] later one two = two
replay_both w (x ∷ front) later one two = (one.0, replay_both (step w x.0.action).1 front later one.1 two)

pub stand_apart : BranchesAreIsolated → OtherBranchesStay → BranchesStandApart
stand_apart alike others first front later name all replay =
    replay_both first front (entries_on name later) (replay_front first front later replay)
    (apart_behind alike others name later (after_entries first front) (after_entries first front) all
    (record { models = refl; mappings = refl; branch = refl }) (replay_behind first front later replay))

pub reports_tell : ReportsTellOfPlans
reports_tell mission count branch another revision plan kept other attach attach' same =
    ap (λ (attached : Bool). answer.Report (record {
      start = mission.start;
      run = simulated mission.models mission.bound plan;
      constraints = (ruled_by mission.models plan).constraints;
      revision = revision;
      attached = attached;
      statements = count;
      detail = mission.form.detail;
    })) same
