-- All goals: as many lists of ids as goals, and the schedule that comes of them.
use Rattle.std.proofs.Common.{◌≡◌, ℕ, suc, ◌-◌, ◌≤◌, ◌<◌, Bool, true, false, IsTrue, List, [], ◌∷◌, length, drop, get_or, refl, sym, ap, ◌∙◌, arith, append-nil}
use Rattle.std.specs.List.{list_all}
use Rattle.std.proofs.lemmas.Bool.{false≢true}
use Rattle.std.proofs.lemmas.List.{drop_all}
use Rattle.std.proofs.lemmas.List.Folds.{list_all_at}
use Rattle.aerie_base.specs.declared.models.model.Parts.{Parts}
use Rattle.aerie_base.specs.declared.plans.Plan.{Plan}
use Rattle.run_data.specs.declared.runs.Run.{Run}
use Rattle.constraints.specs.declared.types.Constraint.{Constraint}
use Rattle.goals.specs.declared.types.Goal.{Goal}
use Rattle.scheduler.specs.declared.progress.GoalProgress.{GoalProgress}
use Rattle.scheduler.specs.FreshRuns.{fresh_run}
use Rattle.scheduler.specs.Scheduling.{GoalsPlaced, goal_placed, goals_placed, statuses_on, with_statuses, trial_limit, schedule_of}
use Rattle.scheduler.specs.InProgram.{IsKeptOf, all_shown, placed_behind, schedule_after}
use Rattle.scheduler.proofs.GoalIterations.{run_is}

-- one of those that all are
pub one_of_all : {X : Type 0} (p : X → Bool) (xs : List X) (i : ℕ) (d : X) → i < length xs → IsTrue (list_all p xs) → IsTrue (p (get_or xs i d))
one_of_all p xs i d below all = go (p (get_or xs i d)) refl
  where
    go : (b : Bool) → p (get_or xs i d) ≡ b → IsTrue b
    go true e = refl
    go false e = absurd (false≢true (sym (list_all_at p xs i d below e) ∙ all))

module _ (model : Parts) (constraints : List Constraint) (run_of : Plan → Run) where
  abbrev all_of : List Goal → Plan → ℕ → GoalsPlaced
  all_of goals plan left = goals_placed model constraints run_of goals plan left

  pub as_many : (goals : List Goal) (plan : Plan) (left : ℕ) → length (all_of goals plan left).parts ≡ length goals
  as_many [] plan left = refl
  as_many (goal ∷ rest) plan left =
      let at = goal_placed model constraints run_of goal plan left in ap suc (as_many rest at.plan at.left)

  -- where no goal is left, all is placed
  pub none_more : (goals : List Goal) (at : ℕ) (all : GoalsPlaced) → length goals ≤ at → placed_behind all.parts (all_of (drop at goals) all.plan all.left) ≡ all
  none_more goals at all past =
      ap (λ (rest : List Goal). placed_behind all.parts (all_of rest all.plan all.left)) (drop_all at goals past)
      ∙ (λ i. record { plan = all.plan; parts = append-nil all.parts i; left = all.left })

-- ---- the schedule

module _ (model : Parts) (bound : ℕ) (constraints : List Constraint) where
  pub scheduled_is : (goals : List Goal) (plan : Plan) (progress : GoalProgress) → IsKeptOf model bound progress.kept →
      all_shown progress ≡ goals_placed model constraints (fresh_run model bound) goals plan trial_limit →
      schedule_after model goals progress ≡ schedule_of model bound constraints goals plan
  unfolding schedule_of
  scheduled_is goals plan progress kept e =
      ap (λ (run : Run). record {
        plan = progress.kept.run.plan;
        goals = statuses_on model run goals progress.parts;
        trials = trial_limit - progress.left;
      }) (run_is model bound progress.kept kept)
      ∙ ap (λ (all : GoalsPlaced). with_statuses model constraints (fresh_run model bound) goals all) e

  nothing_placed : (plan : Plan) → record { plan = plan; goals = []; trials = 0 } ≡ schedule_of model bound constraints [] plan
  unfolding schedule_of
  nothing_placed plan = refl

  empty_is : (goals : List Goal) → length goals ≡ 0 → goals ≡ []
  empty_is [] e = refl
  empty_is (goal ∷ rest) e = absurd (omega (arith, e))

  pub without_goals : (goals : List Goal) (plan : Plan) → length goals ≡ 0 → record { plan = plan; goals = []; trials = 0 } ≡ schedule_of model bound constraints goals plan
  without_goals goals plan e = nothing_placed plan ∙ ap (λ (goals : List Goal). schedule_of model bound constraints goals plan) (sym (empty_is goals e))
