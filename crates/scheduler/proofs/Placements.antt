-- What holds of no trial, of one, and of one behind others holds of all that is placed for a goal.
use Rattle.std.proofs.Common.{◌≡◌, ℕ, zero, suc, Bool, true, false, List, [], ◌∷◌, ◌++◌, Option, Some, None, refl}
use Rattle.aerie_base.specs.declared.models.model.Parts.{Parts}
use Rattle.aerie_base.specs.declared.plans.Plan.{Plan}
use Rattle.run_data.specs.declared.runs.Run.{Run}
use Rattle.constraints.specs.declared.types.Constraint.{Constraint}
use Rattle.goals.specs.declared.gap.Gap.{Gap}
use Rattle.goals.specs.declared.types.Goal.{Goal}
use Rattle.goals.specs.declared.types.Template.{Template}
use Rattle.goals.specs.declared.unmet.Rejection.{Rejection}
use Rattle.goals.specs.Goals.{first_gap, candidates_of}
use Rattle.scheduler.specs.Trials.{made_with}
use Rattle.scheduler.specs.Scheduling.{GoalPlaced, with_found, with_trial, found_for, after_gap, gaps_filled, all_filled, unless_open, ended, goal_placed}
use Rattle.scheduler.proofs.Placed.{made_at}

-- of a plan, the plan that is made of it, and the ids that were placed on the way
abbrev pub Relation : Type 1
Relation = Plan → Plan → List ℕ → Type 0

pub record IsOfTrials (template : Template) (R : Relation) : Type 0 where
  pub none : (plan : Plan) → R plan plan []
  pub more : (old plan next : Plan) (placed : List ℕ) (time : ℕ) → made_with plan template time ≡ Some next → R old plan placed → R old next (placed ++ plan.next_id ∷ [])

module _ (model : Parts) (constraints : List Constraint) (run_of : Plan → Run) (goal : Goal) (R : Relation) (of : IsOfTrials goal.template R) where
  filled_by : (gaps : ℕ) (before : Plan) (at : GoalPlaced) → R before at.plan at.placed →
      R before (gaps_filled model constraints run_of gaps goal at).plan (gaps_filled model constraints run_of gaps goal at).placed
  filled_by zero before at is = is
  filled_by (suc gaps) before at is = by (first_gap model goal (run_of at.plan)) (λ next. filled_by gaps before next)
    where
      again : GoalPlaced → GoalPlaced
      again = gaps_filled model constraints run_of gaps goal

      found : (gap : Gap) (plan : Option Plan) (last : Option Rejection) (left : ℕ) → ((next : Plan) → plan ≡ Some next → (time : ℕ) × (made_with at.plan goal.template time ≡ Some next)) →
          ((next : GoalPlaced) → R before next.plan next.placed → R before (again next).plan (again next).placed) →
          R before (with_found model constraints run_of again at gap plan last left).plan (with_found model constraints run_of again at gap plan last left).placed
      found gap None last left made further = is
      found gap (Some next) last left made further =
          let trial = made next refl in
          further (with_trial model constraints run_of at next left)
          (of.more before at.plan next at.placed trial.0 trial.1 is)

      by : (gap : Option Gap) → ((next : GoalPlaced) → R before next.plan next.placed → R before (again next).plan (again next).placed) →
          R before (after_gap model constraints run_of again goal at gap).plan (after_gap model constraints run_of again goal at gap).placed
      by None further = is
      by (Some gap) further =
          let search = found_for model constraints run_of goal at gap in
          found gap search.plan search.last search.left (λ next. made_at model constraints run_of goal gap at.plan (candidates_of model goal (run_of at.plan) gap) at.left next) further

  ended_by : (before : Plan) (at : GoalPlaced) → R before at.plan at.placed →
      R before (ended model constraints run_of goal before at).plan (ended model constraints run_of goal before at).placed
  ended_by before at is = by goal.rollback (first_gap model goal (run_of at.plan))
    where
      by : (back : Bool) (gap : Option Gap) →
          R before (unless_open model constraints run_of back before at gap).plan (unless_open model constraints run_of back before at gap).placed
      by true (Some gap) = of.none before
      by true None = is
      by false gap = is

  pub goal_placed_by : (plan : Plan) (left : ℕ) →
      R plan (goal_placed model constraints run_of goal plan left).plan (goal_placed model constraints run_of goal plan left).placed
  goal_placed_by plan left =
      ended_by plan (all_filled model constraints run_of goal (record { plan = plan; placed = []; open_gap = None; left = left }))
      (filled_by (suc left) plan (record { plan = plan; placed = []; open_gap = None; left = left }) (of.none plan))
