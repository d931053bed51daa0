-- Where a goal comes from some place does not depend on how many gaps are allowed for, once they are more than the trials
-- that are left.
use Rattle.std.proofs.Common.{◌≡◌, ℕ, zero, suc, ◌<◌, List, Option, Some, None, refl, ap, ◌∙◌, arith}
use Rattle.aerie_base.specs.declared.models.model.Parts.{Parts}
use Rattle.aerie_base.specs.declared.plans.Plan.{Plan}
use Rattle.run_data.specs.declared.runs.Run.{Run}
use Rattle.constraints.specs.declared.types.Constraint.{Constraint}
use Rattle.goals.specs.declared.gap.Gap.{Gap}
use Rattle.goals.specs.declared.types.Goal.{Goal}
use Rattle.goals.specs.declared.unmet.Rejection.{Rejection}
use Rattle.goals.specs.Goals.{first_gap, candidates_of}
use Rattle.scheduler.specs.Scheduling.{GoalPlaced, left_open, with_found, with_trial, found_for, after_gap, gaps_filled, all_filled}
use Rattle.scheduler.proofs.Verdicts.{took_one}

module _ (model : Parts) (constraints : List Constraint) (run_of : Plan → Run) (goal : Goal) where
  abbrev filled_with : ℕ → GoalPlaced → GoalPlaced
  filled_with gaps at = gaps_filled model constraints run_of gaps goal at

  abbrev searched : (GoalPlaced → GoalPlaced) → GoalPlaced → Gap → Option Plan → Option Rejection → ℕ → GoalPlaced
  searched again at gap found last left = with_found model constraints run_of again at gap found last left

  abbrev gone_on : (GoalPlaced → GoalPlaced) → GoalPlaced → Option Gap → GoalPlaced
  gone_on again at gap = after_gap model constraints run_of again goal at gap

  pub found_took : (at : GoalPlaced) (gap : Gap) (plan : Plan) → (found_for model constraints run_of goal at gap).plan ≡ Some plan →
      (found_for model constraints run_of goal at gap).left < at.left
  found_took at gap plan e =
      took_one model constraints run_of goal gap at.plan (candidates_of model goal (run_of at.plan) gap) at.left plan e

  pub enough : (gaps others : ℕ) (at : GoalPlaced) → at.left < gaps → at.left < others → filled_with gaps at ≡ filled_with others at
  enough zero others at less more = absurd (omega (arith, less))
  enough (suc gaps) zero at less more = absurd (omega (arith, more))
  enough (suc gaps) (suc others) at less more = by (first_gap model goal (run_of at.plan)) (enough gaps others)
    where
      further : (gap : Gap) (found : Option Plan) (last : Option Rejection) (left : ℕ) → ((plan : Plan) → found ≡ Some plan → left < at.left) →
          ((next : GoalPlaced) → next.left < gaps → next.left < others → filled_with gaps next ≡ filled_with others next) →
          searched (filled_with gaps) at gap found last left ≡ searched (filled_with others) at gap found last left
      further gap None last left took same = refl
      further gap (Some plan) last left took same =
          let one : left < at.left = took plan refl in
          same (with_trial model constraints run_of at plan left) (omega (arith, one, less)) (omega (arith, one, more))

      by : (gap : Option Gap) → ((next : GoalPlaced) → next.left < gaps → next.left < others → filled_with gaps next ≡ filled_with others next) →
          gone_on (filled_with gaps) at gap ≡ gone_on (filled_with others) at gap
      by None same = refl
      by (Some gap) same = let found = found_for model constraints run_of goal at gap in further gap found.plan found.last found.left (found_took at gap) same

  -- ---- by the first gap

  -- where nothing is found the goal ends with the gap open
  pub none_found : (at : GoalPlaced) (gap : Gap) → first_gap model goal (run_of at.plan) ≡ Some gap →
      (found_for model constraints run_of goal at gap).plan ≡ None →
      all_filled model constraints run_of goal at
      ≡ left_open model constraints run_of at gap (found_for model constraints run_of goal at gap).last (found_for model constraints run_of goal at gap).left
  none_found at gap some none =
      ap (gone_on (filled_with at.left) at) some
      ∙ ap (λ (found : Option Plan). searched (filled_with at.left) at gap found (found_for model constraints run_of goal at gap).last
      (found_for model constraints run_of goal at gap).left) none

  -- where a plan is found, it goes on there
  pub one_found : (at : GoalPlaced) (gap : Gap) (plan : Plan) → first_gap model goal (run_of at.plan) ≡ Some gap →
      (found_for model constraints run_of goal at gap).plan ≡ Some plan →
      all_filled model constraints run_of goal at
      ≡ all_filled model constraints run_of goal
      (with_trial model constraints run_of at plan (found_for model constraints run_of goal at gap).left)
  one_found at gap plan some is =
      let left : ℕ = (found_for model constraints run_of goal at gap).left in
      let last : Option Rejection = (found_for model constraints run_of goal at gap).last in
      ap (gone_on (filled_with at.left) at) some
      ∙ ap (λ (found : Option Plan). searched (filled_with at.left) at gap found last left) is
      ∙ enough at.left (suc left) (with_trial model constraints run_of at plan left) (found_took at gap plan is) (omega arith)
