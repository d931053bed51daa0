-- One iteration of a goal in the program, as the definitions have it.
use Rattle.std.proofs.Common.{◌≡◌, ℕ, suc, ◌<◌, Bool, true, [], ◌∷◌, ◌++◌, Option, Some, None, refl, sym, ap, ◌∙◌, subst, arith}
use Rattle.aerie_base.specs.declared.models.model.Parts.{Parts}
use Rattle.aerie_base.specs.declared.plans.Plan.{Plan}
use Rattle.aerie_base.specs.plans.OfModel.{IsPlanOf}
use Rattle.run_data.specs.KeptRuns.{KeptRun}
use Rattle.goals.specs.declared.gap.Gap.{Gap}
use Rattle.goals.specs.Goals.{first_gap, candidates_of}
use Rattle.scheduler.specs.declared.placing.Placing as held
use Rattle.scheduler.specs.declared.requests.GoalRequest.{GoalRequest}
use Rattle.scheduler.specs.declared.searching.Search.{Search}
use Rattle.scheduler.specs.FreshRuns.{fresh_run, kept_run}
use Rattle.scheduler.specs.Trials.{Found}
use Rattle.scheduler.specs.Scheduling.{all_filled}
use Rattle.scheduler.specs.InProgram.{IsRequest, IsKeptOf, searched_of, shown, search_for, placed_after, goal_filled, filled_if, most_gaps_if, most_gaps_left}
use Rattle.scheduler.proofs.Filling.{none_found, one_found, found_took}
use Rattle.scheduler.proofs.MadePlans.{made_of_model}
use Rattle.scheduler.proofs.Placed.{made_at}
use Rattle.scheduler.proofs.Templates.{template_of}

-- the runs of plans are of these plans
abbrev pub RunsAreOfPlans : Parts → ℕ → Type 0
RunsAreOfPlans model bound = (plan : Plan) → (fresh_run model bound plan).plan ≡ plan

pub run_is : (model : Parts) (bound : ℕ) (kept : KeptRun) → IsKeptOf model bound kept → kept.run ≡ fresh_run model bound kept.run.plan
run_is model bound kept of = ap (λ (k : KeptRun). k.run) of.is

-- the kept run of a plan of the model
pub kept_of_plan : (model : Parts) (bound : ℕ) (plan : Plan) → RunsAreOfPlans model bound → IsPlanOf model plan → IsKeptOf model bound (kept_run model bound plan)
kept_of_plan model bound plan of is = record {
  is = ap (λ (p : Plan). kept_run model bound p) (sym (of plan));
  plan = subst (IsPlanOf model) (sym (of plan)) is;
}

module _ (bound : ℕ) (request : GoalRequest) (placing : held.Placing) (kept : IsKeptOf request.model.now bound placing.kept) where
  module _ (goes_on : placing.goes_on ≡ true) where
    -- where the goal comes from here, as a goal that goes on
    goes : goal_filled bound request placing ≡ all_filled request.model.now request.constraints.now (fresh_run request.model.now bound) request.goal.now (shown placing)
    goes = ap (filled_if bound request (shown placing)) goes_on

    gap_on : (gap : Option Gap) → first_gap request.model.now request.goal.now placing.kept.run ≡ gap →
        first_gap request.model.now request.goal.now (fresh_run request.model.now bound placing.kept.run.plan) ≡ gap
    gap_on gap e = ap (first_gap request.model.now request.goal.now) (sym (run_is request.model.now bound placing.kept kept)) ∙ e

    module _ (of : RunsAreOfPlans request.model.now bound) (gap : Gap) (some : first_gap request.model.now request.goal.now placing.kept.run ≡ Some gap) where
      abbrev found : Found
      found = search_for bound request placing gap

      abbrev after_found : Option Plan → held.Placing
      after_found plan = placed_after placing gap (searched_of (kept_run request.model.now bound) (record { plan = plan; last = found.last; left = found.left }))

      -- by what is found the goal goes on, or ends
      goes_with : (plan : Option Plan) → found.plan ≡ plan → goal_filled bound request (after_found plan) ≡ goal_filled bound request placing
      goes_with None e =
          sym (goes ∙ none_found request.model.now request.constraints.now (fresh_run request.model.now bound) request.goal.now (shown placing) gap (gap_on (Some gap) some) e)
      goes_with (Some plan) e =
          ap (λ (p : Plan). all_filled request.model.now request.constraints.now (fresh_run request.model.now bound) request.goal.now
          (record { plan = p; placed = placing.placed ++ placing.kept.run.plan.next_id ∷ []; open_gap = None; left = found.left })) (of plan)
          ∙ sym (goes ∙ one_found request.model.now request.constraints.now (fresh_run request.model.now bound) request.goal.now (shown placing) gap plan (gap_on (Some gap) some) e)

      fewer_with : (plan : Option Plan) → found.plan ≡ plan → most_gaps_left (after_found plan) < suc placing.left
      fewer_with None e = omega arith
      fewer_with (Some plan) e =
          let less = found_took request.model.now request.constraints.now (fresh_run request.model.now bound) request.goal.now (shown placing) gap plan e in omega (arith, less)

      kept_with : (plan : Option Plan) → found.plan ≡ plan → IsRequest request → IsKeptOf request.model.now bound (after_found plan).kept
      kept_with None e is = kept
      kept_with (Some plan) e is =
          let trial =
          made_at request.model.now request.constraints.now (fresh_run request.model.now bound) request.goal.now gap placing.kept.run.plan
          (candidates_of request.model.now request.goal.now (fresh_run request.model.now bound placing.kept.run.plan) gap) placing.left plan e in
          kept_of_plan request.model.now bound plan of
          (made_of_model request.model.now placing.kept.run.plan plan request.goal.now.template trial.0 kept.plan
          (template_of request is) trial.1)

      module _ (search : Search) (is_found : search ≡ searched_of (kept_run request.model.now bound) found) where
        pub goes_after : goal_filled bound request (placed_after placing gap search) ≡ goal_filled bound request placing
        goes_after = ap (λ (s : Search). goal_filled bound request (placed_after placing gap s)) is_found ∙ goes_with found.plan refl

        pub fewer_after : most_gaps_left (placed_after placing gap search) < most_gaps_left placing
        fewer_after =
            let some : most_gaps_left placing ≡ suc placing.left = ap (λ (b : Bool). most_gaps_if b placing.left) goes_on in
            let same : most_gaps_left (placed_after placing gap search) ≡ most_gaps_left (placed_after placing gap (searched_of (kept_run request.model.now bound) found)) =
            ap (λ (s : Search). most_gaps_left (placed_after placing gap s)) is_found in
            let less = fewer_with found.plan refl in omega (arith, some, same, less)

        pub kept_after : IsRequest request → IsKeptOf request.model.now bound (placed_after placing gap search).kept
        kept_after is =
            subst (λ (s : Search). IsKeptOf request.model.now bound (placed_after placing gap s).kept) (sym is_found) (kept_with found.plan refl is)
