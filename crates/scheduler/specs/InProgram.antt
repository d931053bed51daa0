-- What the program holds while it schedules, as the definitions have it.
use Rattle.std.specs.Prelude.{◌≡◌, ◌⊎◌, ℕ, suc, Bool, true, false, IsTrue, List, [], ◌∷◌, ◌++◌, ◌-◌, Option, Some, None, option_map}
use Rattle.std.specs.List.{list_all}
use Rattle.aerie_base.specs.declared.models.model.Parts.{Parts}
use Rattle.aerie_base.specs.declared.plans.Plan.{Plan}
use Rattle.aerie_base.specs.plans.OfModel.{IsPlanOf}
use Rattle.run_data.specs.KeptRuns.{KeptRun}
use Rattle.constraints.specs.OfModel.{is_constraint}
use Rattle.goals.specs.declared.gap.Gap.{Gap}
use Rattle.goals.specs.declared.types.Goal.{Goal}
use Rattle.goals.specs.declared.unmet.Rejection.{Rejection}
use Rattle.goals.specs.Goals.{first_gap}
use Rattle.goals.specs.OfModel.{is_goal}
use Rattle.scheduler.specs.declared.placing.Placing as held
use Rattle.scheduler.specs.declared.progress.GoalPart.{GoalPart}
use Rattle.scheduler.specs.declared.progress.GoalProgress.{GoalProgress}
use Rattle.scheduler.specs.declared.requests.GoalRequest.{GoalRequest}
use Rattle.scheduler.specs.declared.requests.ScheduleRequest.{ScheduleRequest}
use Rattle.scheduler.specs.declared.scheduled.Schedule.{Schedule}
use Rattle.scheduler.specs.declared.searching.Search.{Search}
use Rattle.scheduler.specs.declared.trials.Trial.{Trial}
use Rattle.scheduler.specs.declared.trials.Trial.TheVariants as trial
use Rattle.scheduler.specs.FreshRuns.{fresh_run, kept_run}
use Rattle.scheduler.specs.Trials.{Verdict, refused, rejected, accepted, Found, verdict_of, first_accepted}
use Rattle.scheduler.specs.Scheduling.{GoalPlaced, GoalsPlaced, found_for, all_filled, unless_open, goal_placed, schedule_of, statuses_on, trial_limit}

-- ---- what is asked

-- a goal and constraints of the model
pub record IsRequest (request : GoalRequest) : Type 0 where
  pub goal : IsTrue (is_goal request.model.now request.goal.now)
  pub constraints : IsTrue (list_all (is_constraint request.model.now) request.constraints.now)

-- one of a simulator's model
pub record IsRequestTo (model : Parts) (request : GoalRequest) : Type 0 where
  pub model_is : model ≡ request.model.now
  pub asked : IsRequest request

-- a plan of the model, with goals and constraints of it
pub record IsScheduleRequest (request : ScheduleRequest) : Type 0 where
  pub plan : IsPlanOf request.model.now request.plan.now
  pub goals : IsTrue (list_all (is_goal request.model.now) request.goals.now)
  pub constraints : IsTrue (list_all (is_constraint request.model.now) request.constraints.now)

-- the fresh run of a plan of the model, kept
pub record IsKeptOf (model : Parts) (bound : ℕ) (kept : KeptRun) : Type 0 where
  pub is : kept ≡ kept_run model bound kept.run.plan
  pub plan : IsPlanOf model kept.run.plan

-- ---- trials

abbrev pub verdict_for : ℕ → GoalRequest → Gap → Plan → ℕ → Verdict
verdict_for bound request gap plan time =
    verdict_of request.model.now request.constraints.now (fresh_run request.model.now bound) request.goal.now gap plan time

abbrev pub first_accepted_for : ℕ → GoalRequest → Gap → Plan → List ℕ → ℕ → Found
first_accepted_for bound request gap plan times left =
    first_accepted request.model.now request.constraints.now (fresh_run request.model.now bound) request.goal.now gap plan times left

-- what the program has of a verdict: why a trial is rejected, the run of an accepted plan
abbrev pub trial_of : (Plan → KeptRun) → Verdict → Trial
trial_of run_of refused = trial.Refused
trial_of run_of (rejected rejection) = trial.Rejected rejection
trial_of run_of (accepted plan) = trial.Accepted (run_of plan)

abbrev pub searched_of : (Plan → KeptRun) → Found → Search
searched_of run_of found = record { kept = option_map run_of found.plan; last = found.last; left = found.left }

-- ---- one goal

abbrev pub shown : held.Placing → GoalPlaced
shown placing = record { plan = placing.kept.run.plan; placed = placing.placed; open_gap = placing.open_gap; left = placing.left }

abbrev pub search_for : ℕ → GoalRequest → held.Placing → Gap → Found
search_for bound request placing gap =
    found_for request.model.now request.constraints.now (fresh_run request.model.now bound) request.goal.now (shown placing) gap

abbrev pub placed_with : held.Placing → KeptRun → ℕ → held.Placing
placed_with placing kept left =
    record { kept = kept; placed = placing.placed ++ placing.kept.run.plan.next_id ∷ []; open_gap = None; left = left; goes_on = true }

-- the goal ends, and the gap stays open
abbrev pub placed_open : held.Placing → Gap → Option Rejection → ℕ → held.Placing
placed_open placing gap last left =
    record placing { open_gap = Some (record { gap = gap; tried = placing.left - left; last = last }); left = left; goes_on = false }

abbrev pub placed_by : held.Placing → Gap → Option KeptRun → Option Rejection → ℕ → held.Placing
placed_by placing gap (Some kept) last left = placed_with placing kept left
placed_by placing gap None last left = placed_open placing gap last left

-- the goal goes on, or ends, by what was found for its gap
abbrev pub placed_after : held.Placing → Gap → Search → held.Placing
placed_after placing gap search = placed_by placing gap search.kept search.last search.left

abbrev pub filled_if : ℕ → GoalRequest → GoalPlaced → Bool → GoalPlaced
filled_if bound request at true = all_filled request.model.now request.constraints.now (fresh_run request.model.now bound) request.goal.now at
filled_if bound request at false = at

-- where the goal comes from here, once no gap is to be looked for
abbrev pub goal_filled : ℕ → GoalRequest → held.Placing → GoalPlaced
goal_filled bound request placing = filled_if bound request (shown placing) placing.goes_on

abbrev pub most_gaps_if : Bool → ℕ → ℕ
most_gaps_if true left = suc left
most_gaps_if false left = 0

-- more than the gaps that can still be filled
abbrev pub most_gaps_left : held.Placing → ℕ
most_gaps_left placing = most_gaps_if placing.goes_on placing.left

-- the goal as it ends, where this was the run before it
abbrev pub goal_ended : GoalRequest → KeptRun → held.Placing → GoalPlaced
goal_ended request before placing =
    unless_open request.model.now request.constraints.now (λ plan. placing.kept.run) request.goal.now.rollback before.run.plan (shown placing)
    (first_gap request.model.now request.goal.now placing.kept.run)

abbrev pub goal_placed_for : ℕ → GoalRequest → Plan → ℕ → GoalPlaced
goal_placed_for bound request plan left =
    goal_placed request.model.now request.constraints.now (fresh_run request.model.now bound) request.goal.now plan left

abbrev pub IsEither : KeptRun → KeptRun → KeptRun → Type 0
IsEither kept one other = (kept ≡ one) ⊎ (kept ≡ other)

-- ---- all goals

abbrev pub all_shown : GoalProgress → GoalsPlaced
all_shown progress = record { plan = progress.kept.run.plan; parts = progress.parts; left = progress.left }

abbrev pub with_goal : GoalsPlaced → GoalPlaced → GoalsPlaced
with_goal all at = record { plan = at.plan; parts = all.parts ++ record { placed = at.placed; open_gap = at.open_gap } ∷ []; left = at.left }

-- what was placed for a goal, behind what was placed before
abbrev pub next_placed : ℕ → GoalRequest → GoalProgress → GoalsPlaced
next_placed bound request progress =
    with_goal (all_shown progress) (goal_placed_for bound request progress.kept.run.plan progress.left)

abbrev pub placed_behind : List GoalPart → GoalsPlaced → GoalsPlaced
placed_behind front rest = record rest { parts = front ++ rest.parts }

-- the schedule, once all goals are placed
abbrev pub schedule_after : Parts → List Goal → GoalProgress → Schedule
schedule_after model goals progress = record {
  plan = progress.kept.run.plan;
  goals = statuses_on model progress.kept.run goals progress.parts;
  trials = trial_limit - progress.left;
}

abbrev pub schedule_for : ℕ → ScheduleRequest → Schedule
schedule_for bound request = schedule_of request.model.now bound request.constraints.now request.goals.now request.plan.now
