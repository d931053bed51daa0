-- The schedule of a plan: goals in order, gap after gap, candidate after candidate.
use Rattle.std.specs.Prelude.{ℕ, zero, suc, ◌-◌, Bool, true, false, List, [], ◌∷◌, ◌++◌, Option, Some, None}
use Rattle.aerie_base.specs.declared.models.model.Parts.{Parts}
use Rattle.aerie_base.specs.declared.plans.Plan.{Plan}
use Rattle.run_data.specs.declared.runs.Run.{Run}
use Rattle.constraints.specs.declared.types.Constraint.{Constraint}
use Rattle.goals.specs.declared.gap.Gap.{Gap}
use Rattle.goals.specs.declared.types.Goal.{Goal}
use Rattle.goals.specs.declared.status.GoalStatus.{GoalStatus}
use Rattle.goals.specs.declared.unmet.OpenGap.{OpenGap}
use Rattle.goals.specs.declared.unmet.Rejection.{Rejection}
use Rattle.goals.specs.Goals.{first_gap, candidates_of, is_goal_met}
use Rattle.scheduler.specs.declared.progress.GoalPart.{GoalPart}
use Rattle.scheduler.specs.declared.scheduled.Schedule.{Schedule}
use Rattle.scheduler.specs.FreshRuns.{fresh_run}
use Rattle.scheduler.specs.Trials.{Found, first_accepted}
use Rattle.scheduler.specs.Unmet.{why_unmet}

-- the most trials of one schedule
abbrev pub trial_limit : ℕ
trial_limit = 10_000

-- where a goal stands: the plan so far, the ids that were placed for it, the gap that it leaves open once it ends with one, and
-- how many trials are left
pub record GoalPlaced : Type 0 where
  pub plan : Plan
  pub placed : List ℕ
  pub open_gap : Option OpenGap
  pub left : ℕ

-- the plan after some goals, what was placed and what is open for each of them, and how many trials are left
pub record GoalsPlaced : Type 0 where
  pub plan : Plan
  pub parts : List GoalPart
  pub left : ℕ

-- a goal with the ids that were placed for it, whether it is met on a run, and why not
abbrev pub goal_status : Parts → Run → Goal → GoalPart → GoalStatus
goal_status model run goal part = record {
  goal = goal.name;
  met = is_goal_met model goal run;
  placed = part.placed;
  why = why_unmet model run goal part.open_gap;
}

abbrev pub statuses_on : Parts → Run → List Goal → List GoalPart → List GoalStatus
statuses_on model run [] parts = []
statuses_on model run (goal ∷ rest) [] = []
statuses_on model run (goal ∷ rest) (part ∷ others) = goal_status model run goal part ∷ statuses_on model run rest others

-- `run_of` gives the run of a plan; a run on which a gap is looked for is no trial
module _ (model : Parts) (constraints : List Constraint) (run_of : Plan → Run) where
  -- ---- one goal

  -- no trial for the gap was accepted: it stays open
  abbrev pub left_open : GoalPlaced → Gap → Option Rejection → ℕ → GoalPlaced
  left_open at gap last left = record at { open_gap = Some (record { gap = gap; tried = at.left - left; last = last }); left = left }

  abbrev pub with_trial : GoalPlaced → Plan → ℕ → GoalPlaced
  with_trial at plan left = record { plan = plan; placed = at.placed ++ at.plan.next_id ∷ []; open_gap = None; left = left }

  -- the next gap is looked for where a trial was accepted, and the goal ends where none was
  abbrev pub with_found : (GoalPlaced → GoalPlaced) → GoalPlaced → Gap → Option Plan → Option Rejection → ℕ → GoalPlaced
  with_found again at gap None last left = left_open at gap last left
  with_found again at gap (Some plan) last left = again (with_trial at plan left)

  abbrev pub after_search : (GoalPlaced → GoalPlaced) → GoalPlaced → Gap → Found → GoalPlaced
  after_search again at gap found = with_found again at gap found.plan found.last found.left

  abbrev pub found_for : Goal → GoalPlaced → Gap → Found
  found_for goal at gap =
      first_accepted model constraints run_of goal gap at.plan (candidates_of model goal (run_of at.plan) gap) at.left

  -- the goal ends too where it has no gap
  abbrev pub after_gap : (GoalPlaced → GoalPlaced) → Goal → GoalPlaced → Option Gap → GoalPlaced
  after_gap again goal at None = at
  after_gap again goal at (Some gap) = after_search again at gap (found_for goal at gap)

  -- at most so many gaps, one after another
  abbrev pub gaps_filled : ℕ → Goal → GoalPlaced → GoalPlaced
  gaps_filled zero goal at = at
  gaps_filled (suc gaps) goal at = after_gap (gaps_filled gaps goal) goal at (first_gap model goal (run_of at.plan))

  -- each gap takes a trial at least, so there are no more than trials, and one that is left open
  abbrev pub all_filled : Goal → GoalPlaced → GoalPlaced
  all_filled goal at = gaps_filled (suc at.left) goal at

  -- the plan as it was before the goal
  abbrev pub taken_back : Plan → GoalPlaced → GoalPlaced
  taken_back before at = record { plan = before; placed = []; open_gap = at.open_gap; left = at.left }

  abbrev pub unless_open : Bool → Plan → GoalPlaced → Option Gap → GoalPlaced
  unless_open true before at (Some gap) = taken_back before at
  unless_open true before at None = at
  unless_open false before at gap = at

  -- with `rollback` a goal that ends with a gap left gives back the plan as it was when it began
  abbrev pub ended : Goal → Plan → GoalPlaced → GoalPlaced
  ended goal before at = unless_open goal.rollback before at (first_gap model goal (run_of at.plan))

  abbrev pub goal_placed : Goal → Plan → ℕ → GoalPlaced
  goal_placed goal plan left = ended goal plan (all_filled goal (record { plan = plan; placed = []; open_gap = None; left = left }))

  -- ---- all goals

  -- what is told of a goal in the end
  abbrev pub part_of : GoalPlaced → GoalPart
  part_of at = record { placed = at.placed; open_gap = at.open_gap }

  abbrev pub with_placed : GoalPart → GoalsPlaced → GoalsPlaced
  with_placed part others = record others { parts = part ∷ others.parts }

  abbrev pub then_others : (Plan → ℕ → GoalsPlaced) → GoalPlaced → GoalsPlaced
  then_others others at = with_placed (part_of at) (others at.plan at.left)

  -- one goal after another, each on the plan that those before it left
  abbrev pub goals_placed : List Goal → Plan → ℕ → GoalsPlaced
  goals_placed [] plan left = record { plan = plan; parts = []; left = left }
  goals_placed (goal ∷ rest) plan left = then_others (goals_placed rest) (goal_placed goal plan left)

  -- ---- what they came to

  -- on the run of the final plan
  abbrev pub with_statuses : List Goal → GoalsPlaced → Schedule
  with_statuses goals all = record {
    plan = all.plan;
    goals = statuses_on model (run_of all.plan) goals all.parts;
    trials = trial_limit - all.left;
  }

  abbrev pub schedule_by : List Goal → Plan → Schedule
  schedule_by goals plan = with_statuses goals (goals_placed goals plan trial_limit)

-- the schedule of a plan, by fresh runs under a bound
unfoldable pub schedule_of : Parts → ℕ → List Constraint → List Goal → Plan → Schedule
schedule_of model bound constraints goals plan = schedule_by model constraints (fresh_run model bound) goals plan
