-- Worked cases: what is placed for goals, and why one is unmet, with fresh runs that are computed.
use Rattle.std.specs.Prelude.{◌≡◌, ℕ, pos, negsuc, Bool, true, false, List, [], ◌∷◌, Option, Some, None, codes, refl}
use Rattle.aerie_base.specs.Paths.{root}
use Rattle.aerie_base.specs.declared.faults.Fault.TheVariants.{NegativeDelay}
use Rattle.aerie_base.specs.declared.operands.CellRead.TheVariants as read
use Rattle.aerie_base.specs.declared.expressions.Comparison.TheVariants as by
use Rattle.aerie_base.specs.declared.expressions.Expr.{Literal}
use Rattle.aerie_base.specs.declared.models.Resource.TheVariants as resource
use Rattle.aerie_base.specs.declared.models.Activity.{Activity}
use Rattle.aerie_base.specs.declared.models.model.Parts.{Parts}
use Rattle.aerie_base.specs.declared.plans.Directive.{Directive}
use Rattle.aerie_base.specs.declared.plans.Plan.{Plan}
use Rattle.aerie_base.specs.declared.values.Value.TheVariants as value
use Rattle.aerie_base.specs.declared.statements.Stmt.{Delay, out-Stmt}
use Rattle.aerie_base.specs.declared.expressions.Expr.TheBlock.{hidden-the_row-Expr-0, shape-the_row-Expr-0}
use Rattle.aerie_base.specs.declared.statements.Stmt.TheBlock.{hidden-the_row-Stmt-0, shape-the_row-Stmt-0, shown-the_row-Stmt-0}
use Rattle.aerie_base.specs.expressions.Evaluation.{evaluated}
use Rattle.aerie_base.specs.statements.Places.{left, lefts, size}
use Rattle.effect_cells.specs.declared.trees.Part.TheBlock.{hidden-the_row-Part-0, shape-the_row-Part-0}
use denote.Hole.Carrier.{hidden, shown, out}
use Rattle.run_data.specs.declared.runs.Outcome.TheVariants.{Failed}
use Rattle.run_data.specs.declared.runs.Who.TheVariants.{Task}
use Rattle.run_data.specs.cases.SmallModels.{number, add, plain, bump, small_model, directive, ints}
use Rattle.constraints.specs.declared.types.Constraint.{Constraint}
use Rattle.constraints.specs.declared.types.Reading.TheVariants as reading
use Rattle.constraints.specs.declared.types.Rule.TheVariants.{Plain}
use Rattle.constraints.specs.declared.types.RuleSum.{RuleSum}
use Rattle.constraints.specs.declared.types.Window.{Compare}
use Rattle.constraints.specs.Holding.{window_holds}
use Rattle.goals.specs.Candidates.{most_tried}
use Rattle.goals.specs.declared.types.Goal.{Goal}
use Rattle.goals.specs.declared.types.GoalAnchor.{GoalAnchor}
use Rattle.goals.specs.declared.types.GoalAnchor.TheVariants.{Starts, Windows}
use Rattle.goals.specs.declared.types.GoalKind.{GoalKind}
use Rattle.goals.specs.declared.types.GoalKind.TheVariants.{Recurrence, Coexistence, Cardinality}
use Rattle.goals.specs.declared.unmet.Rejection.{Rejection}
use Rattle.goals.specs.declared.unmet.Rejection.TheVariants.{Unfilled, Violates}
use Rattle.goals.specs.declared.unmet.Unmet.{Unmet}
use Rattle.goals.specs.declared.unmet.Unmet.TheVariants.{Open, Broken}
use Rattle.scheduler.specs.declared.scheduled.Schedule.{Schedule}
use Rattle.scheduler.specs.FreshRuns.{run_after}
use Rattle.scheduler.specs.Scheduling.{schedule_by}

-- a model of `n`, which is a resource too, and one activity type
abbrev model_of : Activity → Parts
model_of activity = record (small_model [] (activity ∷ []) []) { resources = (codes "n", resource.Discrete (read.Counter 0)) ∷ [] }

-- the sums `n` and a number
abbrev the_count : RuleSum
the_count = record { terms = record { coefficient = pos 1; resource = reading.Resource 0 } ∷ []; constant = pos 0 }

abbrev the_number : ℕ → RuleSum
the_number n = record { terms = []; constant = pos n }

-- ---- `recurrence Tick() every 10us in [0us, 40us)`, with a `Tick` at 5us that adds one to `n`

abbrev ticking : Parts
ticking = model_of (plain (add (number 1) ∷ []))

abbrev ticks : List Directive → ℕ → Plan
ticks more next_id = record { model = 0; duration = 40; next_id = next_id; directives = directive 1 5 0 [] ∷ more }

abbrev each_ten : Bool → List (List ℕ) → Goal
each_ten rollback keeping = record {
  name = codes "g";
  template = record { kind = 0; arguments = [] };
  kind = Recurrence 10 0 40;
  keeping = keeping;
  rollback = rollback;
}

-- `few: n <= most`
abbrev few : ℕ → Constraint
few most = record { name = codes "few"; rule = Plain (Compare the_count by.AtMost (the_number most)) }

abbrev scheduled : List Constraint → Goal → Schedule
scheduled constraints goal = schedule_by ticking constraints (run_after 40 ticking 1_000) (goal ∷ []) (ticks [] 2)

-- the gap at this time stayed open after so many trials
abbrev left_at : ℕ → ℕ → Option Rejection → Option Unmet
left_at time tried last = Some (Open (record { gap = record { at = pos time }; tried = tried; last = last }))

-- one is placed in each gap, as late as may be
pub one_in_each_gap : scheduled [] (each_ten false []) ≡ record {
  plan = ticks (directive 2 15 0 [] ∷ directive 3 25 0 [] ∷ directive 4 35 0 [] ∷ []) 5;
  goals = record { goal = codes "g"; met = true; placed = 2 ∷ 3 ∷ 4 ∷ []; why = None } ∷ [];
  trials = 3;
}
unfolding most_tried window_holds left lefts size evaluated out-Stmt out shown hidden shown-the_row-Stmt-0 hidden-the_row-Stmt-0 shape-the_row-Stmt-0 hidden-the_row-Expr-0 shape-the_row-Expr-0 hidden-the_row-Part-0 shape-the_row-Part-0
one_in_each_gap = refl

-- where `n` may not pass 1 after a placement, each of the ten candidates is tried in vain: the last one, at 6us, violates `few` there
pub none_is_kept : scheduled (few 1 ∷ []) (each_ten false (codes "few" ∷ [])) ≡ record {
  plan = ticks [] 2;
  goals = record { goal = codes "g"; met = false; placed = []; why = left_at 5 10 (Some (Violates (codes "few") 6)) } ∷ [];
  trials = 10;
}
unfolding most_tried window_holds left lefts size evaluated out-Stmt out shown hidden shown-the_row-Stmt-0 hidden-the_row-Stmt-0 shape-the_row-Stmt-0 hidden-the_row-Expr-0 shape-the_row-Expr-0 hidden-the_row-Part-0 shape-the_row-Part-0
none_is_kept = refl

-- where it may not pass 2, the first placement stays, and the second gap is left
pub one_is_kept : scheduled (few 2 ∷ []) (each_ten false (codes "few" ∷ [])) ≡ record {
  plan = ticks (directive 2 15 0 [] ∷ []) 3;
  goals = record { goal = codes "g"; met = false; placed = 2 ∷ []; why = left_at 15 10 (Some (Violates (codes "few") 16)) } ∷ [];
  trials = 11;
}
unfolding most_tried window_holds left lefts size evaluated out-Stmt out shown hidden shown-the_row-Stmt-0 hidden-the_row-Stmt-0 shape-the_row-Stmt-0 hidden-the_row-Expr-0 shape-the_row-Expr-0 hidden-the_row-Part-0 shape-the_row-Part-0
one_is_kept = refl

-- with `rollback` it is taken back; its trials count all the same, and the gap is told that was open before
pub taken_back_again : scheduled (few 2 ∷ []) (each_ten true (codes "few" ∷ [])) ≡ record {
  plan = ticks [] 2;
  goals = record { goal = codes "g"; met = false; placed = []; why = left_at 15 10 (Some (Violates (codes "few") 16)) } ∷ [];
  trials = 11;
}
unfolding most_tried window_holds left lefts size evaluated out-Stmt out shown hidden shown-the_row-Stmt-0 hidden-the_row-Stmt-0 shape-the_row-Stmt-0 hidden-the_row-Expr-0 shape-the_row-Expr-0 hidden-the_row-Part-0 shape-the_row-Part-0
taken_back_again = refl

-- a constraint that the goal does not name after `keeping` is no matter
pub others_do_not_matter : (scheduled (few 1 ∷ []) (each_ten false [])).trials ≡ 3
unfolding most_tried window_holds left lefts size evaluated out-Stmt out shown hidden shown-the_row-Stmt-0 hidden-the_row-Stmt-0 shape-the_row-Stmt-0 hidden-the_row-Expr-0 shape-the_row-Expr-0 hidden-the_row-Part-0 shape-the_row-Part-0
others_do_not_matter = refl

-- what `add` refuses is no trial: a plan with the last id is full
pub none_is_added : (schedule_by ticking [] (run_after 40 ticking 1_000) (each_ten false [] ∷ []) (ticks [] 4_294_967_295)).goals
    ≡ record { goal = codes "g"; met = false; placed = []; why = left_at 5 0 None } ∷ []
unfolding most_tried window_holds left lefts size evaluated out-Stmt out shown hidden shown-the_row-Stmt-0 hidden-the_row-Stmt-0 shape-the_row-Stmt-0 hidden-the_row-Expr-0 shape-the_row-Expr-0 hidden-the_row-Part-0 shape-the_row-Part-0
none_is_added = refl

-- ---- the same goal where a `Tick` waits for less than no time, so that no run with one completes

abbrev failing : Parts
failing = model_of (plain (Delay (Literal (value.Int (negsuc 0))) ∷ []))

pub none_completes : (schedule_by failing [] (run_after 40 failing 1_000) (each_ten false [] ∷ []) (record { model = 0; duration = 40; next_id = 1; directives = [] })).goals
    ≡ record {
      goal = codes "g";
      met = false;
      placed = [];
      why = left_at 0 10 (Some (Unfilled (Failed 1 (Task (root 1)) NegativeDelay)));
    } ∷ []
unfolding most_tried window_holds left lefts size evaluated out-Stmt out shown hidden shown-the_row-Stmt-0 hidden-the_row-Stmt-0 shape-the_row-Stmt-0 hidden-the_row-Expr-0 shape-the_row-Expr-0 hidden-the_row-Part-0 shape-the_row-Part-0
none_completes = refl

-- ---- `coexistence Bump(by = 0) for window(n >= 3) from 2us to 4us`, with a `Bump(by = 3)` at 5us

abbrev bumping : Parts
bumping = model_of bump

abbrev bumps : List Directive → ℕ → Plan
bumps more next_id = record { model = 0; duration = 100; next_id = next_id; directives = directive 1 5 0 (ints (3 ∷ [])) ∷ more }

-- a goal that places `Bump`s
abbrev bump_goal : List ℕ → ℕ → GoalKind → Goal
bump_goal name by_number kind = record {
  name = name;
  template = record { kind = 0; arguments = ints (by_number ∷ []) };
  kind = kind;
  keeping = [];
  rollback = false;
}

abbrev at_three : GoalAnchor
at_three = Windows (Compare the_count by.AtLeast (the_number 3))

abbrev bumped : List Goal → Schedule
bumped goals = schedule_by bumping [] (run_after 40 bumping 1_000) goals (bumps [] 2)

pub one_beside_the_window : bumped (bump_goal (codes "g") 0 (Coexistence at_three (pos 2) (pos 4)) ∷ []) ≡ record {
  plan = bumps (directive 2 7 0 (ints (0 ∷ [])) ∷ []) 3;
  goals = record { goal = codes "g"; met = true; placed = 2 ∷ []; why = None } ∷ [];
  trials = 1;
}
unfolding most_tried window_holds left lefts size evaluated out-Stmt out shown hidden shown-the_row-Stmt-0 hidden-the_row-Stmt-0 shape-the_row-Stmt-0 hidden-the_row-Expr-0 shape-the_row-Expr-0 hidden-the_row-Part-0 shape-the_row-Part-0
one_beside_the_window = refl

-- where all starts beside the window are behind the end of the plan, none is tried
pub none_is_tried : (bumped (bump_goal (codes "g") 0 (Coexistence at_three (pos 200) (pos 204)) ∷ [])).goals
    ≡ record { goal = codes "g"; met = false; placed = []; why = left_at 5 0 None } ∷ []
unfolding most_tried window_holds left lefts size evaluated out-Stmt out shown hidden shown-the_row-Stmt-0 hidden-the_row-Stmt-0 shape-the_row-Stmt-0 hidden-the_row-Expr-0 shape-the_row-Expr-0 hidden-the_row-Part-0 shape-the_row-Part-0
none_is_tried = refl

-- `g: coexistence Bump(by = 0) for starts(Bump) from 0us to 0us` is reached by one `Bump`, and what is placed for
-- `h: cardinality Bump(by = 3) count 2 in [0us, 9us)` breaks it
pub a_later_goal_breaks_it :
    (bumped (bump_goal (codes "g") 0 (Coexistence (Starts 0) (pos 0) (pos 0)) ∷ bump_goal (codes "h") 3 (Cardinality 2 0 9) ∷ [])).goals
    ≡ record { goal = codes "g"; met = false; placed = 2 ∷ []; why = Some Broken }
    ∷ record { goal = codes "h"; met = true; placed = 3 ∷ []; why = None } ∷ []
unfolding most_tried window_holds left lefts size evaluated out-Stmt out shown hidden shown-the_row-Stmt-0 hidden-the_row-Stmt-0 shape-the_row-Stmt-0 hidden-the_row-Expr-0 shape-the_row-Expr-0 hidden-the_row-Part-0 shape-the_row-Part-0
a_later_goal_breaks_it = refl
