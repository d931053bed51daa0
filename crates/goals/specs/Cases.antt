-- Worked cases of goals, over runs that are computed from their plans.
use Rattle.std.specs.Prelude.{◌≡◌, ℕ, ◌*◌, pos, true, false, List, [], ◌∷◌, Some, None, codes, length, slice_get, refl}
use Rattle.aerie_base.specs.declared.expressions.Comparison.TheVariants.{AtLeast}
use Rattle.aerie_base.specs.declared.expressions.Expr.TheBlock.{hidden-the_row-Expr-0, shape-the_row-Expr-0}
use Rattle.aerie_base.specs.declared.models.Resource.TheVariants as resource
use Rattle.aerie_base.specs.declared.models.model.Parts.{Parts}
use Rattle.aerie_base.specs.declared.operands.CellRead.TheVariants as read
use Rattle.aerie_base.specs.declared.plans.Directive.{Directive}
use Rattle.aerie_base.specs.declared.statements.Stmt.{out-Stmt}
use Rattle.aerie_base.specs.declared.statements.Stmt.TheBlock.{hidden-the_row-Stmt-0, shape-the_row-Stmt-0, shown-the_row-Stmt-0}
use Rattle.aerie_base.specs.expressions.Evaluation.{evaluated}
use Rattle.aerie_base.specs.statements.Places.{left, lefts, size}
use Rattle.effect_cells.specs.declared.trees.Part.TheBlock.{hidden-the_row-Part-0, shape-the_row-Part-0}
use denote.Hole.Carrier.{hidden, shown, out}
use Rattle.run_data.specs.declared.runs.Run.{Run}
use Rattle.run_data.specs.cases.SmallModels.{add, bump, directive, ints, small_model, number, plain, plan_of, ran, run_within}
use Rattle.constraints.specs.declared.types.Reading.TheVariants.{Resource}
use Rattle.constraints.specs.declared.types.Window.{Window, Compare}
use Rattle.constraints.specs.Holding.{window_holds}
use Rattle.goals.specs.declared.types.Goal.{Goal}
use Rattle.goals.specs.declared.types.GoalKind.{GoalKind}
use Rattle.goals.specs.declared.types.GoalKind.TheVariants.{Recurrence, Coexistence, Cardinality}
use Rattle.goals.specs.declared.types.GoalAnchor.TheVariants.{Ends, Windows}
use Rattle.goals.specs.Candidates.{most_tried}
use Rattle.goals.specs.Goals.{gap_at, first_gap, is_goal_met, candidates_of, is_filled}

abbrev goal_of : List ℕ → GoalKind → Goal
goal_of arguments goal_kind = record {
  name = codes "g";
  template = record { kind = 0; arguments = ints arguments };
  kind = goal_kind;
  keeping = [];
  rollback = false;
}

-- ---- `recurrence Tick() every 1h in [0us, 4h)`, where `Tick` adds 1, at half past the hours

abbrev ticks : Parts
ticks = small_model [] (plain (add (number 1) ∷ []) ∷ []) []

abbrev half_hours : ℕ → ℕ
half_hours count = 1_800_000_000 * count

abbrev tick : ℕ → ℕ → Directive
tick id start = directive id (half_hours start) 0 []

abbrev ticked : List Directive → Run
ticked directives = ran ticks (plan_of (half_hours 8) directives)

abbrev hourly : Goal
hourly = goal_of [] (Recurrence (half_hours 2) 0 (half_hours 8))

-- with one tick at half past the first hour, the next comes too late
pub the_first_tick : first_gap ticks hourly (ticked (tick 1 1 ∷ [])) ≡ Some (gap_at (half_hours 1))
unfolding left lefts size evaluated out-Stmt out shown hidden shown-the_row-Stmt-0 hidden-the_row-Stmt-0 shape-the_row-Stmt-0 hidden-the_row-Expr-0 shape-the_row-Expr-0 hidden-the_row-Part-0 shape-the_row-Part-0
the_first_tick = refl

-- the first time that is tried is an hour later, and a hundred are
pub first_tried : slice_get (candidates_of ticks hourly (ticked (tick 1 1 ∷ [])) (gap_at (half_hours 1))) 0 ≡ Some (half_hours 3)
unfolding most_tried left lefts size evaluated out-Stmt out shown hidden shown-the_row-Stmt-0 hidden-the_row-Stmt-0 shape-the_row-Stmt-0 hidden-the_row-Expr-0 shape-the_row-Expr-0 hidden-the_row-Part-0 shape-the_row-Part-0
first_tried = refl

pub a_hundred_tried : length (candidates_of ticks hourly (ticked (tick 1 1 ∷ [])) (gap_at (half_hours 1))) ≡ 100
unfolding most_tried left lefts size evaluated out-Stmt out shown hidden shown-the_row-Stmt-0 hidden-the_row-Stmt-0 shape-the_row-Stmt-0 hidden-the_row-Expr-0 shape-the_row-Expr-0 hidden-the_row-Part-0 shape-the_row-Part-0
a_hundred_tried = refl

-- with it the gap is filled, and the next one is an hour later
pub the_second_tick : is_filled ticks hourly (gap_at (half_hours 1)) (ticked (tick 1 1 ∷ tick 2 3 ∷ [])) ≡ true
unfolding left lefts size evaluated out-Stmt out shown hidden shown-the_row-Stmt-0 hidden-the_row-Stmt-0 shape-the_row-Stmt-0 hidden-the_row-Expr-0 shape-the_row-Expr-0 hidden-the_row-Part-0 shape-the_row-Part-0
the_second_tick = refl

pub four_ticks : is_goal_met ticks hourly (ticked (tick 1 1 ∷ tick 2 3 ∷ tick 3 5 ∷ tick 4 7 ∷ [])) ≡ true
unfolding left lefts size evaluated out-Stmt out shown hidden shown-the_row-Stmt-0 hidden-the_row-Stmt-0 shape-the_row-Stmt-0 hidden-the_row-Expr-0 shape-the_row-Expr-0 hidden-the_row-Part-0 shape-the_row-Part-0
four_ticks = refl

-- over a run that stops no goal is met, and none has a gap
abbrev stopped : Run
stopped = run_within 40 0 ticks (plan_of (half_hours 8) (tick 1 1 ∷ []))

pub no_goal_is_met : is_goal_met ticks hourly stopped ≡ false
unfolding left lefts size evaluated out-Stmt out shown hidden shown-the_row-Stmt-0 hidden-the_row-Stmt-0 shape-the_row-Stmt-0 hidden-the_row-Expr-0 shape-the_row-Expr-0 hidden-the_row-Part-0 shape-the_row-Part-0
no_goal_is_met = refl

pub no_gap : first_gap ticks hourly stopped ≡ None
unfolding left lefts size evaluated out-Stmt out shown hidden shown-the_row-Stmt-0 hidden-the_row-Stmt-0 shape-the_row-Stmt-0 hidden-the_row-Expr-0 shape-the_row-Expr-0 hidden-the_row-Part-0 shape-the_row-Part-0
no_gap = refl

-- ---- `coexistence Bump(by = 0) for window(n >= 3) from 2us to 4us`, in a plan of 20 microseconds

abbrev bumps : Parts
bumps = record (small_model [] (bump ∷ []) []) { resources = (codes "n", resource.Discrete (read.Counter 0)) ∷ [] }

abbrev at_least_three : Window
at_least_three = Compare (record { terms = record { coefficient = pos 1; resource = Resource 0 } ∷ []; constant = pos 0 }) AtLeast (record { terms = []; constant = pos 3 })

abbrev beside_the_rise : Goal
beside_the_rise = goal_of (0 ∷ []) (Coexistence (Windows at_least_three) (pos 2) (pos 4))

abbrev bumped : List Directive → Run
bumped directives = ran bumps (plan_of 20 directives)

abbrev a_bump : ℕ → ℕ → ℕ → Directive
a_bump id start by = directive id start 0 (ints (by ∷ []))

-- n is 3 from 5 on, and there is no bump by 0 from 7 to 9
pub the_rise : first_gap bumps beside_the_rise (bumped (a_bump 1 5 3 ∷ [])) ≡ Some (gap_at 5)
unfolding window_holds left lefts size evaluated out-Stmt out shown hidden shown-the_row-Stmt-0 hidden-the_row-Stmt-0 shape-the_row-Stmt-0 hidden-the_row-Expr-0 shape-the_row-Expr-0 hidden-the_row-Part-0 shape-the_row-Part-0
the_rise = refl

pub three_are_tried : candidates_of bumps beside_the_rise (bumped (a_bump 1 5 3 ∷ [])) (gap_at 5) ≡ 7 ∷ 8 ∷ 9 ∷ []
unfolding most_tried left lefts size evaluated out-Stmt out shown hidden shown-the_row-Stmt-0 hidden-the_row-Stmt-0 shape-the_row-Stmt-0 hidden-the_row-Expr-0 shape-the_row-Expr-0 hidden-the_row-Part-0 shape-the_row-Part-0
three_are_tried = refl

pub the_first_fills : is_filled bumps beside_the_rise (gap_at 5) (bumped (a_bump 1 5 3 ∷ a_bump 2 7 0 ∷ [])) ≡ true
unfolding window_holds left lefts size evaluated out-Stmt out shown hidden shown-the_row-Stmt-0 hidden-the_row-Stmt-0 shape-the_row-Stmt-0 hidden-the_row-Expr-0 shape-the_row-Expr-0 hidden-the_row-Part-0 shape-the_row-Part-0
the_first_fills = refl

-- ---- `coexistence Bump(by = 0) for end of Bump from 0us to 0us`

abbrev at_the_end : Goal
at_the_end = goal_of (0 ∷ []) (Coexistence (Ends 0) (pos 0) (pos 0))

abbrev both : Run
both = ran bumps (plan_of 30 (a_bump 1 1 3 ∷ a_bump 2 11 0 ∷ []))

-- the bump that is placed at the end of the first one ends at 21 itself: the gap at 11 is filled, and there is one at 21
pub filled_at_the_end : is_filled bumps at_the_end (gap_at 11) both ≡ true
unfolding left lefts size evaluated out-Stmt out shown hidden shown-the_row-Stmt-0 hidden-the_row-Stmt-0 shape-the_row-Stmt-0 hidden-the_row-Expr-0 shape-the_row-Expr-0 hidden-the_row-Part-0 shape-the_row-Part-0
filled_at_the_end = refl

pub one_end_more : first_gap bumps at_the_end both ≡ Some (gap_at 21)
unfolding left lefts size evaluated out-Stmt out shown hidden shown-the_row-Stmt-0 hidden-the_row-Stmt-0 shape-the_row-Stmt-0 hidden-the_row-Expr-0 shape-the_row-Expr-0 hidden-the_row-Part-0 shape-the_row-Part-0
one_end_more = refl

-- ---- `cardinality Bump(by = 3) count 2 in [0us, 5us)`

pub one_before_the_end : first_gap bumps (goal_of (3 ∷ []) (Cardinality 2 0 5)) (bumped (a_bump 1 4 3 ∷ a_bump 2 5 3 ∷ [])) ≡ Some (gap_at 1)
unfolding left lefts size evaluated out-Stmt out shown hidden shown-the_row-Stmt-0 hidden-the_row-Stmt-0 shape-the_row-Stmt-0 hidden-the_row-Expr-0 shape-the_row-Expr-0 hidden-the_row-Part-0 shape-the_row-Part-0
one_before_the_end = refl
