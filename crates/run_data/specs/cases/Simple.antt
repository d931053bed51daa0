-- Worked cases of runs without waiting: two tasks of one instant, nested calls, a daemon, and what stops a run.
use Rattle.std.specs.Prelude.{◌≡◌, ℕ, pos, true, [], ◌∷◌, None, codes, length, refl}
use Rattle.aerie_base.specs.declared.values.Value.TheVariants as value
use Rattle.aerie_base.specs.declared.operands.CellRead.TheVariants as read
use Rattle.aerie_base.specs.declared.expressions.Expr.{Literal, Binary}
use Rattle.aerie_base.specs.declared.expressions.Operator.TheVariants as operator
use Rattle.aerie_base.specs.declared.faults.Fault.TheVariants.{Divide, Range}
use Rattle.aerie_base.specs.declared.models.CellStart.TheVariants as cell
use Rattle.aerie_base.specs.declared.statements.Stmt.{Spawn, Call, While, out-Stmt}
use Rattle.aerie_base.specs.declared.models.Activity.{Activity}
use Rattle.aerie_base.specs.declared.models.model.Parts.{Parts}
use Rattle.aerie_base.specs.declared.plans.Plan.{Plan}
use Rattle.aerie_base.specs.Paths.{root, directive_path}
use Rattle.aerie_base.specs.declared.expressions.Expr.TheBlock.{hidden-the_row-Expr-0, shape-the_row-Expr-0}
use Rattle.aerie_base.specs.declared.statements.Stmt.TheBlock.{hidden-the_row-Stmt-0, shape-the_row-Stmt-0, shown-the_row-Stmt-0}
use Rattle.aerie_base.specs.expressions.Evaluation.{evaluated}
use Rattle.aerie_base.specs.statements.Places.{left, lefts, size}
use Rattle.effect_cells.specs.declared.trees.Part.TheBlock.{hidden-the_row-Part-0, shape-the_row-Part-0}
use denote.Hole.Carrier.{hidden, shown, out}
use Rattle.run_data.specs.declared.runs.Outcome.TheVariants.{Completed, Failed, StepLimit}
use Rattle.run_data.specs.declared.runs.Who.TheVariants as who
use Rattle.run_data.specs.declared.runs.Run.{Run}
use Rattle.run_data.specs.Transitions.{Next, more, finished}
use Rattle.run_data.specs.Fresh.{SimulationState, after_transitions}
use Rattle.run_data.specs.Spans.{spans_of}
use Rattle.run_data.specs.cases.SmallModels.{number, local, add, delay, activity, by_int, plain, bump, small_model, directive, plan_of, ran, run_within, values_of, ints, span}

-- ---- two bumps at one instant

abbrev bumps : Parts
bumps = small_model [] (bump ∷ []) []

abbrev two : Run
two = ran bumps (plan_of 100 (directive 1 5 0 (ints (3 ∷ [])) ∷ directive 2 5 0 (ints (3 ∷ [])) ∷ []))

pub two_bumps : spans_of bumps two ≡ span (root 1) 0 (ints (3 ∷ [])) 5 15 ∷ span (root 2) 0 (ints (3 ∷ [])) 5 15 ∷ []
unfolding left lefts size evaluated out-Stmt out shown hidden shown-the_row-Stmt-0 hidden-the_row-Stmt-0 shape-the_row-Stmt-0 hidden-the_row-Expr-0 shape-the_row-Expr-0 hidden-the_row-Part-0 shape-the_row-Part-0
two_bumps = refl

pub both_add : values_of bumps two (read.Counter 0) (0 ∷ 4 ∷ 5 ∷ 14 ∷ 15 ∷ 99 ∷ []) ≡ ints (0 ∷ 0 ∷ 6 ∷ 6 ∷ 12 ∷ 12 ∷ [])
unfolding left lefts size evaluated out-Stmt out shown hidden shown-the_row-Stmt-0 hidden-the_row-Stmt-0 shape-the_row-Stmt-0 hidden-the_row-Expr-0 shape-the_row-Expr-0 hidden-the_row-Part-0 shape-the_row-Part-0
both_add = refl

pub they_complete : two.outcome ≡ Completed
unfolding left lefts size evaluated out-Stmt out shown hidden shown-the_row-Stmt-0 hidden-the_row-Stmt-0 shape-the_row-Stmt-0 hidden-the_row-Expr-0 shape-the_row-Expr-0 hidden-the_row-Part-0 shape-the_row-Part-0
they_complete = refl

-- ---- a plan without directives, of one microsecond

abbrev nothing : Run
nothing = ran bumps (plan_of 1 [])

pub nothing_begins : spans_of bumps nothing ≡ []
unfolding left lefts size evaluated out-Stmt out shown hidden shown-the_row-Stmt-0 hidden-the_row-Stmt-0 shape-the_row-Stmt-0 hidden-the_row-Expr-0 shape-the_row-Expr-0 hidden-the_row-Part-0 shape-the_row-Part-0
nothing_begins = refl

pub it_reaches_its_end : nothing.reach ≡ 1
unfolding left lefts size evaluated out-Stmt out shown hidden shown-the_row-Stmt-0 hidden-the_row-Stmt-0 shape-the_row-Stmt-0 hidden-the_row-Expr-0 shape-the_row-Expr-0 hidden-the_row-Part-0 shape-the_row-Part-0
it_reaches_its_end = refl

-- ---- `Leaf() { delay 7us; } Mid() { spawn Leaf(); } Outer() { call Mid(); n += 1; }`

abbrev nested : Parts
nested = small_model [] (plain (delay 7 ∷ []) ∷ plain (Spawn 0 [] ∷ []) ∷ plain (Call 1 [] None ∷ add (number 1) ∷ []) ∷ []) []

abbrev outer : Run
outer = ran nested (plan_of 100 (directive 1 3 2 [] ∷ []))

pub nested_calls_end_together : spans_of nested outer
    ≡ span (root 1) 2 [] 3 10 ∷ span (directive_path 1 (0 ∷ [])) 1 [] 3 10 ∷ span (directive_path 1 (0 ∷ 0 ∷ [])) 0 [] 3 10 ∷ []
unfolding left lefts size evaluated out-Stmt out shown hidden shown-the_row-Stmt-0 hidden-the_row-Stmt-0 shape-the_row-Stmt-0 hidden-the_row-Expr-0 shape-the_row-Expr-0 hidden-the_row-Part-0 shape-the_row-Part-0
nested_calls_end_together = refl

pub the_caller_goes_on_then : values_of nested outer (read.Counter 0) (9 ∷ 10 ∷ []) ≡ ints (0 ∷ 1 ∷ [])
unfolding left lefts size evaluated out-Stmt out shown hidden shown-the_row-Stmt-0 hidden-the_row-Stmt-0 shape-the_row-Stmt-0 hidden-the_row-Expr-0 shape-the_row-Expr-0 hidden-the_row-Part-0 shape-the_row-Part-0
the_caller_goes_on_then = refl

-- ---- `daemon { while true { delay 40us; n += 1; } }`

abbrev ticking : Parts
ticking = small_model [] [] (record { slots = 0; body = While (Literal (value.Truth true)) (delay 40 ∷ add (number 1) ∷ []) ∷ [] } ∷ [])

abbrev ticks : Run
ticks = ran ticking (plan_of 100 [])

pub a_daemon_adds : values_of ticking ticks (read.Counter 0) (39 ∷ 40 ∷ 79 ∷ 80 ∷ 99 ∷ []) ≡ ints (0 ∷ 1 ∷ 1 ∷ 2 ∷ 2 ∷ [])
unfolding left lefts size evaluated out-Stmt out shown hidden shown-the_row-Stmt-0 hidden-the_row-Stmt-0 shape-the_row-Stmt-0 hidden-the_row-Expr-0 shape-the_row-Expr-0 hidden-the_row-Part-0 shape-the_row-Part-0
a_daemon_adds = refl

pub a_daemon_has_no_span : spans_of ticking ticks ≡ []
unfolding left lefts size evaluated out-Stmt out shown hidden shown-the_row-Stmt-0 hidden-the_row-Stmt-0 shape-the_row-Stmt-0 hidden-the_row-Expr-0 shape-the_row-Expr-0 hidden-the_row-Part-0 shape-the_row-Part-0
a_daemon_has_no_span = refl

-- ---- `Spin() { while true { delay 0us; } }` with a bound of 1,000: each batch costs 2

abbrev spinning : Parts
spinning = small_model [] (plain (While (Literal (value.Truth true)) (delay 0 ∷ []) ∷ []) ∷ []) []

abbrev spin_plan : Plan
spin_plan = plan_of 100 (directive 1 5 0 [] ∷ [])

abbrev spin : Run
spin = run_within 600 1_000 spinning spin_plan

abbrev batches_in : Next SimulationState Run → ℕ
batches_in (more at) = length at.batches
batches_in (finished run) = 0

pub the_limit_comes : spin.outcome ≡ StepLimit 5
unfolding left lefts size evaluated out-Stmt out shown hidden shown-the_row-Stmt-0 hidden-the_row-Stmt-0 shape-the_row-Stmt-0 hidden-the_row-Expr-0 shape-the_row-Expr-0 hidden-the_row-Part-0 shape-the_row-Part-0
the_limit_comes = refl

pub its_instant_is_left_out : spans_of spinning spin ≡ []
unfolding left lefts size evaluated out-Stmt out shown hidden shown-the_row-Stmt-0 hidden-the_row-Stmt-0 shape-the_row-Stmt-0 hidden-the_row-Expr-0 shape-the_row-Expr-0 hidden-the_row-Part-0 shape-the_row-Part-0
its_instant_is_left_out = refl

pub it_reaches_that_instant : spin.reach ≡ 5
unfolding left lefts size evaluated out-Stmt out shown hidden shown-the_row-Stmt-0 hidden-the_row-Stmt-0 shape-the_row-Stmt-0 hidden-the_row-Expr-0 shape-the_row-Expr-0 hidden-the_row-Part-0 shape-the_row-Part-0
it_reaches_that_instant = refl

-- one transition judges the waiting tasks at time 0 and moves to 5; after 500 more the costs are 1,000
pub after_five_hundred_batches : batches_in (after_transitions spinning spin_plan 1_000 501) ≡ 500
unfolding left lefts size evaluated out-Stmt out shown hidden shown-the_row-Stmt-0 hidden-the_row-Stmt-0 shape-the_row-Stmt-0 hidden-the_row-Expr-0 shape-the_row-Expr-0 hidden-the_row-Part-0 shape-the_row-Part-0
after_five_hundred_batches = refl

-- ---- `Div(d: int) { n += 10 / d; }`

abbrev dividing : Activity
dividing = activity (by_int ∷ []) 1 (add (Binary operator.Divide (number 10) (local 0)) ∷ [])

abbrev divisions : Parts
divisions = small_model [] (dividing ∷ plain (While (Literal (value.Truth true)) (add (number 1) ∷ []) ∷ []) ∷ []) []

abbrev divided : Run
divided = ran divisions (plan_of 100 (directive 1 5 0 (ints (2 ∷ [])) ∷ directive 2 5 0 (ints (0 ∷ [])) ∷ directive 3 5 0 (ints (0 ∷ [])) ∷ []))

pub the_least_faulted_path : divided.outcome ≡ Failed 5 (who.Task (root 2)) Divide
unfolding left lefts size evaluated out-Stmt out shown hidden shown-the_row-Stmt-0 hidden-the_row-Stmt-0 shape-the_row-Stmt-0 hidden-the_row-Expr-0 shape-the_row-Expr-0 hidden-the_row-Part-0 shape-the_row-Part-0
the_least_faulted_path = refl

pub nothing_of_that_time : values_of divisions divided (read.Counter 0) (4 ∷ []) ≡ ints (0 ∷ [])
unfolding left lefts size evaluated out-Stmt out shown hidden shown-the_row-Stmt-0 hidden-the_row-Stmt-0 shape-the_row-Stmt-0 hidden-the_row-Expr-0 shape-the_row-Expr-0 hidden-the_row-Part-0 shape-the_row-Part-0
nothing_of_that_time = refl

-- ---- a task that never ends beside one that faults: the limit is judged first

abbrev endless : Run
endless = run_within 10 1_000 divisions (plan_of 100 (directive 1 5 1 [] ∷ directive 2 5 0 (ints (0 ∷ [])) ∷ []))

pub the_limit_before_the_fault : endless.outcome ≡ StepLimit 5
unfolding left lefts size evaluated out-Stmt out shown hidden shown-the_row-Stmt-0 hidden-the_row-Stmt-0 shape-the_row-Stmt-0 hidden-the_row-Expr-0 shape-the_row-Expr-0 hidden-the_row-Part-0 shape-the_row-Part-0
the_limit_before_the_fault = refl

-- ---- `accumulator v = 0 rate 1000000000000` over 3 seconds: it leaves its range after one second

abbrev flowing : Parts
flowing = small_model ((codes "v", cell.Accumulator (pos 0) (pos 1_000_000_000_000)) ∷ []) (bump ∷ []) []

abbrev overflow : Run
overflow = ran flowing (plan_of 3_000_000 (directive 1 500_000 0 (ints (1 ∷ [])) ∷ directive 2 2_000_000 0 (ints (1 ∷ [])) ∷ []))

-- it is seen at the next time to which the run moves
pub a_volume_leaves_its_range : overflow.outcome ≡ Failed 2_000_000 (who.Cell 1) Range
unfolding left lefts size evaluated out-Stmt out shown hidden shown-the_row-Stmt-0 hidden-the_row-Stmt-0 shape-the_row-Stmt-0 hidden-the_row-Expr-0 shape-the_row-Expr-0 hidden-the_row-Part-0 shape-the_row-Part-0
a_volume_leaves_its_range = refl

pub it_reached_the_last_instant : overflow.reach ≡ 500_010
unfolding left lefts size evaluated out-Stmt out shown hidden shown-the_row-Stmt-0 hidden-the_row-Stmt-0 shape-the_row-Stmt-0 hidden-the_row-Expr-0 shape-the_row-Expr-0 hidden-the_row-Part-0 shape-the_row-Part-0
it_reached_the_last_instant = refl

pub what_was_before_is_known : spans_of flowing overflow ≡ span (root 1) 0 (ints (1 ∷ [])) 500_000 500_010 ∷ []
unfolding left lefts size evaluated out-Stmt out shown hidden shown-the_row-Stmt-0 hidden-the_row-Stmt-0 shape-the_row-Stmt-0 hidden-the_row-Expr-0 shape-the_row-Expr-0 hidden-the_row-Part-0 shape-the_row-Part-0
what_was_before_is_known = refl
