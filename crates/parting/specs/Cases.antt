-- Worked cases: a plan of a bump by 3 at 5 and another one at 50, beside a daemon; the second is replaced by one at 60.
use Rattle.std.specs.Prelude.{◌≡◌, ℕ, Bool, not, nat_eq, true, false, [], ◌∷◌, map, refl}
use Rattle.aerie_base.specs.declared.models.model.Parts.{Parts}
use Rattle.aerie_base.specs.declared.plans.Plan.{Plan}
use Rattle.aerie_base.specs.declared.statements.Stmt.{out-Stmt}
use Rattle.aerie_base.specs.Paths.{root, daemon_root}
use Rattle.aerie_base.specs.declared.expressions.Expr.TheBlock.{hidden-the_row-Expr-0, shape-the_row-Expr-0}
use Rattle.aerie_base.specs.declared.statements.Stmt.TheBlock.{hidden-the_row-Stmt-0, shape-the_row-Stmt-0, shown-the_row-Stmt-0}
use Rattle.aerie_base.specs.expressions.Evaluation.{evaluated}
use Rattle.aerie_base.specs.statements.Places.{left, lefts, size}
use Rattle.effect_cells.specs.declared.trees.Part.TheBlock.{hidden-the_row-Part-0, shape-the_row-Part-0}
use denote.Hole.Carrier.{hidden, shown, out}
use Rattle.run_data.specs.declared.runs.Run.{Run}
use Rattle.run_data.specs.declared.tasks.BodyId.TheVariants as body
use Rattle.run_data.specs.Fresh.{SimulationState, start, after_transitions}
use Rattle.run_data.specs.Tasks.{delayed}
use Rattle.run_data.specs.Transitions.{Next, more, finished}
use Rattle.run_data.specs.laws.LiveParts.{live}
use Rattle.run_data.specs.cases.SmallModels.{number, add, delay, bump, small_model, directive, plan_of, ints}
use Rattle.parting.specs.Exchanges.{differing_directives, exchanged, exchanged_state}

-- a daemon that adds 1 at 20
abbrev with_daemon : Parts
with_daemon = small_model [] (bump ∷ []) (record { slots = 0; body = delay 20 ∷ add (number 1) ∷ [] } ∷ [])

abbrev old_plan : Plan
old_plan = plan_of 100 (directive 1 5 0 (ints (3 ∷ [])) ∷ directive 2 50 0 (ints (1 ∷ [])) ∷ [])

abbrev new_plan : Plan
new_plan = plan_of 100 (directive 1 5 0 (ints (3 ∷ [])) ∷ directive 3 60 0 (ints (2 ∷ [])) ∷ [])

-- all but the first directive differ
abbrev but_the_first : ℕ → Bool
but_the_first id = not (nat_eq id 1)

pub one_directive_differs : differing_directives but_the_first new_plan.directives ≡ directive 3 60 0 (ints (2 ∷ [])) ∷ []
one_directive_differs = refl

-- where a simulation stands after so many transitions
abbrev stands : Plan → ℕ → SimulationState
stands plan transitions = by (after_transitions with_daemon plan 1_000 transitions)
  where
    by : Next SimulationState Run → SimulationState
    by (more at) = at
    by (finished run) = start with_daemon plan

-- the daemon's first batch, the first directive's at 5, and its last one at 15
pub the_times_of_the_old_plan : map (λ transitions. (stands old_plan transitions).time) (0 ∷ 1 ∷ 2 ∷ 3 ∷ 4 ∷ 5 ∷ 6 ∷ 7 ∷ 8 ∷ []) ≡ 0 ∷ 0 ∷ 5 ∷ 5 ∷ 15 ∷ 15 ∷ 20 ∷ 20 ∷ 50 ∷ []
unfolding left lefts size evaluated out-Stmt out shown hidden shown-the_row-Stmt-0 hidden-the_row-Stmt-0 shape-the_row-Stmt-0 hidden-the_row-Expr-0 shape-the_row-Expr-0 hidden-the_row-Part-0 shape-the_row-Part-0
the_times_of_the_old_plan = refl

-- behind the batch at 5 the first bump and the daemon go on, and the new directive waits for its start
pub the_table_at_five : exchanged but_the_first with_daemon new_plan (stands old_plan 3).table
    ≡ (root 1, record { phase = delayed 15 (record { kind = body.Activity 0; at = 2; locals = ints (3 ∷ []) }); made = 0; begun = true })
    ∷ (root 3, record { phase = delayed 60 (record { kind = body.Activity 0; at = 0; locals = ints (2 ∷ []) }); made = 0; begun = false })
    ∷ (daemon_root 0, record { phase = delayed 20 (record { kind = body.Daemon 0; at = 1; locals = [] }); made = 0; begun = true }) ∷ []
unfolding left lefts size evaluated out-Stmt out shown hidden shown-the_row-Stmt-0 hidden-the_row-Stmt-0 shape-the_row-Stmt-0 hidden-the_row-Expr-0 shape-the_row-Expr-0 hidden-the_row-Part-0 shape-the_row-Part-0
the_table_at_five = refl

-- so the new simulation stands at each of these states
pub the_new_simulation_stands_there : map (λ transitions. exchanged_state but_the_first with_daemon new_plan (stands old_plan transitions)) (0 ∷ 1 ∷ 2 ∷ 3 ∷ 4 ∷ 5 ∷ 6 ∷ 7 ∷ [])
    ≡ map (stands new_plan) (0 ∷ 1 ∷ 2 ∷ 3 ∷ 4 ∷ 5 ∷ 6 ∷ 7 ∷ [])
unfolding left lefts size evaluated out-Stmt out shown hidden shown-the_row-Stmt-0 hidden-the_row-Stmt-0 shape-the_row-Stmt-0 hidden-the_row-Expr-0 shape-the_row-Expr-0 hidden-the_row-Part-0 shape-the_row-Part-0
the_new_simulation_stands_there = refl

-- at 20 the first bump and the daemon have ended: what is left to exchange is the second directive alone
pub the_live_tasks_at_twenty : exchanged but_the_first with_daemon new_plan (live (stands old_plan 7).table)
    ≡ (root 3, record { phase = delayed 60 (record { kind = body.Activity 0; at = 0; locals = ints (2 ∷ []) }); made = 0; begun = false }) ∷ []
unfolding left lefts size evaluated out-Stmt out shown hidden shown-the_row-Stmt-0 hidden-the_row-Stmt-0 shape-the_row-Stmt-0 hidden-the_row-Expr-0 shape-the_row-Expr-0 hidden-the_row-Part-0 shape-the_row-Part-0
the_live_tasks_at_twenty = refl
