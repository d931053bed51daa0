-- Worked cases: a bump is under way at 5, and another one, which is planned at 50, is exchanged for one at 60.
use Rattle.std.specs.Prelude.{◌≡◌, ℕ, Bool, true, false, List, [], ◌∷◌, Option, Some, None, map, refl}
use Rattle.aerie_base.specs.declared.models.model.Parts.{Parts}
use Rattle.aerie_base.specs.declared.plans.Anchor.{Anchor}
use Rattle.aerie_base.specs.declared.plans.Directive.{Directive}
use Rattle.aerie_base.specs.declared.plans.Edge.TheVariants.{End}
use Rattle.aerie_base.specs.declared.plans.Plan.{Plan}
use Rattle.aerie_base.specs.declared.statements.Stmt.{out-Stmt}
use Rattle.aerie_base.specs.Paths.{root, child_path, daemon_root}
use Rattle.aerie_base.specs.declared.expressions.Expr.TheBlock.{hidden-the_row-Expr-0, shape-the_row-Expr-0}
use Rattle.aerie_base.specs.declared.statements.Stmt.TheBlock.{hidden-the_row-Stmt-0, shape-the_row-Stmt-0, shown-the_row-Stmt-0}
use Rattle.aerie_base.specs.expressions.Evaluation.{evaluated}
use Rattle.aerie_base.specs.statements.Places.{left, lefts, size}
use Rattle.effect_cells.specs.declared.trees.Part.TheBlock.{hidden-the_row-Part-0, shape-the_row-Part-0}
use denote.Hole.Carrier.{hidden, shown, out}
use Rattle.run_data.specs.declared.runs.Run.{Run}
use Rattle.run_data.specs.declared.tasks.BodyId.TheVariants as body
use Rattle.run_data.specs.declared.tasks.TaskState.{TaskState}
use Rattle.run_data.specs.Fresh.{SimulationState, start, after_transitions}
use Rattle.run_data.specs.Tasks.{delayed, ready, TaskPhase, Task, Table}
use Rattle.run_data.specs.Transitions.{Next, more, finished, begins, onward}
use Rattle.run_data.specs.cases.SmallModels.{bump, small_model, directive, plan_of, ints}
use Rattle.parting.specs.Exchanges.{exchanged}
use Rattle.parting.specs.IdRanges.{is_id_between}
use Rattle.live_tasks.specs.declared.slots.Slot.{Slot}
use Rattle.live_tasks.specs.Exchanging.{IsYetToBegin, HaveNotBegun, HasNoAnchor, MayExchange}
use Rattle.live_tasks.specs.LeftOut.{common_slot}
use Rattle.live_tasks.specs.PlannedTasks.{planned_task, IsPlannedBy}
use Rattle.live_tasks.specs.Slots.{Slots}

-- the second directive alone differs
abbrev the_second : ℕ → Bool
the_second = is_id_between 2 3

abbrev behind : ℕ → Option Anchor
behind id = Some (record { to = id; edge = End })

abbrev begun_task : TaskPhase → Task
begun_task phase = record { phase = phase; made = 0; begun = true }

-- ---- which directives are yet to begin

module _ (state : TaskState) where
  pub one_that_is_delayed : IsYetToBegin (root 2) (planned_task None 50 state)
  one_that_is_delayed = record { id = 2; path_is = refl; begun = refl; anchor = None; phase = (50, state, refl) }

  pub one_that_is_anchored : IsYetToBegin (root 3) (planned_task (behind 2) 5 state)
  one_that_is_anchored = record { id = 3; path_is = refl; begun = refl; anchor = behind 2; phase = (5, state, refl) }

  pub not_one_that_has_begun : IsYetToBegin (root 2) (begun_task (delayed 60 state)) → ⊥
  not_one_that_has_begun yet = (let begun = yet.begun in absurd (cc))

  pub not_one_that_is_ready : IsYetToBegin (root 2) (record { phase = ready state; made = 0; begun = false }) → ⊥
  not_one_that_is_ready yet = by yet.anchor yet.phase
    where
      by : (anchor : Option Anchor) → IsPlannedBy anchor (ready state) → ⊥
      by None (until, other, same) = absurd (cc)
      by (Some anchor) (later, other, same) = absurd (cc)

  -- the first has begun
  abbrev pub two_tasks : Table
  two_tasks = (root 1, begun_task (delayed 15 state)) ∷ (root 2, planned_task None 50 state) ∷ []

  pub the_first_may_not_be_exchanged : HaveNotBegun (is_id_between 1 2) two_tasks → ⊥
  the_first_may_not_be_exchanged none = (let yet = none (root 1) (begun_task (delayed 15 state)) refl refl in let begun = yet.begun in absurd (cc))

-- ---- which may differ

abbrev anchored_directive : Directive
anchored_directive = record { id = 2; start = 7; anchor = behind 1; kind = 0; arguments = [] }

pub one_that_follows_none_may_differ : HasNoAnchor the_second (directive 2 50 0 [])
one_that_follows_none_may_differ differs = refl

pub one_that_follows_another_may_not : HasNoAnchor the_second anchored_directive → ⊥
one_that_follows_another_may_not alone = (let none = alone refl in absurd (cc))

pub what_both_plans_have_may_follow : HasNoAnchor (is_id_between 3 5) anchored_directive
what_both_plans_have_may_follow differs = absurd (cc)

-- ---- the tasks that are left out

module _ (state : TaskState) where
  abbrev slot_of : List ℕ → Option ℕ → Slot
  slot_of path parent = record { path = path; task = begun_task (ready state); parent = parent; own = 0; live_below = 0 }

  -- the first directive, the second one with a child, a number without a task, and a daemon
  abbrev pub five_slots : Slots
  five_slots =
      Some (slot_of (root 1) None) ∷ Some (slot_of (root 2) None) ∷ Some (slot_of (child_path (root 2) 0) (Some 1)) ∷ None ∷ Some (slot_of (daemon_root 2) None) ∷ []

  pub the_second_and_its_child_are_left_out :
      map (common_slot the_second) five_slots ≡ Some (slot_of (root 1) None) ∷ None ∷ None ∷ None ∷ Some (slot_of (daemon_root 2) None) ∷ []
  the_second_and_its_child_are_left_out = refl

-- ---- two simulations

abbrev bumps : Parts
bumps = small_model [] (bump ∷ []) []

abbrev plan_with : ℕ → Plan
plan_with start = plan_of 100 (directive 1 5 0 (ints (3 ∷ [])) ∷ directive 2 start 0 (ints (1 ∷ [])) ∷ [])

-- where a simulation stands after so many transitions
abbrev stands : Plan → ℕ → SimulationState
stands plan transitions = by (after_transitions bumps plan 1_000 transitions)
  where
    by : Next SimulationState Run → SimulationState
    by (more at) = at
    by (finished run) = start bumps plan

-- behind the batch at 5 the first bump goes on at 15, and the other one waits for its start
pub the_table_at_five : (stands (plan_with 50) 2).table
    ≡ (root 1, begun_task (delayed 15 (record { kind = body.Activity 0; at = 2; locals = ints (3 ∷ []) })))
    ∷ (root 2, planned_task None 50 (record { kind = body.Activity 0; at = 0; locals = ints (1 ∷ []) })) ∷ []
unfolding left lefts size evaluated out-Stmt out shown hidden shown-the_row-Stmt-0 hidden-the_row-Stmt-0 shape-the_row-Stmt-0 hidden-the_row-Expr-0 shape-the_row-Expr-0 hidden-the_row-Part-0 shape-the_row-Part-0
the_table_at_five = refl

pub exchanged_it_is_planned_at_sixty : exchanged the_second bumps (plan_with 60) (stands (plan_with 50) 2).table ≡ (stands (plan_with 60) 2).table
unfolding left lefts size evaluated out-Stmt out shown hidden shown-the_row-Stmt-0 hidden-the_row-Stmt-0 shape-the_row-Stmt-0 hidden-the_row-Expr-0 shape-the_row-Expr-0 hidden-the_row-Part-0 shape-the_row-Part-0
exchanged_it_is_planned_at_sixty = refl

pub it_may_be_exchanged_at_five : MayExchange the_second bumps (plan_with 60) (stands (plan_with 50) 2).table
unfolding left lefts size evaluated out-Stmt out shown hidden shown-the_row-Stmt-0 hidden-the_row-Stmt-0 shape-the_row-Stmt-0 hidden-the_row-Expr-0 shape-the_row-Expr-0 hidden-the_row-Part-0 shape-the_row-Part-0
it_may_be_exchanged_at_five = record { bound = 1_000; at = stands (plan_with 60) 2; is_reached = onward (onward begins); is_live = refl }
