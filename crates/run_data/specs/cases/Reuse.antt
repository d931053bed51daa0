-- Worked cases of two simulations of one model, of which the one may take over what the other has.
use Rattle.std.specs.Prelude.{◌≡◌, ℕ, ◌+◌, pos, false, List, [], ◌∷◌, ◌++◌, Option, None, codes, length, map, nat_lt, if◌then◌else◌, refl}
use Rattle.aerie_base.specs.declared.values.Kind.TheVariants as kind
use Rattle.aerie_base.specs.declared.values.Value.TheVariants as value
use Rattle.aerie_base.specs.declared.operands.CellRead.TheVariants as read
use Rattle.aerie_base.specs.declared.models.CellStart.TheVariants as cell
use Rattle.aerie_base.specs.declared.models.model.Parts.{Parts}
use Rattle.aerie_base.specs.declared.plans.Plan.{Plan}
use Rattle.aerie_base.specs.declared.statements.Emission.TheVariants as emission
use Rattle.aerie_base.specs.declared.statements.Stmt.{Emit, Spawn, out-Stmt}
use Rattle.aerie_base.specs.Paths.{root}
use Rattle.aerie_base.specs.declared.expressions.Expr.TheBlock.{hidden-the_row-Expr-0, shape-the_row-Expr-0}
use Rattle.aerie_base.specs.declared.statements.Stmt.TheBlock.{hidden-the_row-Stmt-0, shape-the_row-Stmt-0, shown-the_row-Stmt-0}
use Rattle.aerie_base.specs.expressions.Evaluation.{evaluated}
use Rattle.aerie_base.specs.statements.Places.{left, lefts, size}
use Rattle.effect_cells.specs.declared.effects.CellState.TheVariants as state
use Rattle.effect_cells.specs.declared.trees.Part.TheBlock.{hidden-the_row-Part-0, shape-the_row-Part-0}
use denote.Hole.Carrier.{hidden, shown, out}
use Rattle.run_data.specs.TaskFrames.{Frame}
use Rattle.run_data.specs.declared.runs.Instant.{Instant}
use Rattle.run_data.specs.declared.runs.Run.{Run}
use Rattle.run_data.specs.Frames.{made_by_all}
use Rattle.run_data.specs.Fresh.{SimulationState, start, after_transitions}
use Rattle.run_data.specs.TaskStates.{activity_begun}
use Rattle.run_data.specs.Tasks.{task_at}
use Rattle.run_data.specs.Transitions.{Next, more, finished}
use Rattle.run_data.specs.laws.Generations.{frames_in}
use Rattle.run_data.specs.laws.LateDifferences.{instants_before}
use Rattle.run_data.specs.laws.LiveParts.{live}
use Rattle.run_data.specs.laws.TracedTasks.{frames_so_far, traced}
use Rattle.run_data.specs.cases.SmallModels.{number, reading, add, plain, bump, small_model, directive, plan_of, ran, ints}

abbrev bumps : Parts
bumps = small_model [] (bump ∷ []) []

-- ---- a bump by 3 at 5, or another one at 7, and then one by 1 at 50

abbrev old_plan : Plan
old_plan = plan_of 100 (directive 1 5 0 (ints (3 ∷ [])) ∷ directive 2 50 0 (ints (1 ∷ [])) ∷ [])

abbrev new_plan : Plan
new_plan = plan_of 100 (directive 2 50 0 (ints (1 ∷ [])) ∷ directive 3 7 0 (ints (3 ∷ [])) ∷ [])

-- where a simulation stands after so many transitions
abbrev stands : Plan → ℕ → SimulationState
stands plan transitions = by (after_transitions bumps plan 1_000 transitions)
  where
    by : Next SimulationState Run → SimulationState
    by (more at) = at
    by (finished run) = start bumps plan

-- both stand at 50 then
abbrev at_50 : Plan → SimulationState
at_50 plan = stands plan 5

pub both_are_at_50 : map (λ plan. (at_50 plan).time) (old_plan ∷ new_plan ∷ []) ≡ 50 ∷ 50 ∷ []
unfolding left lefts size evaluated out-Stmt out shown hidden shown-the_row-Stmt-0 hidden-the_row-Stmt-0 shape-the_row-Stmt-0 hidden-the_row-Expr-0 shape-the_row-Expr-0 hidden-the_row-Part-0 shape-the_row-Part-0
both_are_at_50 = refl

pub the_live_parts_are_equal : live (at_50 new_plan).table ≡ live (at_50 old_plan).table
unfolding left lefts size evaluated out-Stmt out shown hidden shown-the_row-Stmt-0 hidden-the_row-Stmt-0 shape-the_row-Stmt-0 hidden-the_row-Expr-0 shape-the_row-Expr-0 hidden-the_row-Part-0 shape-the_row-Part-0
the_live_parts_are_equal = refl

pub the_cells_are_equal : (at_50 new_plan).cells ≡ (at_50 old_plan).cells
unfolding left lefts size evaluated out-Stmt out shown hidden shown-the_row-Stmt-0 hidden-the_row-Stmt-0 shape-the_row-Stmt-0 hidden-the_row-Expr-0 shape-the_row-Expr-0 hidden-the_row-Part-0 shape-the_row-Part-0
the_cells_are_equal = refl

pub one_task_has_ended : length (live (at_50 new_plan).table) + 1 ≡ length (at_50 new_plan).table
unfolding left lefts size evaluated out-Stmt out shown hidden shown-the_row-Stmt-0 hidden-the_row-Stmt-0 shape-the_row-Stmt-0 hidden-the_row-Expr-0 shape-the_row-Expr-0 hidden-the_row-Part-0 shape-the_row-Part-0
one_task_has_ended = refl

-- the instants from a time on
abbrev later : ℕ → List Instant → List Instant
later from [] = []
later from (instant ∷ rest) = if nat_lt instant.time from then later from rest else instant ∷ rest

pub the_rest_is_taken_over : (ran bumps new_plan).instants ≡ (at_50 new_plan).instants ++ later 50 (ran bumps old_plan).instants
unfolding left lefts size evaluated out-Stmt out shown hidden shown-the_row-Stmt-0 hidden-the_row-Stmt-0 shape-the_row-Stmt-0 hidden-the_row-Expr-0 shape-the_row-Expr-0 hidden-the_row-Part-0 shape-the_row-Part-0
the_rest_is_taken_over = refl

-- ---- plans that differ in what is due at 50 or later

abbrev moved_plan : Plan
moved_plan = plan_of 100 (directive 1 5 0 (ints (3 ∷ [])) ∷ directive 2 60 0 (ints (1 ∷ [])) ∷ [])

pub the_instants_before_are_equal : instants_before 50 (ran bumps moved_plan).instants ≡ instants_before 50 (ran bumps old_plan).instants
unfolding left lefts size evaluated out-Stmt out shown hidden shown-the_row-Stmt-0 hidden-the_row-Stmt-0 shape-the_row-Stmt-0 hidden-the_row-Expr-0 shape-the_row-Expr-0 hidden-the_row-Part-0 shape-the_row-Part-0
the_instants_before_are_equal = refl

pub there_are_three : map (λ instant. instant.time) (instants_before 50 (ran bumps old_plan).instants) ≡ 0 ∷ 5 ∷ 15 ∷ []
unfolding left lefts size evaluated out-Stmt out shown hidden shown-the_row-Stmt-0 hidden-the_row-Stmt-0 shape-the_row-Stmt-0 hidden-the_row-Expr-0 shape-the_row-Expr-0 hidden-the_row-Part-0 shape-the_row-Part-0
there_are_three = refl

-- ---- tasks by their frames, once the instant at 5 is settled

pub a_delayed_task_is_traced : traced (root 1) (frames_so_far (stands old_plan 2)) None ≡ task_at (stands old_plan 2).table (root 1)
unfolding left lefts size evaluated out-Stmt out shown hidden shown-the_row-Stmt-0 hidden-the_row-Stmt-0 shape-the_row-Stmt-0 hidden-the_row-Expr-0 shape-the_row-Expr-0 hidden-the_row-Part-0 shape-the_row-Part-0
a_delayed_task_is_traced = refl

pub one_without_frames_is_not : traced (root 2) (frames_so_far (stands old_plan 2)) None ≡ None
unfolding left lefts size evaluated out-Stmt out shown hidden shown-the_row-Stmt-0 hidden-the_row-Stmt-0 shape-the_row-Stmt-0 hidden-the_row-Expr-0 shape-the_row-Expr-0 hidden-the_row-Part-0 shape-the_row-Part-0
one_without_frames_is_not = refl

-- ---- `Child() { n += r; } Maker() { r := 2; spawn Child(); }`: what the cells had in r makes no difference

abbrev making : Parts
making = small_model ((codes "r", cell.Register kind.Int (value.Int (pos 0))) ∷ [])
    (plain (add (reading (read.Register 1)) ∷ []) ∷ plain (Emit 1 (emission.Set (number 2)) ∷ Spawn 0 [] ∷ []) ∷ []) []

-- what the maker makes where r has a value
abbrev made_where : ℕ → Option (List Frame)
made_where had = frames_in (made_by_all making 100 ((
  0,
  record {
    path = root 1;
    state = activity_begun making 1 [];
    view = state.Counter (pos 0) ∷ state.Register (value.Int (pos had)) false ∷ [];
  },
) ∷ []))

pub a_child_reads_what_its_maker_wrote : made_where 9 ≡ made_where 0
unfolding left lefts size evaluated out-Stmt out shown hidden shown-the_row-Stmt-0 hidden-the_row-Stmt-0 shape-the_row-Stmt-0 hidden-the_row-Expr-0 shape-the_row-Expr-0 hidden-the_row-Part-0 shape-the_row-Part-0
a_child_reads_what_its_maker_wrote = refl
