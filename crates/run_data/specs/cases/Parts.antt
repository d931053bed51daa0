-- Worked cases of the parts: scopes, well-typed statements, the waves of jobs, records that fit, values and rates.
use Rattle.std.specs.Prelude.{◌≡◌, ℕ, pos, true, false, List, [], ◌∷◌, Option, Some, None, codes, refl}
use Rattle.aerie_base.specs.declared.values.Value.TheVariants as value
use Rattle.aerie_base.specs.declared.operands.CellRead.TheVariants as read
use Rattle.aerie_base.specs.declared.operands.Operand.TheVariants as operand
use Rattle.aerie_base.specs.declared.linear.Linear.{Linear}
use Rattle.aerie_base.specs.declared.expressions.Expr.{Literal}
use Rattle.aerie_base.specs.declared.statements.Stmt.{Stmt, Let, If, out-Stmt}
use Rattle.aerie_base.specs.declared.statements.Stmt.TheBlock.{hidden-the_row-Stmt-0, shape-the_row-Stmt-0, shown-the_row-Stmt-0}
use Rattle.aerie_base.specs.declared.models.CellStart.TheVariants as cell
use Rattle.aerie_base.specs.declared.models.Resource.TheVariants as resource
use Rattle.aerie_base.specs.declared.models.model.Parts.{Parts}
use Rattle.aerie_base.specs.Paths.{root}
use Rattle.aerie_base.specs.expressions.Evaluation.{evaluated}
use Rattle.aerie_base.specs.expressions.Typing.{kind_of}
use Rattle.aerie_base.specs.models.Activities.{daemon_setting}
use Rattle.aerie_base.specs.models.Scopes.{Scope}
use Rattle.aerie_base.specs.models.Signatures.{signatures_of}
use Rattle.aerie_base.specs.models.Bodies.{checked}
use Rattle.aerie_base.specs.models.Expressions.{typed, has_literals, expr_depth}
use Rattle.aerie_base.specs.statements.Places.{left, lefts, size}
use Rattle.effect_cells.specs.declared.effects.CellState.TheVariants as state
use Rattle.effect_cells.specs.declared.effects.Effect.TheVariants.{Add}
use Rattle.run_data.specs.declared.tasks.BodyId.TheVariants as body
use Rattle.run_data.specs.declared.tasks.TaskState.{TaskState}
use Rattle.run_data.specs.declared.jobs.Job.{Job}
use Rattle.run_data.specs.TaskFrames.{Frame}
use Rattle.run_data.specs.declared.frames.Item.TheVariants as item
use Rattle.run_data.specs.declared.frames.Status.TheVariants.{Delayed}
use Rattle.run_data.specs.declared.steppers.Wave.TheVariants.{Frames, Spent}
use Rattle.run_data.specs.declared.runs.Run.{Run}
use Rattle.run_data.specs.Jobs.{is_state_of}
use Rattle.run_data.specs.Records.{record_of, stepped_record, has_fit, unmatched}
use Rattle.run_data.specs.Frames.{job_step}
use Rattle.run_data.specs.Scopes.{scope_at}
use Rattle.run_data.specs.TaskStates.{activity_begun, body_of}
use Rattle.run_data.specs.Typed.{is_typed_stmt, AreLeft}
use Rattle.run_data.specs.Values.{resource_value, rate_at}
use Rattle.run_data.specs.Waves.{wave_of}
use Rattle.run_data.specs.cases.SmallModels.{number, local, add, bump, small_model, plan_of, ran, ints}
use denote.Hole.Carrier.{hidden, shown, out}

-- ---- scopes: `if true { let x = 1; }`, of the places of the test, of the `let`, behind the block and at the end

abbrev bumps : Parts
bumps = small_model [] (bump ∷ []) []

abbrev with_block : List Stmt
with_block = If (Literal (value.Truth true)) (Let 0 (number 1) ∷ []) [] ∷ []

abbrev scope_in : ℕ → Option Scope
scope_in at = scope_at (daemon_setting bumps.enums bumps.cells (signatures_of bumps.activities)) [] with_block at

pub nothing_is_known_at_first : scope_in 1 ≡ Some []
unfolding scope_at checked typed has_literals expr_depth kind_of is_state_of left lefts size evaluated out-Stmt out shown hidden shown-the_row-Stmt-0 hidden-the_row-Stmt-0 shape-the_row-Stmt-0
nothing_is_known_at_first = refl

pub a_local_is_unknown_behind_its_block : scope_in 2 ≡ Some (None ∷ [])
unfolding scope_at checked typed has_literals expr_depth kind_of is_state_of left lefts size evaluated out-Stmt out shown hidden shown-the_row-Stmt-0 hidden-the_row-Stmt-0 shape-the_row-Stmt-0
a_local_is_unknown_behind_its_block = refl

pub there_is_an_end : scope_in 3 ≡ Some (None ∷ [])
unfolding scope_at checked typed has_literals expr_depth kind_of is_state_of left lefts size evaluated out-Stmt out shown hidden shown-the_row-Stmt-0 hidden-the_row-Stmt-0 shape-the_row-Stmt-0
there_is_an_end = refl

pub there_is_no_place_behind_it : scope_in 4 ≡ None
unfolding scope_at checked typed has_literals expr_depth kind_of is_state_of left lefts size evaluated out-Stmt out shown hidden shown-the_row-Stmt-0 hidden-the_row-Stmt-0 shape-the_row-Stmt-0
there_is_no_place_behind_it = refl

-- ---- statements, by the locals' values

pub a_number_is_added : is_typed_stmt bumps (ints (3 ∷ [])) (out-Stmt (add (local 0))) ≡ true
unfolding scope_at checked typed has_literals expr_depth kind_of is_state_of left lefts size evaluated out-Stmt out shown hidden shown-the_row-Stmt-0 hidden-the_row-Stmt-0 shape-the_row-Stmt-0
a_number_is_added = refl

pub a_truth_is_not_added : is_typed_stmt bumps (value.Truth true ∷ []) (out-Stmt (add (local 0))) ≡ false
unfolding scope_at checked typed has_literals expr_depth kind_of is_state_of left lefts size evaluated out-Stmt out shown hidden shown-the_row-Stmt-0 hidden-the_row-Stmt-0 shape-the_row-Stmt-0
a_truth_is_not_added = refl

pub no_slot_is_set_that_is_not_there : is_typed_stmt bumps (ints (3 ∷ [])) (out-Stmt (Let 1 (number 1))) ≡ false
unfolding scope_at checked typed has_literals expr_depth kind_of is_state_of left lefts size evaluated out-Stmt out shown hidden shown-the_row-Stmt-0 hidden-the_row-Stmt-0 shape-the_row-Stmt-0
no_slot_is_set_that_is_not_there = refl

pub left_behind_the_delay : AreLeft bumps (body.Activity 0) (left (body_of bumps (body.Activity 0)) 2) (ints (3 ∷ []))
unfolding scope_at checked typed has_literals expr_depth kind_of is_state_of left lefts size evaluated out-Stmt out shown hidden shown-the_row-Stmt-0 hidden-the_row-Stmt-0 shape-the_row-Stmt-0
left_behind_the_delay = (refl, refl)

-- ---- waves: `Bump(3)` adds and delays at the cost of 2

abbrev begun : TaskState
begun = activity_begun bumps 0 (ints (3 ∷ []))

abbrev bump_job : ℕ → Job
bump_job id = record { path = root id; state = begun; view = state.Counter (pos 0) ∷ [] }

abbrev bumped : ℕ → Frame
bumped id = record {
  path = root id;
  before = begun;
  reads = [];
  items = item.Emit 0 (Add (pos 3)) ∷ [];
  status = Delayed (pos 10) (record { kind = body.Activity 0; at = 2; locals = ints (3 ∷ []) });
  cost = 2;
}

pub two_jobs_within_their_fuel : wave_of bumps 4 (bump_job 1 ∷ bump_job 2 ∷ []) ≡ Frames (bumped 1 ∷ bumped 2 ∷ [])
unfolding scope_at checked typed has_literals expr_depth kind_of is_state_of left lefts size evaluated out-Stmt out shown hidden shown-the_row-Stmt-0 hidden-the_row-Stmt-0 shape-the_row-Stmt-0
two_jobs_within_their_fuel = refl

pub two_jobs_past_their_fuel : wave_of bumps 3 (bump_job 1 ∷ bump_job 2 ∷ []) ≡ Spent
unfolding scope_at checked typed has_literals expr_depth kind_of is_state_of left lefts size evaluated out-Stmt out shown hidden shown-the_row-Stmt-0 hidden-the_row-Stmt-0 shape-the_row-Stmt-0
two_jobs_past_their_fuel = refl

-- ---- records: that of the one frame fits the other, and none fits where there is none

pub the_record_of_a_step : stepped_record begun (job_step bumps 2 (bump_job 1)) ≡ Some (record_of (bumped 1))
unfolding scope_at checked typed has_literals expr_depth kind_of is_state_of left lefts size evaluated out-Stmt out shown hidden shown-the_row-Stmt-0 hidden-the_row-Stmt-0 shape-the_row-Stmt-0
the_record_of_a_step = refl

pub a_record_fits_wherever_the_state_is_the_same : has_fit (record_of (bumped 1) ∷ []) (bumped 2) ≡ true
unfolding scope_at checked typed has_literals expr_depth kind_of is_state_of left lefts size evaluated out-Stmt out shown hidden shown-the_row-Stmt-0 hidden-the_row-Stmt-0 shape-the_row-Stmt-0
a_record_fits_wherever_the_state_is_the_same = refl

pub all_is_new : unmatched (bumped 1 ∷ bumped 2 ∷ []) [] ≡ 4
unfolding scope_at checked typed has_literals expr_depth kind_of is_state_of left lefts size evaluated out-Stmt out shown hidden shown-the_row-Stmt-0 hidden-the_row-Stmt-0 shape-the_row-Stmt-0
all_is_new = refl

pub nothing_is_new : unmatched (bumped 1 ∷ bumped 2 ∷ []) (record_of (bumped 1) ∷ []) ≡ 0
unfolding scope_at checked typed has_literals expr_depth kind_of is_state_of left lefts size evaluated out-Stmt out shown hidden shown-the_row-Stmt-0 hidden-the_row-Stmt-0 shape-the_row-Stmt-0
nothing_is_new = refl

-- ---- values and rates: `accumulator v = 5 rate 2`, and 3 * v + 1

abbrev rising : Parts
rising = small_model ((codes "v", cell.Accumulator (pos 5) (pos 2)) ∷ []) [] []

abbrev idle : Run
idle = ran rising (plan_of 100 [])

abbrev thrice : Linear
thrice = record { terms = record { coefficient = pos 3; operand = operand.Read (read.Volume 1) } ∷ []; constant = pos 1 }

pub a_volume_rises : resource_value rising idle (resource.Discrete (read.Volume 1)) 10 ≡ value.Int (pos 25)
unfolding scope_at checked typed has_literals expr_depth kind_of is_state_of left lefts size evaluated out-Stmt out shown hidden shown-the_row-Stmt-0 hidden-the_row-Stmt-0 shape-the_row-Stmt-0
a_volume_rises = refl

pub a_sum_of_volumes : resource_value rising idle (resource.Linear thrice) 10 ≡ value.Int (pos 76)
unfolding scope_at checked typed has_literals expr_depth kind_of is_state_of left lefts size evaluated out-Stmt out shown hidden shown-the_row-Stmt-0 hidden-the_row-Stmt-0 shape-the_row-Stmt-0
a_sum_of_volumes = refl

pub the_sum_rises_as_they_do : rate_at rising idle thrice 10 ≡ pos 6
unfolding scope_at checked typed has_literals expr_depth kind_of is_state_of left lefts size evaluated out-Stmt out shown hidden shown-the_row-Stmt-0 hidden-the_row-Stmt-0 shape-the_row-Stmt-0
the_sum_rises_as_they_do = refl
