-- Worked cases of ranges: cells are judged by them after a batch, and effects are not.
use Rattle.std.specs.Prelude.{◌≡◌, pos, [], ◌∷◌, None, refl}
use Rattle.aerie_base.specs.declared.faults.Fault.TheVariants.{Range}
use Rattle.aerie_base.specs.declared.statements.Stmt.{out-Stmt}
use Rattle.aerie_base.specs.declared.models.model.Parts.{Parts}
use Rattle.aerie_base.specs.Paths.{root}
use Rattle.aerie_base.specs.declared.expressions.Expr.TheBlock.{hidden-the_row-Expr-0, shape-the_row-Expr-0}
use Rattle.aerie_base.specs.declared.statements.Stmt.TheBlock.{hidden-the_row-Stmt-0, shape-the_row-Stmt-0, shown-the_row-Stmt-0}
use Rattle.aerie_base.specs.expressions.Evaluation.{evaluated}
use Rattle.aerie_base.specs.statements.Places.{left, lefts, size}
use Rattle.effect_cells.specs.declared.trees.Part.TheBlock.{hidden-the_row-Part-0, shape-the_row-Part-0}
use denote.Hole.Carrier.{hidden, shown, out}
use Rattle.effect_cells.specs.declared.effects.CellState.TheVariants as state
use Rattle.effect_cells.specs.declared.effects.Effect.TheVariants.{Add}
use Rattle.run_data.specs.declared.frames.Item.TheVariants as item
use Rattle.run_data.specs.declared.frames.Status.TheVariants.{Done}
use Rattle.run_data.specs.declared.steppers.Wave.TheVariants.{Frames}
use Rattle.run_data.specs.declared.runs.Outcome.TheVariants.{Failed}
use Rattle.run_data.specs.declared.runs.Who.TheVariants as who
use Rattle.run_data.specs.TaskStates.{activity_begun}
use Rattle.run_data.specs.Waves.{wave_of}
use Rattle.run_data.specs.cases.SmallModels.{number, add, plain, bump, small_model, directive, plan_of, ran, ints}

-- two tasks add 6 * 10^17 each to a counter, which may come to 10^18
abbrev bumps : Parts
bumps = small_model [] (bump ∷ []) []

pub a_counter_leaves_its_range :
    (ran bumps (plan_of 100 (directive 1 5 0 (ints (600_000_000_000_000_000 ∷ [])) ∷ directive 2 5 0 (ints (600_000_000_000_000_000 ∷ [])) ∷ []))).outcome
    ≡ Failed 5 (who.Cell 0) Range
unfolding left lefts size evaluated out-Stmt out shown hidden shown-the_row-Stmt-0 hidden-the_row-Stmt-0 shape-the_row-Stmt-0 hidden-the_row-Expr-0 shape-the_row-Expr-0 hidden-the_row-Part-0 shape-the_row-Part-0
a_counter_leaves_its_range = refl

-- `n += 10^40`, which is no model: the number of a literal has its range by its type, and a valid model by its definition
abbrev vast : Parts
vast = small_model [] (plain (add (number 10_000_000_000_000_000_000_000_000_000_000_000_000_000) ∷ []) ∷ []) []

-- a step itself asks nothing of a literal
pub a_vast_effect : wave_of vast 9 (record { path = root 1; state = activity_begun vast 0 []; view = state.Counter (pos 0) ∷ [] } ∷ [])
    ≡ Frames (record {
      path = root 1;
      before = activity_begun vast 0 [];
      reads = [];
      items = item.Emit 0 (Add (pos 10_000_000_000_000_000_000_000_000_000_000_000_000_000)) ∷ [];
      status = Done None;
      cost = 1;
    } ∷ [])
unfolding left lefts size evaluated out-Stmt out shown hidden shown-the_row-Stmt-0 hidden-the_row-Stmt-0 shape-the_row-Stmt-0 hidden-the_row-Expr-0 shape-the_row-Expr-0 hidden-the_row-Part-0 shape-the_row-Part-0
a_vast_effect = refl
