-- What a step has done so far.
use Rattle.std.specs.Prelude.{ℕ, ◌+◌, Bool, false, List, [], ◌∷◌, ◌++◌, length, replicate, slice_set}
use Rattle.aerie_base.specs.declared.values.Value.{Value}
use Rattle.aerie_base.specs.declared.operands.CellRead.{CellRead}
use Rattle.aerie_base.specs.declared.expressions.Expr.{Expr}
use Rattle.aerie_base.specs.expressions.Evaluation.{Evaluated, evaluated}
use Rattle.effect_cells.specs.declared.effects.CellState.{CellState}
use Rattle.effect_cells.specs.Cells.{emitted}
use Rattle.effect_cells.specs.Reads.{value_on}
use Rattle.run_data.specs.declared.frames.Item.{Item}
use Rattle.run_data.specs.declared.frames.Item.TheVariants as item

-- the cells after an item: an effect applies, and a child changes nothing here
abbrev pub after_item : List CellState → Item → List CellState
after_item cells (item.Emit cell effect) = emitted cells cell effect
after_item cells (item.Child kind arguments) = cells

-- the cells with the effects of these items applied one after another
abbrev pub after_items : List CellState → List Item → List CellState
after_items cells [] = cells
after_items cells (item ∷ rest) = after_items (after_item cells item) rest

-- what a step has done so far
pub record StepState : Type 0 where
  -- the cells as the step began
  pub view : List CellState
  pub locals : List Value
  -- its effects and children, in order
  pub items : List Item
  -- for each cell, whether it was read
  pub read_flags : List Bool
  pub cost : ℕ

-- a step begins
abbrev pub starting : List CellState → List Value → StepState
starting view locals = record { view = view; locals = locals; items = []; read_flags = replicate (length view) false; cost = 0 }

-- what a read has: the step sees its own effects, and none of its children's
abbrev pub value_read : List CellState → List Item → CellRead → Value
value_read view items read = value_on (after_items view items) read

-- the outcome of an expression, and the cells read by then
abbrev pub valued : StepState → Expr → Evaluated
valued so_far expr = evaluated expr so_far.locals (value_read so_far.view so_far.items) so_far.read_flags

abbrev pub with_flags : StepState → List Bool → StepState
with_flags so_far read_flags = record so_far { read_flags = read_flags }

abbrev pub assigned : StepState → ℕ → Value → StepState
assigned so_far slot value = record so_far { locals = slice_set so_far.locals slot value }

abbrev pub giving : StepState → Item → StepState
giving so_far item = record so_far { items = so_far.items ++ item ∷ [] }

-- each statement and each test costs one
abbrev pub paid : StepState → StepState
paid so_far = record so_far { cost = so_far.cost + 1 }
