-- The value of an expression, or its first fault, and which cells were read for it.
use Rattle.std.specs.Prelude.{pos, Bool, List, Option, Some, None, Ok, Err, slice_index_or}
use Rattle.aerie_base.specs.expressions.Arithmetic.{ValueOrFault, combined, decided, negated, denied}
use Rattle.aerie_base.specs.expressions.Readings.{reading, cell_of, also}
use Rattle.aerie_base.specs.expressions.Recursion.{expr_gives}
use Rattle.aerie_base.specs.declared.values.Value.{Value}
use Rattle.aerie_base.specs.declared.values.Value.TheVariants.{Int}
use Rattle.aerie_base.specs.declared.faults.Fault.TheVariants.{Range}
use Rattle.aerie_base.specs.declared.operands.CellRead.{CellRead}
use Rattle.aerie_base.specs.declared.operands.Operand.{Operand}
use Rattle.aerie_base.specs.declared.operands.Operand.TheVariants.{Read, Local}
use Rattle.aerie_base.specs.declared.expressions.Operator.{Operator}
use Rattle.aerie_base.specs.declared.expressions.Expr.{Expr, fold-Expr}
use Rattle.aerie_base.specs.declared.expressions.Expr.TheOpen.{Expr-F}

-- the outcome, and for each cell whether it was read so far
abbrev pub Evaluated : Type 0
Evaluated = ValueOrFault × List Bool

-- what an expression means: by the values of the locals, the value of each read (or a number out of its range) and the
-- cells read before, the outcome and the cells read by then
abbrev pub Meaning : Type 0
Meaning = List Value → (CellRead → Value) → List Bool → Evaluated

-- a value goes on, and a fault stays
abbrev pub then_made : (Value → ValueOrFault) → ValueOrFault → ValueOrFault
then_made f (Ok value) = f value
then_made f (Err fault) = Err fault

abbrev pub on_value : (Value → ValueOrFault) → Evaluated → Evaluated
on_value f result = (then_made f result.0, result.1)

abbrev pub unless_decided : Option Value → (List Bool → Evaluated) → List Bool → Evaluated
unless_decided None go read_flags = go read_flags
unless_decided (Some value) go read_flags = (Ok value, read_flags)

-- the left side, then the right side where the left is no fault and does not decide, then the operation
abbrev pub left_to_right : Operator → Evaluated → (List Bool → Evaluated) → Evaluated
left_to_right operator (Ok left, read_flags) go =
    unless_decided (decided operator left) (λ then_read. on_value (combined operator left) (go then_read)) read_flags
left_to_right operator (Err fault, read_flags) go = (Err fault, read_flags)

-- a local gives the value in its slot (where there is none, it would be Int 0), and a read of a cell sets its flag
abbrev pub of_operand : Operand → Meaning
of_operand (Local slot) locals values read_flags = (Ok (slice_index_or locals slot (Int (pos 0))), read_flags)
of_operand (Read read) locals values read_flags = (reading read (values read), also (cell_of read) read_flags)

-- the meaning of one layer by the meanings of its parts
abbrev pub layer : Expr-F Meaning → Meaning
layer (Expr-F.Literal value) locals values read_flags = (Ok value, read_flags)
layer (Expr-F.Operand operand) locals values read_flags = of_operand operand locals values read_flags
layer (Expr-F.Not inner) locals values read_flags = on_value denied (inner locals values read_flags)
layer (Expr-F.Negate inner) locals values read_flags = on_value negated (inner locals values read_flags)
layer (Expr-F.Binary operator left right) locals values read_flags =
    left_to_right operator (left locals values read_flags) (right locals values)

-- the same by the fold, which does not compute
abbrev pub evaluated_by_fold : Expr → Meaning
evaluated_by_fold = fold-Expr Meaning layer

-- what is never used: the meaning of a part that is not there
abbrev pub no_meaning : Meaning
no_meaning locals values read_flags = (Err Range, read_flags)

-- the outcome of an expression and the cells read by then
unfoldable pub evaluated : Expr → Meaning
evaluated = expr_gives Meaning no_meaning layer
