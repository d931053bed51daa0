-- The type of an expression.
use Rattle.std.specs.Prelude.{ℕ, Bool, true, false, ◌&&◌, nat_eq, List, Option, Some, None, option_map, slice_get}
use Rattle.aerie_base.specs.expressions.Arithmetic.{value_kind}
use Rattle.aerie_base.specs.expressions.Recursion.{expr_gives}
use Rattle.aerie_base.specs.declared.values.Kind.{Kind}
use Rattle.aerie_base.specs.declared.values.Kind.TheVariants.{Int, Truth, Enum}
use Rattle.aerie_base.specs.declared.values.Value.{Value}
use Rattle.aerie_base.specs.declared.operands.CellRead.{CellRead}
use Rattle.aerie_base.specs.declared.operands.Operand.{Operand}
use Rattle.aerie_base.specs.declared.operands.Operand.TheVariants.{Read, Local}
use Rattle.aerie_base.specs.declared.expressions.Comparison.{Comparison}
use Rattle.aerie_base.specs.declared.expressions.Comparison.TheVariants as by
use Rattle.aerie_base.specs.declared.expressions.Operator.{Operator}
use Rattle.aerie_base.specs.declared.expressions.Operator.TheVariants as operator
use Rattle.aerie_base.specs.declared.expressions.Expr.{Expr, fold-Expr}
use Rattle.aerie_base.specs.declared.expressions.Expr.TheOpen.{Expr-F}

-- whether two types are one
abbrev pub same_kind : Kind → Kind → Bool
same_kind Int Int = true
same_kind Int Truth = false
same_kind Int (Enum b) = false
same_kind Truth Int = false
same_kind Truth Truth = true
same_kind Truth (Enum b) = false
same_kind (Enum a) Int = false
same_kind (Enum a) Truth = false
same_kind (Enum a) (Enum b) = nat_eq a b

-- a type, where something holds
abbrev pub kind_if : Bool → Kind → Option Kind
kind_if true of = Some of
kind_if false of = None

-- the type of an operator of one side that takes this type and gives it, by the type of that side
abbrev pub same_kind_if : Kind → Option Kind → Option Kind
same_kind_if of None = None
same_kind_if of (Some inner) = kind_if (same_kind inner of) of

-- `==` and `!=` take two values of one type, the orders two whole numbers
abbrev pub may_compare : Comparison → Kind → Kind → Bool
may_compare by.Equal left right = same_kind left right
may_compare by.Unequal left right = same_kind left right
may_compare by.Less left right = same_kind left Int && same_kind right Int
may_compare by.AtMost left right = same_kind left Int && same_kind right Int
may_compare by.More left right = same_kind left Int && same_kind right Int
may_compare by.AtLeast left right = same_kind left Int && same_kind right Int

-- which types an operator takes on its sides, and which it gives
abbrev pub combined_kind : Operator → Kind → Kind → Option Kind
combined_kind operator.Or left right = kind_if (same_kind left Truth && same_kind right Truth) Truth
combined_kind operator.And left right = kind_if (same_kind left Truth && same_kind right Truth) Truth
combined_kind (operator.Compare how) left right = kind_if (may_compare how left right) Truth
combined_kind operator.Plus left right = kind_if (same_kind left Int && same_kind right Int) Int
combined_kind operator.Minus left right = kind_if (same_kind left Int && same_kind right Int) Int
combined_kind operator.Times left right = kind_if (same_kind left Int && same_kind right Int) Int
combined_kind operator.Divide left right = kind_if (same_kind left Int && same_kind right Int) Int
combined_kind operator.Remainder left right = kind_if (same_kind left Int && same_kind right Int) Int

abbrev pub of_both : Operator → Option Kind → Option Kind → Option Kind
of_both operator None right = None
of_both operator (Some left) None = None
of_both operator (Some left) (Some right) = combined_kind operator left right

-- by the types of the slots that are known and of the reads that there are, the type of an expression, where it is well
-- typed and names nothing else
abbrev pub Typing : Type 0
Typing = (ℕ → Option Kind) → (CellRead → Option Kind) → Option Kind

abbrev pub operand_kind : (ℕ → Option Kind) → (CellRead → Option Kind) → Operand → Option Kind
operand_kind slots reads (Local slot) = slots slot
operand_kind slots reads (Read read) = reads read

-- the type of one layer by the types of its parts
abbrev pub layer_kind : Expr-F Typing → Typing
layer_kind (Expr-F.Literal value) slots reads = Some (value_kind value)
layer_kind (Expr-F.Operand operand) slots reads = operand_kind slots reads operand
layer_kind (Expr-F.Not inner) slots reads = same_kind_if Truth (inner slots reads)
layer_kind (Expr-F.Negate inner) slots reads = same_kind_if Int (inner slots reads)
layer_kind (Expr-F.Binary operator left right) slots reads = of_both operator (left slots reads) (right slots reads)

-- the same by the fold, which does not compute
abbrev pub kind_by_fold : Expr → Typing
kind_by_fold = fold-Expr Typing layer_kind

-- what is never used: the type of a part that is not there
abbrev pub no_kind : Typing
no_kind slots reads = None

-- the type of an expression, or None where it is not well typed
unfoldable pub kind_of : Expr → Typing
kind_of = expr_gives Typing no_kind layer_kind

-- the types of the slots that hold these values
abbrev pub slot_kinds : List Value → ℕ → Option Kind
slot_kinds locals slot = option_map value_kind (slice_get locals slot)
