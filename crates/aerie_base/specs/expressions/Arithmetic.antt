-- Values, and what the operators make of them.
use Rattle.std.specs.Prelude.{ℤ, pos, ◌+ℤ◌, ◌-ℤ◌, ◌*ℤ◌, neg_ℤ, Bool, true, false, not, ◌&&◌, ◌||◌, nat_eq, Option, Some, None, Result, Ok, Err, if◌then◌else◌}
use Rattle.std.specs.Ordering.{int_eq}
use Rattle.std.specs.Int.RustNames.{int_lt, int_le, int_div, int_rem, unsigned_abs}
use Rattle.aerie_base.specs.Ranges.{is_number}
use Rattle.aerie_base.specs.declared.values.Kind.{Kind}
use Rattle.aerie_base.specs.declared.values.Kind.TheVariants as kind
use Rattle.aerie_base.specs.declared.values.Value.{Value}
use Rattle.aerie_base.specs.declared.values.Value.TheVariants.{Int, Truth, Variant}
use Rattle.aerie_base.specs.declared.faults.Fault.{Fault}
use Rattle.aerie_base.specs.declared.faults.Fault.TheVariants.{Range, Divide}
use Rattle.aerie_base.specs.declared.expressions.Comparison.{Comparison}
use Rattle.aerie_base.specs.declared.expressions.Comparison.TheVariants as by
use Rattle.aerie_base.specs.declared.expressions.Operator.{Operator}
use Rattle.aerie_base.specs.declared.expressions.Operator.TheVariants as operator

-- a value, or the fault in its place
abbrev pub ValueOrFault : Type 0
ValueOrFault = Result Value Fault

-- the type of a value
abbrev pub value_kind : Value → Kind
value_kind (Int number) = kind.Int
value_kind (Truth truth) = kind.Truth
value_kind (Variant of number) = kind.Enum of

-- the whole number that a value is; 0 for a value of another type
abbrev pub number_in : Value → ℤ
number_in (Int number) = number
number_in (Truth truth) = pos 0
number_in (Variant of number) = pos 0

-- the truth that a value is; false for a value of another type
abbrev pub truth_in : Value → Bool
truth_in (Int number) = false
truth_in (Truth truth) = truth
truth_in (Variant of number) = false

-- a whole number as a value, and Range where it is none of a model
abbrev pub ranged : ℤ → ValueOrFault
ranged number = if is_number number then Ok (Int number) else Err Range

-- whether a comparison holds between two whole numbers
abbrev pub compared : Comparison → ℤ → ℤ → Bool
compared by.Equal left right = int_eq left right
compared by.Unequal left right = not (int_eq left right)
compared by.Less left right = int_lt left right
compared by.AtMost left right = int_le left right
compared by.More left right = int_lt right left
compared by.AtLeast left right = int_le right left

-- whether two truths are equal
abbrev pub same_truth : Bool → Bool → Bool
same_truth true b = b
same_truth false b = not b

-- whether two values are equal
abbrev pub same_value : Value → Value → Bool
same_value (Int a) (Int b) = int_eq a b
same_value (Int a) (Truth b) = false
same_value (Int a) (Variant of b) = false
same_value (Truth a) (Int b) = false
same_value (Truth a) (Truth b) = same_truth a b
same_value (Truth a) (Variant of b) = false
same_value (Variant of a) (Int b) = false
same_value (Variant of a) (Truth b) = false
same_value (Variant of a) (Variant other b) = nat_eq of other && nat_eq a b

-- whether a comparison holds between two values: equality of any two, the orders of whole numbers
abbrev pub compares : Comparison → Value → Value → Bool
compares by.Equal left right = same_value left right
compares by.Unequal left right = not (same_value left right)
compares by.Less left right = compared by.Less (number_in left) (number_in right)
compares by.AtMost left right = compared by.AtMost (number_in left) (number_in right)
compares by.More left right = compared by.More (number_in left) (number_in right)
compares by.AtLeast left right = compared by.AtLeast (number_in left) (number_in right)

abbrev pub is_zero : ℤ → Bool
is_zero number = nat_eq (unsigned_abs number) 0

-- the number where the divisor is not 0
abbrev pub divided : ℤ → ℤ → ValueOrFault
divided divisor number = if is_zero divisor then Err Divide else ranged number

-- what an operator makes of the values of its two sides. Division truncates toward zero, and the remainder has the
-- sign of the dividend.
abbrev pub combined : Operator → Value → Value → ValueOrFault
combined operator.Or left right = Ok (Truth (truth_in left || truth_in right))
combined operator.And left right = Ok (Truth (truth_in left && truth_in right))
combined (operator.Compare how) left right = Ok (Truth (compares how left right))
combined operator.Plus left right = ranged (number_in left +ℤ number_in right)
combined operator.Minus left right = ranged (number_in left -ℤ number_in right)
combined operator.Times left right = ranged (number_in left *ℤ number_in right)
combined operator.Divide left right = divided (number_in right) (int_div (number_in left) (number_in right))
combined operator.Remainder left right = divided (number_in right) (int_rem (number_in left) (number_in right))

-- the value where the left side's value alone decides it: false of `&&`, true of `||`
abbrev pub decided : Operator → Value → Option Value
decided operator.Or left = if truth_in left then Some (Truth true) else None
decided operator.And left = if truth_in left then None else Some (Truth false)
decided (operator.Compare how) left = None
decided operator.Plus left = None
decided operator.Minus left = None
decided operator.Times left = None
decided operator.Divide left = None
decided operator.Remainder left = None

abbrev pub negated : Value → ValueOrFault
negated value = ranged (neg_ℤ (number_in value))

abbrev pub denied : Value → ValueOrFault
denied value = Ok (Truth (not (truth_in value)))
