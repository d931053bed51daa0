-- A file of lemmas: what it proves need not be read to trust a clause.
--
-- An expression has no faults but those of expressions.
use Rattle.std.specs.Prelude.{ℤ, ◌+ℤ◌, ◌-ℤ◌, ◌*ℤ◌, neg_ℤ, Bool, true, false, List, Option, Some, None, Ok, Err, if◌then◌else◌}
use Rattle.std.specs.Int.RustNames.{int_div, int_rem}
use mathlib.Core.Path.{refl}
use Rattle.aerie_base.specs.expressions.Arithmetic.{ValueOrFault, number_in, ranged, is_zero, combined, decided, negated, denied}
use Rattle.aerie_base.specs.expressions.Readings.{reading, on_number, rate_ranged}
use Rattle.aerie_base.specs.expressions.Evaluation.{Evaluated, evaluated, then_made, on_value, unless_decided, left_to_right}
use Rattle.aerie_base.specs.Ranges.{is_number, is_rate}
use Rattle.aerie_base.specs.declared.values.Value.{Value}
use Rattle.aerie_base.specs.declared.values.Value.TheVariants.{Int, Truth, Variant}
use Rattle.aerie_base.specs.declared.faults.Fault.TheVariants.{Range, Divide}
use Rattle.aerie_base.specs.declared.operands.CellRead.{CellRead}
use Rattle.aerie_base.specs.declared.operands.CellRead.TheVariants as read
use Rattle.aerie_base.specs.declared.operands.Operand.TheVariants.{Read, Local}
use Rattle.aerie_base.specs.declared.expressions.Operator.{Operator}
use Rattle.aerie_base.specs.declared.expressions.Operator.TheVariants as operator
use Rattle.aerie_base.specs.declared.expressions.Expr.{Expr, Literal, Operand, Not', Negate', Binary', end_of-Expr, more_of-Expr}
use Rattle.aerie_base.specs.expressions.Faults.{MayFault}

if_in_range_faults : (b : Bool) (number : ℤ) → MayFault (if b then Ok (Int number) else Err Range)
if_in_range_faults true number = tt
if_in_range_faults false number = refl

ranged_faults : (number : ℤ) → MayFault (ranged number)
ranged_faults number = if_in_range_faults (is_number number) number

if_divided_faults : (b : Bool) (number : ℤ) → MayFault (if b then Err Divide else ranged number)
if_divided_faults true number = refl
if_divided_faults false number = ranged_faults number

combined_faults : (o : Operator) (left right : Value) → MayFault (combined o left right)
combined_faults operator.Or left right = tt
combined_faults operator.And left right = tt
combined_faults (operator.Compare how) left right = tt
combined_faults operator.Plus left right = ranged_faults (number_in left +ℤ number_in right)
combined_faults operator.Minus left right = ranged_faults (number_in left -ℤ number_in right)
combined_faults operator.Times left right = ranged_faults (number_in left *ℤ number_in right)
combined_faults operator.Divide left right = if_divided_faults (is_zero (number_in right)) (int_div (number_in left) (number_in right))
combined_faults operator.Remainder left right = if_divided_faults (is_zero (number_in right)) (int_rem (number_in left) (number_in right))

then_faults : (f : Value → ValueOrFault) (outcome : ValueOrFault) → ((value : Value) → MayFault (f value)) → MayFault outcome → MayFault (then_made f outcome)
then_faults f (Ok value) h k = h value
then_faults f (Err fault) h k = k

unless_faults : (o : Operator) (left : Value) (d : Option Value) (go : List Bool → Evaluated) (read_flags : List Bool) → MayFault (go read_flags).0 →
    MayFault (unless_decided d (λ then_read. on_value (combined o left) (go then_read)) read_flags).0
unless_faults o left None go read_flags h = then_faults (combined o left) (go read_flags).0 (combined_faults o left) h
unless_faults o left (Some value) go read_flags h = tt

order_faults : (o : Operator) (left : Evaluated) (go : List Bool → Evaluated) → MayFault left.0 → ((read_flags : List Bool) → MayFault (go read_flags).0) →
    MayFault (left_to_right o left go).0
order_faults o (Ok value, read_flags) go h k = unless_faults o value (decided o value) go read_flags (k read_flags)
order_faults o (Err fault, read_flags) go h k = h

on_number_faults : (f : ℤ → ValueOrFault) (value : Value) → ((number : ℤ) → MayFault (f number)) → MayFault (on_number f value)
on_number_faults f (Int number) h = h number
on_number_faults f (Truth truth) h = tt
on_number_faults f (Variant of number) h = tt

reading_faults : (what : CellRead) (value : Value) → MayFault (reading what value)
reading_faults (read.Counter cell) value = on_number_faults ranged value ranged_faults
reading_faults (read.Register cell) value = on_number_faults ranged value ranged_faults
reading_faults (read.Conflicted cell) value = on_number_faults ranged value ranged_faults
reading_faults (read.Volume cell) value = on_number_faults ranged value ranged_faults
reading_faults (read.Rate cell) value = on_number_faults rate_ranged value (λ number. if_in_range_faults (is_rate number) number)

-- an expression has no other fault
pub faults : (expr : Expr) (locals : List Value) (values : CellRead → Value) (read_flags : List Bool) → MayFault (evaluated expr locals values read_flags).0
unfolding evaluated
faults (Literal value) locals values read_flags = tt
faults (Operand (Local slot)) locals values read_flags = tt
faults (Operand (Read what)) locals values read_flags = reading_faults what (values what)
faults (Not' s (more_of-Expr inner end_of-Expr)) locals values read_flags =
    then_faults denied (evaluated inner locals values read_flags).0 (λ value. tt) (faults inner locals values read_flags)
faults (Negate' s (more_of-Expr inner end_of-Expr)) locals values read_flags =
    then_faults negated (evaluated inner locals values read_flags).0 (λ value. ranged_faults (neg_ℤ (number_in value))) (faults inner locals values read_flags)
faults (Binary' o s (more_of-Expr left end_of-Expr) t (more_of-Expr right end_of-Expr)) locals values read_flags =
    order_faults o (evaluated left locals values read_flags) (evaluated right locals values) (faults left locals values read_flags)
    (faults right locals values)
