-- The numbers of a step are in range: those of its literals, its locals and its reads are, and an operator's result is or it
-- faults.
use Rattle.std.proofs.Common.{◌≡◌, ℕ, zero, suc, ◌≤◌, ℤ, pos, Bool, true, false, nat_le, if◌then◌else◌, IsTrue, List, [], ◌∷◌, Option, Some, None, Ok, Err, IfOk, slice_index_or, refl, subst, arith}
use Rattle.std.specs.Int.RustNames.{unsigned_abs, int_div, int_rem}
use Rattle.std.proofs.Common.{◌+ℤ◌, ◌-ℤ◌, ◌*ℤ◌, neg_ℤ}
use Rattle.aerie_base.specs.Ranges.{is_number, number_limit, is_rate}
use Rattle.aerie_base.specs.declared.values.Value.{Value}
use Rattle.aerie_base.specs.declared.values.Value.TheVariants.{Int, Truth, Variant}
use Rattle.aerie_base.specs.declared.faults.Fault.TheVariants.{Range, Divide}
use Rattle.aerie_base.specs.declared.operands.CellRead.{CellRead}
use Rattle.aerie_base.specs.declared.operands.CellRead.TheVariants as read
use Rattle.aerie_base.specs.declared.operands.Operand.TheVariants.{Read, Local}
use Rattle.aerie_base.specs.declared.expressions.Operator.{Operator}
use Rattle.aerie_base.specs.declared.expressions.Operator.TheVariants as operator
use Rattle.aerie_base.specs.declared.expressions.Expr.{Expr, Literal, Operand, Not', Negate', Binary', end_of-Expr, more_of-Expr}
use Rattle.aerie_base.specs.declared.models.EnumType.{EnumType}
use Rattle.aerie_base.specs.expressions.Arithmetic.{ValueOrFault, number_in, truth_in, ranged, is_zero, combined, decided, negated, denied}
use Rattle.aerie_base.specs.expressions.Evaluation.{Evaluated, evaluated, then_made, on_value, unless_decided, left_to_right}
use Rattle.aerie_base.specs.expressions.Readings.{reading, on_number, rate_ranged}
use Rattle.aerie_base.specs.models.Expressions.{has_literals}
use Rattle.run_data.specs.Numbers.{HasNumber}
use Rattle.run_data.specs.laws.Orders.{EachOf}

-- a value in range, or a fault
abbrev pub InRange : ValueOrFault → Type 0
InRange outcome = IfOk outcome HasNumber

at_most : (a b : ℕ) → nat_le a b ≡ true → a ≤ b
at_most a b h = grind arith

if_number : (number : ℤ) (good : Bool) → is_number number ≡ good → InRange (if good then Ok (Int number) else Err Range)
if_number number true e = at_most (unsigned_abs number) number_limit e
if_number number false e = tt

ranged_in : (number : ℤ) → InRange (ranged number)
ranged_in number = if_number number (is_number number) refl

if_rate : (number : ℤ) (good : Bool) → is_rate number ≡ good → InRange (if good then Ok (Int number) else Err Range)
if_rate number true e = let small = at_most (unsigned_abs number) 1_000_000_000_000 e in omega (arith, small)
if_rate number false e = tt

if_divided : (zero_ : Bool) (number : ℤ) → InRange (if zero_ then Err Divide else ranged number)
if_divided true number = tt
if_divided false number = ranged_in number

combined_in : (o : Operator) (left right : Value) → InRange (combined o left right)
combined_in operator.Or left right = tt
combined_in operator.And left right = tt
combined_in (operator.Compare how) left right = tt
combined_in operator.Plus left right = ranged_in (number_in left +ℤ number_in right)
combined_in operator.Minus left right = ranged_in (number_in left -ℤ number_in right)
combined_in operator.Times left right = ranged_in (number_in left *ℤ number_in right)
combined_in operator.Divide left right = if_divided (is_zero (number_in right)) (int_div (number_in left) (number_in right))
combined_in operator.Remainder left right = if_divided (is_zero (number_in right)) (int_rem (number_in left) (number_in right))

then_in : (f : Value → ValueOrFault) (outcome : ValueOrFault) → ((value : Value) → InRange (f value)) → InRange (then_made f outcome)
then_in f (Ok value) h = h value
then_in f (Err fault) h = tt

truth_decides : (b : Bool) (value : Value) → (if b then Some (Truth true) else None) ≡ Some value → HasNumber value
truth_decides true value e = let same : Truth true ≡ value = cc in subst HasNumber same tt
truth_decides false value e = absurd (cc)

falsehood_decides : (b : Bool) (value : Value) → (if b then None else Some (Truth false)) ≡ Some value → HasNumber value
falsehood_decides true value e = absurd (cc)
falsehood_decides false value e = let same : Truth false ≡ value = cc in subst HasNumber same tt

decided_in : (o : Operator) (left value : Value) → decided o left ≡ Some value → HasNumber value
decided_in operator.Or left value e = truth_decides (truth_in left) value e
decided_in operator.And left value e = falsehood_decides (truth_in left) value e
decided_in (operator.Compare how) left value e = absurd (cc)
decided_in operator.Plus left value e = absurd (cc)
decided_in operator.Minus left value e = absurd (cc)
decided_in operator.Times left value e = absurd (cc)
decided_in operator.Divide left value e = absurd (cc)
decided_in operator.Remainder left value e = absurd (cc)

unless_in : (o : Operator) (left : Value) (d : Option Value) (go : List Bool → Evaluated) (flags : List Bool) → ((value : Value) → d ≡ Some value → HasNumber value) →
    InRange (unless_decided d (λ then_read. on_value (combined o left) (go then_read)) flags).0
unless_in o left None go flags h = then_in (combined o left) (go flags).0 (combined_in o left)
unless_in o left (Some value) go flags h = h value refl

order_in : (o : Operator) (left : Evaluated) (go : List Bool → Evaluated) → InRange (left_to_right o left go).0
order_in o (Ok value, flags) go = unless_in o value (decided o value) go flags (decided_in o value)
order_in o (Err fault, flags) go = tt

number_read : (f : ℤ → ValueOrFault) (value : Value) → ((number : ℤ) → InRange (f number)) → InRange (on_number f value)
number_read f (Int number) h = h number
number_read f (Truth truth) h = tt
number_read f (Variant of number) h = tt

reading_in : (what : CellRead) (value : Value) → InRange (reading what value)
reading_in (read.Counter cell) value = number_read ranged value ranged_in
reading_in (read.Register cell) value = number_read ranged value ranged_in
reading_in (read.Conflicted cell) value = number_read ranged value ranged_in
reading_in (read.Volume cell) value = number_read ranged value ranged_in
reading_in (read.Rate cell) value = number_read rate_ranged value (λ number. if_rate number (is_rate number) refl)

local_in : (locals : List Value) (slot : ℕ) → EachOf HasNumber locals → HasNumber (slice_index_or locals slot (Int (pos 0)))
local_in [] slot each = omega arith
local_in (value ∷ locals) zero each = each.0
local_in (value ∷ locals) (suc slot) each = local_in locals slot each.1

-- a literal that is a value of the model is in range
literal_in : (enums : List EnumType) (value : Value) → IsTrue (has_literals enums (Literal value)) → HasNumber value
unfolding has_literals
literal_in enums (Int number) h = at_most (unsigned_abs number) number_limit h
literal_in enums (Truth truth) h = tt
literal_in enums (Variant of number) h = tt

-- the value of an expression is in range
pub value_in : (enums : List EnumType) (expr : Expr) (locals : List Value) (values : CellRead → Value) (flags : List Bool) → IsTrue (has_literals enums expr) → EachOf HasNumber locals →
    InRange (evaluated expr locals values flags).0
unfolding evaluated
value_in enums (Literal value) locals values flags h each = literal_in enums value h
value_in enums (Operand (Local slot)) locals values flags h each = local_in locals slot each
value_in enums (Operand (Read what)) locals values flags h each = reading_in what (values what)
value_in enums (Not' s (more_of-Expr inner end_of-Expr)) locals values flags h each =
    then_in denied (evaluated inner locals values flags).0 (λ value. tt)
value_in enums (Negate' s (more_of-Expr inner end_of-Expr)) locals values flags h each =
    then_in negated (evaluated inner locals values flags).0 (λ value. ranged_in (neg_ℤ (number_in value)))
value_in enums (Binary' o s (more_of-Expr left end_of-Expr) t (more_of-Expr right end_of-Expr)) locals values flags h each =
    order_in o (evaluated left locals values flags) (evaluated right locals values)
