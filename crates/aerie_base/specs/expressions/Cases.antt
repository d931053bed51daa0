-- Worked cases of values, faults, types and read flags.
use Rattle.std.specs.Prelude.{◌≡◌, ℕ, ℤ, pos, negsuc, Bool, true, false, List, [], ◌∷◌, map, Option, Some, None, Ok, Err, refl}
use Rattle.aerie_base.specs.expressions.Arithmetic.{ValueOrFault}
use Rattle.aerie_base.specs.expressions.Recursion.{node_not, node_negate, node_binary}
use Rattle.aerie_base.specs.expressions.Evaluation.{evaluated}
use Rattle.aerie_base.specs.expressions.Typing.{kind_of, slot_kinds}
use Rattle.aerie_base.specs.declared.values.Kind.{Kind}
use Rattle.aerie_base.specs.declared.values.Kind.TheVariants as kind
use Rattle.aerie_base.specs.declared.values.Value.{Value}
use Rattle.aerie_base.specs.declared.values.Value.TheVariants.{Int, Truth, Variant}
use Rattle.aerie_base.specs.declared.faults.Fault.TheVariants.{Range, Divide}
use Rattle.aerie_base.specs.declared.operands.CellRead.{CellRead}
use Rattle.aerie_base.specs.declared.operands.CellRead.TheVariants.{Counter, Register, Conflicted, Volume, Rate}
use Rattle.aerie_base.specs.declared.operands.Operand.TheVariants.{Read, Local}
use Rattle.aerie_base.specs.declared.expressions.Comparison.TheVariants as by
use Rattle.aerie_base.specs.declared.expressions.Operator.{Operator}
use Rattle.aerie_base.specs.declared.expressions.Operator.TheVariants as operator
use Rattle.aerie_base.specs.declared.expressions.Expr as expressions
use Rattle.aerie_base.specs.declared.expressions.Expr.{Expr}

-- ---- what is there: four slots, a counter, a register of an enumeration, and an accumulator past its limits

locals : List Value
locals = Int (pos 7) ∷ Int (negsuc 1) ∷ Truth true ∷ Variant 0 1 ∷ []

values : CellRead → Value
values (Counter cell) = Int (pos 5)
values (Register cell) = Variant 0 1
values (Conflicted cell) = Truth false
values (Volume cell) = Int (pos 1_000_000_000_000_000_001)
values (Rate cell) = Int (negsuc 1_000_000_000_000)

nothing_read : List Bool
nothing_read = false ∷ false ∷ false ∷ []

abbrev outcome : Expr → ValueOrFault
outcome expr = (evaluated expr locals values nothing_read).0

abbrev read_flags : Expr → List Bool
read_flags expr = (evaluated expr locals values nothing_read).1

abbrev number : ℤ → Expr
number value = expressions.Literal (Int value)

abbrev truth : Bool → Expr
truth value = expressions.Literal (Truth value)

abbrev slot : ℕ → Expr
slot at = expressions.Operand (Local at)

abbrev cell : CellRead → Expr
cell read = expressions.Operand (Read read)

abbrev binary : Operator → Expr → Expr → Expr
binary = node_binary

abbrev compared : Expr → Expr → List Expr
compared left right =
    binary (operator.Compare by.Equal) left right
    ∷ binary (operator.Compare by.Unequal) left right
    ∷ binary (operator.Compare by.Less) left right
    ∷ binary (operator.Compare by.AtMost) left right
    ∷ binary (operator.Compare by.More) left right
    ∷ binary (operator.Compare by.AtLeast) left right
    ∷ []

-- a division by 0, a number past the limit, and a test with the fault of a division
abbrev no_quotient : Expr
no_quotient = binary operator.Divide (number (pos 1)) (number (pos 0))

abbrev too_great : Expr
too_great = binary operator.Plus (number (pos 1_000_000_000_000_000_000)) (number (pos 1))

abbrev no_test : Expr
no_test = binary (operator.Compare by.Equal) no_quotient (number (pos 1))

abbrev test : Expr
test = binary (operator.Compare by.Equal) (cell (Counter 0)) (number (pos 5))

-- ---- each operator

sums : map outcome (
    binary operator.Plus (slot 0) (slot 1)
    ∷ binary operator.Minus (slot 0) (slot 1)
    ∷ binary operator.Times (slot 0) (slot 1)
    ∷ binary operator.Plus (cell (Counter 0)) (number (pos 1))
    ∷ node_negate (slot 1)
    ∷ node_negate (number (pos 0))
    ∷ []
    ) ≡ Ok (Int (pos 5)) ∷ Ok (Int (pos 9)) ∷ Ok (Int (negsuc 13)) ∷ Ok (Int (pos 6)) ∷ Ok (Int (pos 2)) ∷ Ok (Int (pos 0)) ∷ []
unfolding evaluated locals values nothing_read
sums = refl

-- 7 / 2, -7 / 2, 7 / -2 and -7 / -2: truncated toward zero
quotients : map outcome (
    binary operator.Divide (number (pos 7)) (number (pos 2))
    ∷ binary operator.Divide (number (negsuc 6)) (number (pos 2))
    ∷ binary operator.Divide (number (pos 7)) (number (negsuc 1))
    ∷ binary operator.Divide (number (negsuc 6)) (number (negsuc 1))
    ∷ []
    ) ≡ Ok (Int (pos 3)) ∷ Ok (Int (negsuc 2)) ∷ Ok (Int (negsuc 2)) ∷ Ok (Int (pos 3)) ∷ []
unfolding evaluated
quotients = refl

-- the sign of the dividend
remainders : map outcome (
    binary operator.Remainder (number (pos 7)) (number (pos 2))
    ∷ binary operator.Remainder (number (negsuc 6)) (number (pos 2))
    ∷ binary operator.Remainder (number (pos 7)) (number (negsuc 1))
    ∷ binary operator.Remainder (number (negsuc 6)) (number (negsuc 1))
    ∷ []
    ) ≡ Ok (Int (pos 1)) ∷ Ok (Int (negsuc 0)) ∷ Ok (Int (pos 1)) ∷ Ok (Int (negsuc 0)) ∷ []
unfolding evaluated
remainders = refl

abbrev answers : List Bool → List ValueOrFault
answers truths = map (λ value. Ok (Truth value)) truths

comparisons : (map outcome (compared (slot 0) (slot 1)) ≡ answers (false ∷ true ∷ false ∷ false ∷ true ∷ true ∷ []))
    × (map outcome (compared (slot 1) (slot 0)) ≡ answers (false ∷ true ∷ true ∷ true ∷ false ∷ false ∷ []))
    × (map outcome (compared (slot 0) (number (pos 7))) ≡ answers (true ∷ false ∷ false ∷ true ∷ false ∷ true ∷ []))
unfolding evaluated locals values nothing_read
comparisons = (refl, refl, refl)

equalities : map outcome (
    binary (operator.Compare by.Equal) (slot 3) (cell (Register 2))
    ∷ binary (operator.Compare by.Equal) (slot 3) (expressions.Literal (Variant 0 2))
    ∷ binary (operator.Compare by.Unequal) (slot 3) (expressions.Literal (Variant 0 2))
    ∷ binary (operator.Compare by.Equal) (truth false) (cell (Conflicted 2))
    ∷ binary (operator.Compare by.Unequal) (truth false) (slot 2)
    ∷ []
    ) ≡ answers (true ∷ false ∷ true ∷ true ∷ true ∷ [])
unfolding evaluated locals values nothing_read
equalities = refl

truths : map outcome (
    binary operator.And (truth true) (truth true)
    ∷ binary operator.And (truth true) (truth false)
    ∷ binary operator.And (truth false) (truth true)
    ∷ binary operator.Or (truth false) (truth false)
    ∷ binary operator.Or (truth false) (truth true)
    ∷ binary operator.Or (truth true) (truth false)
    ∷ node_not (truth true)
    ∷ node_not (truth false)
    ∷ []
    ) ≡ answers (true ∷ false ∷ false ∷ false ∷ true ∷ true ∷ false ∷ true ∷ [])
unfolding evaluated
truths = refl

-- ---- the limits

limits : map outcome (
    binary operator.Times (number (pos 1_000_000_000)) (number (pos 1_000_000_000))
    ∷ binary operator.Times (number (pos 1_000_000_000)) (number (negsuc 1_000_000_000))
    ∷ node_negate (number (pos 1_000_000_000_000_000_000))
    ∷ binary operator.Minus (node_negate (number (pos 1_000_000_000_000_000_000))) (number (pos 1))
    ∷ too_great
    ∷ cell (Volume 1)
    ∷ cell (Rate 1)
    ∷ []
    ) ≡ Ok (Int (pos 1_000_000_000_000_000_000))
    ∷ Err Range
    ∷ Ok (Int (negsuc 999_999_999_999_999_999))
    ∷ Err Range
    ∷ Err Range
    ∷ Err Range
    ∷ Err Range
    ∷ []
unfolding evaluated locals values nothing_read
limits = refl

-- ---- the first fault: left side, right side, operation

first_faults : map outcome (
    binary operator.Plus no_quotient too_great
    ∷ binary operator.Plus too_great no_quotient
    ∷ binary operator.Plus (number (pos 1)) no_quotient
    ∷ binary operator.Divide too_great (number (pos 0))
    ∷ binary operator.Remainder (number (pos 1)) (number (pos 0))
    ∷ binary operator.Divide no_quotient (cell (Volume 1))
    ∷ binary operator.Divide (cell (Volume 1)) no_quotient
    ∷ node_negate no_quotient
    ∷ node_not no_test
    ∷ []
    ) ≡ Err Divide
    ∷ Err Range
    ∷ Err Divide
    ∷ Err Range
    ∷ Err Divide
    ∷ Err Divide
    ∷ Err Range
    ∷ Err Divide
    ∷ Err Divide
    ∷ []
unfolding evaluated locals values nothing_read
first_faults = refl

-- the right side is evaluated only where the left does not decide
decided_by_the_left : map outcome (
    binary operator.And (truth false) no_test
    ∷ binary operator.And (truth true) no_test
    ∷ binary operator.Or (truth true) no_test
    ∷ binary operator.Or (truth false) no_test
    ∷ binary operator.And no_test (truth false)
    ∷ []
    ) ≡ Ok (Truth false) ∷ Err Divide ∷ Ok (Truth true) ∷ Err Divide ∷ Err Divide ∷ []
unfolding evaluated locals values nothing_read
decided_by_the_left = refl

-- ---- which cells are read

notes : map read_flags (
    number (pos 1)
    ∷ test
    ∷ binary operator.Or (cell (Conflicted 2)) test
    ∷ binary operator.And (cell (Conflicted 2)) test
    ∷ binary operator.And (slot 2) test
    ∷ binary operator.Or (slot 2) test
    ∷ binary operator.Plus (cell (Volume 1)) (cell (Counter 0))
    ∷ binary operator.Plus (cell (Counter 0)) (cell (Volume 1))
    ∷ binary operator.Or no_test test
    ∷ []
    ) ≡ (false ∷ false ∷ false ∷ [])
    ∷ (true ∷ false ∷ false ∷ [])
    ∷ (true ∷ false ∷ true ∷ [])
    ∷ (false ∷ false ∷ true ∷ [])
    ∷ (true ∷ false ∷ false ∷ [])
    ∷ (false ∷ false ∷ false ∷ [])
    ∷ (false ∷ true ∷ false ∷ [])
    ∷ (true ∷ true ∷ false ∷ [])
    ∷ (false ∷ false ∷ false ∷ [])
    ∷ []
unfolding evaluated locals values nothing_read
notes = refl

-- ---- types

kinds : CellRead → Option Kind
kinds (Counter cell) = Some kind.Int
kinds (Register cell) = Some (kind.Enum 0)
kinds (Conflicted cell) = Some kind.Truth
kinds (Volume cell) = None
kinds (Rate cell) = None

abbrev type_of : Expr → Option Kind
type_of expr = kind_of expr (slot_kinds locals) kinds

well_typed : map type_of (
    number (pos 1)
    ∷ slot 3
    ∷ binary operator.Plus (slot 0) (cell (Counter 0))
    ∷ binary operator.Remainder (slot 0) (slot 1)
    ∷ binary (operator.Compare by.Less) (slot 0) (slot 1)
    ∷ binary (operator.Compare by.Equal) (slot 3) (cell (Register 2))
    ∷ binary (operator.Compare by.Unequal) (slot 2) (cell (Conflicted 2))
    ∷ binary operator.And (slot 2) (node_not (cell (Conflicted 2)))
    ∷ node_negate (slot 1)
    ∷ []
    ) ≡ Some kind.Int
    ∷ Some (kind.Enum 0)
    ∷ Some kind.Int
    ∷ Some kind.Int
    ∷ Some kind.Truth
    ∷ Some kind.Truth
    ∷ Some kind.Truth
    ∷ Some kind.Truth
    ∷ Some kind.Int
    ∷ []
unfolding kind_of locals kinds
well_typed = refl

not_well_typed : map type_of (
    slot 4
    ∷ cell (Volume 1)
    ∷ binary operator.Plus (slot 0) (slot 2)
    ∷ binary operator.Divide (slot 2) (slot 0)
    ∷ binary (operator.Compare by.Less) (slot 2) (slot 2)
    ∷ binary (operator.Compare by.AtLeast) (slot 3) (slot 3)
    ∷ binary (operator.Compare by.Equal) (slot 3) (expressions.Literal (Variant 1 1))
    ∷ binary (operator.Compare by.Unequal) (slot 0) (slot 2)
    ∷ binary operator.Or (slot 0) (slot 2)
    ∷ binary operator.And (slot 2) (slot 0)
    ∷ node_not (slot 0)
    ∷ node_negate (slot 2)
    ∷ []
    ) ≡ None ∷ None ∷ None ∷ None ∷ None ∷ None ∷ None ∷ None ∷ None ∷ None ∷ None ∷ None ∷ []
unfolding kind_of locals kinds
not_well_typed = refl
