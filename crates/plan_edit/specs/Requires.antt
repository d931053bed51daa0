-- What the arguments of a directive must meet: the `require`s of its type.
use Rattle.std.specs.Prelude.{ℕ, ◌+◌, Bool, true, false, List, [], ◌∷◌, Option, Some, None, is_some, Ok, Err, if◌then◌else◌}
use Rattle.aerie_base.specs.declared.models.Activity.{Activity}
use Rattle.aerie_base.specs.declared.values.Kind.{Kind}
use Rattle.aerie_base.specs.declared.values.Kind.TheVariants as kind
use Rattle.aerie_base.specs.expressions.Typing.{kind_of, slot_kinds}
use Rattle.aerie_base.specs.declared.values.Value.{Value}
use Rattle.aerie_base.specs.declared.values.Value.TheVariants.{Int, Truth, Variant}
use Rattle.aerie_base.specs.declared.operands.CellRead.{CellRead}
use Rattle.aerie_base.specs.declared.operands.CellRead.TheVariants.{Counter, Register, Conflicted, Volume, Rate}
use Rattle.aerie_base.specs.declared.expressions.Expr.{Expr}
use Rattle.aerie_base.specs.expressions.Arithmetic.{ValueOrFault}
use Rattle.aerie_base.specs.expressions.Evaluation.{evaluated}

-- a `require` reads parameters alone, so it does not matter what a cell would read
abbrev pub no_reads : CellRead → Value
no_reads read = Truth false

-- a place to read from that has no reads
abbrev pub no_kinds : CellRead → Option Kind
no_kinds read = None

-- one whose registers are all false
abbrev pub register_kinds : CellRead → Option Kind
register_kinds (Register cell) = Some kind.Truth
register_kinds (Counter cell) = None
register_kinds (Conflicted cell) = None
register_kinds (Volume cell) = None
register_kinds (Rate cell) = None

-- the one where there are registers, or the other
abbrev pub kinds_if : Bool → CellRead → Option Kind
kinds_if true = register_kinds
kinds_if false = no_kinds

-- a fault is not true
abbrev pub is_true : ValueOrFault → Bool
is_true (Ok (Truth truth)) = truth
is_true (Ok (Int number)) = false
is_true (Ok (Variant kind number)) = false
is_true (Err fault) = false

-- whether a `require` is true of the values of the parameters
abbrev pub is_met : List Value → Expr → Bool
is_met values expr = is_true (evaluated expr values no_reads []).0

-- whether a `require` is well typed for values
abbrev pub is_typed_for : List Value → Expr → Bool
is_typed_for values expr = is_some (kind_of expr (slot_kinds values) no_kinds)

-- the number of the first of some `require`s that is not true, counted from a number
abbrev pub first_unmet : ℕ → List Value → List Expr → Option ℕ
first_unmet number values [] = None
first_unmet number values (expr ∷ rest) = if is_met values expr then first_unmet (number + 1) values rest else Some number

-- the same of the `require`s of an activity type, where there is one
abbrev pub unmet_of_type : Option Activity → List Value → Option ℕ
unmet_of_type None values = None
unmet_of_type (Some activity) values = first_unmet 0 values activity.requires_
