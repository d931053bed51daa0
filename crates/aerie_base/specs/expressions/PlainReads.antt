-- For tests alone: what it says and proves need not be read to trust a clause.
--
-- A plain place to read from, for tests: a whole number for each cell (0 past the last), in whatever range. A conflict
-- flag is whether the number is not 0.
use Rattle.std.specs.Prelude.{◌≡◌, ℤ, pos, not, List, Option, None, Some, slice_index_or}
use mathlib.Core.Path.{refl, ap, subst, ◌∙◌}
use Rattle.aerie_base.specs.expressions.Arithmetic.{is_zero, value_kind}
use Rattle.aerie_base.specs.expressions.Readings.{cell_of, MayHave, AreReadings}
use Rattle.aerie_base.specs.declared.values.Kind.{Kind}
use Rattle.aerie_base.specs.declared.values.Kind.TheVariants as kind
use Rattle.aerie_base.specs.declared.values.Value.{Value}
use Rattle.aerie_base.specs.declared.values.Value.TheVariants.{Int, Truth}
use Rattle.aerie_base.specs.declared.operands.CellRead.{CellRead}
use Rattle.aerie_base.specs.declared.operands.CellRead.TheVariants.{Counter, Register, Conflicted, Volume, Rate}

abbrev pub plain_kind : CellRead → Kind
plain_kind (Counter cell) = kind.Int
plain_kind (Register cell) = kind.Int
plain_kind (Conflicted cell) = kind.Truth
plain_kind (Volume cell) = kind.Int
plain_kind (Rate cell) = kind.Int

abbrev pub plain_kinds : CellRead → Option Kind
plain_kinds read = Some (plain_kind read)

-- the value that a read has where the cell has this number
abbrev pub plain_value : CellRead → ℤ → Value
plain_value (Counter cell) number = Int number
plain_value (Register cell) number = Int number
plain_value (Conflicted cell) number = Truth (not (is_zero number))
plain_value (Volume cell) number = Int number
plain_value (Rate cell) number = Int number

abbrev pub plain_values : List ℤ → CellRead → Value
plain_values numbers read = plain_value read (slice_index_or numbers (cell_of read) (pos 0))

of_plain_kind : (read : CellRead) (number : ℤ) → value_kind (plain_value read number) ≡ plain_kind read
of_plain_kind (Counter cell) number = refl
of_plain_kind (Register cell) number = refl
of_plain_kind (Conflicted cell) number = refl
of_plain_kind (Volume cell) number = refl
of_plain_kind (Rate cell) number = refl

may_have_plain_kind : (read : CellRead) → MayHave read (plain_kind read)
may_have_plain_kind (Counter cell) = refl
may_have_plain_kind (Register cell) = tt
may_have_plain_kind (Conflicted cell) = refl
may_have_plain_kind (Volume cell) = refl
may_have_plain_kind (Rate cell) = refl

abbrev or_int : Option Kind → Kind
or_int None = kind.Int
or_int (Some of) = of

pub plain_readings : (numbers : List ℤ) → AreReadings plain_kinds (plain_values numbers)
plain_readings numbers = record {
  of_kind = λ read of e. of_plain_kind read (slice_index_or numbers (cell_of read) (pos 0)) ∙ ap or_int e;
  sorts = λ read of e. subst (MayHave read) (ap or_int e) (may_have_plain_kind read);
}
