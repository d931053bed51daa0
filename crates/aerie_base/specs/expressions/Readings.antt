-- What reading a cell gives, and which cells were read.
use Rattle.std.specs.Prelude.{◌≡◌, ⊤, ℕ, ℤ, Bool, true, List, Option, Some, Ok, Err, slice_set, if◌then◌else◌}
use Rattle.aerie_base.specs.Ranges.{is_rate}
use Rattle.aerie_base.specs.expressions.Arithmetic.{ValueOrFault, ranged, value_kind}
use Rattle.aerie_base.specs.declared.values.Kind.{Kind}
use Rattle.aerie_base.specs.declared.values.Kind.TheVariants as kind
use Rattle.aerie_base.specs.declared.values.Value.{Value}
use Rattle.aerie_base.specs.declared.values.Value.TheVariants.{Int, Truth, Variant}
use Rattle.aerie_base.specs.declared.faults.Fault.TheVariants.{Range}
use Rattle.aerie_base.specs.declared.operands.CellRead.{CellRead}
use Rattle.aerie_base.specs.declared.operands.CellRead.TheVariants.{Counter, Register, Conflicted, Volume, Rate}

-- the cell that is read
abbrev pub cell_of : CellRead → ℕ
cell_of (Counter cell) = cell
cell_of (Register cell) = cell
cell_of (Conflicted cell) = cell
cell_of (Volume cell) = cell
cell_of (Rate cell) = cell

abbrev pub rate_ranged : ℤ → ValueOrFault
rate_ranged number = if is_rate number then Ok (Int number) else Err Range

abbrev pub on_number : (ℤ → ValueOrFault) → Value → ValueOrFault
on_number f (Int number) = f number
on_number f (Truth truth) = Ok (Truth truth)
on_number f (Variant of number) = Ok (Variant of number)

-- what a read gives of the value that is there: the value, and Range where it is a number out of its range
abbrev pub reading : CellRead → Value → ValueOrFault
reading (Counter cell) value = on_number ranged value
reading (Register cell) value = on_number ranged value
reading (Conflicted cell) value = on_number ranged value
reading (Volume cell) value = on_number ranged value
reading (Rate cell) value = on_number rate_ranged value

-- what is read so may have this type: a counter, a volume or a rate is a whole number, a conflict flag a truth
abbrev pub MayHave : CellRead → Kind → Type 0
MayHave (Counter cell) of = of ≡ kind.Int
MayHave (Register cell) of = ⊤
MayHave (Conflicted cell) of = of ≡ kind.Truth
MayHave (Volume cell) of = of ≡ kind.Int
MayHave (Rate cell) of = of ≡ kind.Int

-- each read that there is has a value of its type, and a type that such a read may have
pub record AreReadings (kinds : CellRead → Option Kind) (values : CellRead → Value) : Type 0 where
  pub of_kind : (read : CellRead) (of : Kind) → kinds read ≡ Some of → value_kind (values read) ≡ of
  pub sorts : (read : CellRead) (of : Kind) → kinds read ≡ Some of → MayHave read of

-- the flags by cell of what was read, and one cell more
abbrev pub also : ℕ → List Bool → List Bool
also cell read_flags = slice_set read_flags cell true
