-- Reads: what is wrong with one, its type and what it reads.
use Rattle.std.specs.Prelude.{ℕ, List, [], Option, Some, None}
use Rattle.aerie_base.specs.declared.operands.CellRead.TheVariants as read
use Rattle.aerie_base.specs.declared.operands.Operand.{Operand}
use Rattle.aerie_base.specs.declared.operands.Operand.TheVariants as operand
use Rattle.aerie_base.specs.declared.places.Place.{Place}
use Rattle.aerie_base.specs.declared.values.Kind.{Kind}
use Rattle.aerie_base.specs.declared.values.Kind.TheVariants.{Int, Truth}
use Rattle.model_reader.specs.declared.raw.reads.RawPart.{RawPart}
use Rattle.model_reader.specs.declared.raw.reads.RawPart.TheVariants.{Whole, Volume, Rate, Conflicted}
use Rattle.model_reader.specs.declared.raw.reads.RawRead.{RawRead}
use Rattle.model_check.specs.declared.causes.Cause.TheVariants.{Unknown, WrongType}
use Rattle.diagnostics.specs.declared.diagnostic.Diagnostic.{Diagnostic}
use Rattle.model_check.specs.declared.causes.Cause.{Cause}
use Rattle.model_check.specs.declared.scopes.BodyScope.{BodyScope}
use Rattle.model_check.specs.declared.scopes.LocalSymbol.{LocalSymbol}
use Rattle.model_check.specs.declared.symbols.CellSort.{CellSort}
use Rattle.model_check.specs.declared.symbols.CellSort.TheVariants.{Counter, Register, Accumulator}
use Rattle.model_check.specs.declared.symbols.CellSymbol.{CellSymbol}
use Rattle.model_check.specs.declared.symbols.Symbols.{Symbols}
use Rattle.diagnostics.specs.Diagnostics.{at_place}
use Rattle.diagnostics.specs.ShortNumbers.{short}
use Rattle.model_check.specs.NameTables.{entry_in}

-- a local and a cell that a name may stand for
abbrev pub FoundLocal : Type 0
FoundLocal = Option (ℕ × LocalSymbol)

abbrev pub FoundCell : Type 0
FoundCell = Option (ℕ × CellSymbol)

-- ---- types

abbrev pub sort_kind : CellSort → Option Kind
sort_kind Counter = Some Int
sort_kind (Register kind) = kind
sort_kind Accumulator = None

abbrev pub flow_sort_kind : CellSort → Option Kind
flow_sort_kind Counter = None
flow_sort_kind (Register kind) = None
flow_sort_kind Accumulator = Some Int

abbrev pub flag_sort_kind : CellSort → Option Kind
flag_sort_kind Counter = None
flag_sort_kind (Register kind) = Some Truth
flag_sort_kind Accumulator = None

abbrev pub of_cell : (CellSort → Option Kind) → FoundCell → Option Kind
of_cell kind None = None
of_cell kind (Some cell) = kind cell.1.sort

-- a name alone is a local before it is a cell
abbrev pub whole_kind : FoundLocal → FoundCell → Option Kind
whole_kind (Some local) cell = local.1.kind
whole_kind None cell = of_cell sort_kind cell

abbrev pub part_kind : RawPart → FoundLocal → FoundCell → Option Kind
part_kind Whole local cell = whole_kind local cell
part_kind Volume local cell = of_cell flow_sort_kind cell
part_kind Rate local cell = of_cell flow_sort_kind cell
part_kind Conflicted local cell = of_cell flag_sort_kind cell

-- the type of what is read: there is none where the name stands for nothing that may be read so
abbrev pub raw_read_kind : Symbols → BodyScope → RawRead → Option Kind
raw_read_kind symbols scope read = part_kind read.part (entry_in read.name.name scope.known) (entry_in read.name.name symbols.cells)

-- ---- what is wrong

-- no accumulator alone
abbrev pub whole_sort : Place → CellSort → List (Diagnostic Cause)
whole_sort at Counter = []
whole_sort at (Register kind) = []
whole_sort at Accumulator = at_place WrongType at

abbrev pub flow_sort : Place → CellSort → List (Diagnostic Cause)
flow_sort at Counter = at_place WrongType at
flow_sort at (Register kind) = at_place WrongType at
flow_sort at Accumulator = []

abbrev pub flag_sort : Place → CellSort → List (Diagnostic Cause)
flag_sort at Counter = at_place WrongType at
flag_sort at (Register kind) = []
flag_sort at Accumulator = at_place WrongType at

-- a cell, of the right sort
abbrev pub on_cell : (Place → CellSort → List (Diagnostic Cause)) → Place → FoundCell → List (Diagnostic Cause)
on_cell judged at None = at_place Unknown at
on_cell judged at (Some cell) = judged at cell.1.sort

abbrev pub whole_diagnostics : Place → FoundLocal → FoundCell → List (Diagnostic Cause)
whole_diagnostics at (Some local) cell = []
whole_diagnostics at None cell = on_cell whole_sort at cell

abbrev pub part_diagnostics : RawPart → Place → FoundLocal → FoundCell → List (Diagnostic Cause)
part_diagnostics Whole at local cell = whole_diagnostics at local cell
part_diagnostics Volume at local cell = on_cell flow_sort at cell
part_diagnostics Rate at local cell = on_cell flow_sort at cell
part_diagnostics Conflicted at local cell = on_cell flag_sort at cell

-- what is wrong with a read: its name is of no local and no cell, or of a cell of another sort
abbrev pub read_diagnostics : Symbols → BodyScope → RawRead → List (Diagnostic Cause)
read_diagnostics symbols scope read =
    part_diagnostics read.part read.name.at (entry_in read.name.name scope.known) (entry_in read.name.name symbols.cells)

-- ---- what is read

-- the number of a cell; of none it is never used
abbrev pub cell_number : FoundCell → ℕ
cell_number None = 0
cell_number (Some cell) = short cell.0

abbrev pub sort_operand : ℕ → CellSort → Operand
sort_operand cell Counter = operand.Read (read.Counter cell)
sort_operand cell (Register kind) = operand.Read (read.Register cell)
sort_operand cell Accumulator = operand.Read (read.Volume cell)

abbrev pub cell_operand : FoundCell → Operand
cell_operand None = operand.Read (read.Counter 0)
cell_operand (Some cell) = sort_operand (short cell.0) cell.1.sort

abbrev pub whole_operand : FoundLocal → FoundCell → Operand
whole_operand (Some local) cell = operand.Local local.1.slot
whole_operand None cell = cell_operand cell

abbrev pub part_operand : RawPart → FoundLocal → FoundCell → Operand
part_operand Whole local cell = whole_operand local cell
part_operand Volume local cell = operand.Read (read.Volume (cell_number cell))
part_operand Rate local cell = operand.Read (read.Rate (cell_number cell))
part_operand Conflicted local cell = operand.Read (read.Conflicted (cell_number cell))

-- what a read reads; of one with something wrong it is never used
abbrev pub read_operand : Symbols → BodyScope → RawRead → Operand
read_operand symbols scope read = part_operand read.part (entry_in read.name.name scope.known) (entry_in read.name.name symbols.cells)
