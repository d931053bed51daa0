-- The cells of a model: how each begins, and what each read of them has.
use Rattle.std.specs.Prelude.{ℕ, ◌&&◌, Bool, List, Option, Some, None, option_map, slice_get}
use Rattle.aerie_base.specs.declared.names.Name.{Name}
use Rattle.aerie_base.specs.declared.values.Kind.{Kind}
use Rattle.aerie_base.specs.declared.values.Kind.TheVariants.{Int, Truth}
use Rattle.aerie_base.specs.declared.operands.CellRead.{CellRead}
use Rattle.aerie_base.specs.declared.operands.CellRead.TheVariants as read
use Rattle.aerie_base.specs.declared.models.CellStart.{CellStart}
use Rattle.aerie_base.specs.declared.models.CellStart.TheVariants.{Counter, Register, Accumulator}
use Rattle.aerie_base.specs.declared.models.EnumType.{EnumType}
use Rattle.aerie_base.specs.Ranges.{is_number, is_rate}
use Rattle.aerie_base.specs.models.Values.{is_kind, is_value_of}

abbrev pub NamedCells : Type 0
NamedCells = List (Name × CellStart)

-- a cell by its place in the order of declaration, where there is one
abbrev pub cell_start_at : NamedCells → ℕ → Option CellStart
cell_start_at cells cell = option_map (λ named. named.1) (slice_get cells cell)

-- the type of a counter's number
abbrev pub counter_kind : Option CellStart → Option Kind
counter_kind (Some (Counter number)) = Some Int
counter_kind (Some (Register kind value)) = None
counter_kind (Some (Accumulator volume rate)) = None
counter_kind None = None

-- the type of a register's value
abbrev pub register_kind : Option CellStart → Option Kind
register_kind (Some (Counter number)) = None
register_kind (Some (Register kind value)) = Some kind
register_kind (Some (Accumulator volume rate)) = None
register_kind None = None

-- the type of a register's conflict flag
abbrev pub flag_kind : Option CellStart → Option Kind
flag_kind (Some (Counter number)) = None
flag_kind (Some (Register kind value)) = Some Truth
flag_kind (Some (Accumulator volume rate)) = None
flag_kind None = None

-- the type of an accumulator's volume, and of its rate
abbrev pub flow_kind : Option CellStart → Option Kind
flow_kind (Some (Counter number)) = None
flow_kind (Some (Register kind value)) = None
flow_kind (Some (Accumulator volume rate)) = Some Int
flow_kind None = None

-- the type of what a read has, where the model has such a read
abbrev pub read_kind : NamedCells → CellRead → Option Kind
read_kind cells (read.Counter cell) = counter_kind (cell_start_at cells cell)
read_kind cells (read.Register cell) = register_kind (cell_start_at cells cell)
read_kind cells (read.Conflicted cell) = flag_kind (cell_start_at cells cell)
read_kind cells (read.Volume cell) = flow_kind (cell_start_at cells cell)
read_kind cells (read.Rate cell) = flow_kind (cell_start_at cells cell)

-- a counter begins with a number, a register with a value of its type, an accumulator with a number and a rate
abbrev pub is_cell : List EnumType → CellStart → Bool
is_cell enums (Counter number) = is_number number
is_cell enums (Register kind value) = is_kind enums kind && is_value_of enums kind value
is_cell enums (Accumulator volume rate) = is_number volume && is_rate rate
