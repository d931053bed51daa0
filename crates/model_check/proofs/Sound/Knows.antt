-- What the names of a body stand for, in the symbols of the text and in the model: what each local, read, enumeration and
-- variant is.
use Rattle.std.proofs.Common.{◌≡◌, ℕ, true, List, [], Option, Some, None, option_map, nat_lt, refl}
use Rattle.std.proofs.lemmas.Bool.{le-leb}
use Rattle.aerie_base.specs.Ranges.{number_limit}
use Rattle.std.specs.Int.RustNames.{unsigned_abs}
use Rattle.aerie_base.specs.declared.places.Place.{Place}
use Rattle.aerie_base.specs.declared.values.Kind.{Kind}
use Rattle.aerie_base.specs.declared.values.Kind.TheVariants.{Int, Truth}
use Rattle.aerie_base.specs.declared.operands.CellRead.{CellRead}
use Rattle.aerie_base.specs.declared.operands.CellRead.TheVariants as read
use Rattle.aerie_base.specs.declared.models.EnumType.{EnumType}
use Rattle.aerie_base.specs.expressions.Arithmetic.{value_kind}
use Rattle.aerie_base.specs.expressions.Typing.{operand_kind}
use Rattle.aerie_base.specs.models.Values.{is_value, variant_count}
use Rattle.model_reader.specs.Limits.{IsLiteralInRange}
use Rattle.model_reader.specs.declared.raw.literals.RawLiteralKind.{RawLiteralKind}
use Rattle.model_reader.specs.declared.raw.literals.RawLiteralKind.TheVariants as literal
use Rattle.model_reader.specs.declared.raw.names.RawName.{RawName}
use Rattle.model_reader.specs.declared.raw.reads.RawPart.{RawPart}
use Rattle.model_reader.specs.declared.raw.reads.RawPart.TheVariants.{Whole, Volume, Rate, Conflicted}
use Rattle.model_reader.specs.declared.raw.reads.RawRead.{RawRead}
use Rattle.model_check.specs.declared.scopes.BodyScope.{BodyScope}
use Rattle.model_check.specs.declared.scopes.LocalSymbol.{LocalSymbol}
use Rattle.model_check.specs.declared.symbols.CellSort.{CellSort}
use Rattle.model_check.specs.declared.symbols.CellSort.TheVariants.{Counter, Register, Accumulator}
use Rattle.model_check.specs.declared.symbols.CellSymbol.{CellSymbol}
use Rattle.model_check.specs.declared.symbols.EnumSymbol.{EnumSymbol}
use Rattle.model_check.specs.declared.symbols.Symbols.{Symbols}
use Rattle.model_check.specs.declared.tables.NameTable.{NameTable}
use Rattle.model_check.specs.CellReads.{FoundLocal, FoundCell, sort_kind, flow_sort_kind, flag_sort_kind, whole_sort, flow_sort, flag_sort, sort_operand, part_kind, part_diagnostics, part_operand, raw_read_kind, read_diagnostics, read_operand}
use Rattle.aerie_base.specs.declared.operands.Operand.{Operand}
use Rattle.aerie_base.specs.declared.operands.Operand.TheVariants as operand
use Rattle.diagnostics.specs.ShortNumbers.{short}
use Rattle.model_check.specs.Literals.{enum_kind, literal_kind, literal_diagnostics, literal_value, no_variant, variant_diagnostics, numbered_variant, variant_value}
use Rattle.diagnostics.specs.NameLists.{name_number}
use Rattle.model_check.specs.NameTables.{entry_in}

-- a local of a known type, which its slot has
abbrev pub IsLocal : (ℕ → Option Kind) → LocalSymbol → Type 0
IsLocal locals local = (kind : Kind) × (local.kind ≡ Some kind) × (locals local.slot ≡ Some kind)

-- a cell of this number, of whose sort there are the reads
abbrev pub IsCell : (CellRead → Option Kind) → ℕ → CellSort → Type 0
IsCell reads cell Counter = reads (read.Counter cell) ≡ Some Int
IsCell reads cell (Register kind) =
    (known : Kind) × (kind ≡ Some known) × (reads (read.Register cell) ≡ Some known) × (reads (read.Conflicted cell) ≡ Some Truth)
IsCell reads cell Accumulator = (reads (read.Volume cell) ≡ Some Int) × (reads (read.Rate cell) ≡ Some Int)

-- each variant of an enumeration is one in the model
abbrev pub IsEnum : List EnumType → ℕ × EnumSymbol → Type 0
IsEnum enums enum = (name : List ℕ) (number : ℕ) → name_number name enum.1.variants ≡ Some number → nat_lt (short number) (variant_count enums (short enum.0)) ≡ true

pub record Knows (symbols : Symbols) (scope : BodyScope) (enums : List EnumType) (locals : ℕ → Option Kind) (reads : CellRead → Option Kind) : Type 0 where
  pub local : (name : List ℕ) (entry : ℕ × LocalSymbol) → entry_in name scope.known ≡ Some entry → IsLocal locals entry.1
  pub cell : (name : List ℕ) (entry : ℕ × CellSymbol) → entry_in name symbols.cells ≡ Some entry → IsCell reads (short entry.0) entry.1.sort
  pub variant : (name : List ℕ) (entry : ℕ × EnumSymbol) → entry_in name symbols.enums ≡ Some entry → IsEnum enums entry

-- ---- literals

pub record IsSoundLiteral (table : NameTable EnumSymbol) (enums : List EnumType) (raw : RawLiteralKind) : Type 0 where
  pub kind : literal_kind table raw ≡ Some (value_kind (literal_value table raw))
  pub value : is_value enums (literal_value table raw) ≡ true

module _ (table : NameTable EnumSymbol) (enums : List EnumType) (known : (name : List ℕ) (entry : ℕ × EnumSymbol) → entry_in name table ≡ Some entry → IsEnum enums entry) where
  record IsSoundVariant (variant : RawName) (found : Option (ℕ × EnumSymbol)) : Type 0 where
    kind : option_map enum_kind found ≡ Some (value_kind (variant_value variant found))
    value : is_value enums (variant_value variant found) ≡ true

  sound_number : (entry : ℕ × EnumSymbol) (variant : RawName) (number : Option ℕ) → IsEnum enums entry → name_number variant.name entry.1.variants ≡ number → no_variant variant number ≡ []
      → (Some (enum_kind entry) ≡ Some (value_kind (numbered_variant entry.0 number))) × (is_value enums (numbered_variant entry.0 number) ≡ true)
  sound_number entry variant None is e none = cc
  sound_number entry variant (Some number) is e none = (refl, is variant.name number e)

  sound_found : (kind variant : RawName) (found : Option (ℕ × EnumSymbol)) → entry_in kind.name table ≡ found → variant_diagnostics kind variant found ≡ [] → IsSoundVariant variant found
  sound_found kind variant None e none = cc
  sound_found kind variant (Some entry) e none =
      let sound = sound_number entry variant (name_number variant.name entry.1.variants) (known kind.name entry e) refl none in
      record { kind = sound.0; value = sound.1 }

  pub sound_literal : (raw : RawLiteralKind) → IsLiteralInRange raw → literal_diagnostics table raw ≡ [] → IsSoundLiteral table enums raw
  sound_literal (literal.Number number) within none = record { kind = refl; value = le-leb (unsigned_abs number) number_limit within }
  sound_literal (literal.Truth truth) within none = record { kind = refl; value = refl }
  sound_literal (literal.Variant kind variant) within none =
      let sound = sound_found kind variant (entry_in kind.name table) refl none in
      record { kind = sound.kind; value = sound.value }

-- ---- reads

module _ (locals : ℕ → Option Kind) (reads : CellRead → Option Kind) where
  -- a known type, which what is read has
  abbrev pub IsTyped : Option Kind → Operand → Type 0
  IsTyped kind operand = (of : Kind) × (kind ≡ Some of) × (operand_kind locals reads operand ≡ Some of)

  whole_typed : (at : Place) (cell : ℕ) (sort : CellSort) → IsCell reads cell sort → whole_sort at sort ≡ [] → IsTyped (sort_kind sort) (sort_operand cell sort)
  whole_typed at cell Counter is none = (Int, refl, is)
  whole_typed at cell (Register kind) is none = (is.0, is.1, is.2)
  whole_typed at cell Accumulator is none = cc

  volume_typed : (at : Place) (cell : ℕ) (sort : CellSort) → IsCell reads cell sort → flow_sort at sort ≡ [] → IsTyped (flow_sort_kind sort) (operand.Read (read.Volume cell))
  volume_typed at cell Counter is none = cc
  volume_typed at cell (Register kind) is none = cc
  volume_typed at cell Accumulator is none = (Int, refl, is.0)

  rate_typed : (at : Place) (cell : ℕ) (sort : CellSort) → IsCell reads cell sort → flow_sort at sort ≡ [] → IsTyped (flow_sort_kind sort) (operand.Read (read.Rate cell))
  rate_typed at cell Counter is none = cc
  rate_typed at cell (Register kind) is none = cc
  rate_typed at cell Accumulator is none = (Int, refl, is.1)

  flag_typed : (at : Place) (cell : ℕ) (sort : CellSort) → IsCell reads cell sort → flag_sort at sort ≡ [] → IsTyped (flag_sort_kind sort) (operand.Read (read.Conflicted cell))
  flag_typed at cell Counter is none = cc
  flag_typed at cell (Register kind) is none = (Truth, refl, is.3)
  flag_typed at cell Accumulator is none = cc

  pub part_typed : (part : RawPart) (at : Place) (local : FoundLocal) (cell : FoundCell)
      → ((entry : ℕ × LocalSymbol) → local ≡ Some entry → IsLocal locals entry.1) → ((entry : ℕ × CellSymbol) → cell ≡ Some entry → IsCell reads (short entry.0) entry.1.sort)
      → part_diagnostics part at local cell ≡ [] → IsTyped (part_kind part local cell) (part_operand part local cell)
  part_typed Whole at (Some local) cell is_local is_cell none = is_local local refl
  part_typed Whole at None None is_local is_cell none = cc
  part_typed Whole at None (Some cell) is_local is_cell none = whole_typed at (short cell.0) cell.1.sort (is_cell cell refl) none
  part_typed Volume at local None is_local is_cell none = cc
  part_typed Volume at local (Some cell) is_local is_cell none = volume_typed at (short cell.0) cell.1.sort (is_cell cell refl) none
  part_typed Rate at local None is_local is_cell none = cc
  part_typed Rate at local (Some cell) is_local is_cell none = rate_typed at (short cell.0) cell.1.sort (is_cell cell refl) none
  part_typed Conflicted at local None is_local is_cell none = cc
  part_typed Conflicted at local (Some cell) is_local is_cell none = flag_typed at (short cell.0) cell.1.sort (is_cell cell refl) none

-- a read that is not refused is of a known type, which what it reads has
pub sound_read : (symbols : Symbols) (scope : BodyScope) (enums : List EnumType) (locals : ℕ → Option Kind) (reads : CellRead → Option Kind) → Knows symbols scope enums locals reads
    → (raw : RawRead) → read_diagnostics symbols scope raw ≡ [] → IsTyped locals reads (raw_read_kind symbols scope raw) (read_operand symbols scope raw)
sound_read symbols scope enums locals reads knows raw none =
    part_typed locals reads raw.part raw.name.at (entry_in raw.name.name scope.known) (entry_in raw.name.name symbols.cells) (knows.local raw.name.name) (knows.cell raw.name.name) none
