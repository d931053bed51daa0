-- Literals: what is wrong with one, its type and its value.
use Rattle.std.specs.Prelude.{ℕ, false, List, [], Option, Some, None, option_map}
use Rattle.aerie_base.specs.declared.places.Place.{Place}
use Rattle.aerie_base.specs.declared.values.Kind.{Kind}
use Rattle.aerie_base.specs.declared.values.Kind.TheVariants.{Int, Truth, Enum}
use Rattle.aerie_base.specs.declared.values.Value.{Value}
use Rattle.aerie_base.specs.declared.values.Value.TheVariants as value
use Rattle.aerie_base.specs.expressions.Typing.{same_kind}
use Rattle.model_reader.specs.declared.raw.literals.RawLiteralKind.{RawLiteralKind}
use Rattle.model_reader.specs.declared.raw.literals.RawLiteralKind.TheVariants as literal
use Rattle.model_reader.specs.declared.raw.names.RawName.{RawName}
use Rattle.model_check.specs.declared.causes.Cause.TheVariants.{Unknown, WrongType}
use Rattle.diagnostics.specs.declared.diagnostic.Diagnostic.{Diagnostic}
use Rattle.model_check.specs.declared.causes.Cause.{Cause}
use Rattle.model_check.specs.declared.symbols.EnumSymbol.{EnumSymbol}
use Rattle.model_check.specs.declared.tables.NameTable.{NameTable}
use Rattle.diagnostics.specs.Diagnostics.{at_place, refused_unless}
use Rattle.diagnostics.specs.NameLists.{name_number}
use Rattle.diagnostics.specs.ShortNumbers.{short}
use Rattle.model_check.specs.NameTables.{entry_in}

-- ---- types that are wanted

-- a type where another one is wanted; what has no type, since a name in it is unknown, is as wanted
abbrev pub mismatch : Place → Option Kind → Option Kind → List (Diagnostic Cause)
mismatch at None found = []
mismatch at (Some wanted) None = []
mismatch at (Some wanted) (Some found) = refused_unless (same_kind wanted found) WrongType at

-- ---- literals

abbrev pub enum_kind : ℕ × EnumSymbol → Kind
enum_kind enum = Enum (short enum.0)

-- the type of a literal: there is none where its enumeration is unknown
abbrev pub literal_kind : NameTable EnumSymbol → RawLiteralKind → Option Kind
literal_kind enums (literal.Number number) = Some Int
literal_kind enums (literal.Truth truth) = Some Truth
literal_kind enums (literal.Variant kind variant) = option_map enum_kind (entry_in kind.name enums)

-- an enumeration has the variant
abbrev pub no_variant : RawName → Option ℕ → List (Diagnostic Cause)
no_variant variant None = at_place Unknown variant.at
no_variant variant (Some number) = []

abbrev pub variant_diagnostics : RawName → RawName → Option (ℕ × EnumSymbol) → List (Diagnostic Cause)
variant_diagnostics kind variant None = at_place Unknown kind.at
variant_diagnostics kind variant (Some enum) = no_variant variant (name_number variant.name enum.1.variants)

-- what is wrong with a literal: its enumeration is unknown, or that has no such variant
abbrev pub literal_diagnostics : NameTable EnumSymbol → RawLiteralKind → List (Diagnostic Cause)
literal_diagnostics enums (literal.Number number) = []
literal_diagnostics enums (literal.Truth truth) = []
literal_diagnostics enums (literal.Variant kind variant) = variant_diagnostics kind variant (entry_in kind.name enums)

abbrev pub numbered_variant : ℕ → Option ℕ → Value
numbered_variant kind None = value.Truth false
numbered_variant kind (Some number) = value.Variant (short kind) (short number)

abbrev pub variant_value : RawName → Option (ℕ × EnumSymbol) → Value
variant_value variant None = value.Truth false
variant_value variant (Some enum) = numbered_variant enum.0 (name_number variant.name enum.1.variants)

-- the value of a literal; of one with something wrong it is never used
abbrev pub literal_value : NameTable EnumSymbol → RawLiteralKind → Value
literal_value enums (literal.Number number) = value.Int number
literal_value enums (literal.Truth truth) = value.Truth truth
literal_value enums (literal.Variant kind variant) = variant_value variant (entry_in kind.name enums)
