-- Literals of mappings and of beginnings, by the enumerations of their model: what is wrong with one, its type and its value.
use Rattle.std.specs.Prelude.{ℕ, false, List, [], Option, Some, None, option_map, option_and_then, position, slice_get}
use Rattle.aerie_base.specs.declared.models.EnumType.{EnumType}
use Rattle.aerie_base.specs.declared.values.Kind.{Kind}
use Rattle.aerie_base.specs.declared.values.Kind.TheVariants.{Int, Truth, Enum}
use Rattle.aerie_base.specs.declared.values.Value.{Value}
use Rattle.aerie_base.specs.declared.values.Value.TheVariants as value
use Rattle.aerie_base.specs.models.Names.{same_name, is_name_among}
use Rattle.diagnostics.specs.ShortNumbers.{short}
use Rattle.model_reader.specs.declared.raw.literals.RawLiteralKind.{RawLiteralKind}
use Rattle.model_reader.specs.declared.raw.literals.RawLiteralKind.TheVariants as literal
use Rattle.model_reader.specs.declared.raw.names.RawName.{RawName}
use Rattle.session_reader.specs.declared.causes.Cause.TheVariants.{Unknown}
use Rattle.diagnostics.specs.declared.diagnostic.Diagnostic.{Diagnostic}
use Rattle.session_reader.specs.declared.causes.Cause.{Cause}
use Rattle.diagnostics.specs.Diagnostics.{at_place, refused_unless}

-- the position of the enumeration with a name
abbrev pub enum_position : List EnumType → List ℕ → Option ℕ
enum_position enums name = position (λ enum. same_name enum.name name) enums

abbrev pub enum_named : List EnumType → List ℕ → Option EnumType
enum_named enums name = option_and_then (slice_get enums) (enum_position enums name)

-- the position of the variant with a name
abbrev pub variant_position : List (List ℕ) → List ℕ → Option ℕ
variant_position variants name = position (same_name name) variants

-- ---- what is wrong

abbrev pub variant_diagnostics : RawName → RawName → Option EnumType → List (Diagnostic Cause)
variant_diagnostics kind variant None = at_place Unknown kind.at
variant_diagnostics kind variant (Some enum) = refused_unless (is_name_among variant.name enum.variants) Unknown variant.at

-- its enumeration is unknown, or that has no such variant
abbrev pub literal_diagnostics : List EnumType → RawLiteralKind → List (Diagnostic Cause)
literal_diagnostics enums (literal.Number number) = []
literal_diagnostics enums (literal.Truth truth) = []
literal_diagnostics enums (literal.Variant kind variant) = variant_diagnostics kind variant (enum_named enums kind.name)

-- ---- what is meant

-- the type of a literal: there is none where its enumeration is unknown
abbrev pub literal_kind : List EnumType → RawLiteralKind → Option Kind
literal_kind enums (literal.Number number) = Some Int
literal_kind enums (literal.Truth truth) = Some Truth
literal_kind enums (literal.Variant kind variant) = option_map (λ place. Enum (short place)) (enum_position enums kind.name)

abbrev pub variant_in : List ℕ → Option EnumType → Option ℕ
variant_in name None = None
variant_in name (Some enum) = variant_position enum.variants name

abbrev pub variant_value : Option ℕ → Option ℕ → Value
variant_value None variant = value.Truth false
variant_value (Some kind) None = value.Truth false
variant_value (Some kind) (Some variant) = value.Variant (short kind) (short variant)

-- the value of a literal; of one with something wrong it is never used
abbrev pub literal_value : List EnumType → RawLiteralKind → Value
literal_value enums (literal.Number number) = value.Int number
literal_value enums (literal.Truth truth) = value.Truth truth
literal_value enums (literal.Variant kind variant) =
    variant_value (enum_position enums kind.name) (variant_in variant.name (enum_named enums kind.name))
