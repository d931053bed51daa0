-- The types and the values that a model has.
use Rattle.std.specs.Prelude.{ℕ, ◌&&◌, Bool, true, List, Option, Some, None, nat_lt, length, slice_get}
use Rattle.aerie_base.specs.Ranges.{is_number}
use Rattle.aerie_base.specs.expressions.Arithmetic.{value_kind}
use Rattle.aerie_base.specs.expressions.Typing.{same_kind}
use Rattle.aerie_base.specs.declared.values.Kind.{Kind}
use Rattle.aerie_base.specs.declared.values.Kind.TheVariants.{Int, Truth, Enum}
use Rattle.aerie_base.specs.declared.values.Value.{Value}
use Rattle.aerie_base.specs.declared.values.Value.TheVariants as value
use Rattle.aerie_base.specs.declared.models.EnumType.{EnumType}

-- whether an enumeration is one of the model's
abbrev pub is_kind : List EnumType → Kind → Bool
is_kind enums Int = true
is_kind enums Truth = true
is_kind enums (Enum number) = nat_lt number (length enums)

abbrev pub variants_of : Option EnumType → ℕ
variants_of None = 0
variants_of (Some enum) = length enum.variants

-- how many variants an enumeration has; none where there is no such
abbrev pub variant_count : List EnumType → ℕ → ℕ
variant_count enums kind = variants_of (slice_get enums kind)

-- whether this is a value of the model: a number within the range, a truth, or a variant of one of its enumerations
abbrev pub is_value : List EnumType → Value → Bool
is_value enums (value.Int number) = is_number number
is_value enums (value.Truth truth) = true
is_value enums (value.Variant kind number) = nat_lt number (variant_count enums kind)

-- whether this is a value of that type
abbrev pub is_value_of : List EnumType → Kind → Value → Bool
is_value_of enums kind value = same_kind (value_kind value) kind && is_value enums value
