-- What is worked out once of a model for its reports.
use Rattle.std.specs.Prelude.{ℕ, List, [], map, option_map, slice_get, unwrap_or}
use Rattle.aerie_base.specs.declared.models.Activity.{Activity}
use Rattle.aerie_base.specs.declared.models.EnumType.{EnumType}
use Rattle.aerie_base.specs.declared.models.model.Parts.{Parts}
use Rattle.plan_edit.specs.Arguments.{written_variant}
use Rattle.report_text.specs.ArgumentOrder.{order_of, names_of_parameters}

-- the words of an enumeration's variants
abbrev pub variant_words : EnumType → List (List ℕ)
variant_words enum = map (written_variant enum) enum.variants

-- the order of an activity type's parameters by name
abbrev pub parameter_order : Activity → List ℕ
parameter_order activity = order_of (names_of_parameters activity.parameters)

-- the same by the number of the type, where the model has one of that number
abbrev pub order_of_type : Parts → ℕ → List ℕ
order_of_type model kind = unwrap_or (option_map parameter_order (slice_get model.activities kind)) []
