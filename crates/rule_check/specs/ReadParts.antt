-- What is read of a valid model without a refusal is of the model.
use Rattle.std.specs.Prelude.{◌≡◌, IsTrue, not, ◌&&◌, [], Some, None, slice_get}
use Rattle.std.specs.List.{list_all}
use Rattle.aerie_base.specs.declared.models.Activity.{Activity}
use Rattle.aerie_base.specs.declared.models.model.Parts.{Parts}
use Rattle.aerie_base.specs.declared.values.Kind.{Kind}
use Rattle.aerie_base.specs.models.ValidModel.{valid_model}
use Rattle.aerie_base.specs.models.Values.{is_value_of}
use Rattle.model_reader.specs.declared.raw.literals.RawLiteralKind.{RawLiteralKind}
use Rattle.model_reader.specs.declared.raw.names.RawName.{RawName}
use Rattle.rule_grammar.specs.declared.raw.windows.RawWindow.{RawWindow}
use Rattle.constraints.specs.GivenSeries.{is_series}
use Rattle.constraints.specs.OfModel.{is_type, is_window, speaks_of_bound}
use Rattle.rule_check.specs.WindowMeaning.{number_of_type, window_of}
use Rattle.rule_check.specs.RuleLiterals.{activity_named, refusals_of_literal, literal_kind, literal_value}
use Rattle.rule_check.specs.RuleNames.{Datasets}
use Rattle.rule_check.specs.WindowRefusals.{refusals_of_type, refusals_of_window}

-- the activity type of a name stands at its number
abbrev pub NamedTypesStand : Type 0
NamedTypesStand = (model : Parts) (name : RawName) (activity : Activity) → IsTrue (valid_model model) → activity_named model name.name ≡ Some activity
    → slice_get model.activities (number_of_type model name) ≡ Some activity

-- the number of a name of which nothing is refused is that of a type
abbrev pub ReadTypesAreOf : Type 0
ReadTypesAreOf = (model : Parts) (name : RawName) → IsTrue (valid_model model) → refusals_of_type model name ≡ []
    → IsTrue (is_type model (number_of_type model name))

-- a window of which nothing is refused is of the model, and without a bound name it speaks of no bound span
abbrev pub ReadWindowsAreOf : Type 0
ReadWindowsAreOf = (model : Parts) (datasets : Datasets) (raw : RawWindow) → IsTrue (valid_model model)
    → IsTrue (list_all (λ dataset. is_series dataset.1) datasets) → refusals_of_window model datasets None raw ≡ []
    → IsTrue (is_window model (window_of model datasets None raw) && not (speaks_of_bound (window_of model datasets None raw)))

-- a literal of which nothing is refused has a value of its type
abbrev pub ReadLiteralsAreOf : Type 0
ReadLiteralsAreOf = (model : Parts) (literal : RawLiteralKind) (kind : Kind) → IsTrue (valid_model model) → refusals_of_literal model literal ≡ []
    → literal_kind model literal ≡ Some kind → IsTrue (is_value_of model.enums kind (literal_value model literal))
