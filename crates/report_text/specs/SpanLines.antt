-- The spans of a run, as the value that is printed.
use Rattle.std.specs.Prelude.{ℕ, ℤ, List, [], ◌∷◌, codes, map, Option, Some, None, option_map, slice_get, unwrap_or}
use Rattle.serde_json.specs.Data.{Data, array, string}
use Rattle.serde_json.specs.View.{items_of}
use Rattle.aerie_base.specs.declared.models.Activity.{Activity}
use Rattle.aerie_base.specs.declared.models.EnumType.{EnumType}
use Rattle.aerie_base.specs.declared.models.model.Parts.{Parts}
use Rattle.aerie_base.specs.declared.values.Value.{Value}
use Rattle.json_line.specs.Json.{object_of}
use Rattle.epoch_text.specs.DayTexts.{day_text_of}
use Rattle.json_line.specs.Parts.{optional_data}
use Rattle.plan_edit.specs.ShownPlan.{Fields, argument_fields, json_of_value}
use Rattle.run_data.specs.Spans.{SpanOf, spans_of}
use Rattle.run_data.specs.declared.runs.Run.{Run}
use Rattle.json_line.specs.Numbers.{natural_data}
use Rattle.json_line.specs.PathTexts.{path_data}

-- the name of an activity type, where the model has one of that number
abbrev pub type_name : Parts → ℕ → List ℕ
type_name model kind = unwrap_or (option_map (λ activity. activity.name) (slice_get model.activities kind)) []

-- values by the names of a type's parameters
abbrev pub fields_of_type : List EnumType → Option Activity → List Value → Fields
fields_of_type enums None values = []
fields_of_type enums (Some activity) values = argument_fields enums activity.parameters values

abbrev pub arguments_data : Parts → ℕ → List Value → Data
arguments_data model kind values = object_of (fields_of_type model.enums (slice_get model.activities kind) values)

-- a span of a plan with this start: the end and the result are null where there is none, and `utc` is the start of the span
-- in the calendar
abbrev pub span_data : Parts → ℤ → SpanOf → Data
span_data model start span =
    object_of ((codes "arguments", arguments_data model span.kind span.arguments)
    ∷ (codes "end", optional_data natural_data span.end)
    ∷ (codes "path", path_data span.path)
    ∷ (codes "result", optional_data (json_of_value model.enums) span.result)
    ∷ (codes "start", natural_data span.start)
    ∷ (codes "type", string (type_name model span.kind))
    ∷ (codes "utc", string (day_text_of start span.start))
    ∷ [])

-- the spans of a run, in their order
abbrev pub spans_data : Parts → ℤ → Run → Data
spans_data model start run = array (items_of (map (span_data model start) (spans_of model run)))
