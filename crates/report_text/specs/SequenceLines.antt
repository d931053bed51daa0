-- The commands that the spans of a run give, as the value that is printed.
use Rattle.std.specs.Prelude.{ℕ, ℤ, List, [], ◌∷◌, codes, map}
use Rattle.serde_json.specs.Data.{Data, array, number, string}
use Rattle.serde_json.specs.Find.{of_integer}
use Rattle.serde_json.specs.View.{items_of}
use Rattle.aerie_base.specs.Ranges.{time_of_signed}
use Rattle.aerie_base.specs.declared.models.EnumType.{EnumType}
use Rattle.aerie_base.specs.declared.models.model.Parts.{Parts}
use Rattle.aerie_base.specs.declared.values.Value.{Value}
use Rattle.json_line.specs.Json.{object_of}
use Rattle.epoch_text.specs.DayTexts.{day_text_of}
use Rattle.json_line.specs.Parts.{optional_data}
use Rattle.plan_edit.specs.ShownPlan.{json_of_value}
use Rattle.seq_expand.specs.declared.sequence.Sent.{Sent}
use Rattle.json_line.specs.Numbers.{natural_data}
use Rattle.report_text.specs.GoalLines.{naturals_data}
use Rattle.report_text.specs.Outcomes.{outcome_data}
use Rattle.json_line.specs.PathTexts.{path_data}
use Rattle.report_text.specs.declared.answers.SequenceReport.{SequenceReport}

abbrev pub values_data : List EnumType → List Value → Data
values_data enums values = array (items_of (map (json_of_value enums) values))

abbrev pub signed_data : ℤ → Data
signed_data z = number (of_integer z)

-- a time in the calendar, null where it is none of a plan
abbrev pub utc_data : ℤ → ℤ → Data
utc_data start at = optional_data (λ time. string (day_text_of start time)) (time_of_signed at)

-- a command with a time of the plan, which is told in the calendar too
abbrev pub sent_data : Parts → ℤ → Sent → Data
sent_data model start sent =
    object_of ((codes "arguments", values_data model.enums sent.arguments)
    ∷ (codes "at", signed_data sent.at)
    ∷ (codes "name", string sent.name)
    ∷ (codes "path", path_data sent.path)
    ∷ (codes "utc", utc_data start sent.at)
    ∷ [])

-- a command outside the plan
abbrev pub sent_outside_data : Parts → Sent → Data
sent_outside_data model sent =
    object_of ((codes "arguments", values_data model.enums sent.arguments)
    ∷ (codes "at", signed_data sent.at)
    ∷ (codes "name", string sent.name)
    ∷ (codes "path", path_data sent.path)
    ∷ [])

-- what is told of an expansion of a branch
abbrev pub sequence_data : List ℕ → Parts → SequenceReport → Data
sequence_data branch model report =
    object_of ((codes "branch", string branch)
    ∷ (codes "close", naturals_data report.sequence.close)
    ∷ (codes "commands", array (items_of (map (sent_data model report.start) report.sequence.commands)))
    ∷ (codes "outcome", outcome_data model report.run.run.outcome)
    ∷ (codes "outside", array (items_of (map (sent_outside_data model) report.sequence.outside)))
    ∷ (codes "revision", natural_data report.revision)
    ∷ [])
