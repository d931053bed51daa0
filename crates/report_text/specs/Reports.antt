-- The report of a simulation, as the value that is printed.
use Rattle.std.specs.Prelude.{◌≡◌, ℕ, Bool, true, false, IsTrue, List, codes, Option, Some, None, option_map}
use Rattle.std.specs.List.{list_all}
use Rattle.serde_json.specs.Data.{Data, boolean, member, no_members, object, string}
use Rattle.aerie_base.specs.declared.models.model.Parts.{Parts}
use Rattle.constraints.specs.OfModel.{is_constraint}
use Rattle.epoch_text.specs.DayTexts.{day_text_of}
use Rattle.json_line.specs.Parts.{member_if}
use Rattle.json_line.specs.Numbers.{natural_data}
use Rattle.report_text.specs.DatasetLines.{datasets_data}
use Rattle.report_text.specs.Details.{cells_data, if_told, namings_data}
use Rattle.report_text.specs.Outcomes.{outcome_data}
use Rattle.report_text.specs.ProfileLines.{profiles_data}
use Rattle.report_text.specs.SpanLines.{spans_data}
use Rattle.report_text.specs.Violations.{violations_data}
use Rattle.report_text.specs.declared.answers.Report.{Report}

-- the name of a model, which is told only where there is more than one
abbrev pub name_told : Bool → Parts → Option (List ℕ)
name_told true model = Some model.name
name_told false model = None

-- what is told of a simulation of a branch; the keys in the order of their bytes
abbrev pub report_data : List ℕ → Parts → Bool → Report → Data
report_data branch model named report =
    object (member (codes "attached") (boolean report.attached)
    (member (codes "branch") (string branch)
    (member_if (codes "cells") (if_told report.detail (cells_data model report.run.run))
    (member_if (codes "constraints") (if_told report.detail (namings_data model report.constraints))
    (member_if (codes "datasets") (if_told report.detail (datasets_data model.enums report.constraints))
    (member_if (codes "duration") (if_told report.detail (natural_data report.run.run.plan.duration))
    (member_if (codes "model") (option_map string (name_told named model))
    (member (codes "outcome") (outcome_data model report.run.run.outcome)
    (member (codes "profiles") (profiles_data model report.run.run)
    (member (codes "reach") (natural_data report.run.run.reach)
    (member (codes "revision") (natural_data report.revision)
    (member (codes "spans") (spans_data model report.start report.run.run)
    (member_if (codes "start") (if_told report.detail (string (day_text_of report.start 0)))
    (member_if (codes "statements") (option_map natural_data report.statements)
    (member (codes "violations") (violations_data report.detail model report.run.run report.constraints) no_members)))))))))))))))

-- a report is of a model: its run is one of the model, and its constraints are
pub record IsReportOf (model : Parts) (report : Report) : Type 0 where
  pub run : report.run.model ≡ model
  pub constraints : IsTrue (list_all (is_constraint model) report.constraints)
