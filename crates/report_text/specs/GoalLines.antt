-- What a schedule made of goals, as the value that is printed.
use Rattle.std.specs.Prelude.{ℕ, Bool, true, false, List, [], ◌∷◌, codes, map, Option, Some, None, option_map, if◌then◌else◌}
use Rattle.serde_json.specs.Data.{Data, array, boolean, member, no_members, number, object, string}
use Rattle.serde_json.specs.Find.{of_integer}
use Rattle.serde_json.specs.View.{items_of}
use Rattle.aerie_base.specs.declared.models.model.Parts.{Parts}
use Rattle.goals.specs.declared.gap.Gap.{Gap}
use Rattle.goals.specs.declared.status.GoalStatus.{GoalStatus}
use Rattle.goals.specs.declared.unmet.OpenGap.{OpenGap}
use Rattle.goals.specs.declared.unmet.Rejection.{Rejection}
use Rattle.goals.specs.declared.unmet.Rejection.TheVariants.{Unfilled, Violates}
use Rattle.goals.specs.declared.unmet.Unmet.{Unmet}
use Rattle.goals.specs.declared.unmet.Unmet.TheVariants as unmet
use Rattle.json_line.specs.Json.{object_of}
use Rattle.json_line.specs.Numbers.{natural_data}
use Rattle.json_line.specs.Parts.{member_if}
use Rattle.report_text.specs.Outcomes.{outcome_data}
use Rattle.report_text.specs.declared.answers.ScheduleReport.{ScheduleReport}
use Rattle.run_data.specs.declared.runs.Outcome.{Outcome}

abbrev pub naturals_data : List ℕ → Data
naturals_data numbers = array (items_of (map natural_data numbers))

-- ---- why a goal is unmet

-- a time in microseconds, or how many starts there are
abbrev pub gap_data : Gap → Data
gap_data gap = number (of_integer gap.at)

-- an open gap for which no start was tried
abbrev pub untried_data : OpenGap → Data
untried_data open_gap = object_of ((codes "gap", gap_data open_gap.gap) ∷ (codes "tried", natural_data open_gap.tried) ∷ [])

-- one for which the run of the last start that was tried ended so, and does not fill it
abbrev pub unfilled_data : Parts → OpenGap → Outcome → Data
unfilled_data model open_gap outcome =
    object_of ((codes "gap", gap_data open_gap.gap)
    ∷ (codes "outcome", outcome_data model outcome)
    ∷ (codes "tried", natural_data open_gap.tried)
    ∷ [])

-- one for which that run violates a constraint of this name, at this time first
abbrev pub violating_data : OpenGap → List ℕ → ℕ → Data
violating_data open_gap constraint time =
    object_of ((codes "constraint", string constraint)
    ∷ (codes "gap", gap_data open_gap.gap)
    ∷ (codes "time", natural_data time)
    ∷ (codes "tried", natural_data open_gap.tried)
    ∷ [])

abbrev pub open_gap_data : Parts → OpenGap → Option Rejection → Data
open_gap_data model open_gap None = untried_data open_gap
open_gap_data model open_gap (Some (Unfilled outcome)) = unfilled_data model open_gap outcome
open_gap_data model open_gap (Some (Violates constraint time)) = violating_data open_gap constraint time

-- what was placed for a later goal broke it
abbrev pub broken_data : Data
broken_data = object_of ((codes "later", boolean true) ∷ [])

abbrev pub unmet_data : Parts → Unmet → Data
unmet_data model (unmet.Open open_gap) = open_gap_data model open_gap open_gap.last
unmet_data model unmet.Broken = broken_data

-- why, which is told only where details are
abbrev pub why_told : Bool → Parts → Option Unmet → Option Data
why_told detail model why = if detail then option_map (unmet_data model) why else None

-- ---- schedules

-- a goal by its name, whether it is met, the ids of the directives that were placed for it, and where details are told why it
-- is unmet
abbrev pub goal_data : Bool → Parts → GoalStatus → Data
goal_data detail model status =
    object (member (codes "goal") (string status.goal)
    (member (codes "met") (boolean status.met)
    (member (codes "placed") (naturals_data status.placed)
    (member_if (codes "why") (why_told detail model status.why) no_members))))

-- what is told of a schedule of a branch, at its new revision
abbrev pub schedule_data : List ℕ → Parts → ScheduleReport → Data
schedule_data branch model report =
    object_of ((codes "branch", string branch)
    ∷ (codes "goals", array (items_of (map (goal_data report.detail model) report.goals)))
    ∷ (codes "revision", natural_data report.revision)
    ∷ (codes "trials", natural_data report.trials)
    ∷ [])
