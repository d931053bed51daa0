-- What the text of a session means.
use Rattle.std.specs.Prelude.{◌≡◌, ℕ, ℤ, ◌+◌, List, [], ◌∷◌, ◌++◌, Option, Ok, map}
use Rattle.aerie_base.specs.declared.models.model.Parts.{Parts}
use Rattle.aerie_base.specs.declared.plans.Plan.{Plan}
use Rattle.session_grammar.specs.declared.raw.sections.RawSections.{RawSections}
use Rattle.session_grammar.specs.declared.raw.sessions.RawSession.{RawSession}
use Rattle.diagnostics.specs.declared.diagnostic.Diagnostic.{Diagnostic}
use Rattle.session_reader.specs.declared.causes.Cause.{Cause}
use Rattle.session_reader.specs.declared.session.ModelPart.{ModelPart}
use Rattle.session_reader.specs.declared.session.Session.{Session}
use Rattle.session_reader.specs.declared.sessions.AllSections.{AllSections}
use Rattle.session_reader.specs.declared.sessions.Judged.{Judged}
use Rattle.session_reader.specs.Answers.{Answer, then_made_of, unless_found}
use Rattle.session_reader.specs.Beginnings.{models_of_plan, plan_diagnostics}
use Rattle.session_reader.specs.CheckedModels.{AreValid, models_answer}
use Rattle.session_reader.specs.ClientCommands.{clients_meant}
use Rattle.session_reader.specs.ClientNames.{repeated_client, unless_repeated}
use Rattle.session_reader.specs.DatasetAnswers.{NamedSeries, datasets_answer}
use Rattle.session_reader.specs.DatasetNames.{datasets_diagnostics}
use Rattle.session_reader.specs.Diagnostics.{MakesAndNotes, first_diagnostic}
use Rattle.session_reader.specs.MappingDiagnostics.{mappings_diagnostics}
use Rattle.session_reader.specs.MeantMappings.{mappings_meant}
use Rattle.session_reader.specs.PlanSections.{plan_answer}
use Rattle.session_reader.specs.RepeatedNames.{repeated_diagnostics}
use Rattle.session_reader.specs.Sections.{no_sections, section_of, sections_by_model, sections_diagnostics}
use Rattle.session_reader.specs.Times.{starts_answer}

-- ---- names

-- what is wrong with the sections, sort by sort
abbrev pub all_sections_diagnostics : List Parts → RawSections → List (Diagnostic Cause)
all_sections_diagnostics models sections =
    sections_diagnostics models (no_sections models) sections.constraints
    ++ sections_diagnostics models (no_sections models) sections.goals
    ++ sections_diagnostics models (no_sections models) sections.sequences

-- what is wrong with the names of models, mappings, datasets and sections
abbrev pub session_diagnostics : List Parts → RawSession → List (Diagnostic Cause)
session_diagnostics models raw =
    repeated_diagnostics [] (map (λ model. model.name) raw.models)
    ++ mappings_diagnostics models raw.mappings
    ++ datasets_diagnostics models raw.datasets
    ++ all_sections_diagnostics models raw.sections

-- ---- models with their sections

-- the sections of each sort, by model
abbrev pub all_sections : List Parts → RawSections → AllSections
all_sections models raw =
    record {
      constraints = sections_by_model models (no_sections models) raw.constraints;
      goals = sections_by_model models (no_sections models) raw.goals;
      sequences = sections_by_model models (no_sections models) raw.sequences;
    }

-- the sections are put by model, and what is wrong with them is noted
abbrev pub MakesAllSections : List Parts → RawSections → Option (Diagnostic Cause) → Option (Diagnostic Cause) → AllSections → Type 0
MakesAllSections models raw = MakesAndNotes (all_sections models raw) (all_sections_diagnostics models raw)

-- the same, with what is wrong with all names of the session
abbrev pub JudgesNames : List Parts → RawSession → Option (Diagnostic Cause) → Option (Diagnostic Cause) → AllSections → Type 0
JudgesNames models raw = MakesAndNotes (all_sections models raw.sections) (session_diagnostics models raw)

-- From the models as they are written: those of the plan with their sections, and the first of what is wrong with the beginnings of
-- the plan and the names of the session.
pub record MakesJudged (written : List Parts) (raw : RawSession) (found : Option (Diagnostic Cause)) (judged : Judged) : Type 0 where
  pub models : judged.models ≡ models_of_plan raw.plan.beginnings written
  pub sections : judged.sections ≡ all_sections judged.models raw.sections
  pub noted : found ≡ first_diagnostic (plan_diagnostics raw.plan.beginnings written ++ session_diagnostics judged.models raw)
  pub valid : AreValid judged.models

abbrev pub model_part : AllSections → ℕ → Parts → ModelPart
model_part sections number model =
    record {
      model = model;
      constraints = section_of sections.constraints number;
      goals = section_of sections.goals number;
      sequence = section_of sections.sequences number;
    }

-- the models from a number on, with their sections
abbrev pub model_parts : AllSections → ℕ → List Parts → List ModelPart
model_parts sections number [] = []
model_parts sections number (model ∷ rest) = model_part sections number model ∷ model_parts sections (number + 1) rest

-- ---- the session

abbrev pub session_made : List Parts → RawSession → ℤ → Plan → List NamedSeries → Session
session_made models raw start plan datasets =
    record {
      models = model_parts (all_sections models raw.sections) 0 models;
      mappings = mappings_meant models raw.mappings;
      start = start;
      branch = raw.plan.branch.name;
      plan = plan;
      datasets = datasets;
      clients = clients_meant start raw.clients;
    }

-- with the plan: clients have different names, and then the datasets are read
abbrev pub session_planned : List Parts → RawSession → ℤ → Plan → Answer Session
session_planned models raw start plan =
    unless_repeated (repeated_client [] raw.clients)
    (then_made_of (λ datasets. Ok (session_made models raw start plan datasets)) (datasets_answer 0 raw.datasets))

-- with the start: the plan section's directives are added
abbrev pub session_started : List Parts → RawSession → ℤ → Answer Session
session_started models raw start = then_made_of (session_planned models raw start) (plan_answer start models raw.plan)

-- with the models of the plan, and what is wrong with its beginnings: names are judged, and then the start
abbrev pub session_begun : RawSession → List (Diagnostic Cause) → List Parts → Answer Session
session_begun raw wrong models =
    unless_found (first_diagnostic (wrong ++ session_diagnostics models raw))
    (then_made_of (session_started models raw) (starts_answer raw))

-- with the models as they are written
abbrev pub session_over : RawSession → List Parts → Answer Session
session_over raw models =
    session_begun raw (plan_diagnostics raw.plan.beginnings models) (models_of_plan raw.plan.beginnings models)

-- the session that is meant, or the first refusal
abbrev pub session_answer : RawSession → Answer Session
session_answer raw = then_made_of (session_over raw) (models_answer raw.models)
