-- What is refused of the meaning of a session is neither a syntax error nor a limit that is passed.
use Rattle.std.proofs.Common.{ℕ, ℤ, ◌+◌, List, [], ◌∷◌, ◌++◌, Option, Some, None, Result, Ok, Err}
use Rattle.std.specs.Prelude.{slice_get}
use Rattle.aerie_base.specs.declared.models.model.Parts.{Parts}
use Rattle.aerie_base.specs.declared.places.Place.{Place}
use Rattle.aerie_base.specs.declared.plans.Plan.{Plan}
use Rattle.dataset_in.specs.Datasets.{dataset_of}
use Rattle.dataset_in.specs.declared.dataset_error.DatasetError.{DatasetError}
use Rattle.dataset_in.specs.declared.series.Series.{Series}
use Rattle.epoch_text.specs.Starts.{start_of}
use Rattle.commands.specs.SessionModels.{empty_plan}
use Rattle.model_check.specs.CheckAnswers.{told}
use Rattle.model_check.specs.ModelDiagnostics.{first_refused}
use Rattle.model_check.specs.ModelMeaning.{model_of}
use Rattle.model_check.specs.declared.check_error.CheckError.{CheckError}
use Rattle.model_reader.specs.declared.raw.models.RawModel.{RawModel}
use Rattle.plan_edit.specs.Editing.{add_of}
use Rattle.plan_edit.specs.declared.errors.EditError.{EditError}
use Rattle.session_grammar.specs.declared.raw.plans.RawDataset.{RawDataset}
use Rattle.session_grammar.specs.declared.raw.plans.RawDirective.{RawDirective}
use Rattle.session_grammar.specs.declared.raw.sessions.RawSession.{RawSession}
use Rattle.session_reader.specs.Answers.{Answer, in_front, then_made_of, unless_found}
use Rattle.session_reader.specs.CheckedModels.{model_answer, models_answer, of_check}
use Rattle.session_reader.specs.ClientNames.{repeated_client, unless_repeated}
use Rattle.session_reader.specs.DatasetAnswers.{dataset_answer, datasets_answer, of_series}
use Rattle.session_reader.specs.Diagnostics.{first_diagnostic}
use Rattle.session_reader.specs.PlanSections.{directive_added, directives_added, of_edit, plan_answer, plan_over}
use Rattle.session_reader.specs.Quotes.{unquoted}
use Rattle.session_reader.specs.Sessions.{session_answer, session_begun, session_diagnostics, session_made, session_over, session_planned, session_started}
use Rattle.session_reader.specs.Starts.{start_answer, start_or_place}
use Rattle.session_reader.specs.Times.{misread_instant, starts_answer, unless_misread, when_meant}
use Rattle.session_reader.specs.Beginnings.{models_of_plan, plan_diagnostics}
use Rattle.diagnostics.specs.declared.diagnostic.Diagnostic.{Diagnostic}
use Rattle.session_reader.specs.declared.causes.Cause.{Cause}
use Rattle.session_reader.specs.declared.session_error.SessionError.{SessionError}
use Rattle.session_reader.specs.declared.session_error.SessionError.TheVariants.{Syntax, TooMany}

-- a refusal that is not one of the form
abbrev pub IsOfMeaning : SessionError → Type 0
IsOfMeaning (Syntax place) = ⊥
IsOfMeaning (TooMany what place) = ⊥
IsOfMeaning refusal = Unit {0}

-- of an answer
abbrev pub IsMeant : {A : Type 0} → Answer A → Type 0
IsMeant (Ok part) = Unit {0}
IsMeant (Err refusal) = IsOfMeaning refusal

then_meant : {A B : Type 0} (make : A → Answer B) (part : Answer A) → IsMeant part → ((x : A) → IsMeant (make x)) → IsMeant (then_made_of make part)
then_meant make (Ok part) here later = later part
then_meant make (Err refusal) here later = here

front_meant : {A : Type 0} (first : Answer A) (rest : Answer (List A)) → IsMeant first → IsMeant rest → IsMeant (in_front first rest)
front_meant (Err refusal) rest here later = here
front_meant (Ok first) (Err refusal) here later = later
front_meant (Ok first) (Ok rest) here later = tt

-- ---- models

check_meant : (checked : Result Parts CheckError) → IsMeant (of_check checked)
check_meant (Ok model) = tt
check_meant (Err refusal) = tt

models_meant : (raw : List RawModel) → IsMeant (models_answer raw)
models_meant [] = tt
models_meant (raw ∷ rest) = front_meant (model_answer raw) (models_answer rest) (check_meant (told (first_refused raw) (model_of raw))) (models_meant rest)

-- ---- names

found_meant : {A : Type 0} (found : Option (Diagnostic Cause)) (made : Answer A) → IsMeant made → IsMeant (unless_found found made)
found_meant None made here = here
found_meant (Some diagnostic) made here = tt

repeated_meant : {A : Type 0} (place : Option Place) (made : Answer A) → IsMeant made → IsMeant (unless_repeated place made)
repeated_meant None made here = here
repeated_meant (Some place) made here = tt

-- ---- the start and the plan

start_meant : (place : Place) (start : Option ℤ) → IsMeant (start_or_place place start)
start_meant place None = tt
start_meant place (Some micros) = tt

misread_meant : (bad : Option Place) (start : ℤ) → IsMeant (unless_misread bad start)
misread_meant None start = tt
misread_meant (Some place) start = tt

starts_meant : (raw : RawSession) → IsMeant (starts_answer raw)
starts_meant raw =
    then_meant (unless_misread (misread_instant raw)) (start_answer raw.plan.start) (start_meant raw.plan.start.at (start_of (unquoted 34 raw.plan.start.text))) (misread_meant (misread_instant raw))

edit_meant : (number : ℕ) (edited : Result Plan EditError) → IsMeant (of_edit number edited)
edit_meant number (Ok plan) = tt
edit_meant number (Err refusal) = tt

directives_meant : (start : ℤ) (model : Parts) (number : ℕ) (plan : Plan) (raw : List RawDirective) → IsMeant (directives_added start model number plan raw)
directives_meant start model number plan [] = tt
directives_meant start model number plan (raw ∷ rest) =
    then_meant (λ added. directives_added start model (number + 1) added rest) (directive_added start model number plan raw)
    (edit_meant number (add_of model plan (when_meant start raw.at) raw.given.kind raw.given.arguments))
    (λ added. directives_meant start model (number + 1) added rest)

plan_meant : (start : ℤ) (raw : RawSession) (model : Option Parts) → IsMeant (plan_over start raw.plan model)
plan_meant start raw None = tt
plan_meant start raw (Some model) = directives_meant start model 0 (empty_plan raw.plan.duration) raw.plan.directives

-- ---- datasets

series_meant : (number : ℕ) (name : List ℕ) (read : Result Series DatasetError) → IsMeant (of_series number name read)
series_meant number name (Ok series) = tt
series_meant number name (Err fault) = tt

datasets_meant : (number : ℕ) (raw : List RawDataset) → IsMeant (datasets_answer number raw)
datasets_meant number [] = tt
datasets_meant number (raw ∷ rest) =
    front_meant (dataset_answer number raw) (datasets_answer (number + 1) rest) (series_meant number raw.name.name (dataset_of (unquoted 96 raw.text))) (datasets_meant (number + 1) rest)

-- ---- the session

planned_meant : (models : List Parts) (raw : RawSession) (start : ℤ) (plan : Plan) → IsMeant (session_planned models raw start plan)
planned_meant models raw start plan =
    repeated_meant (repeated_client [] raw.clients) _
    (then_meant (λ datasets. Ok (session_made models raw start plan datasets)) (datasets_answer 0 raw.datasets) (datasets_meant 0 raw.datasets) (λ datasets. tt))

started_meant : (models : List Parts) (raw : RawSession) (start : ℤ) → IsMeant (session_started models raw start)
started_meant models raw start =
    then_meant (session_planned models raw start) (plan_answer start models raw.plan) (plan_meant start raw (slice_get models 0)) (planned_meant models raw start)

begun_meant : (raw : RawSession) (wrong : List (Diagnostic Cause)) (models : List Parts) → IsMeant (session_begun raw wrong models)
begun_meant raw wrong models =
    found_meant (first_diagnostic (wrong ++ session_diagnostics models raw)) _
    (then_meant (session_started models raw) (starts_answer raw) (starts_meant raw) (started_meant models raw))

over_meant : (raw : RawSession) (models : List Parts) → IsMeant (session_over raw models)
over_meant raw models = begun_meant raw (plan_diagnostics raw.plan.beginnings models) (models_of_plan raw.plan.beginnings models)

pub session_meant : (raw : RawSession) → IsMeant (session_answer raw)
session_meant raw = then_meant (session_over raw) (models_answer raw.models) (models_meant raw.models) (over_meant raw)
