-- The first model of a session is the model as it is written with the beginnings of the plan in place.
use Rattle.std.proofs.Common.{◌≡◌, ℤ, List, [], ◌++◌, Option, Some, None, Ok, Err, refl, sym, ap, ◌∙◌}
use Rattle.aerie_base.specs.declared.models.model.Parts.{Parts}
use Rattle.aerie_base.specs.declared.places.Place.{Place}
use Rattle.aerie_base.specs.declared.plans.Plan.{Plan}
use Rattle.diagnostics.specs.NotedInTurn.{front_empty, none_found}
use Rattle.diagnostics.specs.declared.diagnostic.Diagnostic.{Diagnostic}
use Rattle.session_grammar.specs.declared.raw.sessions.RawSession.{RawSession}
use Rattle.session_reader.specs.Answers.{Answer, then_made_of, unless_found}
use Rattle.session_reader.specs.Beginnings.{models_of_plan, plan_diagnostics}
use Rattle.session_reader.specs.CheckedModels.{models_answer}
use Rattle.session_reader.specs.ClientNames.{repeated_client, unless_repeated}
use Rattle.session_reader.specs.DatasetAnswers.{datasets_answer}
use Rattle.session_reader.specs.Diagnostics.{first_diagnostic, number_of_cause}
use Rattle.session_reader.specs.PlacedBeginnings.{BeginningsArePlaced}
use Rattle.session_reader.specs.PlanSections.{plan_answer}
use Rattle.session_reader.specs.Sessions.{all_sections, session_begun, session_diagnostics, session_made, session_over, session_planned, session_started}
use Rattle.session_reader.specs.Times.{starts_answer}
use Rattle.session_reader.specs.WellFormed.{models_in}
use Rattle.session_reader.specs.declared.causes.Cause.{Cause}
use Rattle.session_reader.specs.declared.session.Session.{Session}
use Rattle.session_reader.proofs.BegunModels.{good_begun}
use Rattle.session_reader.proofs.SectionRanges.{models_kept}

-- what is made of a part was made of some part
record IsMadeOf {A B : Type 0} (make : A → Answer B) (part : Answer A) (made : B) : Type 0 where
  of : A
  is : part ≡ Ok of
  made_here : make of ≡ Ok made

made_of : {A B : Type 0} (make : A → Answer B) (part : Answer A) (made : B) → then_made_of make part ≡ Ok made → IsMadeOf make part made
made_of make (Ok part) made e = record { of = part; is = refl; made_here = e }
made_of make (Err refusal) made e = absurd (cc)

nothing_found : {A : Type 0} (found : Option (Diagnostic Cause)) (answer : Answer A) (made : A) → unless_found found answer ≡ Ok made → (found ≡ None) × (answer ≡ Ok made)
nothing_found None answer made e = (refl, e)
nothing_found (Some one) answer made e = absurd (cc)

none_repeated : {A : Type 0} (place : Option Place) (answer : Answer A) (made : A) → unless_repeated place answer ≡ Ok made → answer ≡ Ok made
none_repeated None answer made e = e
none_repeated (Some place) answer made e = cc

ok_is : (a b : Session) (answer : Answer Session) → answer ≡ Ok a → answer ≡ Ok b → a ≡ b
ok_is a b answer e f = cc

-- the session has the models of which it is made
planned_models : (models : List Parts) (raw : RawSession) (start : ℤ) (plan : Plan) (session : Session) → session_planned models raw start plan ≡ Ok session → models_in session ≡ models
planned_models models raw start plan session e =
    let made : IsMadeOf (λ datasets. Ok (session_made models raw start plan datasets)) (datasets_answer 0 raw.datasets) session =
    made_of (λ datasets. Ok (session_made models raw start plan datasets)) (datasets_answer 0 raw.datasets) session (none_repeated (repeated_client [] raw.clients) _ session e) in
    let is : session_made models raw start plan made.of ≡ session = ok_is (session_made models raw start plan made.of) session _ refl made.made_here in
    ap models_in (sym is) ∙ models_kept (all_sections models raw.sections) 0 models

started_models : (models : List Parts) (raw : RawSession) (start : ℤ) (session : Session) → session_started models raw start ≡ Ok session → models_in session ≡ models
started_models models raw start session e =
    let planned : IsMadeOf (session_planned models raw start) (plan_answer start models raw.plan) session = made_of (session_planned models raw start) (plan_answer start models raw.plan) session e in
    planned_models models raw start planned.of session planned.made_here

begun_models : (raw : RawSession) (wrong : List (Diagnostic Cause)) (models : List Parts) (session : Session) → session_begun raw wrong models ≡ Ok session →
    (wrong ≡ []) × (models_in session ≡ models)
begun_models raw wrong models session e =
    let both = nothing_found (first_diagnostic (wrong ++ session_diagnostics models raw)) (then_made_of (session_started models raw) (starts_answer raw)) session e in
    let started : IsMadeOf (session_started models raw) (starts_answer raw) session = made_of (session_started models raw) (starts_answer raw) session both.1 in (
      front_empty wrong (session_diagnostics models raw) (none_found number_of_cause (wrong ++ session_diagnostics models raw) both.0),
      started_models models raw started.of session started.made_here,
    )

pub are_placed : BeginningsArePlaced
are_placed raw session e =
    let over : IsMadeOf (session_over raw) (models_answer raw.models) session = made_of (session_over raw) (models_answer raw.models) session e in
    let beginnings = raw.plan.beginnings in
    let both = begun_models raw (plan_diagnostics beginnings over.of) (models_of_plan beginnings over.of) session over.made_here in
    record { written = over.of; checked = over.is; begun = both.1 ∙ sym (good_begun beginnings over.of both.0) }
