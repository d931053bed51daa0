-- A session has as few clients as it is written with, and each of them as few commands.
use Rattle.std.proofs.Common.{ℕ, ℤ, ◌≤◌, List, [], ◌∷◌, ◌++◌, Option, Some, None, Ok, Err, IfOk, length, sym, subst}
use Rattle.std.proofs.lemmas.List.{length-map}
use Rattle.std.specs.List.{AllByRecursion}
use Rattle.aerie_base.specs.declared.models.model.Parts.{Parts}
use Rattle.aerie_base.specs.declared.places.Place.{Place}
use Rattle.session_grammar.specs.SessionLimits.{IsLimitedClient}
use Rattle.session_grammar.specs.declared.raw.clients.RawClient.{RawClient}
use Rattle.session_grammar.specs.declared.raw.sessions.RawSession.{RawSession}
use Rattle.session_grammar.specs.reading.Commands.{command_limit}
use Rattle.session_grammar.specs.reading.Sessions.{client_limit}
use Rattle.session_reader.specs.Answers.{Answer, IsMade, then_made_of, unless_found}
use Rattle.session_reader.specs.ClientCommands.{client_meant, clients_meant, command_meant}
use Rattle.session_reader.specs.ClientNames.{repeated_client, unless_repeated}
use Rattle.session_reader.specs.DatasetAnswers.{datasets_answer}
use Rattle.session_reader.specs.Diagnostics.{first_diagnostic}
use Rattle.session_reader.specs.FewClients.{AreFewClients, HasFewClients}
use Rattle.session_reader.specs.PlanSections.{plan_answer}
use Rattle.session_reader.specs.Sessions.{session_diagnostics, session_made, session_over, session_planned, session_started}
use Rattle.session_reader.specs.Beginnings.{models_of_plan, plan_diagnostics}
use Rattle.session_reader.specs.Times.{starts_answer}
use Rattle.session_reader.specs.WellFormed.{IsLimited}
use Rattle.diagnostics.specs.declared.diagnostic.Diagnostic.{Diagnostic}
use Rattle.session_reader.specs.declared.causes.Cause.{Cause}
use Rattle.session_reader.specs.declared.session.Client.{Client}
use Rattle.session_reader.specs.declared.session.Session.{Session}

few_commands : (start : ℤ) (raw : List RawClient) → AllByRecursion IsLimitedClient raw → AllByRecursion (λ (client : Client). length client.commands ≤ command_limit) (clients_meant start raw)
few_commands start [] few = tt
few_commands start (client ∷ rest) few =
    (subst (λ (n : ℕ). n ≤ command_limit) (sym (length-map client.commands (command_meant start))) few.0, few_commands start rest few.1)

few_clients : (start : ℤ) (raw : RawSession) → IsLimited raw → AreFewClients (clients_meant start raw.clients)
few_clients start raw limited = record {
  clients = subst (λ (n : ℕ). n ≤ client_limit) (sym (length-map raw.clients (client_meant start))) limited.limits.few_clients;
  commands = few_commands start raw.clients limited.limits.commands;
}

-- ---- what holds of each session that may be made of a part, step by step

-- what holds of a whole, whatever the part, holds where the whole is made
then_holds : {A : Type 0} (P : Session → Type 0) (make : A → Answer Session) (part : Answer A) → ((x : A) → IfOk (make x) P) → IfOk (then_made_of make part) P
then_holds P make (Ok part) holds = holds part
then_holds P make (Err refusal) holds = tt

found_holds : (P : Session → Type 0) (found : Option (Diagnostic Cause)) (made : Answer Session) → IfOk made P → IfOk (unless_found found made) P
found_holds P None made holds = holds
found_holds P (Some diagnostic) made holds = tt

repeated_holds : (P : Session → Type 0) (place : Option Place) (made : Answer Session) → IfOk made P → IfOk (unless_repeated place made) P
repeated_holds P None made holds = holds
repeated_holds P (Some place) made holds = tt

meant_few : (raw : RawSession) (models : List Parts) → IsLimited raw → IfOk (session_over raw models) HasFewClients
meant_few raw written limited =
    let wrong = plan_diagnostics raw.plan.beginnings written in
    let models = models_of_plan raw.plan.beginnings written in
    found_holds HasFewClients (first_diagnostic (wrong ++ session_diagnostics models raw)) _
    (then_holds HasFewClients (session_started models raw) (starts_answer raw)
    (λ start. then_holds HasFewClients (session_planned models raw start) (plan_answer start models raw.plan)
    (λ plan. repeated_holds HasFewClients (repeated_client [] raw.clients) _
    (then_holds HasFewClients (λ datasets. Ok (session_made models raw start plan datasets)) (datasets_answer 0 raw.datasets) (λ datasets. few_clients start raw limited)))))

made_holds : (P : Session → Type 0) (meant result : Answer Session) → IfOk meant P → IsMade meant result → IfOk result P
made_holds P meant (Ok session) holds made = subst (λ (answer : Answer Session). IfOk answer P) made holds
made_holds P meant (Err refusal) holds made = tt

-- a session that is answered has few clients
pub answered_few : (raw : RawSession) (models : List Parts) (result : Answer Session) → IsLimited raw → IsMade (session_over raw models) result → IfOk result HasFewClients
answered_few raw models result limited made = made_holds HasFewClients (session_over raw models) result (meant_few raw models limited) made
