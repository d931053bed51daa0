-- What is made of a session over its models, by what was found.
use Rattle.std.proofs.Common.{◌≡◌, List, ◌++◌, Option, Some, None, Err, sym, ap, ◌∙◌, subst}
use Rattle.aerie_base.specs.declared.models.model.Parts.{Parts}
use Rattle.diagnostics.specs.declared.diagnostic.Diagnostic.{Diagnostic}
use Rattle.session_grammar.specs.declared.raw.sessions.RawSession.{RawSession}
use Rattle.session_reader.specs.Answers.{Answer, IsMade, check_error, then_made_of, unless_found}
use Rattle.session_reader.specs.Beginnings.{models_of_plan, plan_diagnostics}
use Rattle.session_reader.specs.Diagnostics.{first_diagnostic}
use Rattle.session_reader.specs.Sessions.{session_begun, session_diagnostics, session_over, session_started}
use Rattle.session_reader.specs.Times.{starts_answer}
use Rattle.session_reader.specs.declared.causes.Cause.{Cause}
use Rattle.session_reader.specs.declared.session.Session.{Session}
use Rattle.session_reader.specs.declared.session_error.SessionError.{SessionError}
use Rattle.session_reader.specs.declared.session_error.SessionError.TheVariants.{Check}

module _ (raw : RawSession) (written models : List Parts) (found : Option (Diagnostic Cause)) (is : models ≡ models_of_plan raw.plan.beginnings written)
    (noted : found ≡ first_diagnostic (plan_diagnostics raw.plan.beginnings written ++ session_diagnostics models raw)) where
  -- over the models of the plan
  over : (result : Answer Session) → IsMade (session_begun raw (plan_diagnostics raw.plan.beginnings written) models) result → IsMade (session_over raw written) result
  over result made = subst (λ (ms : List Parts). IsMade (session_begun raw (plan_diagnostics raw.plan.beginnings written) ms) result) is made

  pub nothing_refused : (result : Answer Session) → found ≡ None → IsMade (then_made_of (session_started models raw) (starts_answer raw)) result → IsMade (session_over raw written) result
  nothing_refused result none made =
      over result (subst (λ (f : Option (Diagnostic Cause)). IsMade (unless_found f (then_made_of (session_started models raw) (starts_answer raw))) result) (sym (sym noted ∙ none)) made)

  pub one_refused : (one : Diagnostic Cause) (refusal : SessionError) → found ≡ Some one → refusal ≡ Check (check_error one.cause one.place) → IsMade (session_over raw written) (Err refusal)
  one_refused one refusal some told =
      subst (λ (r : SessionError). IsMade (session_over raw written) (Err r)) (sym told)
      (over (Err (Check (check_error one.cause one.place)))
      (ap (λ (f : Option (Diagnostic Cause)). unless_found f (then_made_of (session_started models raw) (starts_answer raw))) (sym noted ∙ some)))
