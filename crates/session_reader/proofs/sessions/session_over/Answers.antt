use Rattle.std.proofs.Common.{List, sym, ap, ◌∙◌, ◌++◌, subst}
use Rattle.aerie_base.specs.declared.models.model.Parts.{Parts}
use Rattle.diagnostics.specs.NotedInTurn.{none_found}
use Rattle.session_reader.specs.Answers.{IsMade, then_made_of}
use Rattle.session_reader.specs.Beginnings.{plan_diagnostics}
use Rattle.session_reader.specs.Diagnostics.{number_of_cause}
use Rattle.session_reader.specs.Sessions.{all_sections, session_diagnostics, session_started}
use Rattle.session_reader.specs.Times.{starts_answer}
use Rattle.session_reader.specs.WellFormed.{MayBeMade}
use Rattle.session_reader.proofs.JudgedSessions.{nothing_refused, one_refused}
use Rattle.session_reader.proofs.sessions.session_over.Goals as goal

pub named-requires-clause-good : goal.named-requires-clause-good
named-requires-clause-good c =
    let wrong = plan_diagnostics c.args.raw.now.plan.beginnings c.args.written ++ session_diagnostics c.in_ok-judged.judged.models c.args.raw.now in
    let good : MayBeMade c.in_ok-judged.judged.models c.args.raw.now = record {
      limits = c.requires.limits;
      written = c.args.written;
      checked = c.requires.checked;
      begun = c.in_ok-judged.ensures.models;
      valid = c.in_ok-judged.ensures.valid;
      nothing = none_found number_of_cause wrong (sym c.in_ok-judged.ensures.noted ∙ c.in-None.is);
    } in
    subst (λ (models : List Parts). MayBeMade models c.args.raw.now) (sym c.as_slice.ensures) good

pub named-requires-clause-sections : goal.named-requires-clause-sections
named-requires-clause-sections c = c.in_ok-judged.ensures.sections ∙ ap (λ (models : List Parts). all_sections models c.args.raw.now.sections) (sym c.as_slice.ensures)

pub returns-in-Some-clause-made : goal.returns-in-Some-clause-made
returns-in-Some-clause-made c =
    one_refused c.args.raw.now c.args.written c.in_ok-judged.judged.models _ c.in_ok-judged.ensures.models c.in_ok-judged.ensures.noted _ _ c.in-Some.is c.refusal.ensures

pub returns-clause-made : goal.returns-clause-made
returns-clause-made c =
    nothing_refused c.args.raw.now c.args.written c.in_ok-judged.judged.models _ c.in_ok-judged.ensures.models c.in_ok-judged.ensures.noted _ c.in-None.is
    (subst (λ (models : List Parts). IsMade (then_made_of (session_started models c.args.raw.now) (starts_answer c.args.raw.now)) c.named.result) c.as_slice.ensures c.named.ensures.made)
