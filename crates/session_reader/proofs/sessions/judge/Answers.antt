use Rattle.std.proofs.Common.{List, None, sym, ap, ◌∙◌, subst}
use Rattle.std.specs.List.{AllByRecursion}
use Rattle.aerie_base.specs.declared.models.model.Parts.{Parts}
use Rattle.diagnostics.specs.NotedInTurn.{noted_in_turn}
use Rattle.session_grammar.specs.SessionLimits.{IsBeginningInRange}
use Rattle.session_grammar.specs.declared.raw.plans.RawBeginning.{RawBeginning}
use Rattle.session_reader.specs.Beginnings.{models_of_plan, plan_diagnostics}
use Rattle.session_reader.specs.Diagnostics.{first_diagnostic, noted, number_of_cause}
use Rattle.session_reader.specs.Sessions.{all_sections, session_diagnostics}
use Rattle.session_reader.proofs.sessions.judge.Goals as goal

pub models_of_plan-requires-clause-range : goal.models_of_plan-requires-clause-range
models_of_plan-requires-clause-range c = subst (AllByRecursion IsBeginningInRange) (sym c.as_slice-beginnings.ensures) c.requires.limits.limits.beginnings

pub returns : goal.returns
returns c = record {
  models = c.in_ok-models.ensures.made ∙ ap (λ (bs : List RawBeginning). models_of_plan bs c.args.written) c.as_slice-beginnings.ensures;
  sections = c.in_ok-sections.ensures.0 ∙ ap (λ (ms : List Parts). all_sections ms c.args.raw.now.sections) c.as_slice.ensures;
  noted = noted_in_turn number_of_cause (plan_diagnostics c.args.raw.now.plan.beginnings c.args.written) (session_diagnostics c.in_ok-models.models c.args.raw.now) None _ _
      (c.in_ok-models.ensures.noted ∙ ap (λ (bs : List RawBeginning). first_diagnostic (plan_diagnostics bs c.args.written)) c.as_slice-beginnings.ensures)
      (c.in_ok-sections.ensures.1 ∙ ap (λ (ms : List Parts). noted c.models_of_plan.new.found (session_diagnostics ms c.args.raw.now)) c.as_slice.ensures);
  valid = c.in_ok-models.ensures.valid;
}
