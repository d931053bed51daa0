-- Where nothing of what is given is refused, it is judged by the `require`s.
use Rattle.std.proofs.Common.{◌≡◌, OnOk, List, sym, subst, ◌∙◌}
use Rattle.diagnostics.specs.declared.diagnostic.Diagnostic.{Diagnostic}
use Rattle.rule_check.specs.declared.causes.WrongRule.{WrongRule}
use Rattle.diagnostics.specs.NotedInTurn.{none_found}
use Rattle.rule_check.specs.RefusalLaws.{or_other}
use Rattle.rule_check.specs.Refusals.{number_of_wrong, noted}
use Rattle.goal_check.specs.TemplateMeaning.{meant_template}
use Rattle.goal_check.specs.TemplateRefusals.{refusals_of_given, refusals_of_requires}
use Rattle.goal_check.proofs.template.refusals.judge_for.Goals as goal

pub judge_good-requires-clause-given : goal.judge_good-requires-clause-given
judge_good-requires-clause-given c =
    none_found number_of_wrong (refusals_of_given c.args.model.now c.args.activity.now c.args.template.now) (sym c.refused_given.ensures ∙ c.in-None.is)

pub returns-in-None : goal.returns-in-None
returns-in-None c =
    let model = c.args.model.now in
    let template = c.args.template.now in
    let given = refusals_of_given model c.args.activity.now template in
    let behind = refusals_of_requires model template.kind (meant_template model template) in
    subst (λ (refusals : List (Diagnostic WrongRule)). OnOk c.judge_good.result (c.judge_good.new.found ≡ noted c.args.found.now refusals))
    (sym (or_other given behind (none_found number_of_wrong given (sym c.refused_given.ensures ∙ c.in-None.is)))) c.judge_good.ensures
