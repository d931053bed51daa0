-- Where an argument is not refused, what is found is found of those behind it.
use Rattle.std.proofs.Common.{◌≡◌, List, None, sym, subst, ◌∙◌}
use Rattle.rule_check.specs.Refusals.{first_diagnostic}
use Rattle.goal_check.specs.TemplateMeaning.{Argument}
use Rattle.goal_check.specs.TemplateRefusals.{refusals_of_argument}
use Rattle.goal_check.proofs.ArgumentsInTurn.{refused_later}
use Rattle.goal_check.proofs.template.refusals.+judge_arguments.Goals as goal

pub returns-in-None-refused_argument : goal.returns-in-None-refused_argument
returns-in-None-refused_argument t c =
    let model = c.args.model.now in
    let parameters = c.args.parameters.now in
    let argument = c.in-Some.argument.now in
    let none = subst (λ (others : List Argument). first_diagnostic (refusals_of_argument model parameters others argument) ≡ None) c.split_at.ensures.front
    (sym c.refused_argument.ensures ∙ c.in-None-refused_argument.is) in
    refused_later model parameters c.args.arguments.now _ argument c.args.at (sym c.split_at.ensures.back ∙ c.in-Some.ensures.cases.0) c.args.found.now c.judge_arguments.new.found
    none c.judge_arguments.ensures
