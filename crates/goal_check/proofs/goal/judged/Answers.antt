-- Where nothing is refused, what is meant is of the model.
use Rattle.std.proofs.Common.{◌≡◌, IsTrue, List, [], None, sym, subst, ◌∙◌}
use Rattle.std.specs.List.{list_all}
use Rattle.rule_grammar.specs.declared.raw.goals.RawGoal.{RawGoal}
use Rattle.rule_check.specs.Refusals.{noted}
use Rattle.goals.specs.OfModel.{is_goal}
use Rattle.goals.specs.declared.types.Goal.{Goal}
use Rattle.goal_check.specs.GoalRefusals.{refusals_of_goals_behind}
use Rattle.goal_check.proofs.ReadGoals.{all_of_model}
use Rattle.goal_check.proofs.goal.judged.Goals as goal

pub returns-in_ok-meant_goals-in-None-clause-of_model : goal.returns-in_ok-meant_goals-in-None-clause-of_model
returns-in_ok-meant_goals-in-None-clause-of_model c =
    let model = c.args.model.now in
    let laws = c.read_parts_are_of_models.ensures in
    let none = subst (λ (raw : List RawGoal). noted None (refusals_of_goals_behind model c.args.duration c.args.constraints.now c.args.datasets.now 64 [] raw) ≡ None)
    c.as_slice-goals.ensures (sym c.in_ok-judge_from.ensures ∙ c.in-None.is) in
    subst (λ (goals : List Goal). IsTrue (list_all (is_goal model) goals)) (sym c.in_ok-meant_goals-in-None.ensures)
    (all_of_model model c.args.duration c.args.constraints.now c.args.datasets.now c.name.ensures.valid c.requires.series laws.named laws.types laws.windows laws.literals
    c.args.raw.now none)
