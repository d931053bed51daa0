-- What is found of one goal, and then of those behind it, is found of all of them.
use Rattle.std.proofs.Common.{◌≡◌, List, sym, subst, ◌∙◌}
use Rattle.std.proofs.lemmas.Result.{on_ok_weaker}
use Rattle.rule_grammar.specs.declared.raw.goals.RawGoal.{RawGoal}
use Rattle.rule_check.specs.RefusalLaws.{judged_next}
use Rattle.rule_check.specs.Refusals.{noted}
use Rattle.goal_check.specs.GoalRefusals.{refusals_of_goal, too_many_goals}
use Rattle.goal_check.proofs.goal.refusals.+judge_from.Goals as goal

pub returns-in_ok-judge_goal-in-Some : goal.returns-in_ok-judge_goal-in-Some
returns-in_ok-judge_goal-in-Some t c =
    let refused = refusals_of_goal c.args.model.now c.args.duration c.args.constraints.now c.args.datasets.now in
    let one = subst (λ (others : List RawGoal). c.judge_goal.new.found ≡ noted c.args.found.now (refused others c.in-Some.goal.now)) c.split_at.ensures.front c.in_ok-judge_goal-in-Some.ensures in
    on_ok_weaker c.judge_from.result
    (judged_next refused too_many_goals 64 c.args.goals.now _ c.in-Some.goal.now c.args.at c.args.found.now c.judge_goal.new.found c.judge_from.new.found
    c.requires.few c.if-at-eq-MOST_GOALS.false (sym c.split_at.ensures.back ∙ c.in-Some.ensures.cases.0) one)
    c.judge_from.ensures
