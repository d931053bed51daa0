use Rattle.std.proofs.Common.{IsTrue, subst, sym}
use Rattle.goals.specs.declared.types.Goal.{Goal}
use Rattle.goals.specs.OfModel.{is_goal}
use Rattle.scheduler.proofs.GoalCounts.{one_of_all}
use Rattle.scheduler.proofs.progress.statuses.Goals as goal

pub goal_status-requires-clause-goal : goal.goal_status-requires-clause-goal
goal_status-requires-clause-goal c =
    subst (λ (g : Goal). IsTrue (is_goal c.args.model.now g)) (sym c.index-goals-at.is)
    (one_of_all (is_goal c.args.model.now) c.args.goals.now c.loop-at.at c.index-goals-at.result c.loop-at-test.true c.requires.goals)
