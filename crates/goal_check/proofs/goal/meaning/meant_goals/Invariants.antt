use Rattle.std.proofs.Common.{◌≡◌, take, map}
use Rattle.goal_check.specs.GoalMeaning.{meant_goal}
use Rattle.goal_check.proofs.goal.meaning.meant_goals.Given as goal

-- so many were made as were passed, each the one that is meant
abbrev pub invariant-loop-one : goal.invariant-loop-one
invariant-loop-one l = l.goals ≡ map (meant_goal l.fn.model l.fn.datasets) (take l.one-index l.one-items)
