use Rattle.std.proofs.Common.{◌-◌}
use Rattle.goal_check.proofs.goal.refusals.+judge_from.Given as goal

-- so many goals may still be judged
abbrev pub decreases-judge_from : goal.decreases-judge_from
decreases-judge_from l = 64 - l.at
