use Rattle.std.proofs.Common.{◌-◌, length}
use Rattle.goal_check.proofs.template.refusals.+judge_arguments.Given as goal

-- so many arguments are left
abbrev pub decreases-judge_arguments : goal.decreases-judge_arguments
decreases-judge_arguments l = length l.arguments.now - l.at
