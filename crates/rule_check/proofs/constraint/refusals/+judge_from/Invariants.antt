use Rattle.std.proofs.Common.{◌-◌}
use Rattle.rule_check.proofs.constraint.refusals.+judge_from.Given as goal

-- so many constraints may still be judged
abbrev pub decreases-judge_from : goal.decreases-judge_from
decreases-judge_from l = 256 - l.at
