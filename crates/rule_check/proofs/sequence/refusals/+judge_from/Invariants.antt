use Rattle.std.proofs.Common.{◌-◌}
use Rattle.rule_check.proofs.sequence.refusals.+judge_from.Given as goal

-- so many rules may still be judged
abbrev pub decreases-judge_from : goal.decreases-judge_from
decreases-judge_from l = 256 - l.at
