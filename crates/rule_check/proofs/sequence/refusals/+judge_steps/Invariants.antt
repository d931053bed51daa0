use Rattle.rule_check.proofs.sequence.refusals.+judge_steps.Given as goal

abbrev pub decreases-judge_steps : goal.decreases-judge_steps
decreases-judge_steps l = l.room
