use Rattle.rule_check.proofs.window.refusals.+judge_terms.Given as goal

abbrev pub decreases-judge_terms : goal.decreases-judge_terms
decreases-judge_terms l = l.room
