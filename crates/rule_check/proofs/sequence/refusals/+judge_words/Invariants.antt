use Rattle.rule_check.proofs.sequence.refusals.+judge_words.Given as goal

abbrev pub decreases-judge_words : goal.decreases-judge_words
decreases-judge_words l = l.room
