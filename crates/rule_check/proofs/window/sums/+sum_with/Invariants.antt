use Rattle.rule_check.proofs.window.sums.+sum_with.Given as goal

abbrev pub decreases-sum_with : goal.decreases-sum_with
decreases-sum_with l = l.room
