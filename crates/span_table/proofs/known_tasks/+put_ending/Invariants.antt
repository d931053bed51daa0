use Rattle.span_table.proofs.known_tasks.+put_ending.Given as goal

-- each is made by one with a smaller number
abbrev pub decreases-put_ending : goal.decreases-put_ending
decreases-put_ending l = l.number
