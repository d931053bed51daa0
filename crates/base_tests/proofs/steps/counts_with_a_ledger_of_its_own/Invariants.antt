use Rattle.base_tests.proofs.steps.counts_with_a_ledger_of_its_own.Given as goal

-- the ledger is the one that the blank begins
abbrev pub ghosts-count_seven : goal.ghosts-count_seven
ghosts-count_seven a = record { name = a.blank.name; parts = a.blank.parts }
