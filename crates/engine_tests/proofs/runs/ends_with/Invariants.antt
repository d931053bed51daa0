use Rattle.engine_tests.proofs.runs.ends_with.Given as goal

-- the counters are those of the blanks
abbrev pub ghosts-retold-L-Ledger : goal.ghosts-retold-L-Ledger
ghosts-retold-L-Ledger g a = record { name = a.steps.name; parts = a.steps.parts }

abbrev pub ghosts-retold-K-Ledger : goal.ghosts-retold-K-Ledger
ghosts-retold-K-Ledger g a = record { name = a.looks.name; parts = a.looks.parts }
