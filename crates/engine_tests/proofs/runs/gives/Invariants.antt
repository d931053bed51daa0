use Rattle.engine_tests.proofs.runs.gives.Given as goal

-- the counters are those of the blanks
abbrev pub ghosts-told-L-Ledger : goal.ghosts-told-L-Ledger
ghosts-told-L-Ledger g a = record { name = a.steps.name; parts = a.steps.parts }

abbrev pub ghosts-told-K-Ledger : goal.ghosts-told-K-Ledger
ghosts-told-K-Ledger g a = record { name = a.looks.name; parts = a.looks.parts }
