use Rattle.engine_tests.proofs.beside.runs_alike.Given as goal

-- the counters are those of the blanks
abbrev pub ghosts-simulated_beside-L-Ledger : goal.ghosts-simulated_beside-L-Ledger
ghosts-simulated_beside-L-Ledger g a = record { name = a.steps.name; parts = a.steps.parts }

abbrev pub ghosts-simulated_beside-K-Ledger : goal.ghosts-simulated_beside-K-Ledger
ghosts-simulated_beside-K-Ledger g a = record { name = a.looks.name; parts = a.looks.parts }
