use Rattle.engine_tests.proofs.spreads.run_over.Given as goal

-- the counters are those of the blanks
abbrev pub ghosts-simulated-L-Ledger : goal.ghosts-simulated-L-Ledger
ghosts-simulated-L-Ledger g a = record { name = a.steps.name; parts = a.steps.parts }

abbrev pub ghosts-simulated-K-Ledger : goal.ghosts-simulated-K-Ledger
ghosts-simulated-K-Ledger g a = record { name = a.looks.name; parts = a.looks.parts }
