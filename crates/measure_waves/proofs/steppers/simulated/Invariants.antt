use Rattle.measure_waves.proofs.steppers.simulated.Given as goal

-- the counters are those of the blanks
abbrev pub ghosts-counted-L-Ledger : goal.ghosts-counted-L-Ledger
ghosts-counted-L-Ledger g a = record { name = a.steps.name; parts = a.steps.parts }

abbrev pub ghosts-counted-K-Ledger : goal.ghosts-counted-K-Ledger
ghosts-counted-K-Ledger g a = record { name = a.looks.name; parts = a.looks.parts }
