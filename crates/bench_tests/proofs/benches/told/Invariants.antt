use Rattle.bench_tests.proofs.benches.told.Given as goal

-- the counters are those of the blanks
abbrev pub ghosts-two_benches-L-Ledger : goal.ghosts-two_benches-L-Ledger
ghosts-two_benches-L-Ledger g a = record { name = a.steps.name; parts = a.steps.parts }

abbrev pub ghosts-two_benches-K-Ledger : goal.ghosts-two_benches-K-Ledger
ghosts-two_benches-K-Ledger g a = record { name = a.looks.name; parts = a.looks.parts }
