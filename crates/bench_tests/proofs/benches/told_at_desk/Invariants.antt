use Rattle.bench_tests.proofs.benches.told_at_desk.Given as goal

-- the counters are those of the blanks
abbrev pub ghosts-one_desk-L-Ledger : goal.ghosts-one_desk-L-Ledger
ghosts-one_desk-L-Ledger g a = record { name = a.steps.name; parts = a.steps.parts }

abbrev pub ghosts-one_desk-K-Ledger : goal.ghosts-one_desk-K-Ledger
ghosts-one_desk-K-Ledger g a = record { name = a.looks.name; parts = a.looks.parts }
