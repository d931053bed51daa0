use Rattle.history_tests.proofs.chapters.marked.Given as goal

-- the counters are those of the blanks
abbrev pub ghosts-kept_run-L-Ledger : goal.ghosts-kept_run-L-Ledger
ghosts-kept_run-L-Ledger a = record { name = a.steps.name; parts = a.steps.parts }

abbrev pub ghosts-kept_run-K-Ledger : goal.ghosts-kept_run-K-Ledger
ghosts-kept_run-K-Ledger a = record { name = a.looks.name; parts = a.looks.parts }
