use Rattle.schedule_tests.proofs.schedules.schedule_of.Given as goal

-- the counters are those of the blanks
abbrev pub ghosts-scheduled-L-Ledger : goal.ghosts-scheduled-L-Ledger
ghosts-scheduled-L-Ledger g a = record { name = a.steps.name; parts = a.steps.parts }

abbrev pub ghosts-scheduled-K-Ledger : goal.ghosts-scheduled-K-Ledger
ghosts-scheduled-K-Ledger g a = record { name = a.looks.name; parts = a.looks.parts }
