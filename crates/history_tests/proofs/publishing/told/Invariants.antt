use Rattle.history_tests.proofs.publishing.told.Given as goal

-- the counter is that of the blank
abbrev pub ghosts-finds_run : goal.ghosts-finds_run
ghosts-finds_run g a = record { name = a.looks.name; parts = a.looks.parts }
