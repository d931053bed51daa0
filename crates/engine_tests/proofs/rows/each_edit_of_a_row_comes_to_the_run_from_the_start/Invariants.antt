use Rattle.engine_tests.proofs.rows.each_edit_of_a_row_comes_to_the_run_from_the_start.Given as goal

-- the counters are those of the blanks
abbrev pub ghosts-alike_edits-L-Ledger : goal.ghosts-alike_edits-L-Ledger
ghosts-alike_edits-L-Ledger g a = record { name = a.steps.name; parts = a.steps.parts }

abbrev pub ghosts-alike_edits-K-Ledger : goal.ghosts-alike_edits-K-Ledger
ghosts-alike_edits-K-Ledger g a = record { name = a.looks.name; parts = a.looks.parts }
