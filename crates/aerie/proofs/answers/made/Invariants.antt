use Rattle.aerie.proofs.answers.made.Given as goal

abbrev pub ghosts-summarized : goal.ghosts-summarized
ghosts-summarized g a = record { name = a.blank.name; parts = a.blank.parts }
