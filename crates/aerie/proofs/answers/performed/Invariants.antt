use Rattle.aerie.proofs.answers.performed.Given as goal

abbrev pub ghosts-performed_good : goal.ghosts-performed_good
ghosts-performed_good g a = record { name = a.blank.name; parts = a.blank.parts }
