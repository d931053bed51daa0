use Rattle.measure_books.proofs.figures.measure_book.Given as goal

-- the counter is that of the blank
abbrev pub ghosts-print_book : goal.ghosts-print_book
ghosts-print_book g a = record { name = a.looks.name; parts = a.looks.parts }
