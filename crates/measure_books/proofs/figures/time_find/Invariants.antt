use Rattle.run_data.specs.Jobs.{AreCellsOf}
use Rattle.measure_books.specs.Counting.{counting}
use Rattle.measure_books.proofs.figures.time_find.Given as goal

abbrev pub invariant-loop-chapter : goal.invariant-loop-chapter
invariant-loop-chapter g l = AreCellsOf counting l.view
