use Rattle.run_data.specs.Jobs.{AreCellsOf}
use Rattle.measure_books.specs.Counting.{counting}
use Rattle.measure_books.proofs.figures.find_all.Given as goal

abbrev pub invariant-loop-step : goal.invariant-loop-step
invariant-loop-step g l = AreCellsOf counting l.view
