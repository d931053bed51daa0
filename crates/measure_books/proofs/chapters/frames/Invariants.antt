use Rattle.measure_books.specs.Counting.{AreCountingFrames}
use Rattle.measure_books.proofs.chapters.frames.Given as goal

abbrev pub invariant-loop-at : goal.invariant-loop-at
invariant-loop-at l = AreCountingFrames l.frames
