use Rattle.record_book.proofs.RunRecords.{WithFirst, alone, frames_join}
use Rattle.record_book.proofs.books.put_frames.Given as goal

abbrev pub invariant-loop-frame : goal.invariant-loop-frame
invariant-loop-frame l = WithFirst (λ frames. frames) alone frames_join l.initial.index l.frames l.frame-index l.index
