use Rattle.run_data.specs.RunFrames.{frames_in_instants}
use Rattle.record_book.proofs.RunRecords.{WithFirst, frames_of_instant, instants_join}
use Rattle.record_book.proofs.books.put_instants.Given as goal

abbrev pub invariant-loop-instant : goal.invariant-loop-instant
invariant-loop-instant l = WithFirst frames_in_instants frames_of_instant instants_join l.initial.index l.instants l.instant-index l.index
