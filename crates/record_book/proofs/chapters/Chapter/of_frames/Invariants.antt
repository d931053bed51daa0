use Rattle.std.proofs.Common.{◌≡◌, map, take}
use Rattle.run_data.specs.Records.{record_of}
use Rattle.record_book.proofs.chapters.Chapter.of_frames.Given as goal

abbrev pub invariant-loop-frame : goal.invariant-loop-frame
invariant-loop-frame l = l.steps ≡ map record_of (take l.frame-index l.frames)
