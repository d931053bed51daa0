use Rattle.std.proofs.Common.{take}
use Rattle.run_data.specs.Records.{Agrees}
use Rattle.record_book.proofs.probes.view_agrees.Given as goal

abbrev pub invariant-loop-read : goal.invariant-loop-read
invariant-loop-read l = Agrees l.view (take l.read-index l.reads)
