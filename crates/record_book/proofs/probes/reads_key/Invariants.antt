use Rattle.std.specs.Hash as writes
use Rattle.std.specs.Hash.FoldHasher as folding
use Rattle.record_book.proofs.Probing.{HasWritten}
use Rattle.record_book.proofs.probes.reads_key.Given as goal

abbrev pub invariant-loop-read : goal.invariant-loop-read
invariant-loop-read l = HasWritten folding.write folding.initial (writes.usize l.way) l.reads l.read-index l.hasher
