use Rattle.std.proofs.Common.{length}
use Rattle.readers.proofs.words.+one_of.Given as goal

abbrev pub decreases-one_of : goal.decreases-one_of
decreases-one_of g l = length l.table.now
