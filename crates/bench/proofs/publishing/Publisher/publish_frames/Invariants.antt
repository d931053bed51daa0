use Rattle.std.proofs.Common.{◌-◌, length}
use Rattle.bench.proofs.PublishedChapters.{Published}
use Rattle.bench.proofs.publishing.Publisher.publish_frames.Given as goal

abbrev pub invariant-loop-from : goal.invariant-loop-from
invariant-loop-from g l = Published l.store l.model l.frames l.from l.initial.self l.self

abbrev pub decreases-loop-from : goal.decreases-loop-from
decreases-loop-from g l = length l.frames - l.from
