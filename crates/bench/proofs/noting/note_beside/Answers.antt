use Rattle.std.proofs.Common.{refl}
use Rattle.bench.proofs.NotedFrames.{noted_like}
use Rattle.bench.proofs.noting.note_beside.Goals as goal

pub returns-then-is_beside-clause-notes : goal.returns-then-is_beside-clause-notes
returns-then-is_beside-clause-notes c =
    noted_like c.args.first c.args.book.now.records c.args.book.now.records c.args.old.now c.args.frame.now c.args.noted.now c.args.noted.now c.requires.old
    (c.is_beside.ensures c.if-is_beside.true) refl refl
