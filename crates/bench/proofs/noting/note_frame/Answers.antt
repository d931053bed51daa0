use Rattle.bench.proofs.NotedFrames.{noted_put_new, noted_put_old}
use Rattle.std.proofs.Common.{refl, arith}
use Rattle.bench.proofs.noting.note_frame.Goals as goal

pub returns-then-at-first-clause-notes : goal.returns-then-at-first-clause-notes
returns-then-at-first-clause-notes c =
    noted_put_old c.args.first c.args.book.now.records c.put.new.book.records c.args.frame.now c.step.result.now c.in_ok-at.at c.args.noted.now c.args.noted.now
    c.step.ensures c.in_ok-at.ensures.put c.requires.first c.model-once.ensures.once c.in_ok-at.ensures.place c.if-at-first.true refl

pub returns-clause-notes : goal.returns-clause-notes
returns-clause-notes c =
    noted_put_new c.args.first c.args.book.now.records c.put.new.book.records c.args.frame.now c.step.result.now c.in_ok-at.at c.args.noted.now c.note.new.noted
    c.step.ensures c.in_ok-at.ensures.put c.requires.first c.model-once.ensures.once c.in_ok-at.ensures.place (omega (arith, c.if-at-first.false)) c.in_ok-note.ensures
