use Rattle.record_book.proofs.Probing.{agrees_at, agrees_more, cell_within, denied, read_at, refuted}
use Rattle.record_book.proofs.probes.view_agrees.Goals as goal

pub has_read-requires : goal.has_read-requires
has_read-requires c = cell_within c.args.view.now c.args.reads.now c.loop-read.read-index c.read-item.result c.requires c.loop-read-test.true c.read-item.is

pub returns-then-not-has_read : goal.returns-then-not-has_read
returns-then-not-has_read c =
    refuted _ (λ agrees. denied c.has_read.result _ c.if-not-has_read.true c.has_read.ensures
    (agrees_at c.args.view.now c.args.reads.now c.loop-read.read-index c.read-item.result agrees
    (read_at c.args.reads.now c.loop-read.read-index c.read-item.result c.loop-read-test.true c.read-item.is)))

pub loop-read-preserved : goal.loop-read-preserved
loop-read-preserved c =
    agrees_more c.args.view.now c.args.reads.now c.loop-read.read-index c.read-item.result
    (read_at c.args.reads.now c.loop-read.read-index c.read-item.result c.loop-read-test.true c.read-item.is) c.loop-read.invariant
    (c.has_read.ensures.0 c.if-not-has_read.false)
