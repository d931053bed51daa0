use Rattle.session_reader.specs.MappingDiagnostics.{feed_diagnostics}
use Rattle.session_reader.specs.Diagnostics.{number_of_cause}
use Rattle.diagnostics.specs.Iterations.{each_iteration}
use Rattle.session_reader.proofs.feeds.note_feeds.Goals as goal

pub loop-feed-preserved : goal.loop-feed-preserved
loop-feed-preserved c =
    each_iteration number_of_cause (feed_diagnostics c.args.old.now c.args.new.now c.args.from.now c.args.to.now)
    c.args.feeds.now c.loop-feed.feed-index c.feed-item.result c.loop-feed-test.true c.feed-item.is
    _ _ _ c.note_feed.ensures c.loop-feed.invariant
