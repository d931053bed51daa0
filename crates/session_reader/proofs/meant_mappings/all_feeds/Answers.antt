use Rattle.session_reader.specs.MeantMappings.{feed_for}
use Rattle.diagnostics.specs.Iterations.{map_iteration}
use Rattle.session_reader.proofs.meant_mappings.all_feeds.Goals as goal

pub loop-parameter-preserved : goal.loop-parameter-preserved
loop-parameter-preserved c =
    map_iteration (feed_for c.args.new.now c.args.from.now c.args.feeds.now)
    c.args.parameters.now c.loop-parameter.parameter-index c.parameter-item.result c.loop-parameter-test.true c.parameter-item.is
    _ _ _ _ c.feed_for.ensures c.in_ok-push.ensures.pushed c.loop-parameter.invariant
