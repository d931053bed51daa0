use Rattle.session_reader.specs.ClientCommands.{client_meant}
use Rattle.diagnostics.specs.Iterations.{map_iteration}
use Rattle.session_reader.proofs.clients.clients.Goals as goal

pub loop-one-preserved : goal.loop-one-preserved
loop-one-preserved c =
    map_iteration (client_meant c.args.start)
    c.args.raw.now c.loop-one.one-index c.one-item.result c.loop-one-test.true c.one-item.is
    _ _ _ _ c.in_ok-client.ensures c.in_ok-push.ensures.pushed c.loop-one.invariant
