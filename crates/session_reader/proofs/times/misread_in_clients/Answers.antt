use Rattle.std.proofs.Common.{sym, ap, ◌∙◌}
use Rattle.session_reader.specs.Times.{misread_client, misread_command, first_misread}
use Rattle.session_reader.proofs.MisreadInstants.{met, passed}
use Rattle.session_reader.proofs.times.misread_in_clients.Goals as goal

pub returns-then-is_some : goal.returns-then-is_some
returns-then-is_some c =
    met misread_client c.args.clients.now c.loop-client.client-index c.client-item.result c.loop-client-test.true c.client-item.is c.loop-client.invariant
    _ (c.misread_in_commands-bad.ensures ∙ ap (first_misread misread_command) c.as_slice.ensures) (sym c.is_some.ensures ∙ c.if-is_some.true)

pub loop-client-preserved : goal.loop-client-preserved
loop-client-preserved c =
    passed misread_client c.args.clients.now c.loop-client.client-index c.client-item.result c.loop-client-test.true c.client-item.is c.loop-client.invariant
    _ (c.misread_in_commands-bad.ensures ∙ ap (first_misread misread_command) c.as_slice.ensures) (sym c.is_some.ensures ∙ c.if-is_some.false)
