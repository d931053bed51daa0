use Rattle.std.proofs.Common.{arith}
use Rattle.session_judge.proofs.Counting.{few_commands, one_more_client}
use Rattle.session_judge.proofs.accepted.command_count.Goals as goal

pub overflow_add-count : goal.overflow_add-count
overflow_add-count c =
    omega (
      arith,
      few_commands c.args.clients.now c.requires.clients c.requires.commands,
      one_more_client c.args.clients.now c.loop-client.client-index c.client-item.result c.loop-client-test.true c.client-item.is,
      c.loop-client.invariant,
      c.len-count.ensures,
    )
