use Rattle.std.proofs.Common.{arith}
use Rattle.live_tasks.proofs.OrderedReadies.{rising}
use Rattle.live_tasks.proofs.readies.rise.Goals as goal

pub returns : goal.returns
returns c = λ e. rising c.args.slots.now.slots c.args.numbers.now (λ k d less. c.loop-at.invariant k d (omega (arith, less, c.loop-at-test.false)))
