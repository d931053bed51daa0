use Rattle.std.proofs.Common.{arith}
use Rattle.live_tasks.proofs.GatheredDelays.{none_gathered, one_gathered, all_gathered}
use Rattle.live_tasks.proofs.listed_slots.delays_of.Goals as goal

pub loop-number-init : goal.loop-number-init
loop-number-init c = none_gathered c.args.slots.now.slots _ c.no_delays-delays.ensures.none c.no_delays-delays.ensures.heap

pub loop-number-preserved : goal.loop-number-preserved
loop-number-preserved c =
    one_gathered c.args.slots.now.slots c.loop-number.number _ _ _ c.delay-end.ensures c.loop-number.invariant c.in_ok-list_delay.ensures.more c.in_ok-list_delay.ensures.heap

pub returns : goal.returns
returns c = all_gathered c.args.slots.now.slots c.loop-number.number _ (omega (arith, c.loop-number-test.false, c.capacity-number-end.ensures.slots)) c.loop-number.invariant
