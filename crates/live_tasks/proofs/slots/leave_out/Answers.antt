use Rattle.std.proofs.Common.{arith}
use Rattle.parting.specs.IdRanges.{is_id_between}
use Rattle.live_tasks.proofs.LeftOut.{none_left_out, one_left_out, all_left_out}
use Rattle.live_tasks.proofs.slots.leave_out.Goals as goal

pub loop-number-init : goal.loop-number-init
loop-number-init c = none_left_out (is_id_between c.args.first c.args.past) c.args.slots.now.slots

pub loop-number-preserved : goal.loop-number-preserved
loop-number-preserved c =
    one_left_out (is_id_between c.args.first c.args.past) c.loop-number.number c.args.slots.now.slots c.loop-number.slots.slots c.leave_one.new.slots.slots c.loop-number.invariant c.leave_one.ensures

pub returns : goal.returns
returns c =
    all_left_out (is_id_between c.args.first c.args.past) c.loop-number.number c.args.slots.now.slots c.loop-number.slots.slots (omega (arith, c.loop-number-test.false, c.capacity-number-end.ensures.slots))
    c.loop-number.invariant
