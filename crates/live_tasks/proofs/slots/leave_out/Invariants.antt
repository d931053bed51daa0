use Rattle.parting.specs.IdRanges.{is_id_between}
use Rattle.live_tasks.proofs.LeftOut.{LeftTo}
use Rattle.live_tasks.proofs.slots.leave_out.Given as goal

abbrev pub invariant-loop-number : goal.invariant-loop-number
invariant-loop-number l = LeftTo (is_id_between l.first l.past) l.number l.initial.slots.slots l.slots.slots
