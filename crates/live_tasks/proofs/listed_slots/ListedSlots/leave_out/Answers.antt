use Rattle.std.proofs.Common.{refl}
use Rattle.parting.specs.IdRanges.{is_id_between}
use Rattle.live_tasks.proofs.KeepsWaits.{keeps_alike}
use Rattle.live_tasks.proofs.LeftOut.{left_listed, left_alike}
use Rattle.live_tasks.proofs.listed_slots.ListedSlots.leave_out.Goals as goal

pub returns-clause-listed : goal.returns-clause-listed
returns-clause-listed c =
    left_listed (is_id_between c.args.first c.args.past) c.args.self.now.slots.slots c.leave_out.new.slots.slots c.leave_out.ensures c.requires.idle c.args.self.now.readies.items _ _ c.in_ok-delays.ensures
    c.requires.listed

pub returns-clause-waits : goal.returns-clause-waits
returns-clause-waits c =
    keeps_alike c.args.self.now c.leave_out.new.slots.slots c.args.self.now.waits
    (left_alike (is_id_between c.args.first c.args.past) c.args.self.now.slots.slots c.leave_out.new.slots.slots c.leave_out.ensures c.requires.idle) refl
