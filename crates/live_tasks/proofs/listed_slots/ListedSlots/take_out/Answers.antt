use Rattle.std.proofs.Common.{refl}
use Rattle.live_tasks.proofs.KeepsWaits.{keeps_listed, ended_waits}
use Rattle.live_tasks.proofs.listed_slots.ListedSlots.take_out.Goals as goal

pub returns-clause-waits : goal.returns-clause-waits
returns-clause-waits c = keeps_listed c.args.self.now c.take_out-ended.new.slots.slots c.take_out-ended.new.slots.slots c.args.self.now.waits c.args.number _ c.take_out-ended.ensures.is (ended_waits _ c.requires) refl refl
