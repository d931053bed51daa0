use Rattle.std.proofs.Common.{refl}
use Rattle.live_tasks.proofs.KeepsWaits.{keeps_listed, counted_waits}
use Rattle.live_tasks.proofs.listed_slots.ListedSlots.count.Goals as goal

pub returns-clause-waits : goal.returns-clause-waits
returns-clause-waits c = keeps_listed c.args.self.now c.count.new.slots.slots c.count.new.slots.slots c.args.self.now.waits c.args.number _ c.in_ok-count.ensures (counted_waits _) refl refl
