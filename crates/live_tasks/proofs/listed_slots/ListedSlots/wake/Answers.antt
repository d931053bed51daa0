use Rattle.std.specs.BinaryHeap.{heap_items}
use Rattle.live_tasks.proofs.Woken.{woken_listed}
use Rattle.live_tasks.proofs.listed_slots.ListedSlots.wake.Goals as goal

pub returns-clause-listed : goal.returns-clause-listed
returns-clause-listed c =
    woken_listed c.args.self.now.slots.slots c.wake.new.slots.slots c.args.number c.wake.ensures.is c.requires.waits c.args.self.now.readies.items c.push.new.self.items (heap_items c.args.self.now.delays)
    c.in_ok-push.ensures.items c.requires.listed
