use Rattle.std.proofs.Common.{sym, subst}
use Rattle.std.specs.BinaryHeap.{heap_items}
use Rattle.live_tasks.specs.Listing.{AreOnlyListed}
use Rattle.live_tasks.proofs.ListedNumbers.{relisted}
use Rattle.live_tasks.proofs.listed_slots.ListedSlots.relist.Goals as goal

pub returns-clause-listed : goal.returns-clause-listed
returns-clause-listed c listed =
    subst (λ numbers. AreOnlyListed c.args.self.now.slots.slots numbers (heap_items c.args.self.now.delays))
    (sym c.keep_ready.ensures) (relisted _ _ _ listed)
