use Rattle.live_tasks.proofs.KeepsWaits.{none_kept}
use Rattle.live_tasks.proofs.listed_slots.ListedSlots.new.Goals as goal

pub returns-clause-kept : goal.returns-clause-kept
returns-clause-kept c = none_kept c.new-slots.result.slots c.in_ok-waits.waits c.args.cells c.new-slots.ensures.empty c.in_ok-waits.ensures.none c.in_ok-waits.ensures.times c.in_ok-waits.ensures.by_cell
