use Rattle.std.proofs.Common.{Option, option_map, subst}
use Rattle.live_tasks.specs.declared.slots.Slot.{Slot}
use Rattle.live_tasks.specs.Slots.{Becomes}
use Rattle.live_tasks.specs.Endings.{slot_with_child}
use Rattle.live_tasks.proofs.Beginning.{child_took}
use Rattle.live_tasks.proofs.tasks.LiveTasks.begin_child.Goals as goal

pub returns-clause-takes : goal.returns-clause-takes
returns-clause-takes c first numbers table is above there path_is fresh =
    child_took c.args.now c.args.frame.now first numbers table c.args.self.now.tables.slots.slots c.count.new.self.slots.slots c.args.parent c.args.own c.in_ok-number.number above there path_is fresh is
    (record {
      between = c.insert.new.self.slots.slots;
      child = c.in_ok-child.child;
      first = c.in_ok-child.ensures;
      vacant = c.in_ok-number.ensures.vacant;
      inserted = c.in_ok-number.ensures.is;
      counted = λ one e. subst (λ (o : Option Slot). Becomes c.insert.new.self.slots.slots c.count.new.self.slots.slots c.args.parent (option_map slot_with_child o)) e c.in_ok-count.ensures.is;
    })

pub returns-clause-waits : goal.returns-clause-waits
returns-clause-waits c = λ now horizon cells kept. c.in_ok-count.ensures.waits now horizon cells (c.in_ok-number.ensures.waits now horizon cells kept)
