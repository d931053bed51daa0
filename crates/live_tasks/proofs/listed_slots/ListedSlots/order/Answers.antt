use Rattle.std.proofs.Common.{sym, subst, ap, ◌∙◌}
use Rattle.std.specs.BinaryHeap.{heap_items}
use Rattle.live_tasks.specs.Listing.{AreOnlyListed}
use Rattle.live_tasks.specs.Readies.{entries_at, AreReadyNumbers, numbers_of_tasks}
use Rattle.run_data.specs.laws.OrderedTables.{IsOrderedTable}
use Rattle.live_tasks.proofs.OrderedReadies.{listed_rise, numbers_alone, numbers_all}
use Rattle.live_tasks.proofs.listed_slots.ListedSlots.order.Goals as goal

pub returns-then-rise-clause-order : goal.returns-then-rise-clause-order
returns-then-rise-clause-order c =
    listed_rise c.args.self.now.slots.slots c.args.self.now.readies.items c.requires.listed.all.readies_ c.requires.listed.alone
    (subst (λ numbers. IsOrderedTable (entries_at c.args.self.now.slots.slots numbers)) c.as_slice.ensures.value (c.rise.ensures c.if-rise.true))

pub returns-clause-order : goal.returns-clause-order
returns-clause-order c =
    subst (AreReadyNumbers c.args.self.now.slots.slots) (sym (c.in_ok-numbers.ensures ∙ ap numbers_of_tasks c.as_slice-2.ensures.value)) c.in_ok-sorted.ensures.numbers

pub returns-clause-listed : goal.returns-clause-listed
returns-clause-listed c =
    let ready = c.in_ok-sorted.ensures.numbers in
    let numbers = numbers_of_tasks c.in_ok-sorted.sorted.items in
    subst (λ n. AreOnlyListed c.args.self.now.slots.slots n (heap_items c.args.self.now.delays)) (sym (c.in_ok-numbers.ensures ∙ ap numbers_of_tasks c.as_slice-2.ensures.value))
    (record {
      all = record { readies_ = numbers_all c.args.self.now.slots.slots numbers ready; delays_ = c.requires.listed.all.delays_ };
      alone = numbers_alone c.args.self.now.slots.slots numbers ready;
    })
