use Rattle.std.proofs.Common.{refl}
use Rattle.live_tasks.specs.Conditions.{condition_at}
use Rattle.live_tasks.proofs.Settling.{next_none}
use Rattle.live_tasks.proofs.Woken.{due_is_wait, none_before_now, wakes_more, found_woken, all_woken}
use Rattle.live_tasks.proofs.listed_slots.ListedSlots.wake_all.Goals as goal

pub wake-requires-clause-waits : goal.wake-requires-clause-waits
wake-requires-clause-waits c =
    due_is_wait c.args.now c.args.horizon c.args.cells.now (condition_at c.loop-number.self.slots.slots) c.loop-number.self.waits c.in-Some.number c.loop-number.invariant.1 c.in-Some.ensures.found

pub loop-number-init : goal.loop-number-init
loop-number-init c = (λ number. refl, c.in_ok-solve_all.ensures, c.requires.listed)

pub loop-number-preserved : goal.loop-number-preserved
loop-number-preserved c = (
  wakes_more c.waiting_depends_on_cells_read.ensures.now c.args.now c.args.horizon c.args.cells.now c.requires.horizon c.args.self.now.slots.slots c.loop-number.self.slots.slots c.wake.new.self.slots.slots
      c.loop-number.self.waits c.in-Some.number c.loop-number.invariant.1 c.in-Some.ensures.found c.in_ok-wake.ensures.is c.loop-number.invariant.0,
  found_woken c.args.now c.args.horizon c.args.cells.now c.loop-number.self.slots.slots c.wake.new.self.slots.slots c.loop-number.self.waits c.wake.new.self.waits c.in-Some.number c.wake.ensures.ends
      c.in_ok-wake.ensures.is c.loop-number.invariant.1,
  c.in_ok-wake.ensures.listed,
)

pub returns-clause-are : goal.returns-clause-are
returns-clause-are c =
    all_woken c.waiting_depends_on_cells_read.ensures.now c.args.now c.args.horizon c.args.cells.now c.requires.horizon c.args.self.now.slots.slots c.loop-number.self.slots.slots c.loop-number.self.waits
    c.loop-number.invariant.1 c.loop-number.invariant.0
    (c.first_waking.ensures.none (next_none c.first_waking.result c.in_default.not-Some)
    (none_before_now c.args.now c.args.horizon c.args.cells.now (condition_at c.loop-number.self.slots.slots) c.loop-number.self.waits c.loop-number.invariant.1))
