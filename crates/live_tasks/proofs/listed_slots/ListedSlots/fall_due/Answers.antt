use Rattle.std.proofs.Common.{ap, sym, ◌∙◌, is_some, option_map}
use Rattle.live_tasks.specs.Endings.{slot_when_due}
use Rattle.live_tasks.specs.Slots.{slot_at}
use Rattle.live_tasks.proofs.ListedNumbers.{alone_listed}
use Rattle.live_tasks.proofs.ListedChanges.{some_map, no_delay, fallen_delay, fallen_ready}
use Rattle.live_tasks.proofs.KeepsWaits.{keeps_listed, due_waits}
use Rattle.live_tasks.proofs.listed_slots.ListedSlots.fall_due.Goals as goal

pub returns-clause-listed : goal.returns-clause-listed
returns-clause-listed c listed =
    let was = ap is_some (sym c.delay.ensures) ∙ sym c.is_some-was_delayed.ensures in
    alone_listed _ _ _ c.args.number (option_map (slot_when_due c.args.now c.args.to c.args.edge) (slot_at c.args.self.now.slots.slots c.args.number)) c.is_ready-was_ready.result c.is_some-was_delayed.result _ _ _ _ c.fall_due.ensures.is (some_map _ _)
    (λ e. no_delay _ (was ∙ e)) (λ e. fallen_delay c.args.now c.args.to c.args.edge _ (was ∙ e)) (ap (λ s. s.slots) c.list.ensures.slots) c.in_ok-list.ensures.readies c.in_ok-list.ensures.delays c.in_ok-list.ensures.heap c.is_ready-was_ready.ensures (fallen_ready c.args.now c.args.to c.args.edge _) listed

pub returns-clause-waits : goal.returns-clause-waits
returns-clause-waits c =
    keeps_listed c.args.self.now c.list.new.self.slots.slots c.fall_due.new.slots.slots c.list.new.self.waits c.args.number _ c.fall_due.ensures.is (due_waits c.args.now c.args.to c.args.edge _) (ap (λ s. s.slots) c.list.ensures.slots) c.list.ensures.waits
