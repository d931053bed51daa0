use Rattle.std.proofs.Common.{true, ap, sym, option_map}
use Rattle.std.proofs.lemmas.Bool.{false≢true}
use Rattle.live_tasks.specs.Endings.{slot_after_child_end}
use Rattle.live_tasks.specs.Slots.{slot_at}
use Rattle.live_tasks.proofs.ListedNumbers.{alone_listed}
use Rattle.live_tasks.proofs.ListedChanges.{some_map, told_delay, told_ready}
use Rattle.live_tasks.proofs.KeepsWaits.{keeps_listed, told_waits}
use Rattle.live_tasks.proofs.listed_slots.ListedSlots.tell.Goals as goal

pub returns-clause-listed : goal.returns-clause-listed
returns-clause-listed c listed =
    alone_listed _ _ _ c.args.number (option_map (slot_after_child_end c.args.own c.args.value) (slot_at c.args.self.now.slots.slots c.args.number)) c.is_ready-was_ready.result true _ _ _ _ c.in_ok-tell.ensures.is (some_map _ _)
    (λ e. absurd (false≢true (sym e))) (λ e. told_delay c.args.own c.args.value _) (ap (λ s. s.slots) c.list.ensures.slots) c.in_ok-list.ensures.readies c.in_ok-list.ensures.delays c.in_ok-list.ensures.heap c.is_ready-was_ready.ensures (told_ready c.args.own c.args.value _) listed

pub returns-clause-waits : goal.returns-clause-waits
returns-clause-waits c =
    keeps_listed c.args.self.now c.list.new.self.slots.slots c.tell.new.slots.slots c.list.new.self.waits c.args.number _ c.in_ok-tell.ensures.is (told_waits c.args.own c.args.value _) (ap (λ s. s.slots) c.list.ensures.slots) c.list.ensures.waits
