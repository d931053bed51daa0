use Rattle.std.proofs.Common.{ap, refl, Some, false, sym, is_some, ◌∙◌}
use Rattle.std.proofs.lemmas.Bool.{false≢true}
use Rattle.live_tasks.specs.Listing.{delay_of_slot}
use Rattle.live_tasks.proofs.ListedNumbers.{all_listed}
use Rattle.live_tasks.specs.Conditions.{condition_of_slot}
use Rattle.live_tasks.proofs.KeepsWaits.{begun_listed}
use Rattle.live_tasks.proofs.listed_slots.ListedSlots.insert.Goals as goal

pub returns-clause-listed : goal.returns-clause-listed
returns-clause-listed c listed =
    all_listed _ _ _ c.in_ok-number.number (Some c.args.slot) false false _ _ _ _ c.in_ok-number.ensures.is (λ e. refl) (λ e. ap delay_of_slot c.in_ok-number.ensures.vacant)
    (λ e. absurd (false≢true e)) (ap (λ s. s.slots) c.list.ensures.slots) c.in_ok-list.ensures.readies c.in_ok-list.ensures.delays c.in_ok-list.ensures.heap (λ e. absurd (false≢true e))
    (λ e among. false≢true (sym (ap is_some c.in_ok-number.ensures.vacant) ∙ listed.readies_.there c.in_ok-number.number among)) listed

pub returns-clause-waits : goal.returns-clause-waits
returns-clause-waits c =
    begun_listed c.args.self.now c.list.new.self.slots.slots c.insert.new.slots.slots c.list.new.self.waits c.begin_wait.new.waits c.in_ok-number.number _ c.in_ok-number.ensures.is (ap condition_of_slot c.in_ok-number.ensures.vacant)
    (ap (λ s. s.slots) c.list.ensures.slots) c.list.ensures.waits c.in_ok-begin_wait.ensures
