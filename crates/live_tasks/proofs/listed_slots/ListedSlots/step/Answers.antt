use Rattle.std.proofs.Common.{ap, refl, Some, true, false, sym}
use Rattle.std.proofs.lemmas.Bool.{false≢true}
use Rattle.live_tasks.specs.Endings.{slot_after_step}
use Rattle.live_tasks.proofs.ListedNumbers.{all_listed}
use Rattle.live_tasks.proofs.ListedChanges.{some_ready, ready_no_delay}
use Rattle.live_tasks.proofs.KeepsWaits.{begun_listed, ready_waits}
use Rattle.live_tasks.proofs.listed_slots.ListedSlots.step.Goals as goal

pub returns-clause-listed : goal.returns-clause-listed
returns-clause-listed c listed =
    let found = some_ready _ c.requires.ready in
    all_listed _ _ _ c.args.number (Some (slot_after_step c.args.now c.args.frame.now found.0)) true false _ _ _ _ (c.in_ok-step.ensures found.0 found.1) (λ e. refl) (λ e. ready_no_delay _ c.requires.ready)
    (λ e. absurd (false≢true e)) (ap (λ s. s.slots) c.list.ensures.slots) c.in_ok-list.ensures.readies c.in_ok-list.ensures.delays c.in_ok-list.ensures.heap (λ e. c.requires.ready) (λ e among. false≢true (sym e)) listed

pub returns-clause-waits : goal.returns-clause-waits
returns-clause-waits c =
    let found = some_ready _ c.requires.ready in
    begun_listed c.args.self.now c.list.new.self.slots.slots c.step.new.slots.slots c.list.new.self.waits c.begin_wait.new.waits c.args.number _ (c.in_ok-step.ensures found.0 found.1) (ready_waits _ c.requires.ready) (ap (λ s. s.slots) c.list.ensures.slots)
    c.list.ensures.waits c.in_ok-begin_wait.ensures
