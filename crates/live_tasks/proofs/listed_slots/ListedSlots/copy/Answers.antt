use Rattle.std.proofs.Common.{◌∙◌, sym, subst}
use Rattle.live_tasks.specs.Conditions.{condition_at}
use Rattle.live_tasks.specs.Slots.{Slots}
use Rattle.live_tasks.specs.Waits.{IsKept}
use Rattle.live_tasks.proofs.CopiedTasks.{same_slots, copied_listed}
use Rattle.live_tasks.proofs.listed_slots.ListedSlots.copy.Goals as goal

pub returns-clause-slots : goal.returns-clause-slots
returns-clause-slots c = same_slots c.args.self.now.slots.slots c.in_ok-slots.slots.slots c.in_ok-slots.ensures.cases.slots

pub returns-clause-listed : goal.returns-clause-listed
returns-clause-listed c =
    copied_listed c.args.self.now.slots.slots c.in_ok-slots.slots.slots c.args.self.now.readies.items _ _ _ (same_slots c.args.self.now.slots.slots c.in_ok-slots.slots.slots c.in_ok-slots.ensures.cases.slots)
    (c.in_ok-readies.ensures.items ∙ c.as_slice.ensures.value) c.in_ok-delays.ensures.same c.in_ok-delays.ensures.heap c.requires

pub returns-clause-waits : goal.returns-clause-waits
returns-clause-waits c = λ now horizon cells kept.
    subst (λ (s : Slots). IsKept now horizon cells (condition_at s) c.in_ok-waits.waits) (sym (same_slots c.args.self.now.slots.slots c.in_ok-slots.slots.slots c.in_ok-slots.ensures.cases.slots))
    (c.in_ok-waits.ensures now horizon cells (condition_at c.args.self.now.slots.slots) kept)
