use Rattle.std.proofs.Common.{◌∙◌, sym, ap, subst}
use Rattle.live_tasks.specs.declared.listed_slots.ListedSlots.{ListedSlots}
use Rattle.live_tasks.specs.ListedSlots.{ListsExactly, KeepsWaits}
use Rattle.live_tasks.specs.Slots.{table_of}
use Rattle.live_tasks.proofs.CopiedTasks.{copied_in_step}
use Rattle.live_tasks.proofs.tasks.LiveTasks.copy.Goals as goal

pub returns-clause-table : goal.returns-clause-table
returns-clause-table c = ap table_of (ap (λ (t : ListedSlots). t.slots.slots) c.with_followers.ensures.tables ∙ c.in_ok-tables.ensures.slots)

pub returns-clause-in_step : goal.returns-clause-in_step
returns-clause-in_step c =
    copied_in_step c.args.self.now _ (ap (λ (t : ListedSlots). t.slots.slots) c.with_followers.ensures.tables ∙ c.in_ok-tables.ensures.slots)
    (ap (λ f. f.items) c.with_followers.ensures.followers ∙ c.in_ok-followers.ensures.items ∙ c.as_slice.ensures.value)
    (subst ListsExactly (sym c.with_followers.ensures.tables) c.in_ok-tables.ensures.listed) c.requires

pub returns-clause-kept : goal.returns-clause-kept
returns-clause-kept c = subst (KeepsWaits c.args.self.now.tables) (sym c.with_followers.ensures.tables) c.in_ok-tables.ensures.waits
