use Rattle.std.proofs.Common.{◌∙◌, ap, sym, subst}
use Rattle.run_data.specs.Tasks.{ready_jobs}
use Rattle.live_tasks.specs.Slots.{Slots, table_of}
use Rattle.live_tasks.specs.Endings.{AreLive}
use Rattle.live_tasks.specs.Followers.{AreFollowers}
use Rattle.live_tasks.specs.Readies.{entries_at}
use Rattle.live_tasks.proofs.ReadyTasks.{ready_in_order}
use Rattle.live_tasks.proofs.tasks.LiveTasks.ready.Goals as goal

pub order-requires-clause-forest : goal.order-requires-clause-forest
order-requires-clause-forest c = c.requires.live_.forest

pub returns-clause-jobs : goal.returns-clause-jobs
returns-clause-jobs c =
    let slots = c.order.new.self.slots.slots in
    let live_ = subst (λ (s : Slots). AreLive (table_of s) s) (ap (λ s. s.slots) (sym c.order.ensures.slots)) c.requires.live_ in
    c.in_ok-put_jobs.ensures ∙ ap (λ n. ready_jobs c.args.view.now (entries_at slots n)) c.as_slice-readies.ensures.value
    ∙ sym (ready_in_order c.args.view.now (table_of slots) slots c.order.new.self.readies.items live_.are c.in_ok-order.ensures.order)
    ∙ ap (λ (s : Slots). ready_jobs c.args.view.now (table_of s)) (ap (λ s. s.slots) c.order.ensures.slots)

pub returns-clause-table : goal.returns-clause-table
returns-clause-table c = ap (λ s. table_of s.slots) c.order.ensures.slots

pub returns-clause-in_step : goal.returns-clause-in_step
returns-clause-in_step c = record {
  live_ = subst (λ (s : Slots). AreLive (table_of s) s) (ap (λ s. s.slots) (sym c.order.ensures.slots)) c.requires.live_;
  followers_ = subst (λ (s : Slots). AreFollowers s c.args.self.now.followers.items) (ap (λ s. s.slots) (sym c.order.ensures.slots)) c.requires.followers_;
  listed = c.in_ok-order.ensures.listed;
}
