use Rattle.std.proofs.Common.{List, ℕ, ap, sym, subst, refl, ◌∙◌}
use Rattle.live_tasks.specs.WakeTimes.{kept_time, AreWakes}
use Rattle.live_tasks.proofs.KeptTimes.{wakes_stale}
use Rattle.live_tasks.proofs.wake_times.WakeTimes.make_stale.Goals as goal

pub returns-clause-wakes : goal.returns-clause-wakes
returns-clause-wakes c = λ are.
    subst (λ (stale : List ℕ). AreWakes c.put.new.waits.items c.leave_out.new.wakes stale) (sym c.in_ok-push.ensures.items)
    (wakes_stale c.args.self.now.by_number.items c.put.new.waits.items c.args.number _ (record { is_there = c.put.ensures.is_there; others = c.put.ensures.others })
    c.args.self.now.wakes c.args.self.now.stale.items are c.leave_out.new.wakes c.time.result (ap kept_time c.requires ∙ sym c.time.ensures) refl c.leave_out.ensures.less c.leave_out.ensures.sorted)
