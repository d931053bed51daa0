use Rattle.std.proofs.Common.{List, ℕ, sym, subst, refl, ◌∙◌}
use Rattle.live_tasks.specs.WakeTimes.{AreWakes}
use Rattle.live_tasks.proofs.KeptTimes.{wakes_begun}
use Rattle.live_tasks.proofs.wake_times.WakeTimes.begin.Goals as goal

pub returns-clause-wakes : goal.returns-clause-wakes
returns-clause-wakes c = λ none are.
    subst (λ (stale : List ℕ). AreWakes c.put.new.waits.items c.args.self.now.wakes stale) (sym c.in_ok-push.ensures.items)
    (wakes_begun c.args.self.now.by_number.items c.put.new.waits.items c.args.number _
    (record { is_there = c.put.ensures.is_there; others = λ other apart. c.put.ensures.others other apart ∙ c.in_ok-make_room.ensures.same other })
    c.args.self.now.wakes c.args.self.now.stale.items are none refl)
