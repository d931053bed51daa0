use Rattle.std.proofs.Common.{ap, sym, ◌∙◌}
use Rattle.live_tasks.specs.WakeTimes.{numbered_wait, kept_time, time_of_wake, is_stale_wake}
use Rattle.live_tasks.proofs.KeptTimes.{wakes_kept, stale_no_time, found_time, found_fresh}
use Rattle.live_tasks.proofs.wake_times.WakeTimes.keep.Goals as goal

pub returns-clause-wakes : goal.returns-clause-wakes
returns-clause-wakes c = λ are.
    let was = ap (λ waits. numbered_wait waits c.args.number) (sym c.as_slice.ensures.value) ∙ sym c.numbered_wait.ensures ∙ c.in-Some.is in
    let stale = sym c.is_stale.ensures ∙ c.if-not-is_stale.false in
    wakes_kept c.args.self.now.by_number.items c.put.new.waits.items c.args.number _ (record { is_there = c.put.ensures.is_there; others = c.put.ensures.others }) c.args.self.now.wakes
    c.list_wake.new.wakes c.args.self.now.stale.items are c.args.time (ap kept_time was ∙ stale_no_time c.in-Some.wait.wake stale)
    (ap time_of_wake c.found.ensures ∙ found_time c.in-Some.wait c.args.time) (ap is_stale_wake c.found.ensures ∙ found_fresh c.in-Some.wait c.args.time)
    c.in_ok-list_wake.ensures.more c.list_wake.ensures.sorted
