use Rattle.std.proofs.Common.{◌∷◌, List, Option, ℕ, refl, ap, sym, subst, option_map}
use Rattle.std.specs.BTreeSet.{BTreeSet}
use Rattle.live_tasks.specs.declared.wake_times.Wait.{Wait}
use Rattle.live_tasks.specs.Conditions.{condition_at}
use Rattle.live_tasks.specs.WakeTimes.{numbered_wait, found_if, WaitBecomes, AreWakes}
use Rattle.live_tasks.proofs.KeptWaits.{popped_wakes, kept_solved}
use Rattle.live_tasks.proofs.waking.solve_all.Goals as goal

pub loop-number-preserved : goal.loop-number-preserved
loop-number-preserved c =
    let times = c.loop-number.waits.times in
    let popped = c.pop_stale.new.self in
    let number = c.in-Some.number in
    let same = ap (λ v. v.items) c.pop_stale.ensures.same in
    let but = popped_wakes times.by_number.items times.wakes times.stale.items popped.stale.items number c.in-Some.ensures.some c.loop-number.invariant.times in
    kept_solved c.args.now c.args.horizon c.args.cells.now (condition_at c.args.slots.now.slots) number c.wake_time-wake.result c.loop-number.waits _
    (subst (λ (waits : List (Option Wait)). WaitBecomes waits c.keep.new.self.by_number.items number (option_map (found_if c.wake_time-wake.result) (numbered_wait waits number))) same c.in_ok-keep.ensures.wait)
    (c.in_ok-keep.ensures.wakes
    (subst (λ (waits : List (Option Wait)). AreWakes waits popped.wakes (number ∷ popped.stale.items)) (sym same)
    (subst (λ (wakes : BTreeSet (ℕ × ℕ)). AreWakes times.by_number.items wakes (number ∷ popped.stale.items)) (sym c.pop_stale.ensures.wakes) but)))
    c.wake_time-wake.ensures refl c.loop-number.invariant
