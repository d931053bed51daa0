use Rattle.std.proofs.Common.{◌≡◌, ◌+◌, ◌∙◌, true, Some, ap, sym, subst, arith, if◌then◌else◌}
use Rattle.std.specs.BTreeSet.{btree_set_len}
use Rattle.live_tasks.specs.WakeTimes.{has_wake, HasWakeNoMore}
use Rattle.live_tasks.proofs.WakeSets.{taken_out}
use Rattle.live_tasks.proofs.wakes.end_wake.Goals as goal

pub returns-clause-less : goal.returns-clause-less
returns-clause-less c =
    subst (λ now. HasWakeNoMore c.args.number (Some now) c.args.wakes.now c.remove.new.self) c.micros.ensures.value (taken_out _ _ _ _ c.remove.ensures.updates)

pub returns-clause-fewer : goal.returns-clause-fewer
returns-clause-fewer c has =
    let r : c.remove.result ≡ true = c.remove.ensures.test ∙ ap (λ t. has_wake c.args.wakes.now t c.args.number) c.micros.ensures.value ∙ has in
    let k : btree_set_len c.remove.new.self + 1 ≡ btree_set_len c.args.wakes.now = sym (ap (λ b. btree_set_len c.remove.new.self + (if b then 1 else 0)) r) ∙ c.remove.ensures.len in
    omega (arith, k)
