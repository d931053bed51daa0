use Rattle.std.proofs.Common.{◌+◌, refl, ◌∙◌, subst, drop, get_or, arith}
use Rattle.std.proofs.lemmas.Bool.Decides.{nat_tests}
use Rattle.std.proofs.lemmas.List.{drop_more, get_or_default}
use Rattle.live_tasks.specs.Followers.{Follows}
use Rattle.live_tasks.proofs.Coming.{IsComing, all_coming, next_coming, none_coming, past_last, beyond}
use Rattle.live_tasks.proofs.KeepsWaits.{keeps_same, keeps_then}
use Rattle.live_tasks.proofs.followers.fall_first.Goals as goal

pub loop-follower-init : goal.loop-follower-init
loop-follower-init c = (all_coming c.args.now c.args.to c.args.edge c.args.tables.now.slots.slots c.args.followers.now c.requires, refl, λ before. before, keeps_same c.args.tables.now)

pub loop-follower-preserved : goal.loop-follower-preserved
loop-follower-preserved c =
    let here = get_or c.args.followers.now c.loop-follower.follower-index (record { to = 0; number = 0 }) in (
      next_coming c.args.now c.args.to c.args.edge c.args.tables.now.slots.slots c.loop-follower.tables.slots.slots c.fall_due.new.self.slots.slots here (drop (c.loop-follower.follower-index + 1) c.args.followers.now)
          (subst (IsComing c.args.now c.args.to c.args.edge c.args.tables.now.slots.slots c.loop-follower.tables.slots.slots)
          (drop_more c.args.followers.now c.loop-follower.follower-index (record { to = 0; number = 0 }) c.loop-follower-test.true) c.loop-follower.invariant.0)
          c.in_ok-fall_due.ensures.is,
      c.fall_due.ensures.length ∙ c.loop-follower.invariant.1,
      λ before. c.in_ok-fall_due.ensures.listed (c.loop-follower.invariant.2 before),
      keeps_then c.args.tables.now c.loop-follower.tables c.fall_due.new.self c.loop-follower.invariant.3 c.in_ok-fall_due.ensures.waits,
    )

pub returns-then-follower-to-clause-falls : goal.returns-then-follower-to-clause-falls
returns-then-follower-to-clause-falls c =
    let here = get_or c.args.followers.now c.loop-follower.follower-index (record { to = 0; number = 0 }) in
    none_coming c.args.now c.args.to c.args.edge c.args.tables.now.slots.slots c.loop-follower.tables.slots.slots (drop c.loop-follower.follower-index c.args.followers.now)
    (past_last c.args.to c.args.followers.now c.loop-follower.follower-index here c.requires.by_id c.requires.from c.loop-follower-test.true
    (get_or_default c.args.followers.now c.loop-follower.follower-index (record { to = 0; number = 0 }) here c.loop-follower-test.true)
    (λ e. let test = c.if-follower-to.true in let n = here.to in let m = c.args.to in grind (arith, nat_tests)))
    c.loop-follower.invariant.0

pub returns-clause-falls : goal.returns-clause-falls
returns-clause-falls c =
    none_coming c.args.now c.args.to c.args.edge c.args.tables.now.slots.slots c.loop-follower.tables.slots.slots (drop c.loop-follower.follower-index c.args.followers.now)
    (λ number follows. subst (Follows number c.args.to) (beyond c.args.followers.now c.loop-follower.follower-index c.loop-follower-test.false) follows) c.loop-follower.invariant.0
