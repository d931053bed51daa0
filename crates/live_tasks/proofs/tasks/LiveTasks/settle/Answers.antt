use Rattle.std.proofs.Common.{◌∙◌, subst}
use Rattle.live_tasks.specs.Endings.{IsEnding, with_next}
use Rattle.live_tasks.proofs.Settling.{one_ended, next_none}
use Rattle.live_tasks.proofs.KeepsWaits.{keeps_then}
use Rattle.live_tasks.proofs.tasks.LiveTasks.settle.Goals as goal

pub loop-next-preserved : goal.loop-next-preserved
loop-next-preserved c = (
  c.in_ok-next.ensures.stay,
  c.end_one.ensures.followers ∙ c.loop-next.invariant.1,
  λ before. c.in_ok-next.ensures.listed (c.loop-next.invariant.2 before),
  λ frames todo whole is.
      one_ended c.args.now whole frames todo c.loop-next.self.tables.slots.slots c.end_one.new.self.tables.slots.slots c.in-Some.here c.in_ok-next.next c.in_ok-next.ensures.ends
      (subst (λ o. IsEnding c.args.now whole frames (with_next o todo) c.loop-next.self.tables.slots.slots) c.in-Some.is (c.loop-next.invariant.3 frames todo whole is)),
  keeps_then c.args.self.now.tables c.loop-next.self.tables c.end_one.new.self.tables c.loop-next.invariant.4 c.in_ok-next.ensures.waits,
)

pub returns-clause-ends : goal.returns-clause-ends
returns-clause-ends c frames todo whole is =
    subst (λ o. IsEnding c.args.now whole frames (with_next o todo) c.loop-next.self.tables.slots.slots) (next_none c.loop-next.next c.in_default.not-Some) (c.loop-next.invariant.3 frames todo whole is)
