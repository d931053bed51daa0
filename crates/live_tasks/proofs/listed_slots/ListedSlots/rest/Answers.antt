use Rattle.std.proofs.Common.{◌∙◌}
use Rattle.std.specs.BinaryHeap.{heap_items}
use Rattle.live_tasks.proofs.KeepsWaits.{keeps_then}
use Rattle.live_tasks.proofs.ListedDelays.{rests_more, none_before_less, all_rested}
use Rattle.live_tasks.proofs.Settling.{next_none}
use Rattle.live_tasks.proofs.listed_slots.ListedSlots.rest.Goals as goal

pub loop-number-preserved : goal.loop-number-preserved
loop-number-preserved c = (
  rests_more c.args.now c.in-Some.number c.args.self.now.slots.slots c.loop-number.self.slots.slots c.resume.new.self.slots.slots c.loop-number.invariant.0 c.in_ok-resume.ensures.is,
  c.resume.ensures.length ∙ c.loop-number.invariant.1,
  none_before_less c.args.now c.in-Some.number (heap_items c.loop-number.self.delays) (heap_items c.resume.new.self.delays) c.loop-number.invariant.2 c.resume.ensures.less,
  c.in_ok-resume.ensures.listed,
  keeps_then c.args.self.now c.loop-number.self c.resume.new.self c.loop-number.invariant.4 c.in_ok-resume.ensures.waits,
)

pub returns-clause-are : goal.returns-clause-are
returns-clause-are c =
    all_rested c.args.now _ _ (heap_items c.loop-number.self.delays) c.loop-number.invariant.0 c.loop-number.invariant.3.all.delays_
    (c.first_due.ensures.none (next_none c.first_due.result c.in_default.not-Some) c.loop-number.invariant.2)
