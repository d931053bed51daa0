use Rattle.std.proofs.Common.{List, subst}
use Rattle.windows.specs.Times.{Interval, InOrder}
use Rattle.constraints.proofs.SpanMargins.{long_kept_near}
use Rattle.constraints.proofs.near_spans.longer.Goals as goal

pub returns-clause-times : goal.returns-clause-times
returns-clause-times c =
    long_kept_near c.args.least c.args.from c.args.to c.args.part.now c.in_ok-made.made
    (subst (λ (l : List Interval). InOrder c.args.part.now.reach 0 l) c.intervals-in_order.ensures.value c.intervals-in_order.ensures.in_order) c.requires.within c.in_ok-made.ensures.reach
    c.in_ok-made.ensures.times
