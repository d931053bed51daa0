use Rattle.std.proofs.Common.{ap}
use Rattle.windows.specs.Times.{TimeSet, InOrder}
use Rattle.windows.specs.UniqueLaws.{only_one}
use Rattle.windows.proofs.windows.Windows.intervals.Goals as goal

pub returns-clause-unique : goal.returns-clause-unique
returns-clause-unique c = λ intervals are.
    let order : InOrder c.args.self.now.reach 0 c.as_slice.result.now = rw (← ap (λ (w : TimeSet). w.reach) c.self.view_is, c.as_slice.ensures) c.self.invariant in
    only_one c.args.self.now.reach c.as_slice.result.now intervals order are
