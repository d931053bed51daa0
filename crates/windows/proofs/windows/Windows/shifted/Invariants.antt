use Rattle.std.proofs.Common.{drop}
use Rattle.windows.specs.Times.{shifted_contains}
use Rattle.windows.proofs.Shifts.{Shifts}
use Rattle.windows.proofs.windows.Windows.shifted.Given as goal

-- what was passed is put in, moved
abbrev pub invariant-loop-interval : goal.invariant-loop-interval
invariant-loop-interval l =
    Shifts l.self.reach l.start l.end l.intervals (drop l.interval-index l.interval-items) (λ t. shifted_contains l.start l.end l.interval-items t)
