use Rattle.std.proofs.Common.{drop}
use Rattle.windows.proofs.Left.{Passes}
use Rattle.windows.proofs.windows.Windows.not.Given as goal

-- so much was passed, and the gaps up to there were put in
abbrev pub invariant-loop-interval : goal.invariant-loop-interval
invariant-loop-interval l = Passes l.self.reach l.from l.intervals (drop l.interval-index l.interval-items) l.interval-items
