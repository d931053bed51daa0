use Rattle.std.proofs.Common.{drop}
use Rattle.windows.specs.Times.{long_contains}
use Rattle.windows.proofs.Long.{Keeps}
use Rattle.windows.proofs.windows.Windows.longer_than.Given as goal

-- what was passed and is long is put in
abbrev pub invariant-loop-interval : goal.invariant-loop-interval
invariant-loop-interval l = Keeps l.self.reach l.least l.intervals (drop l.interval-index l.interval-items) (λ t. long_contains l.least l.interval-items t)
