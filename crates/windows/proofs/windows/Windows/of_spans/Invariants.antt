use Rattle.std.proofs.Common.{drop}
use Rattle.windows.specs.Times.{contains}
use Rattle.windows.proofs.Spans.{Covers}
use Rattle.windows.proofs.windows.Windows.of_spans.Given as goal

-- what was passed is put in
abbrev pub invariant-loop-span : goal.invariant-loop-span
invariant-loop-span l = Covers l.reach l.intervals (drop l.span-index l.span-items) (λ t. contains l.span-items t)
