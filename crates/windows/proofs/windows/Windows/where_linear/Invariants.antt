use Rattle.std.proofs.Common.{drop}
use Rattle.aerie_base.specs.expressions.Arithmetic.{compared}
use Rattle.windows.specs.Linear.{segments_value}
use Rattle.windows.proofs.Profiles.{Follows}
use Rattle.windows.proofs.windows.Windows.where_linear.Given as goal

-- the segments before this one are put in
abbrev pub invariant-loop-at : goal.invariant-loop-at
invariant-loop-at l = Follows l.reach l.how l.with l.intervals (drop l.at l.segments) (λ t. compared l.how (segments_value l.segments t) l.with)
