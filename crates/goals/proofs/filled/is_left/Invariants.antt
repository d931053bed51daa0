-- None of the anchors so far is the gap.
use Rattle.std.proofs.Common.{◌≡◌, drop}
use Rattle.goals.specs.Goals.{is_left as left_over}
use Rattle.goals.proofs.filled.is_left.Given as goal

abbrev pub invariant-loop-anchor : goal.invariant-loop-anchor
invariant-loop-anchor l = left_over l.range.from l.range.to l.starts (drop l.anchor-index l.anchors) l.gap.at ≡ left_over l.range.from l.range.to l.starts l.anchors l.gap.at
