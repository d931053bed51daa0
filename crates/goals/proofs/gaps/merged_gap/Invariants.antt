-- The gap among the anchors that are left is that of all.
use Rattle.std.proofs.Common.{◌≡◌, drop}
use Rattle.goals.specs.Merging.{merged_gap}
use Rattle.goals.proofs.gaps.merged_gap.Given as goal

abbrev pub invariant-loop-anchor : goal.invariant-loop-anchor
invariant-loop-anchor l = merged_gap l.range.from l.range.to l.left (drop l.anchor-index l.anchors) ≡ merged_gap l.range.from l.range.to l.starts l.anchors
