-- None of the starts so far is beside the anchor.
use Rattle.std.proofs.Common.{◌≡◌, drop}
use Rattle.goals.specs.Gaps.{has_start as has_start_by}
use Rattle.goals.proofs.gaps.has_start.Given as goal

abbrev pub invariant-loop-start : goal.invariant-loop-start
invariant-loop-start l = has_start_by l.range.from l.range.to (drop l.start-index l.starts) l.anchor ≡ has_start_by l.range.from l.range.to l.starts l.anchor
