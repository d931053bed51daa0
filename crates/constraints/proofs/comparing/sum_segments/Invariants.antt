use Rattle.std.proofs.Common.{◌≤◌, length, take}
use Rattle.constraints.specs.SumPieces.{SumTo}
use Rattle.constraints.proofs.comparing.sum_segments.Given as goal

-- the terms so far were added
abbrev pub invariant-loop-term : goal.invariant-loop-term
invariant-loop-term l =
    (l.term-index ≤ length l.terms)
    × SumTo l.sources.model.now l.sources.run.now (take l.term-index l.terms) l.sum.constant l.term-index l.made
