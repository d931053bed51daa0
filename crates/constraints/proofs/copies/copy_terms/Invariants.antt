use Rattle.std.proofs.Common.{◌≡◌, take}
use Rattle.constraints.proofs.copies.copy_terms.Given as goal

-- the terms so far
abbrev pub invariant-loop-term : goal.invariant-loop-term
invariant-loop-term l = l.copies ≡ take l.term-index l.terms
