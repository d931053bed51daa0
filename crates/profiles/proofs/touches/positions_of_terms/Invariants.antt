use Rattle.std.proofs.Common.{◌≡◌, [], drop}
use Rattle.profiles.specs.Touches.{positions_from}
use Rattle.profiles.proofs.touches.positions_of_terms.Given as goal

-- with those of the terms that are left
abbrev pub invariant-loop-term : goal.invariant-loop-term
invariant-loop-term l = positions_from l.all.items l.by_cell (drop l.term-index l.terms) ≡ positions_from [] l.by_cell l.terms
