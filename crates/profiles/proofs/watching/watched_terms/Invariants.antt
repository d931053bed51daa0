use Rattle.std.proofs.Common.{◌≡◌, take}
use Rattle.effect_cells.specs.Cells.{initial}
use Rattle.profiles.specs.Watching.{watched_on}
use Rattle.profiles.proofs.watching.watched_terms.Given as goal

-- the cells of the terms before this one are watched
abbrev pub invariant-loop-term : goal.invariant-loop-term
invariant-loop-term l = l.watched.items ≡ watched_on (initial l.model) (take l.term-index l.terms)
