use Rattle.windows.proofs.Either.{stands_alone}
use Rattle.windows.proofs.windows.algebra.stands_first.Goals as goal

pub returns-then-at_right-right-clause-value : goal.returns-then-at_right-right-clause-value
returns-then-at_right-right-clause-value c = stands_alone _ _ _ _ c.if-at_left-left.false c.if-at_right-right.true
