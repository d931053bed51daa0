use Rattle.std.proofs.Common.{◌≡◌, ◌++◌, drop}
use Rattle.engine_core.specs.TouchedStates.{states_at}
use Rattle.engine_core.proofs.history.states_at.Given as goal

-- the states so far and those of the numbers that are left are those of all numbers
abbrev pub invariant-loop-number : goal.invariant-loop-number
invariant-loop-number l = l.states ++ states_at l.cells (drop l.number-index l.numbers) ≡ states_at l.cells l.numbers
