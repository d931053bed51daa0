-- The tokens so far have their sorts.
use Rattle.std.proofs.Common.{◌≡◌, map, take}
use Rattle.explain.specs.WordsOfTokens.{sorted_token}
use Rattle.explain.proofs.sorted.with_sorts.Given as goal

abbrev pub invariant-loop-token : goal.invariant-loop-token
invariant-loop-token l = l.all.items ≡ map (sorted_token l.text) (take l.token-index l.tokens)
