-- What the tokens that are left say is what is looked for.
use Rattle.std.proofs.Common.{◌≡◌, drop, None}
use Rattle.explain.specs.EditCauses.{before_parenthesis}
use Rattle.explain.specs.WordsOfTokens.{or_none}
use Rattle.explain.proofs.edits.called.Given as goal

abbrev pub invariant-loop-token : goal.invariant-loop-token
invariant-loop-token l =
    before_parenthesis l.last (drop l.token-index l.tokens) ≡ before_parenthesis (or_none None) l.tokens
