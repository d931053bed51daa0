-- What the tokens that are left say is what is looked for.
use Rattle.std.proofs.Common.{◌≡◌, drop, None}
use Rattle.explain.specs.TypeCauses.{is_argument_given}
use Rattle.explain.specs.WordsOfTokens.{or_none}
use Rattle.explain.proofs.types.is_argument_given.Given as goal

abbrev pub invariant-loop-token : goal.invariant-loop-token
invariant-loop-token l =
    is_argument_given l.bytes l.name l.last (drop l.token-index l.tokens) ≡ is_argument_given l.bytes l.name (or_none None) l.tokens
