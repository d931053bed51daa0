-- What the tokens that are left say is what is looked for.
use Rattle.std.proofs.Common.{◌≡◌, drop, None}
use Rattle.explain.specs.TypeCauses.{missing_parameter}
use Rattle.explain.specs.WordsOfTokens.{or_none}
use Rattle.explain.proofs.types.missing_parameter.Given as goal

abbrev pub invariant-loop-token : goal.invariant-loop-token
invariant-loop-token l =
    missing_parameter l.bytes l.call l.pending l.last (drop l.token-index l.parameters)
    ≡ missing_parameter l.bytes l.call None (or_none None) l.parameters
