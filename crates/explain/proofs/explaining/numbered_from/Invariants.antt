-- What the tokens that are left say is what is looked for.
use Rattle.std.proofs.Common.{◌≡◌, drop}
use Rattle.explain.specs.Explaining.{numbered_from}
use Rattle.explain.proofs.explaining.numbered_from.Given as goal

abbrev pub invariant-loop-token : goal.invariant-loop-token
invariant-loop-token l =
    numbered_from l.sort l.left (drop l.token-index l.tokens) ≡ numbered_from l.sort l.fn.number l.tokens
