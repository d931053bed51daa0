-- What is found so far, and in the tokens that are left, is what is looked for.
use Rattle.std.proofs.Common.{◌≡◌, drop, None}
use Rattle.aerie_text.specs.declared.sorts.Sort.TheVariants as sort
use Rattle.explain.specs.NameCauses.{last_named}
use Rattle.explain.specs.WordsOfTokens.{or_none}
use Rattle.explain.proofs.names.last_named.Given as goal

abbrev pub invariant-loop-token : goal.invariant-loop-token
invariant-loop-token l =
    last_named l.bytes l.name l.class l.found l.before l.last (drop l.token-index l.tokens)
    ≡ last_named l.bytes l.name l.class None sort.Arrow (or_none None) l.tokens
