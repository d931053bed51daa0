-- What the tokens that are left say is what is looked for.
use Rattle.std.proofs.Common.{◌≡◌, drop}
use Rattle.aerie_text.specs.declared.sorts.Sort.TheVariants as sort
use Rattle.explain.specs.NameCauses.{declaring_word}
use Rattle.explain.proofs.names.declared_by.Given as goal

abbrev pub invariant-loop-token : goal.invariant-loop-token
invariant-loop-token l =
    declaring_word l.words l.bytes l.name l.before (drop l.token-index l.tokens) ≡ declaring_word l.words l.bytes l.name sort.Arrow l.tokens
