-- What the tokens that are left say is what is looked for.
use Rattle.std.proofs.Common.{◌≡◌, drop}
use Rattle.aerie_text.specs.declared.sorts.Sort.TheVariants as sort
use Rattle.explain.specs.TypeCauses.{behind_declared}
use Rattle.explain.proofs.types.behind_declared.Given as goal

abbrev pub invariant-loop-i : goal.invariant-loop-i
invariant-loop-i l =
    behind_declared l.bytes l.name l.before (drop l.i l.tokens) ≡ behind_declared l.bytes l.name sort.Arrow l.tokens
