use Rattle.std.proofs.Common.{◌≡◌, ◌≤◌, ◌*◌, ◌+ℤ◌, unsigned_abs, drop}
use Rattle.aerie_base.specs.conditions.Filling.{local_parts}
use Rattle.task_step.proofs.filling.local_parts.Given as goal

-- the sum so far and what is left to add are the whole, and each term adds no more than a term may
abbrev pub invariant-loop-term : goal.invariant-loop-term
invariant-loop-term l = record {
  whole : l.sum +ℤ local_parts l.locals (drop l.term-index l.terms) ≡ local_parts l.locals l.terms;
  small : unsigned_abs l.sum ≤ 1_000_000_000_000_000_000_000_000 * l.term-index;
}
