use Rattle.std.proofs.Common.{rules}
use Rattle.std.proofs.lemmas.List.Sorted.{IsNonDecreasingBy-from_sort_by_key}
use Rattle.windows.specs.Times.{Interval}
use Rattle.windows.proofs.windows.spans.by_start.Goals as goal

pub returns-clause-sorted : goal.returns-clause-sorted
returns-clause-sorted c = IsNonDecreasingBy-from_sort_by_key (λ (span : Interval). span.0) _ c.in_ok-sort_by_key.ensures.sorted (λ a r q k. search rules)
