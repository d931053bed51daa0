use Rattle.std.proofs.Common.{ℕ, rules}
use Rattle.std.proofs.lemmas.List.Sorted.{IsNonDecreasingBy-from_sort_by_key}
use Rattle.goals.proofs.Rising.{rises_from}
use Rattle.goals.proofs.anchors.in_order.Goals as goal

pub returns-clause-rises : goal.returns-clause-rises
returns-clause-rises c = rises_from _ (IsNonDecreasingBy-from_sort_by_key (λ (anchor : ℕ). anchor) _ c.in_ok-sort_by_key.ensures.sorted (λ a r q k. search rules))
