use Rattle.std.proofs.Common.{ℕ, rules, subst, ◌∙◌}
use Rattle.std.specs.List.Sorted.{IsBinarySearchResult}
use Rattle.std.specs.Ordering.{nat_cmp}
use Rattle.std.proofs.lemmas.List.Sorted.{answers_always}
use Rattle.goals.proofs.Rising.{found_by_search}
use Rattle.goals.proofs.Spreading.{micros_kept}
use Rattle.goals.proofs.candidate_times.is_start.Goals as goal

pub returns : goal.returns
returns c =
    c.is_ok.ensures.value
    ∙ found_by_search c.args.starts.now c.args.time c.binary_search_by_key.result
    (subst (λ (n : ℕ). IsBinarySearchResult (λ y. nat_cmp y n) c.args.starts.now c.binary_search_by_key.result)
    (c.unsigned_abs-time.ensures.value ∙ micros_kept c.args.time c.get.result c.get.ensures.value c.get.ensures.range)
    (c.binary_search_by_key.ensures.position (λ (time : ℕ). time) (answers_always _ _ _ (λ f a r q k. search rules))))
    c.requires
