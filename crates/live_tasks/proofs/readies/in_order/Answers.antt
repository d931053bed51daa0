use Rattle.std.proofs.Common.{◌≡◌, rules}
use Rattle.std.proofs.lemmas.List.Sorted.{answers_always, ranks_by}
use Rattle.std.specs.Cmp.Lexicographic.{nat_list_cmp_total}
use Rattle.std.specs.Ordering.{is_lt}
use Rattle.live_tasks.specs.declared.readies.ReadyTask.{ReadyTask}
use Rattle.live_tasks.specs.Sorting.{precedes}
use Rattle.live_tasks.proofs.readies.in_order.Goals as goal

pub returns-clause-sorted : goal.returns-clause-sorted
returns-clause-sorted c =
    let compares = answers_always _ (λ a r. is_lt r ≡ precedes a.0.now a.1.0.now) _ (λ f a r q k. search rules) in
    c.in_ok-sort_by.ensures.sorted precedes (ranks_by nat_list_cmp_total (λ (one : ReadyTask). one.path)) compares
