use Rattle.std.proofs.Common.{rules, ap}
use Rattle.std.proofs.lemmas.List.Sorted.{IsNonDecreasingBy-from_sort_by_key}
use Rattle.live_tasks.specs.declared.followers.Follower.{Follower}
use Rattle.live_tasks.proofs.PlannedAll.{planned_sorted}
use Rattle.live_tasks.proofs.tasks.LiveTasks.settle_plan.Goals as goal

pub returns-clause-planned : goal.returns-clause-planned
returns-clause-planned c = λ table is.
    planned_sorted table c.args.self.now _ (ap (λ s. s.slots) c.relist.ensures.slots) c.in_ok-sort_by_key.ensures.permutation (c.relist.ensures.listed is.listed).all is

pub returns-clause-by_id : goal.returns-clause-by_id
returns-clause-by_id c = IsNonDecreasingBy-from_sort_by_key (λ (f : Follower). f.to) _ c.in_ok-sort_by_key.ensures.sorted (λ a r q k. search rules)
