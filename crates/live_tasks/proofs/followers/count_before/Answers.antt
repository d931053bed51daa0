use Rattle.std.proofs.Common.{rules, nat_lt, arith}
use Rattle.std.proofs.lemmas.Bool.Decides.{nat_tests}
use Rattle.std.proofs.lemmas.List.Sorted.{IsPartitionPoint-from_clause, IsPartitionedBy-ltb}
use Rattle.live_tasks.specs.declared.followers.Follower.{Follower}
use Rattle.live_tasks.proofs.followers.count_before.Goals as goal

pub returns-clause-before : goal.returns-clause-before
returns-clause-before c =
    let point = IsPartitionPoint-from_clause (λ (f : Follower). nat_lt f.to c.args.to) c.args.followers.now c.partition_point.result c.partition_point.ensures.partitioned
    (IsPartitionedBy-ltb (λ (f : Follower). f.to) c.args.followers.now c.args.to c.requires) (λ a r q k. search rules) in
    λ k d low high. let e = point.0 k d low high in grind (arith, nat_tests)

pub returns-clause-from : goal.returns-clause-from
returns-clause-from c =
    let point = IsPartitionPoint-from_clause (λ (f : Follower). nat_lt f.to c.args.to) c.args.followers.now c.partition_point.result c.partition_point.ensures.partitioned
    (IsPartitionedBy-ltb (λ (f : Follower). f.to) c.args.followers.now c.args.to c.requires) (λ a r q k. search rules) in
    λ k d low high. let e = point.1 k d low high in grind (arith, nat_tests)
