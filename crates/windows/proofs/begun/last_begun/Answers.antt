-- One has begun, and the last of these stands directly before the place that was found.
use Rattle.std.proofs.Common.{◌∙◌, ap, nat_le, rules, Some}
use Rattle.std.proofs.lemmas.List.Sorted.{IsPartitionPoint-from_clause}
use Rattle.windows.proofs.LastBegun.{parted, one_has_begun, found_before, has_begun}
use Rattle.windows.proofs.begun.last_begun.Goals as goal

pub overflow_sub-result : goal.overflow_sub-result
overflow_sub-result g c =
    let point = IsPartitionPoint-from_clause (λ entry. nat_le (g.B.Begins.from entry) c.args.t) _ _ c.partition_point-begun.ensures.partitioned (parted g.B.Begins.from c.args.entries.now c.args.t c.requires) (λ a r q k. search rules) in
    one_has_begun g.B.Begins.from c.args.entries.now c.args.t _ c.requires point

pub returns-clause-entry : goal.returns-clause-entry
returns-clause-entry g c =
    let point = IsPartitionPoint-from_clause (λ entry. nat_le (g.B.Begins.from entry) c.args.t) _ _ c.partition_point-begun.ensures.partitioned (parted g.B.Begins.from c.args.entries.now c.args.t c.requires) (λ a r q k. search rules) in
    ap Some c.index-entries-begun.is
    ∙ found_before g.B.Begins.from c.args.entries.now c.args.t c.partition_point-begun.result c.index-entries-begun.result
    (one_has_begun g.B.Begins.from c.args.entries.now c.args.t _ c.requires point) c.partition_point-begun.ensures.bound point

pub returns-clause-begun : goal.returns-clause-begun
returns-clause-begun g c =
    let point = IsPartitionPoint-from_clause (λ entry. nat_le (g.B.Begins.from entry) c.args.t) _ _ c.partition_point-begun.ensures.partitioned (parted g.B.Begins.from c.args.entries.now c.args.t c.requires) (λ a r q k. search rules) in
    rw c.index-entries-begun.is
    (has_begun g.B.Begins.from c.args.entries.now c.args.t c.partition_point-begun.result c.index-entries-begun.result
    (one_has_begun g.B.Begins.from c.args.entries.now c.args.t _ c.requires point) point)
