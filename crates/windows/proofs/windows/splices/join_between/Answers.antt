use Rattle.std.proofs.Common.{◌∙◌, List, sym, subst, rules, nat_le}
use Rattle.std.proofs.lemmas.List.Sorted.{IsPartitionPoint-from_clause}
use Rattle.windows.specs.Times.{Interval, InOrder, contains}
use Rattle.windows.specs.Crossing.{JoinsWhere}
use Rattle.windows.proofs.Found.{parted}
use Rattle.windows.proofs.Splices.{between_none, between_more, between_past}
use Rattle.windows.proofs.windows.splices.join_between.Goals as goal

pub loop-at-init : goal.loop-at-init
loop-at-init c =
    let source : List Interval = c.intervals-source.result.now in
    let order : InOrder c.args.set.now.reach 0 source = c.intervals-source.ensures.in_order in
    let point = IsPartitionPoint-from_clause (λ (interval : Interval). nat_le interval.1 c.args.from) _ _ c.partition_point-at.ensures.partitioned (parted c.args.set.now.reach 0 source c.args.from order) (λ a r q k. search rules) in
    between_none c.args.set.now.reach _ _ source c.args.from c.args.to order c.requires.order c.requires.span point

pub loop-at-preserved : goal.loop-at-preserved
loop-at-preserved c =
    between_more c.args.set.now.reach c.loop-at.at _ _ _ c.intervals-source.result.now c.args.from c.args.to c.index-source-at.result c.index-source-at-in-loop-at.result c.loop-at-test.true c.index-source-at-in-loop-at.is
    (sym c.is_by.ensures ∙ c.if-not-is_by.true) c.requires.span c.loop-at.invariant (rw (c.later.ensures, c.earlier.ensures) at c.in_ok-join.ensures)

pub returns-else-not-is_by : goal.returns-else-not-is_by
returns-else-not-is_by c =
    subst (λ (l : List Interval). JoinsWhere c.args.intervals.now c.args.from c.args.to (λ t. contains l t) c.loop-at.intervals) c.intervals-source.ensures.value
    (between_past c.args.set.now.reach c.loop-at.at _ _ c.intervals-source.result.now c.args.from c.args.to c.index-source-at.result c.loop-at-test.true c.index-source-at.is
    (sym c.is_by.ensures ∙ c.if-not-is_by.false) c.loop-at.invariant)
