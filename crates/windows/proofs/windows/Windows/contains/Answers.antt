-- All intervals before the place that was found have ended, and none from there on.
use Rattle.std.proofs.Common.{◌∙◌, List, ap, rules, nat_le}
use Rattle.std.proofs.lemmas.List.Sorted.{IsPartitionPoint-from_clause}
use Rattle.windows.specs.Times.{Interval, TimeSet, InOrder, contains}
use Rattle.windows.proofs.Found.{parted, found, found_past}
use Rattle.windows.proofs.windows.Windows.contains.Goals as goal

pub returns-in-Some : goal.returns-in-Some
returns-in-Some c =
    let intervals : List Interval = c.as_slice-intervals.result.now in
    let order : InOrder c.self.inside.reach 0 intervals = rw c.as_slice-intervals.ensures c.self.invariant in
    let point = IsPartitionPoint-from_clause (λ (interval : Interval). nat_le interval.1 c.args.t) _ _ c.partition_point-ended.ensures.partitioned (parted c.self.inside.reach 0 intervals c.args.t order) (λ a r q k. search rules) in
    let lookup = c.in-Some.ensures.lookup in
    c.is_by.ensures
    ∙ (found c.self.inside.reach intervals _ c.args.t c.in-Some.interval.now order point lookup.3.0 (lookup.3.1 c.in-Some.interval.now)
    ∙ ap (λ (l : List Interval). contains l c.args.t) (c.as_slice-intervals.ensures ∙ ap (λ (w : TimeSet). w.intervals) c.self.view_is))

pub returns-in-None : goal.returns-in-None
returns-in-None c =
    let intervals : List Interval = c.as_slice-intervals.result.now in
    let order : InOrder c.self.inside.reach 0 intervals = rw c.as_slice-intervals.ensures c.self.invariant in
    let point = IsPartitionPoint-from_clause (λ (interval : Interval). nat_le interval.1 c.args.t) _ _ c.partition_point-ended.ensures.partitioned (parted c.self.inside.reach 0 intervals c.args.t order) (λ a r q k. search rules) in
    found_past intervals _ c.args.t point c.in-None.ensures.lookup.3
    ∙ ap (λ (l : List Interval). contains l c.args.t) (c.as_slice-intervals.ensures ∙ ap (λ (w : TimeSet). w.intervals) c.self.view_is)
