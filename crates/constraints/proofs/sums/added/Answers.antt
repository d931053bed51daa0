use Rattle.std.specs.Int.{w64}
use Rattle.std.proofs.lemmas.Int.{to_z-of_z}
use Rattle.constraints.proofs.Merging.{added_made, start_sum, rate_handed_small, product_handed_small}
use Rattle.constraints.proofs.sums.added.Goals as goal

pub value_at-here-requires-clause-value : goal.value_at-here-requires-clause-value
value_at-here-requires-clause-value c = start_sum c.args.sum.now c.args.from c.args.end c.requires.sum_is c.requires.some_time

pub value_at-there-requires-clause-value : goal.value_at-there-requires-clause-value
value_at-there-requires-clause-value c = start_sum c.args.more.now c.args.from c.args.end c.requires.more_is c.requires.some_time

pub sum_with-rate-requires-clause-number : goal.sum_with-rate-requires-clause-number
sum_with-rate-requires-clause-number c =
    rate_handed_small c.rate_if-rate_here.result _ c.args.sum.now c.args.from c.args.end c.rate_if-rate_here.ensures c.is_longer-counts.ensures c.requires.sum_is

pub sum_with-rate-requires-clause-product : goal.sum_with-rate-requires-clause-product
sum_with-rate-requires-clause-product c =
    product_handed_small _ c.args.coefficient c.rate_if-rate_there.result _ c.args.more.now c.args.from c.args.end (to_z-of_z w64 c.args.coefficient c.ranges.coefficient)
    c.rate_if-rate_there.ensures c.is_longer-counts.ensures c.requires.more_is c.requires.products

pub returns : goal.returns
returns c =
    added_made c.args.sum.now c.args.more.now c.args.coefficient c.args.from c.args.end c.is_longer-counts.result c.value_at-here.result c.value_at-there.result c.sum_with-value.result
    c.rate_if-rate_here.result c.rate_if-rate_there.result c.sum_with-rate.result (to_z-of_z w64 c.args.coefficient c.ranges.coefficient) c.requires c.value_at-here.ensures c.value_at-there.ensures
    c.sum_with-value.ensures c.is_longer-counts.ensures c.rate_if-rate_here.ensures c.rate_if-rate_there.ensures c.sum_with-rate.ensures
