use Rattle.constraints.proofs.SumTerms.{without_product, without_total, without_values}
use Rattle.constraints.proofs.comparing.difference_of.Goals as goal

pub plus_times-requires-clause-product : goal.plus_times-requires-clause-product
plus_times-requires-clause-product c = without_product c.args.reach c.args.left.now c.args.right.now _ _ c.as_slice-one.ensures c.as_slice-other.ensures c.requires.right

pub plus_times-requires-clause-total : goal.plus_times-requires-clause-total
plus_times-requires-clause-total c = without_total c.args.reach c.args.left.now c.args.right.now _ _ c.as_slice-one.ensures c.as_slice-other.ensures c.requires.left c.requires.right

pub returns-clause-values : goal.returns-clause-values
returns-clause-values c = without_values c.args.reach c.args.left.now c.args.right.now _ _ c.as_slice-one.ensures c.as_slice-other.ensures _ c.in_ok-made.ensures.values
