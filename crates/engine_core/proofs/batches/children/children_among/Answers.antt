-- An item more is counted.
use Rattle.std.proofs.Common.{arith}
use Rattle.std.proofs.lemmas.List.{at_drop_all}
use Rattle.engine_core.specs.BatchTrees.{children_among}
use Rattle.engine_core.proofs.GatheredFrames.{one_counted}
use Rattle.engine_core.proofs.batches.children.children_among.Goals as goal

pub overflow_add-count : goal.overflow_add-count
overflow_add-count c = omega (arith, c.loop-item.invariant.few, c.loop-item-test.true, c.children_in-count.ensures.few, c.requires)

pub loop-item-preserved : goal.loop-item-preserved
loop-item-preserved c = record {
  whole = one_counted c.args.items.now c.loop-item.item-index c.loop-item.count c.children_in-count.result c.item-item.result c.loop-item-test.true c.item-item.is c.children_in-count.ensures.value c.loop-item.invariant.whole;
  few = omega (arith, c.loop-item.invariant.few, c.children_in-count.ensures.few);
}

pub returns-clause-value : goal.returns-clause-value
returns-clause-value c =
    let none = at_drop_all children_among c.args.items.now c.loop-item.item-index c.loop-item-test.false in
    omega (arith, none, c.loop-item.invariant.whole)
