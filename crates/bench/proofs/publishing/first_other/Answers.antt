use Rattle.std.proofs.Common.{arith}
use Rattle.bench.proofs.OwnIndexes.{none_passed, one_passed, same_passed}
use Rattle.bench.proofs.publishing.first_other.Goals as goal
use Rattle.bench.proofs.publishing.first_other.Goals.{then-index-next, else-index-next}

pub loop-index-init : goal.loop-index-init
loop-index-init c = record { onward = omega arith; own = none_passed c.args.own.now c.args.from }

pub loop-index-preserved : goal.loop-index-preserved
loop-index-preserved c = elim c.if-index-next.branch [
  | then-index-next w ↦ record {
    onward = omega (arith, c.loop-index.invariant.onward, w.next-is, w.saturating_add-next.ensures, c.ranges.from);
    own =
        one_passed c.args.own.now c.args.from c.loop-index.next c.loop-index.index-index c.if-index-next.next c.loop-index.invariant.own c.loop-index-test.true
        w.if-index-next.true (omega (arith, w.next-is, w.saturating_add-next.ensures));
  }
  | else-index-next w ↦ record {
    onward = omega (arith, c.loop-index.invariant.onward, w.next-is);
    own = same_passed c.args.own.now c.args.from c.loop-index.next c.if-index-next.next c.loop-index.invariant.own w.next-is;
  }
]
