use Rattle.std.proofs.Common.{◌∙◌, sym, arith}
use Rattle.windows.proofs.Either.{unites_left_at, unites_right_at}
use Rattle.windows.proofs.windows.Windows.or.Goals as goal

pub merge-preserved-then-stands_first : goal.merge-preserved-then-stands_first
merge-preserved-then-stands_first c =
    let within = c.stands_first.ensures.within c.if-stands_first.true in
    record {
      unites = unites_left_at _ c.merge.at_left c.merge.at_right _ _ c.intervals-left.result.now c.intervals-right.result.now c.index-left-at_left.result _ within c.index-left-at_left.is (sym c.stands_first.ensures.value ∙ c.if-stands_first.true) c.merge.invariant.unites c.in_ok-join.ensures;
      on_left = omega arith;
      on_right = c.merge.invariant.on_right;
    }

pub merge-preserved : goal.merge-preserved
merge-preserved c = record {
  unites = unites_right_at _ c.merge.at_left c.merge.at_right _ _ c.intervals-left.result.now c.intervals-right.result.now c.index-right-at_right.result _ c.if-at_right-right.true c.index-right-at_right.is (sym c.stands_first.ensures.value ∙ c.if-stands_first.false) c.merge.invariant.unites c.in_ok-join-2.ensures;
  on_left = c.merge.invariant.on_left;
  on_right = omega arith;
}
