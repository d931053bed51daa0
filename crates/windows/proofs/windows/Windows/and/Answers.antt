use Rattle.std.proofs.Common.{◌∙◌, sym}
use Rattle.windows.proofs.Both.{merges_left_at, merges_right_at}
use Rattle.windows.proofs.windows.Windows.and.Goals as goal

pub loop-at_left-preserved-then-is_by : goal.loop-at_left-preserved-then-is_by
loop-at_left-preserved-then-is_by c =
    merges_left_at _ _ _ _ _ _ _ c.index-left-at_left.result c.index-right-at_right.result _ c.loop-at_left-test.true c.index-left-at_left.is c.if-at_right-right.true c.index-right-at_right.is
    (sym c.is_by.ensures ∙ c.if-is_by.true) c.loop-at_left.invariant (rw (c.later.ensures, c.earlier.ensures) at c.in_ok-join.ensures)

pub loop-at_left-preserved : goal.loop-at_left-preserved
loop-at_left-preserved c =
    merges_right_at _ _ _ _ _ _ _ c.index-left-at_left.result c.index-right-at_right.result _ c.loop-at_left-test.true c.index-left-at_left.is c.if-at_right-right.true c.index-right-at_right.is
    (sym c.is_by.ensures ∙ c.if-is_by.false) c.loop-at_left.invariant (rw (c.later.ensures, c.earlier.ensures) at c.in_ok-join.ensures)
