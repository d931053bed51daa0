use Rattle.std.specs.Ordering.{nat_cmp}
use Rattle.std.specs.BTreeMap.{get as noted_at}
use Rattle.plan_edit.proofs.Positions.{noted_next}
use Rattle.plan_edit.proofs.loading.index_of.Goals as goal

pub loop-position-preserved : goal.loop-position-preserved
loop-position-preserved c = λ other.
    noted_next c.args.all.now c.loop-position.position c.index-all-position.result c.loop-position-test.true c.index-all-position.is other
    (noted_at nat_cmp c.loop-position.index other) (noted_at nat_cmp c.note.new.index other) (c.loop-position.invariant other) (c.in_ok-note.ensures other)
