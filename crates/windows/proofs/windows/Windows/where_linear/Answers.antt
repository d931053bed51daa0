use Rattle.std.specs.Int.{w128}
use Rattle.std.proofs.lemmas.Int.{to_z-of_z}
use Rattle.windows.proofs.Profiles.{follows_none, follows_more, follows_all}
use Rattle.windows.proofs.windows.Windows.where_linear.Goals as goal

pub loop-at-init : goal.loop-at-init
loop-at-init c = rw c.new-intervals.ensures (follows_none c.args.reach c.args.how _ c.args.segments.now c.requires.segments)

pub loop-at-preserved : goal.loop-at-preserved
loop-at-preserved c =
    follows_more c.args.reach c.loop-at.at c.args.how _ _ _ c.args.segments.now c.index-segments-at.result c.end_of-end.result _ c.loop-at-test.true c.index-segments-at.is
    c.end_of-end.ensures c.loop-at.invariant c.in_ok-join_compared.ensures

pub returns-clause-times : goal.returns-clause-times
returns-clause-times c =
    follows_all c.args.reach c.loop-at.at c.args.how _ c.args.with _ c.args.segments.now c.loop-at-test.false (to_z-of_z w128 c.args.with c.ranges.with) c.loop-at.invariant
