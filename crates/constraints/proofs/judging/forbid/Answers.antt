use Rattle.constraints.specs.SpansByStart.{in_order}
use Rattle.constraints.proofs.Forbidding.{met_set}
use Rattle.constraints.proofs.SpanOrder.{one_each_own}
use Rattle.constraints.proofs.judging.forbid.Goals as goal

pub meetings-requires-clause-order : goal.meetings-requires-clause-order
meetings-requires-clause-order c = in_order c.args.model.now c.args.run.now c.args.spans.now c.requires.spans.exact

pub meetings-requires-clause-paths : goal.meetings-requires-clause-paths
meetings-requires-clause-paths c = one_each_own _ c.args.spans.now c.requires.spans.one_each

pub returns : goal.returns
returns c =
    met_set c.args.model.now c.args.run.now c.args.one c.args.other c.args.spans.now c.in_ok-times.times _ c.requires.spans.exact c.in_ok-times.ensures.reach c.in_ok-times.ensures.times c.in_ok-found.ensures
