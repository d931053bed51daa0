use Rattle.std.proofs.Common.{arith}
use Rattle.std.proofs.lemmas.List.{at_drop_all}
use Rattle.session_run.specs.summary.Summaries.{placed_count}
use Rattle.session_run.proofs.summary.counting.placed_count.Goals as goal

pub returns : goal.returns
returns c =
    let none = at_drop_all placed_count c.args.goals.now c.loop-goal.goal-index c.loop-goal-test.false in
    omega (arith, none, c.loop-goal.invariant.whole, c.loop-goal.invariant.fits)
