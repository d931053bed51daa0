use Rattle.std.proofs.Common.{arith}
use Rattle.std.proofs.lemmas.List.{at_drop_all}
use Rattle.session_run.specs.summary.Summaries.{violation_count}
use Rattle.session_run.proofs.summary.counting.violation_count.Goals as goal

pub returns : goal.returns
returns c =
    let none = at_drop_all (violation_count c.args.model.now c.args.run.now) c.args.constraints.now c.loop-constraint.constraint-index c.loop-constraint-test.false in
    omega (arith, none, c.loop-constraint.invariant.whole, c.loop-constraint.invariant.fits)
