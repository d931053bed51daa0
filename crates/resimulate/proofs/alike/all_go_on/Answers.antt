use Rattle.std.proofs.Common.{arith}
use Rattle.resimulate.specs.Likeness.{GoesOnAt}
use Rattle.resimulate.proofs.Likenesses.{each_next, all_go}
use Rattle.resimulate.proofs.alike.all_go_on.Goals as goal

pub loop-at-init : goal.loop-at-init
loop-at-init c = λ k less. absurd (omega (arith, less))

pub loop-at-preserved : goal.loop-at-preserved
loop-at-preserved c =
    each_next c.loop-at.at (GoesOnAt c.args.before.now.entries c.args.traces.now.entries c.args.others.now.entries) c.loop-at.invariant (c.goes_on_at.ensures c.if-not-goes_on_at.false)

pub returns : goal.returns
returns c = λ yes.
    all_go c.args.before.now.entries c.args.traces.now.entries c.args.others.now.entries c.loop-at.at (let past = c.loop-at-test.false in let many = c.len-at-end.ensures in omega (arith, past, many))
    c.loop-at.invariant
