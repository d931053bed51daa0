use Rattle.std.proofs.Common.{arith}
use Rattle.resimulate.specs.Likeness.{NotOpenAt}
use Rattle.resimulate.proofs.Likenesses.{each_next, open_all}
use Rattle.resimulate.proofs.alike.is_open_among.Goals as goal

pub loop-at-init : goal.loop-at-init
loop-at-init c = λ k less. absurd (omega (arith, less))

pub loop-at-preserved : goal.loop-at-preserved
loop-at-preserved c =
    each_next c.loop-at.at (λ k. NotOpenAt c.args.traces.now.entries k c.args.roots.now.keys) c.loop-at.invariant (c.is_open_at.ensures c.if-is_open_at.false)

pub returns : goal.returns
returns c = λ none.
    open_all c.args.traces.now.entries c.args.roots.now.keys c.loop-at.at (let past = c.loop-at-test.false in let many = c.len-at-end.ensures in omega (arith, past, many)) c.loop-at.invariant
