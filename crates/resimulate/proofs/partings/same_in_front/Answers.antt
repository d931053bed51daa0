use Rattle.std.proofs.Common.{arith}
use Rattle.resimulate.proofs.CommonDirectives.{front_more}
use Rattle.resimulate.proofs.partings.same_in_front.Goals as goal

pub loop-at-preserved : goal.loop-at-preserved
loop-at-preserved c =
    let test = c.loop-at-test.true in
    let one = c.lesser-most.ensures.one in
    let other = c.lesser-most.ensures.other in
    front_more c.args.directives.now c.args.others.now c.loop-at.at c.index-directives-at.result c.index-others-at.result (omega (arith, test, one)) (omega (arith, test, other)) c.index-directives-at.is
    c.index-others-at.is (c.is_same.ensures.0 c.if-not-is_same.false) c.loop-at.invariant
