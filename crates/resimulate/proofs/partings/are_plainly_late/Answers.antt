use Rattle.std.proofs.Common.{arith}
use Rattle.resimulate.specs.Partings.{IsFreeAndLate}
use Rattle.resimulate.proofs.SharedInstants.{each_more, each_whole}
use Rattle.resimulate.proofs.partings.are_plainly_late.Goals as goal

pub loop-directive-preserved : goal.loop-directive-preserved
loop-directive-preserved c =
    each_more (IsFreeAndLate c.args.parting.now.first c.args.parting.now.past c.args.parting.now.until) c.loop-directive.directive-index c.args.directives.now c.directive-item.result c.loop-directive-test.true
    c.directive-item.is c.loop-directive.invariant (c.is_plainly_late.ensures c.if-not-is_plainly_late.false)

pub returns : goal.returns
returns c = λ yes.
    each_whole (IsFreeAndLate c.args.parting.now.first c.args.parting.now.past c.args.parting.now.until) c.loop-directive.directive-index c.args.directives.now
    (let past = c.loop-directive-test.false in omega (arith, past)) c.loop-directive.invariant
