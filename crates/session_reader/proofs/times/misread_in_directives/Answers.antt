use Rattle.std.proofs.Common.{sym, ◌∙◌}
use Rattle.session_reader.specs.Times.{misread_directive}
use Rattle.session_reader.proofs.MisreadInstants.{met, passed}
use Rattle.session_reader.proofs.times.misread_in_directives.Goals as goal

pub returns-then-is_some : goal.returns-then-is_some
returns-then-is_some c =
    met misread_directive c.args.directives.now c.loop-directive.directive-index c.directive-item.result c.loop-directive-test.true c.directive-item.is c.loop-directive.invariant
    _ c.misread_when-bad.ensures (sym c.is_some.ensures ∙ c.if-is_some.true)

pub loop-directive-preserved : goal.loop-directive-preserved
loop-directive-preserved c =
    passed misread_directive c.args.directives.now c.loop-directive.directive-index c.directive-item.result c.loop-directive-test.true c.directive-item.is c.loop-directive.invariant
    _ c.misread_when-bad.ensures (sym c.is_some.ensures ∙ c.if-is_some.false)
