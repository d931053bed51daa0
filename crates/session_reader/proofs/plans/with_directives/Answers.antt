use Rattle.std.proofs.lemmas.Result.{err_from_is_err_and}
use Rattle.session_reader.proofs.Refusals.{refused_there}
use Rattle.session_reader.proofs.plans.with_directives.Goals as goal

pub returns-in_err-add_directive-clause-made : goal.returns-in_err-add_directive-clause-made
returns-in_err-add_directive-clause-made c =
    let p = err_from_is_err_and c.from_residual.result c.from_residual.ensures.1 in
    rw (p.1, p.2)
    (refused_there c.args.start c.args.model.now c.args.raw.now c.loop-directive.directive-index c.directive-item.result c.loop-directive.plan _ c.in_err-add_directive.field-0.0
    c.loop-directive-test.true c.directive-item.is c.loop-directive.invariant.1 c.loop-directive.invariant.0 c.in_err-add_directive.ensures.refused)
