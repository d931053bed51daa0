use Rattle.std.proofs.Common.{refl}
use Rattle.model_check.specs.Expressions.{expr_diagnostics}
use Rattle.model_check.specs.Invokes.{NamedArgument, values_diagnostics}
use Rattle.model_check.specs.Diagnostics.{number_of_cause}
use Rattle.diagnostics.specs.Iterations.{judged_iteration}
use Rattle.model_check.proofs.invokes.note_values.Goals as goal

pub loop-argument-preserved : goal.loop-argument-preserved
loop-argument-preserved c =
    let symbols = c.args.symbols.now in
    let scope = c.args.scope.now in
    judged_iteration {S = Unit {0}} number_of_cause (λ s x. s) (λ s (x : NamedArgument). expr_diagnostics symbols scope x.1) (λ s xs. values_diagnostics symbols scope xs) (λ s x rest. refl)
    c.args.arguments.now c.loop-argument.argument-index c.argument-item.result c.loop-argument-test.true c.argument-item.is
    tt tt refl c.loop-argument.found c.expression.new.found _ c.in_ok-_made.ensures.1 c.loop-argument.invariant
