use Rattle.std.proofs.Common.{refl}
use Rattle.model_check.specs.GivenArguments.{given_with, given_with_all, argument_found, arguments_found}
use Rattle.model_check.specs.Diagnostics.{number_of_cause}
use Rattle.diagnostics.specs.Iterations.{state_iteration, judged_iteration}
use Rattle.model_check.proofs.invokes.each_argument.Goals as goal

pub loop-raw-preserved : goal.loop-raw-preserved
loop-raw-preserved c =
    let symbols = c.args.symbols.now in
    let scope = c.args.scope.now in
    let parameters = c.args.parameters.now in (
      state_iteration (given_with symbols scope parameters) (given_with_all symbols scope parameters) (λ s x rest. refl)
          c.args.arguments.now c.loop-raw.raw-index c.raw-item.result c.loop-raw-test.true c.raw-item.is
          c.loop-raw.given.items c.argument.new.given.items _ c.in_ok-argument.ensures.0 c.loop-raw.invariant.0,
      judged_iteration number_of_cause (given_with symbols scope parameters) (argument_found symbols scope parameters) (arguments_found symbols scope parameters) (λ s x rest. refl)
          c.args.arguments.now c.loop-raw.raw-index c.raw-item.result c.loop-raw-test.true c.raw-item.is
          c.loop-raw.given.items c.argument.new.given.items c.in_ok-argument.ensures.0 _ _ _ c.in_ok-argument.ensures.1 c.loop-raw.invariant.1,
    )
