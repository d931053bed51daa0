use Rattle.std.proofs.Common.{refl}
use Rattle.model_reader.specs.declared.raw.items.RawParameter.{RawParameter}
use Rattle.model_check.specs.CheckedParameters.{parameter_of, with_parameter}
use Rattle.model_check.specs.ModelDiagnostics.{parameter_diagnostics, parameter_scope, parameters_diagnostics}
use Rattle.model_check.specs.ModelMeaning.{model_parameters}
use Rattle.model_check.specs.Diagnostics.{number_of_cause}
use Rattle.diagnostics.specs.Iterations.{state_iteration, judged_iteration, made_iteration}
use Rattle.model_check.proofs.activities.parameters.Goals as goal

pub loop-raw-preserved : goal.loop-raw-preserved
loop-raw-preserved c =
    let symbols = c.args.symbols.now in (
      state_iteration (with_parameter symbols) (parameter_scope symbols) (λ s x rest. refl)
          c.args.written.now c.loop-raw.raw-index c.raw-item.result c.loop-raw-test.true c.raw-item.is
          _ _ _ c.in_ok-parameter.ensures.1 c.loop-raw.invariant.0,
      made_iteration (with_parameter symbols) (λ s (x : RawParameter). parameter_of symbols x) (λ s xs. model_parameters symbols xs) (λ s x rest. refl)
          c.args.written.now c.loop-raw.raw-index c.raw-item.result c.loop-raw-test.true c.raw-item.is
          _ _ c.in_ok-parameter.ensures.1 _ _ _ _ c.in_ok-parameter.ensures.0.0 c.in_ok-push.ensures.pushed c.loop-raw.invariant.1,
      judged_iteration number_of_cause (with_parameter symbols) (parameter_diagnostics symbols) (parameters_diagnostics symbols) (λ s x rest. refl)
          c.args.written.now c.loop-raw.raw-index c.raw-item.result c.loop-raw-test.true c.raw-item.is
          _ _ c.in_ok-parameter.ensures.1 _ _ _ c.in_ok-parameter.ensures.0.1 c.loop-raw.invariant.2,
    )
