use Rattle.std.proofs.Common.{refl, ◌∙◌}
use Rattle.model_reader.specs.declared.raw.items.RawParameter.{RawParameter}
use Rattle.model_check.specs.NameTables.{with_entry}
use Rattle.model_check.specs.ModelSymbols.{parameter_symbol, parameters_from}
use Rattle.diagnostics.specs.Iterations.{state_iteration}
use Rattle.model_check.proofs.declarations.parameters.Goals as goal

pub loop-parameter-preserved : goal.loop-parameter-preserved
loop-parameter-preserved c =
    state_iteration (λ s (x : RawParameter). with_entry s x.name.name (parameter_symbol c.args.enums.now x)) (parameters_from c.args.enums.now) (λ s x rest. refl)
    c.args.written.now c.loop-parameter.parameter-index c.parameter-item.result c.loop-parameter-test.true c.parameter-item.is
    c.loop-parameter.table _ _
    (c.in_ok-add.ensures.0 ∙ (λ j. with_entry c.loop-parameter.table c.parameter-item.result.name.name (record { kind = c.type_kind.ensures j; default = c.default_value.ensures j })))
    c.loop-parameter.invariant
