use Rattle.std.proofs.Common.{refl}
use Rattle.model_reader.specs.declared.raw.names.RawName.{RawName}
use Rattle.diagnostics.specs.NameLists.{with_name}
use Rattle.model_check.specs.ModelSymbols.{with_names}
use Rattle.diagnostics.specs.Iterations.{state_iteration}
use Rattle.model_check.proofs.declarations.different.Goals as goal

pub loop-name-preserved : goal.loop-name-preserved
loop-name-preserved c =
    state_iteration (λ s (x : RawName). with_name s x.name) with_names (λ s x rest. refl)
    c.args.names.now c.loop-name.name-index c.name-item.result c.loop-name-test.true c.name-item.is
    c.loop-name.set _ _ c.in_ok-add.ensures.0 c.loop-name.invariant
