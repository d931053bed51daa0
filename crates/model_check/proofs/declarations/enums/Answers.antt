use Rattle.std.proofs.Common.{refl}
use Rattle.model_check.specs.ModelSymbols.{with_enum_symbol, enum_symbols_from}
use Rattle.diagnostics.specs.Iterations.{state_iteration}
use Rattle.model_check.proofs.declarations.enums.Goals as goal

pub loop-item-preserved : goal.loop-item-preserved
loop-item-preserved c =
    state_iteration with_enum_symbol enum_symbols_from (λ s x rest. refl)
    c.args.items.now c.loop-item.item-index c.item-item.result c.loop-item-test.true c.item-item.is
    c.loop-item.table _ _ c.in_ok-add_enum.ensures c.loop-item.invariant
