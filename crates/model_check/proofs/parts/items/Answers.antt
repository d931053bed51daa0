use Rattle.std.proofs.Common.{refl}
use Rattle.model_reader.specs.declared.raw.items.RawItem.{RawItem}
use Rattle.model_check.specs.CheckedParts.{with_checked_item, with_checked_items}
use Rattle.model_check.specs.ModelDiagnostics.{item_diagnostics, items_diagnostics}
use Rattle.model_check.specs.Diagnostics.{number_of_cause}
use Rattle.diagnostics.specs.Iterations.{state_iteration, judged_iteration}
use Rattle.model_check.proofs.parts.items.Goals as goal

pub loop-item-preserved : goal.loop-item-preserved
loop-item-preserved c =
    let symbols = c.args.symbols.now in (
      state_iteration (with_checked_item symbols) (with_checked_items symbols) (λ s x rest. refl)
          c.args.items.now c.loop-item.item-index c.item-item.result c.loop-item-test.true c.item-item.is
          _ _ _ c.in_ok-add_item.ensures.0 c.loop-item.invariant.0,
      judged_iteration {S = Unit {0}} number_of_cause (λ s x. s) (λ s (x : RawItem). item_diagnostics symbols x) (λ s xs. items_diagnostics symbols xs) (λ s x rest. refl)
          c.args.items.now c.loop-item.item-index c.item-item.result c.loop-item-test.true c.item-item.is
          tt tt refl _ _ _ c.in_ok-add_item.ensures.1 c.loop-item.invariant.1,
    )
