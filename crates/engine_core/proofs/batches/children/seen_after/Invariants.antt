use Rattle.std.proofs.Common.{◌≡◌, drop}
use Rattle.run_data.specs.StepStates.{after_items}
use Rattle.engine_core.specs.BatchViews.{CanEmitAll}
use Rattle.engine_core.proofs.batches.children.seen_after.Given as goal

-- what is left of the effects is emitted on what there is
abbrev pub invariant-loop-item : goal.invariant-loop-item
invariant-loop-item l = record {
  seen : after_items l.cells (drop l.item-index l.items) ≡ after_items l.view l.items;
  can : CanEmitAll l.cells (drop l.item-index l.items);
}
