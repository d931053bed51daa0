use Rattle.std.proofs.Common.{◌≡◌, drop}
use Rattle.model_check.specs.CheckedParts.{no_parts, with_checked_items}
use Rattle.model_check.specs.Diagnostics.{noted}
use Rattle.model_check.specs.ModelDiagnostics.{items_diagnostics}
use Rattle.model_check.proofs.parts.items.Given as goal

abbrev pub invariant-loop-item : goal.invariant-loop-item
invariant-loop-item l =
    (with_checked_items l.symbols l.parts (drop l.item-index l.items) ≡ with_checked_items l.symbols no_parts l.items)
    × (noted l.found (items_diagnostics l.symbols (drop l.item-index l.items)) ≡ noted l.initial.found (items_diagnostics l.symbols l.items))
