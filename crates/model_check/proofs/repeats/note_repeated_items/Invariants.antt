use Rattle.std.proofs.Common.{◌≡◌, [], drop}
use Rattle.model_check.specs.Diagnostics.{noted}
use Rattle.model_check.specs.ModelDiagnostics.{repeated_diagnostics, names_in}
use Rattle.model_check.specs.NameGroups.{group_name}
use Rattle.model_check.proofs.repeats.note_repeated_items.Given as goal

abbrev pub invariant-loop-item : goal.invariant-loop-item
invariant-loop-item l =
    noted l.found (repeated_diagnostics l.earlier (names_in (group_name l.group) (drop l.item-index l.items)))
    ≡ noted l.initial.found (repeated_diagnostics [] (names_in (group_name l.group) l.items))
