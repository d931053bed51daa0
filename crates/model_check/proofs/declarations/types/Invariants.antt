use Rattle.std.proofs.Common.{◌≡◌, drop}
use Rattle.model_check.specs.ModelSymbols.{type_symbols_from}
use Rattle.model_check.specs.NameTables.{no_entries}
use Rattle.model_check.proofs.declarations.types.Given as goal

abbrev pub invariant-loop-item : goal.invariant-loop-item
invariant-loop-item l = type_symbols_from l.enums l.table (drop l.item-index l.items) ≡ type_symbols_from l.enums no_entries l.items
