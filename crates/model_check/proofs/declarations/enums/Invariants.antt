use Rattle.std.proofs.Common.{◌≡◌, drop}
use Rattle.model_check.specs.ModelSymbols.{enum_symbols_from}
use Rattle.model_check.specs.NameTables.{no_entries}
use Rattle.model_check.proofs.declarations.enums.Given as goal

abbrev pub invariant-loop-item : goal.invariant-loop-item
invariant-loop-item l = enum_symbols_from l.table (drop l.item-index l.items) ≡ enum_symbols_from no_entries l.items
