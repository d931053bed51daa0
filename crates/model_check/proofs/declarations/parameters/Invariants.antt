use Rattle.std.proofs.Common.{◌≡◌, drop}
use Rattle.model_check.specs.ModelSymbols.{parameters_from}
use Rattle.model_check.specs.NameTables.{no_entries}
use Rattle.model_check.proofs.declarations.parameters.Given as goal

abbrev pub invariant-loop-parameter : goal.invariant-loop-parameter
invariant-loop-parameter l = parameters_from l.enums l.table (drop l.parameter-index l.written) ≡ parameters_from l.enums no_entries l.written
