use Rattle.std.proofs.Common.{◌≡◌, ◌++◌, drop}
use Rattle.model_check.specs.ModelMeaning.{names_of}
use Rattle.model_check.proofs.items.names.Given as goal

abbrev pub invariant-loop-name : goal.invariant-loop-name
invariant-loop-name l = l.names ++ names_of (drop l.name-index l.written) ≡ names_of l.written
