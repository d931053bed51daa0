use Rattle.std.proofs.Common.{◌≡◌, take, map}
use Rattle.model_reader.specs.declared.raw.names.RawName.{RawName}
use Rattle.goal_check.proofs.goal.meaning.names_of.Given as goal

-- so many were copied as were passed
abbrev pub invariant-loop-name : goal.invariant-loop-name
invariant-loop-name l = l.copies ≡ map (λ (name : RawName). name.name) (take l.name-index l.names)
