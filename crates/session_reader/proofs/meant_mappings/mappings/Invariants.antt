use Rattle.std.proofs.Common.{◌≡◌, ◌++◌, map, drop}
use Rattle.session_reader.specs.MeantMappings.{mapping_meant}
use Rattle.session_reader.proofs.meant_mappings.mappings.Given as goal

abbrev pub invariant-loop-one : goal.invariant-loop-one
invariant-loop-one l = l.made ++ map (mapping_meant l.models) (drop l.one-index l.raw) ≡ map (mapping_meant l.models) l.raw
