use Rattle.std.proofs.Common.{◌≡◌, ◌++◌, map, drop}
use Rattle.session_reader.specs.MeantMappings.{rule_meant}
use Rattle.session_reader.proofs.meant_mappings.rules.Given as goal

abbrev pub invariant-loop-one : goal.invariant-loop-one
invariant-loop-one l = l.made ++ map (rule_meant l.old l.new) (drop l.one-index l.raw) ≡ map (rule_meant l.old l.new) l.raw
