use Rattle.std.proofs.Common.{◌≡◌, take}
use Rattle.session_run.proofs.missions.copy_mappings.Given as goal

abbrev pub invariant-loop-mapping : goal.invariant-loop-mapping
invariant-loop-mapping l = l.copies ≡ take l.mapping-index l.mappings
