-- Those before go elsewhere.
use Rattle.std.proofs.Common.{◌≡◌, drop}
use Rattle.hangar_core.specs.Changing.{mapping_to}
use Rattle.hangar_core.proofs.changes.mapping_to.Given as goal

abbrev pub invariant-loop-place : goal.invariant-loop-place
invariant-loop-place l = mapping_to l.models l.mappings l.from l.name ≡ mapping_to l.models (drop l.place l.mappings) l.from l.name
