use Rattle.std.proofs.Common.{◌≡◌, drop}
use Rattle.diagnostics.specs.Diagnostics.{all_of}
use Rattle.session_reader.specs.Diagnostics.{noted}
use Rattle.session_reader.specs.MappingDiagnostics.{mapping_diagnostics}
use Rattle.session_reader.proofs.mappings.note_each_mapping.Given as goal

abbrev pub invariant-loop-mapping : goal.invariant-loop-mapping
invariant-loop-mapping l =
    noted l.found (all_of (mapping_diagnostics l.models) (drop l.mapping-index l.mappings)) ≡ noted l.initial.found (all_of (mapping_diagnostics l.models) l.mappings)
