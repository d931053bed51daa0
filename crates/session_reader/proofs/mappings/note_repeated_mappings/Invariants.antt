use Rattle.std.proofs.Common.{◌≡◌, [], take, drop}
use Rattle.session_reader.specs.Diagnostics.{noted}
use Rattle.session_reader.specs.MappingDiagnostics.{repeated_mappings}
use Rattle.session_reader.proofs.mappings.note_repeated_mappings.Given as goal

abbrev pub invariant-loop-number : goal.invariant-loop-number
invariant-loop-number l =
    noted l.found (repeated_mappings (take l.number l.mappings) (drop l.number l.mappings)) ≡ noted l.initial.found (repeated_mappings [] l.mappings)
