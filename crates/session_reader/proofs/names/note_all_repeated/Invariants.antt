use Rattle.std.proofs.Common.{◌≡◌, [], map, drop}
use Rattle.session_reader.specs.Diagnostics.{noted}
use Rattle.session_reader.specs.RepeatedNames.{repeated_diagnostics}
use Rattle.session_reader.proofs.names.note_all_repeated.Given as goal

abbrev pub invariant-loop-part : goal.invariant-loop-part
invariant-loop-part g l =
    noted l.found (repeated_diagnostics l.earlier (map g.T.Named.named (drop l.part-index l.parts)))
    ≡ noted l.initial.found (repeated_diagnostics [] (map g.T.Named.named l.parts))
