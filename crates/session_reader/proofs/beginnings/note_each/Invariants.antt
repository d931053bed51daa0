use Rattle.std.proofs.Common.{◌≡◌, drop}
use Rattle.diagnostics.specs.Diagnostics.{all_of}
use Rattle.session_reader.specs.Beginnings.{beginning_diagnostics}
use Rattle.session_reader.specs.Diagnostics.{noted}
use Rattle.session_reader.proofs.beginnings.note_each.Given as goal

abbrev pub invariant-loop-beginning : goal.invariant-loop-beginning
invariant-loop-beginning l =
    noted l.found (all_of (beginning_diagnostics l.model) (drop l.beginning-index l.beginnings)) ≡ noted l.initial.found (all_of (beginning_diagnostics l.model) l.beginnings)
