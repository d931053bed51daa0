use Rattle.std.proofs.Common.{◌≡◌, drop}
use Rattle.session_reader.specs.Diagnostics.{noted}
use Rattle.session_reader.specs.Sections.{no_sections, sections_by_model, sections_diagnostics}
use Rattle.session_reader.proofs.sections.sections_of.Given as goal

abbrev pub invariant-loop-section : goal.invariant-loop-section
invariant-loop-section l =
    (sections_by_model l.models l.sections (drop l.section-index l.raw) ≡ sections_by_model l.models (no_sections l.models) l.raw)
    × (noted l.found (sections_diagnostics l.models l.sections (drop l.section-index l.raw)) ≡ noted l.initial.found (sections_diagnostics l.models (no_sections l.models) l.raw))
