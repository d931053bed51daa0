-- The sections of rules, by model.
use Rattle.std.specs.Prelude.{ℕ, not, List, [], ◌∷◌, ◌++◌, Option, Some, None, is_some, length, replicate, slice_index_or, slice_set, if◌then◌else◌}
use Rattle.aerie_base.specs.declared.models.model.Parts.{Parts}
use Rattle.aerie_base.specs.declared.places.Place.{Place}
use Rattle.model_reader.specs.declared.raw.names.RawName.{RawName}
use Rattle.session_grammar.specs.declared.raw.sections.RawSection.{RawSection}
use Rattle.session_reader.specs.declared.causes.Cause.TheVariants.{Unknown, Duplicate}
use Rattle.diagnostics.specs.declared.diagnostic.Diagnostic.{Diagnostic}
use Rattle.session_reader.specs.declared.causes.Cause.{Cause}
use Rattle.diagnostics.specs.Diagnostics.{at_place, refused_unless}
use Rattle.session_reader.specs.Diagnostics.{MakesAndNotes}
use Rattle.session_reader.specs.KnownParts.{model_position}

-- the number of the first token of some rules, and that of the token behind them
abbrev pub TokenRange : Type 0
TokenRange = ℕ × ℕ

-- for each model its section, where it has one
abbrev pub SectionsByModel : Type 0
SectionsByModel = List (Option TokenRange)

abbrev pub no_sections : List Parts → SectionsByModel
no_sections models = replicate (length models) None

-- the section of a model, where it has one
abbrev pub section_of : SectionsByModel → ℕ → Option TokenRange
section_of sections model = slice_index_or sections model None

-- ---- one section

-- the position of the model that is named; where none is, that of the first
abbrev pub model_of_section : List Parts → Option RawName → Option ℕ
model_of_section models None = Some 0
model_of_section models (Some name) = model_position models name.name

-- the place of the name, or that of the section's first word where there is none
abbrev pub position_of_section : Place → Option RawName → Place
position_of_section at None = at
position_of_section at (Some name) = name.at

-- its model is known, and has no section so far
abbrev pub section_diagnostics : SectionsByModel → Place → Option ℕ → List (Diagnostic Cause)
section_diagnostics sections at None = at_place Unknown at
section_diagnostics sections at (Some model) = refused_unless (not (is_some (section_of sections model))) Duplicate at

-- a model keeps the section that it has
abbrev pub section_put : SectionsByModel → TokenRange → Option ℕ → SectionsByModel
section_put sections range None = sections
section_put sections range (Some model) =
    if is_some (section_of sections model) then sections else slice_set sections model (Some range)

-- the same of a section as it is written
abbrev pub diagnostics_of_section : List Parts → SectionsByModel → RawSection → List (Diagnostic Cause)
diagnostics_of_section models sections raw = section_diagnostics sections (position_of_section raw.at raw.of) (model_of_section models raw.of)

-- ---- all sections of a sort

abbrev pub with_section : List Parts → SectionsByModel → RawSection → SectionsByModel
with_section models sections raw = section_put sections (raw.from, raw.to) (model_of_section models raw.of)

-- the sections by model, behind earlier ones
abbrev pub sections_by_model : List Parts → SectionsByModel → List RawSection → SectionsByModel
sections_by_model models sections [] = sections
sections_by_model models sections (raw ∷ rest) = sections_by_model models (with_section models sections raw) rest

-- what is wrong with sections, behind earlier ones
abbrev pub sections_diagnostics : List Parts → SectionsByModel → List RawSection → List (Diagnostic Cause)
sections_diagnostics models sections [] = []
sections_diagnostics models sections (raw ∷ rest) =
    diagnostics_of_section models sections raw ++ sections_diagnostics models (with_section models sections raw) rest

-- the sections are put by model, and what is wrong with them is noted
abbrev pub MakesSections : List Parts → List RawSection → Option (Diagnostic Cause) → Option (Diagnostic Cause) → SectionsByModel → Type 0
MakesSections models raw =
    MakesAndNotes (sections_by_model models (no_sections models) raw) (sections_diagnostics models (no_sections models) raw)
