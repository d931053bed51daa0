-- What the names in rules stand for, by a model and datasets. Of several of one name the first counts, and a resource before a
-- dataset.
use Rattle.std.specs.Prelude.{ℕ, List, Option, Some, None, position, find, option_and_then, slice_get}
use Rattle.aerie_base.specs.declared.models.Activity.{Activity}
use Rattle.aerie_base.specs.declared.models.EnumType.{EnumType}
use Rattle.aerie_base.specs.declared.models.Resource.{Resource}
use Rattle.aerie_base.specs.declared.models.model.Parts.{Parts}
use Rattle.aerie_base.specs.declared.values.Kind.{Kind}
use Rattle.aerie_base.specs.models.Cells.{NamedCells}
use Rattle.aerie_base.specs.models.Names.{same_name}
use Rattle.dataset_in.specs.declared.series.Series.{Series}
use Rattle.diagnostics.specs.ShortNumbers.{short}
use Rattle.constraints.specs.OfModel.{resource_kind, series_kind}
use Rattle.constraints.specs.declared.types.Reading.{Reading}
use Rattle.constraints.specs.declared.types.Reading.TheVariants as reading

abbrev pub Datasets : Type 0
Datasets = List (List ℕ × Series)

-- ---- activity types and enumerations

abbrev pub position_of_type : List Activity → List ℕ → Option ℕ
position_of_type activities name = position (λ activity. same_name activity.name name) activities

abbrev pub position_of_enum : List EnumType → List ℕ → Option ℕ
position_of_enum enums name = position (λ enum. same_name enum.name name) enums

abbrev pub variant_of : Option EnumType → List ℕ → Option ℕ
variant_of enumeration name = option_and_then (λ enum. position (λ variant. same_name variant name) enum.variants) enumeration

abbrev pub variant_position : List EnumType → ℕ → List ℕ → Option ℕ
variant_position enums kind name = variant_of (slice_get enums kind) name

-- ---- resources and datasets

-- the first entry of a name
abbrev pub named_entry : {A : Type 0} → List (List ℕ × A) → List ℕ → Option (List ℕ × A)
named_entry entries name = find (λ entry. same_name entry.0 name) entries

-- what a name in a rule reads, as far as types go: nothing, or something with the type of its values
abbrev pub kind_of_entry : NamedCells → Option (List ℕ × Resource) → Option (List ℕ × Series) → Option (Option Kind)
kind_of_entry cells (Some resource) dataset = Some (resource_kind cells (Some resource))
kind_of_entry cells None (Some dataset) = Some (Some (series_kind dataset.1))
kind_of_entry cells None None = None

abbrev pub name_kind : Parts → Datasets → List ℕ → Option (Option Kind)
name_kind model datasets name = kind_of_entry model.cells (named_entry model.resources name) (named_entry datasets name)

-- what is read by a name; of an unknown name it is never used
abbrev pub known_reading : Option ℕ → Option (List ℕ × Series) → Reading
known_reading (Some number) dataset = reading.Resource (short number)
known_reading None (Some dataset) = reading.Series dataset.0 dataset.1
known_reading None None = reading.Resource 0

abbrev pub reading_named : Parts → Datasets → List ℕ → Reading
reading_named model datasets name =
    known_reading (position (λ resource. same_name resource.0 name) model.resources) (named_entry datasets name)
