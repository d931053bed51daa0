-- The datasets that constraints name, as the value that is printed.
use Rattle.std.specs.Prelude.{◌≡◌, ℕ, ℤ, pos, negsuc, Bool, true, false, List, [], ◌∷◌, codes, map, refl}
use Rattle.std.specs.Fmt.{digits}
use Rattle.json.specs.Print.{escape_byte}
use Rattle.serde_json.specs.Data.{Data, array, string}
use Rattle.serde_json.specs.View.{items_of}
use Rattle.serde_json.specs.Written.{compact_text}
use Rattle.aerie_base.specs.declared.models.EnumType.{EnumType}
use Rattle.aerie_base.specs.declared.values.Value.TheVariants as value
use Rattle.constraints.specs.declared.types.Constraint.{Constraint}
use Rattle.dataset_in.specs.declared.series.Series.{Series}
use Rattle.dataset_in.specs.declared.series.Series.TheVariants.{Truth, Whole, Linear}
use Rattle.json_line.specs.Json.{object_of}
use Rattle.windows.specs.declared.segments.Segment.{Segment}
use Rattle.report_text.specs.NamedByConstraints.{NamedSeries, all_datasets}
use Rattle.report_text.specs.ProfileLines.{segment_data, value_segment_data}

-- the word of a kind of datasets
abbrev pub kind_word : Series → List ℕ
kind_word (Truth entries) = codes "truth"
kind_word (Whole entries) = codes "whole"
kind_word (Linear segments) = codes "linear"

-- from when, and the truth from then on
abbrev pub truth_entry_data : List EnumType → ℕ × Bool → Data
truth_entry_data enums entry = value_segment_data enums (entry.0, value.Truth entry.1)

-- from when, and the whole number from then on
abbrev pub whole_entry_data : List EnumType → ℕ × ℤ → Data
whole_entry_data enums entry = value_segment_data enums (entry.0, value.Int entry.1)

-- the segments as profiles have them
abbrev pub series_data : List EnumType → Series → Data
series_data enums (Truth entries) = array (items_of (map (truth_entry_data enums) entries))
series_data enums (Whole entries) = array (items_of (map (whole_entry_data enums) entries))
series_data enums (Linear segments) = array (items_of (map segment_data segments))

abbrev pub dataset_data : List EnumType → NamedSeries → Data
dataset_data enums dataset =
    object_of ((codes "kind", string (kind_word dataset.1))
    ∷ (codes "name", string dataset.0)
    ∷ (codes "segments", series_data enums dataset.1)
    ∷ [])

-- those that constraints name, each once, in the order of the text
abbrev pub datasets_data : List EnumType → List Constraint → Data
datasets_data enums constraints = array (items_of (map (dataset_data enums) (all_datasets constraints)))

-- the names of datasets
abbrev pub dataset_names_data : List NamedSeries → Data
dataset_names_data datasets = array (items_of (map (λ dataset. string dataset.0) datasets))

-- ---- worked cases

pub a_day : compact_text (dataset_data [] (codes "day", Truth ((0, true) ∷ (43_200_000_000, false) ∷ []))) ≡ codes "{\"kind\":\"truth\",\"name\":\"day\",\"segments\":[[0,true],[43200000000,false]]}"
unfolding digits escape_byte
a_day = refl

pub a_height : compact_text (dataset_data [] (codes "height", Linear (record { from = 0; value = pos 7; rate = negsuc 0 } ∷ []))) ≡ codes "{\"kind\":\"linear\",\"name\":\"height\",\"segments\":[[0,\"7\",\"-1\"]]}"
unfolding digits escape_byte
a_height = refl
