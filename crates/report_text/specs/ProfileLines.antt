-- The profiles of a run's resources, as the value that is printed.
use Rattle.std.specs.Prelude.{ℕ, List, [], ◌∷◌, codes, map}
use Rattle.serde_json.specs.Data.{Data, array, item, no_items, string}
use Rattle.serde_json.specs.View.{items_of}
use Rattle.aerie_base.specs.declared.models.EnumType.{EnumType}
use Rattle.aerie_base.specs.declared.models.Resource.{Resource}
use Rattle.aerie_base.specs.declared.models.model.Parts.{Parts}
use Rattle.aerie_base.specs.declared.values.Value.{Value}
use Rattle.json_line.specs.Json.{object_of}
use Rattle.plan_edit.specs.ShownPlan.{json_of_value}
use Rattle.profiles.specs.Profiles.{profile_of}
use Rattle.profiles.specs.declared.sampling.Profile.{Profile}
use Rattle.profiles.specs.declared.sampling.Profile.TheVariants.{Discrete, Linear}
use Rattle.run_data.specs.declared.runs.Run.{Run}
use Rattle.windows.specs.declared.segments.Segment.{Segment}
use Rattle.json_line.specs.Numbers.{digits_data, natural_data}

-- from when, and the value from then on
abbrev pub value_segment_data : List EnumType → ℕ × Value → Data
value_segment_data enums segment = array (item (natural_data segment.0) (item (json_of_value enums segment.1) no_items))

-- from when, the value there and the rate from then on, these two as texts of digits
abbrev pub segment_data : Segment → Data
segment_data segment =
    array (item (natural_data segment.from) (item (digits_data segment.value) (item (digits_data segment.rate) no_items)))

abbrev pub segments_data : List EnumType → Profile → Data
segments_data enums (Discrete segments) = array (items_of (map (value_segment_data enums) segments))
segments_data enums (Linear segments) = array (items_of (map segment_data segments))

-- a profile with the name of its resource
abbrev pub profile_data : Parts → List ℕ → Profile → Data
profile_data model name profile = object_of ((codes "name", string name) ∷ (codes "segments", segments_data model.enums profile) ∷ [])

-- the profile of a resource of a run
abbrev pub resource_data : Parts → Run → List ℕ × Resource → Data
resource_data model run named = profile_data model named.0 (profile_of model run named.1)

-- the profiles of all resources, in the order of their declarations
abbrev pub profiles_data : Parts → Run → Data
profiles_data model run = array (items_of (map (resource_data model run) model.resources))
