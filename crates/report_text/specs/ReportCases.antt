-- Parts of reports, written out.
use Rattle.std.specs.Prelude.{◌≡◌, [], ◌∷◌, codes, pos, negsuc, Some, None, refl}
use Rattle.std.specs.Fmt.{digits}
use Rattle.json.specs.Print.{escape_byte}
use Rattle.serde_json.specs.Written.{compact_text}
use Rattle.aerie_base.specs.Paths.{root}
use Rattle.aerie_base.specs.declared.faults.Fault.TheVariants.{Range, Divide}
use Rattle.aerie_base.specs.declared.models.model.Parts.{Parts}
use Rattle.aerie_base.specs.declared.models.CellStart.TheVariants as start
use Rattle.aerie_base.specs.declared.values.Kind.TheVariants as kind
use Rattle.aerie_base.specs.declared.values.Value.TheVariants.{Int, Variant}
use Rattle.epoch_text.specs.DayTexts.{day_in_year}
use Rattle.profiles.specs.declared.sampling.Profile.TheVariants.{Discrete, Linear}
use Rattle.run_data.specs.declared.runs.Outcome.TheVariants.{Completed, Failed, StepLimit}
use Rattle.run_data.specs.declared.runs.Who.TheVariants.{Task, Cell}
use Rattle.report_text.specs.Outcomes.{outcome_data}
use Rattle.report_text.specs.ProfileLines.{profile_data}
use Rattle.report_text.specs.SpanLines.{span_data}

-- a camera with an enumeration, a cell and an activity type whose parameters do not stand in the order of their names
abbrev pub camera : Parts
camera = record {
  name = codes "camera";
  enums = record { name = codes "Mode"; variants = codes "OFF" ∷ codes "WIDE" ∷ [] } ∷ [];
  cells = (codes "taken", start.Counter (pos 0)) ∷ [];
  resources = [];
  activities = record {
    name = codes "Take";
    parameters = record { name = codes "shots"; kind = kind.Int; default = None } ∷ record { name = codes "mode"; kind = kind.Enum 0; default = None } ∷ [];
    result = Some kind.Int;
    requires_ = [];
    slots = 2;
    body = [];
  } ∷ [];
  daemons = [];
}

pub completed : compact_text (outcome_data camera Completed) ≡ codes "\"completed\""
unfolding escape_byte
completed = refl

pub a_task_divides : compact_text (outcome_data camera (Failed 5 (Task (root 2)) Divide)) ≡ codes "{\"failed\":{\"fault\":\"Divide\",\"task\":\"2\",\"time\":5}}"
unfolding digits escape_byte
a_task_divides = refl

pub a_cell_leaves_its_range : compact_text (outcome_data camera (Failed 2_000_000 (Cell 0) Range)) ≡ codes "{\"failed\":{\"cell\":\"taken\",\"fault\":\"Range\",\"time\":2000000}}"
unfolding digits escape_byte
a_cell_leaves_its_range = refl

pub too_many_steps : compact_text (outcome_data camera (StepLimit 5)) ≡ codes "{\"steplimit\":{\"time\":5}}"
unfolding digits escape_byte
too_many_steps = refl

pub a_variant_from_5_on : compact_text (profile_data camera (codes "mode") (Discrete ((0, Variant 0 0) ∷ (5, Variant 0 1) ∷ [])))
    ≡ codes "{\"name\":\"mode\",\"segments\":[[0,\"Mode.OFF\"],[5,\"Mode.WIDE\"]]}"
unfolding digits escape_byte
a_variant_from_5_on = refl

-- values and rates of straight pieces are texts
pub falls_evenly : compact_text (profile_data camera (codes "v") (Linear (record { from = 0; value = pos 0; rate = negsuc 2 } ∷ [])))
    ≡ codes "{\"name\":\"v\",\"segments\":[[0,\"0\",\"-3\"]]}"
unfolding digits escape_byte
falls_evenly = refl

-- the arguments by the names of their parameters, in the order of these
pub a_span : compact_text (span_data camera (pos 1_861_920_000_000_000) (record { path = root 1; kind = 0; arguments = Int (pos 3) ∷ Variant 0 1 ∷ []; start = 5; end = Some 15; result = Some (Int (pos 3)) }))
    ≡ codes "{\"arguments\":{\"mode\":\"Mode.WIDE\",\"shots\":3},\"end\":15,\"path\":\"1\",\"result\":3,\"start\":5,\"type\":\"Take\",\"utc\":\"2029-001T00:00:00.000005\"}"
unfolding digits day_in_year escape_byte
a_span = refl

pub a_span_without_an_end : compact_text (span_data camera (pos 1_861_920_000_000_000) (record { path = root 1; kind = 0; arguments = []; start = 5; end = None; result = None }))
    ≡ codes "{\"arguments\":{},\"end\":null,\"path\":\"1\",\"result\":null,\"start\":5,\"type\":\"Take\",\"utc\":\"2029-001T00:00:00.000005\"}"
unfolding digits day_in_year escape_byte
a_span_without_an_end = refl
