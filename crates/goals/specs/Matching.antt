-- Which spans a goal's template matches, and when they start.
use Rattle.std.specs.Prelude.{◌≡◌, ℕ, Bool, false, ◌&&◌, List, [], ◌∷◌, None, nat_eq, pos, refl, if◌then◌else◌}
use Rattle.aerie_base.specs.declared.values.Value.{Value}
use Rattle.aerie_base.specs.declared.values.Value.TheVariants.{Int, Truth}
use Rattle.aerie_base.specs.declared.models.model.Parts.{Parts}
use Rattle.run_data.specs.declared.runs.Run.{Run}
use Rattle.run_data.specs.Spans.{SpanOf, spans_of}
use Rattle.plan_merge.specs.Table.{same_values}
use Rattle.goals.specs.declared.types.Template.{Template}

-- a span of the template's type with its arguments
abbrev pub matches : Template → SpanOf → Bool
matches template span = nat_eq span.kind template.kind && same_values span.arguments template.arguments

-- when the matching spans start, in the order of the spans
abbrev pub matching_starts : Template → List SpanOf → List ℕ
matching_starts template [] = []
matching_starts template (span ∷ rest) =
    if matches template span then span.start ∷ matching_starts template rest else matching_starts template rest

-- when the spans of a run start that match
abbrev pub starts_on : Parts → Run → Template → List ℕ
starts_on model run template = matching_starts template (spans_of model run)

-- ---- worked cases

abbrev a_span : ℕ → ℕ → Value → SpanOf
a_span start kind argument = record { path = 1 ∷ []; kind = kind; arguments = argument ∷ []; start = start; end = None; result = None }

-- of three spans one is of another type, and one has another argument
pub type_and_arguments :
    matching_starts (record { kind = 0; arguments = Int (pos 3) ∷ [] })
    (a_span 5 0 (Int (pos 3)) ∷ a_span 6 1 (Int (pos 3)) ∷ a_span 7 0 (Int (pos 4)) ∷ a_span 8 0 (Int (pos 3)) ∷ []) ≡ 5 ∷ 8 ∷ []
type_and_arguments = refl

-- a truth is no number
pub other_kind_of_value : matches (record { kind = 0; arguments = Int (pos 0) ∷ [] }) (a_span 5 0 (Truth false)) ≡ false
other_kind_of_value = refl
