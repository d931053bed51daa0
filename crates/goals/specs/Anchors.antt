-- Beside what a coexistence goal wants an activity.
use Rattle.std.specs.Prelude.{◌≡◌, ℕ, List, [], ◌∷◌, Option, Some, None, map, nat_eq, refl, if◌then◌else◌}
use Rattle.aerie_base.specs.declared.models.model.Parts.{Parts}
use Rattle.run_data.specs.declared.runs.Run.{Run}
use Rattle.run_data.specs.Spans.{SpanOf, spans_of}
use Rattle.windows.specs.Intervals.{intervals_of}
use Rattle.windows.specs.Times.{Interval}
use Rattle.constraints.specs.declared.types.Window.{Window}
use Rattle.constraints.specs.Holding.{window_holds}
use Rattle.goals.specs.declared.types.GoalAnchor.{GoalAnchor}
use Rattle.goals.specs.declared.types.GoalAnchor.TheVariants.{Starts, Ends, Windows}

-- when the spans of a type start
abbrev pub type_starts : ℕ → List SpanOf → List ℕ
type_starts kind [] = []
type_starts kind (span ∷ rest) = if nat_eq span.kind kind then span.start ∷ type_starts kind rest else type_starts kind rest

abbrev pub before_ends : Option ℕ → List ℕ → List ℕ
before_ends None ends = ends
before_ends (Some end) ends = end ∷ ends

-- when those of them end that have ended
abbrev pub type_ends : ℕ → List SpanOf → List ℕ
type_ends kind [] = []
type_ends kind (span ∷ rest) = if nat_eq span.kind kind then before_ends span.end (type_ends kind rest) else type_ends kind rest

-- where intervals begin
abbrev pub interval_starts : List Interval → List ℕ
interval_starts intervals = map (λ interval. interval.0) intervals

-- where the maximal intervals begin on which a window holds that speaks of no span
abbrev pub window_starts : Parts → Run → Window → List ℕ
window_starts model run window = interval_starts (intervals_of run.reach (λ t. window_holds model run window None t))

-- the anchors on a run, in whatever order
abbrev pub goal_anchors : Parts → Run → GoalAnchor → List ℕ
goal_anchors model run (Starts kind) = type_starts kind (spans_of model run)
goal_anchors model run (Ends kind) = type_ends kind (spans_of model run)
goal_anchors model run (Windows window) = window_starts model run window

-- ---- worked cases

abbrev a_span : ℕ → ℕ → Option ℕ → SpanOf
a_span kind start end = record { path = 1 ∷ []; kind = kind; arguments = []; start = start; end = end; result = None }

pub starts_of_a_type : type_starts 1 (a_span 1 5 (Some 15) ∷ a_span 0 6 (Some 9) ∷ a_span 1 8 None ∷ []) ≡ 5 ∷ 8 ∷ []
starts_of_a_type = refl

-- one that has not ended has no end
pub ends_of_a_type : type_ends 1 (a_span 1 5 (Some 15) ∷ a_span 0 6 (Some 9) ∷ a_span 1 8 None ∷ a_span 1 9 (Some 9) ∷ []) ≡ 15 ∷ 9 ∷ []
ends_of_a_type = refl
