-- Values that stay from step to step.
use Rattle.std.specs.Prelude.{ℕ, ◌≡◌, ◌<◌, pos, Bool, List, [], ◌∷◌, length, map, option_map, unwrap_or, if◌then◌else◌, refl}
use Rattle.aerie_base.specs.declared.values.Value.{Value}
use Rattle.aerie_base.specs.declared.values.Value.TheVariants as value
use Rattle.aerie_base.specs.Ranges.{IsNumber}
use Rattle.aerie_base.specs.expressions.Arithmetic.{number_in, same_value}
use Rattle.windows.specs.Begun.{StartsRise, last_begun}
use Rattle.windows.specs.declared.segments.Segment.{Segment}
use Rattle.windows.specs.Times.{Interval}
use Rattle.constraints.specs.Holding.{equals_or_not}

-- each with the time at which it begins
abbrev pub Step : Type 0
Step = ℕ × Value

-- the value of the last step that begins no later; 0 where there is none
abbrev pub step_value : List Step → ℕ → Value
step_value steps t = unwrap_or (option_map (λ step. step.1) (last_begun (λ step. step.0) steps t)) (value.Int (pos 0))

-- whether that value is equal to another, or unequal
abbrev pub step_equals : Bool → List Step → Value → ℕ → Bool
step_equals equal steps value t = equals_or_not equal (same_value (step_value steps t) value)

-- the first of them begins at 0, each further one later than the one before it, and there is one where there is some time
abbrev pub RiseFromZero : List ℕ → Type 0
RiseFromZero [] = Unit {0}
RiseFromZero (from ∷ rest) = (from ≡ 0) × StartsRise from rest

abbrev pub AreSteps : ℕ → List Step → Type 0
AreSteps reach steps = RiseFromZero (map (λ step. step.0) steps) × (0 < reach → 0 < length steps)

-- where the first begins, or the reach where there is none
abbrev pub first_step : ℕ → List Step → ℕ
first_step reach [] = reach
first_step reach (step ∷ rest) = step.0

-- the times of the steps whose value passes a test
abbrev pub times_passing : ℕ → (Value → Bool) → List Step → List Interval
times_passing reach test [] = []
times_passing reach test (step ∷ rest) =
    if test step.1 then (step.0, first_step reach rest) ∷ times_passing reach test rest else times_passing reach test rest

-- a truth as a value
abbrev pub truth_step : ℕ × Bool → Step
truth_step entry = (entry.0, value.Truth entry.1)

-- a whole number as a straight piece
abbrev pub flat : Step → Segment
flat step = record { from = step.0; value = number_in step.1; rate = pos 0 }

-- numbers of a model that stay
abbrev pub HaveNumbers : List Segment → Type 0
HaveNumbers [] = Unit {0}
HaveNumbers (piece ∷ rest) = IsNumber piece.value × HaveNumbers rest

-- ---- worked cases

pub the_last_step_stays : step_value ((0, value.Int (pos 0)) ∷ (5, value.Int (pos 3)) ∷ []) 99 ≡ value.Int (pos 3)
the_last_step_stays = refl
