-- The segments of a profile beside one another: where each begins, and that none continues the one before it.
use Rattle.std.specs.Prelude.{◌≡◌, ℕ, ◌<◌, List, [], ◌∷◌, map}
use Rattle.aerie_base.specs.declared.values.Value.{Value}
use Rattle.windows.specs.declared.segments.Segment.{Segment}
use Rattle.windows.specs.Linear.{AreSegments, segment_value}
use Rattle.profiles.specs.declared.sampling.Profile.{Profile}
use Rattle.profiles.specs.declared.sampling.Profile.TheVariants.{Discrete, Linear}

-- ---- starts

abbrev pub starts_of : Profile → List ℕ
starts_of (Discrete segments) = map (λ segment. segment.0) segments
starts_of (Linear segments) = map (λ segment. segment.from) segments

-- the first of these times, or the reach where there is none
abbrev pub first_start_of : ℕ → List ℕ → ℕ
first_start_of reach [] = reach
first_start_of reach (from ∷ rest) = from

-- each start before the next one, and the last below the reach
abbrev pub RiseUpTo : ℕ → List ℕ → Type 0
RiseUpTo reach [] = Unit {0}
RiseUpTo reach (from ∷ rest) = (from < first_start_of reach rest) × RiseUpTo reach rest

-- Starts that divide the time up to the reach: the first at 0 where the reach is above 0, each before the next one and below
-- the reach.
pub record DivideTime (reach : ℕ) (starts : List ℕ) : Type 0 where
  pub begin_at_zero : 0 < reach → first_start_of reach starts ≡ 0
  pub rise : RiseUpTo reach starts

-- ---- neighbours

-- each two that stand beside one another
abbrev pub EachNext : {A : Type 0} → (A → A → Type 0) → List A → Type 0
EachNext P [] = Unit {0}
EachNext P (one ∷ []) = Unit {0}
EachNext P (one ∷ next ∷ rest) = P one next × EachNext P (next ∷ rest)

-- a value that is another than the one before
abbrev pub ChangesValue : (ℕ × Value) → (ℕ × Value) → Type 0
ChangesValue segment next = segment.1 ≡ next.1 → ⊥

-- a straight piece that is not the one before it, drawn on
abbrev pub ChangesLine : Segment → Segment → Type 0
ChangesLine segment next = segment_value segment next.from ≡ next.value → segment.rate ≡ next.rate → ⊥

-- no segment continues the one before it
abbrev pub NoneContinues : Profile → Type 0
NoneContinues (Discrete segments) = EachNext ChangesValue segments
NoneContinues (Linear segments) = EachNext ChangesLine segments

-- ---- comparing

-- the segments of a linear profile, up to the reach, may be compared with a number: they have a sum below 2^120 at each time
abbrev pub MayBeCompared : ℕ → Profile → Type 0
MayBeCompared reach (Discrete segments) = Unit {0}
MayBeCompared reach (Linear segments) = AreSegments reach segments
