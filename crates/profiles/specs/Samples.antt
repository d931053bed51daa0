-- What a profile has at a time.
use Rattle.std.specs.Prelude.{◌≡◌, ℕ, pos, List, [], ◌∷◌, map, option_map, unwrap_or, IfSome, refl}
use Rattle.aerie_base.specs.declared.values.Value.TheVariants.{Int}
use Rattle.windows.specs.Begun.{last_begun, HaveBegun}
use Rattle.windows.specs.declared.segments.Segment.{Segment}
use Rattle.windows.specs.Linear.{IsSum, segments_value}
use Rattle.profiles.specs.declared.sampling.Profile.{Profile}
use Rattle.profiles.specs.declared.sampling.Profile.TheVariants.{Discrete, Linear}
use Rattle.profiles.specs.declared.sampling.Sample.{Sample}
use Rattle.profiles.specs.declared.sampling.Sample.TheVariants as sample

-- a straight piece with its value and that at a time below 2^120
pub record IsLineAt (segments : List Segment) (t : ℕ) : Type 0 where
  pub starts : HaveBegun t (map (λ segment. segment.from) segments)
  pub value : IfSome (last_begun (λ segment. segment.from) segments t) (λ segment. IsSum segment.value)
  pub given : IsSum (segments_value segments t)

-- segments in rising order, one of them no later than the time, the sums of a linear profile below 2^120
abbrev pub CanBeSampled : Profile → ℕ → Type 0
CanBeSampled (Discrete segments) t = HaveBegun t (map (λ segment. segment.0) segments)
CanBeSampled (Linear segments) t = IsLineAt segments t

-- what the profile has at the time
abbrev pub sample_at : Profile → ℕ → Sample
sample_at (Discrete segments) t = sample.Value (unwrap_or (option_map (λ segment. segment.1) (last_begun (λ segment. segment.0) segments t)) (Int (pos 0)))
sample_at (Linear segments) t = sample.Sum (segments_value segments t)

-- ---- worked cases

abbrev a_stair : Profile
a_stair = Discrete ((0, Int (pos 0)) ∷ (5, Int (pos 3)) ∷ (15, Int (pos 6)) ∷ [])

pub before_the_step : sample_at a_stair 14 ≡ sample.Value (Int (pos 3))
before_the_step = refl

pub at_the_step : sample_at a_stair 15 ≡ sample.Value (Int (pos 6))
at_the_step = refl

pub on_a_slope : sample_at (Linear ((record { from = 0; value = pos 100; rate = pos 2 }) ∷ [])) 7 ≡ sample.Sum (pos 114)
on_a_slope = refl
