-- What it means that a profile gives the values of a resource over a run, and in how few segments.
use Rattle.std.specs.Prelude.{◌≡◌, ℕ, ◌<◌, ◌≤◌, ℤ, pos, unsigned_abs, length, option_map, unwrap_or, IfSome, slice_get}
use Rattle.aerie_base.specs.declared.models.Resource.{Resource}
use Rattle.aerie_base.specs.declared.models.Resource.TheVariants as resource
use Rattle.aerie_base.specs.declared.models.model.Parts.{Parts}
use Rattle.aerie_base.specs.declared.values.Value.{Value}
use Rattle.aerie_base.specs.expressions.Arithmetic.{number_in}
use Rattle.run_data.specs.declared.runs.Run.{Run}
use Rattle.run_data.specs.Values.{resource_value, rate_at}
use Rattle.windows.specs.Linear.{segments_value}
use Rattle.profiles.specs.declared.sampling.Profile.{Profile}
use Rattle.profiles.specs.declared.sampling.Profile.TheVariants.{Discrete, Linear}
use Rattle.profiles.specs.declared.sampling.Sample.{Sample}
use Rattle.profiles.specs.declared.sampling.Sample.TheVariants as sample
use Rattle.windows.specs.Begun.{last_begun}
use Rattle.profiles.specs.Samples.{CanBeSampled, sample_at}

-- a profile is so of the resource with this number, where the model has one
abbrev pub OfResource : Parts → ℕ → (Resource → Profile → Type 0) → Profile → Type 0
OfResource model number P profile = IfSome (slice_get model.resources number) (λ named. P named.1 profile)

-- ---- values

-- the value of a resource as a sample of a profile: that of a linear one is a number
abbrev pub sample_of : Resource → Value → Sample
sample_of (resource.Discrete read) value = sample.Value value
sample_of (resource.Linear form) value = sample.Sum (number_in value)

-- at each time below the reach the profile may be sampled, and has the value that the resource has then
abbrev pub HasValues : Parts → Run → Resource → Profile → Type 0
HasValues model run of profile =
    (t : ℕ) → t < run.reach → CanBeSampled profile t × (sample_at profile t ≡ sample_of of (resource_value model run of t))

-- a sum of at most 16 terms, each at most 10^6 times a number of at most 10^18
abbrev pub summed_most : ℕ
summed_most = 16_000_000_000_000_000_000_000_000

-- at each time below the reach a linear profile is no further from 0 than a number
abbrev pub StaysWithin : ℕ → ℕ → Profile → Type 0
StaysWithin most reach (Discrete segments) = Unit {0}
StaysWithin most reach (Linear segments) = (t : ℕ) → t < reach → unsigned_abs (segments_value segments t) ≤ most

-- ---- rates

-- by how much a profile rises each microsecond from a time on
abbrev pub slope_at : Profile → ℕ → ℤ
slope_at (Discrete segments) t = pos 0
slope_at (Linear segments) t = unwrap_or (option_map (λ segment. segment.rate) (last_begun (λ segment. segment.from) segments t)) (pos 0)

-- the same of a resource: a discrete one stays until it changes
abbrev pub resource_slope : Parts → Run → Resource → ℕ → ℤ
resource_slope model run (resource.Discrete read) t = pos 0
resource_slope model run (resource.Linear form) t = rate_at model run form t

-- at each time below the reach it rises by as much as the resource does
abbrev pub HasSlopes : Parts → Run → Resource → Profile → Type 0
HasSlopes model run of profile = (t : ℕ) → t < run.reach → slope_at profile t ≡ resource_slope model run of t

-- ---- how few segments

abbrev pub segment_count : Profile → ℕ
segment_count (Discrete segments) = length segments
segment_count (Linear segments) = length segments

-- no profile that gives the same values, and rises by as much, has fewer segments
abbrev pub IsShortest : Parts → Run → Resource → Profile → Type 0
IsShortest model run of profile =
    (other : Profile) → HasValues model run of other → HasSlopes model run of other → segment_count profile ≤ segment_count other
