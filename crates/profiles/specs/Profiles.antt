-- The profile of a resource of a run, and what a profile has at a time.
use Rattle.std.specs.Prelude.{ℕ, ℤ, List, map, Option, slice_get, option_map}
use Rattle.aerie_base.specs.declared.linear.Linear.{Linear}
use Rattle.aerie_base.specs.declared.models.Resource.{Resource}
use Rattle.aerie_base.specs.declared.models.Resource.TheVariants as resource
use Rattle.aerie_base.specs.declared.models.model.Parts.{Parts}
use Rattle.aerie_base.specs.expressions.Arithmetic.{number_in}
use Rattle.run_data.specs.declared.runs.Run.{Run}
use Rattle.run_data.specs.Values.{resource_value, rate_at}
use Rattle.profiles.specs.declared.sampling.Profile.{Profile}
use Rattle.profiles.specs.declared.sampling.Profile.TheVariants.{Discrete}
use Rattle.profiles.specs.declared.sampling.Profile.TheVariants as profile
use Rattle.profiles.specs.Segments.{value_segments, line_segments}

-- the value of a linear resource at a time below the reach
abbrev pub resource_sum : Parts → Run → Linear → ℕ → ℤ
resource_sum model run form t = number_in (resource_value model run (resource.Linear form) t)

abbrev pub profile_of : Parts → Run → Resource → Profile
profile_of model run (resource.Discrete read) = Discrete (value_segments (resource_value model run (resource.Discrete read)) run.reach)
profile_of model run (resource.Linear form) =
    profile.Linear (line_segments (resource_sum model run form) (rate_at model run form) run.reach)

-- by the number of the resource, where there is one
abbrev pub profile_at : Parts → Run → ℕ → Option Profile
profile_at model run number = option_map (λ named. profile_of model run named.1) (slice_get model.resources number)

-- the profiles of all resources, in the order of their declarations
abbrev pub all_profiles : Parts → Run → List Profile
all_profiles model run = map (λ named. profile_of model run named.1) model.resources
