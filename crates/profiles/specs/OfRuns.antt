-- The profiles of a run's resources, with what others ask of them.
use Rattle.std.specs.Prelude.{◌≡◌, ℕ, List, Some, slice_get}
use Rattle.aerie_base.specs.declared.models.model.Parts.{Parts}
use Rattle.run_data.specs.declared.runs.Run.{Run}
use Rattle.profiles.specs.declared.sampling.Profile.{Profile}
use Rattle.profiles.specs.GivenValues.{HasValues, OfResource, StaysWithin, summed_most}
use Rattle.profiles.specs.Neighbours.{DivideTime, MayBeCompared, starts_of}
use Rattle.profiles.specs.Profiles.{all_profiles}

-- a profile of the resource with a number
pub record IsProfile (model : Parts) (run : Run) (number : ℕ) (profile : Profile) : Type 0 where
  pub values : OfResource model number (HasValues model run) profile
  pub divide : DivideTime run.reach (starts_of profile)
  pub compared : MayBeCompared run.reach profile
  pub within : StaysWithin summed_most run.reach profile

-- each is one of the resource with its number
abbrev pub AreByNumber : Parts → Run → List Profile → Type 0
AreByNumber model run profiles = (number : ℕ) (profile : Profile) → slice_get profiles number ≡ Some profile → IsProfile model run number profile

-- these are the profiles of the run, in the order of the resources
pub record AreProfilesOf (model : Parts) (run : Run) (profiles : List Profile) : Type 0 where
  pub exact : profiles ≡ all_profiles model run
  pub by_number : AreByNumber model run profiles
