-- What was made of a run before a window is evaluated over it.
use Rattle.std.specs.Prelude.{◌≡◌, ℕ, List, Option, Some, slice_get}
use Rattle.aerie_base.specs.declared.models.model.Parts.{Parts}
use Rattle.run_data.specs.declared.runs.Run.{Run}
use Rattle.run_data.specs.Fresh.{IsFresh}
use Rattle.run_data.specs.Spans.{SpanOf, spans_of}
use Rattle.profiles.specs.declared.sampling.Profile.{Profile}
use Rattle.profiles.specs.GivenValues.{HasValues, OfResource, StaysWithin, summed_most}
use Rattle.profiles.specs.Neighbours.{DivideTime, MayBeCompared, starts_of}
use Rattle.windows.specs.Times.{TimeSet, AreIntervals}
use Rattle.constraints.specs.declared.sources.Sources.{Sources}
use Rattle.constraints.specs.Holding.{some_covers}

-- a profile of the resource with a number
pub record IsProfile (model : Parts) (run : Run) (number : ℕ) (profile : Profile) : Type 0 where
  pub values : OfResource model number (HasValues model run) profile
  pub divide : DivideTime run.reach (starts_of profile)
  pub compared : MayBeCompared run.reach profile
  pub within : StaysWithin summed_most run.reach profile

abbrev pub AreProfiles : Parts → Run → List (Option Profile) → Type 0
AreProfiles model run profiles = (number : ℕ) (profile : Profile) → slice_get profiles number ≡ Some (Some profile) → IsProfile model run number profile

-- the times that spans of a type cover
pub record IsTimesIn (reach : ℕ) (spans : List SpanOf) (kind : ℕ) (made : TimeSet) : Type 0 where
  pub reach_is : made.reach ≡ reach
  pub times : AreIntervals made.reach (some_covers reach kind spans) made.intervals

abbrev pub IsTimesOf : Parts → Run → ℕ → TimeSet → Type 0
IsTimesOf model run kind made = IsTimesIn run.reach (spans_of model run) kind made

abbrev pub AreTimesIn : ℕ → List SpanOf → List (Option TimeSet) → Type 0
AreTimesIn reach spans times = (kind : ℕ) (made : TimeSet) → slice_get times kind ≡ Some (Some made) → IsTimesIn reach spans kind made

abbrev pub AreTimes : Parts → Run → List (Option TimeSet) → Type 0
AreTimes model run = AreTimesIn run.reach (spans_of model run)

pub record AreSources (sources : Sources) : Type 0 where
  pub fresh : IsFresh sources.model.now sources.run.now.plan sources.run.now.bound sources.run.now
  pub profiles : AreProfiles sources.model.now sources.run.now sources.profiles
  pub times : AreTimes sources.model.now sources.run.now sources.times
