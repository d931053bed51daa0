-- Profiles that are known of a run.
use Rattle.std.proofs.Common.{◌≡◌, ℕ, zero, suc, List, [], Some, slice_get, sym, subst}
use Rattle.std.proofs.lemmas.Option.{none-some}
use Rattle.aerie_base.specs.declared.models.model.Parts.{Parts}
use Rattle.run_data.specs.declared.runs.Run.{Run}
use Rattle.profiles.specs.declared.sampling.Profile.{Profile}
use Rattle.profiles.specs.OfRuns.{AreByNumber}
use Rattle.constraints.specs.Sources.{IsProfile}

module _ (model : Parts) (run : Run) where
  pub none_known : AreByNumber model run []
  none_known zero profile is = absurd (none-some _ is)
  none_known (suc n) profile is = absurd (none-some _ is)

  -- a copy of a known one is one of its resource
  pub known_is : (known : List Profile) (number : ℕ) (profile copy : Profile) → AreByNumber model run known → slice_get known number ≡ Some profile → copy ≡ profile → IsProfile model run number copy
  known_is known number profile copy are there same =
      let is = are number profile there in
      subst (IsProfile model run number) (sym same) (record { values = is.values; divide = is.divide; compared = is.compared; within = is.within })
