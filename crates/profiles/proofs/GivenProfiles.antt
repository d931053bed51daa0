-- What the profile of a resource gives.
use Rattle.std.proofs.Common.{◌≡◌, ℕ, ◌<◌, ◌≤◌, ℤ, true, zero, suc, List, Option, Some, None, IfSome, IsTrue, slice_get, refl, sym, ap, subst, ◌∙◌, arith, unsigned_abs}
use Rattle.std.specs.Prelude.{option_map}
use Rattle.std.proofs.lemmas.Option.{get_or_from_slice_get, none-some, same_Some, slice_get-map, slice_get_within}
use Rattle.aerie_base.specs.declared.models.Resource.{Resource}
use Rattle.aerie_base.specs.declared.models.Resource.TheVariants as resource
use Rattle.aerie_base.specs.declared.models.model.Parts.{Parts}
use Rattle.aerie_base.specs.declared.values.Value.{Value}
use Rattle.aerie_base.specs.models.Resources.{is_resource}
use Rattle.aerie_base.specs.models.ValidModel.{valid_model}
use Rattle.run_data.specs.declared.runs.Run.{Run}
use Rattle.run_data.specs.Values.{resource_value, rate_at}
use Rattle.profiles.specs.declared.sampling.Profile.{Profile}
use Rattle.profiles.specs.declared.sampling.Profile.TheVariants.{Discrete}
use Rattle.profiles.specs.declared.sampling.Profile.TheVariants as profile
use Rattle.profiles.specs.declared.sampling.Sample.{Sample}
use Rattle.profiles.specs.declared.sampling.Sample.TheVariants as sample
use Rattle.profiles.specs.Followed.{InRangeBelow}
use Rattle.profiles.specs.GivenValues.{summed_most, HasValues, HasSlopes, IsShortest, StaysWithin, segment_count}
use Rattle.profiles.specs.Neighbours.{DivideTime, MayBeCompared, NoneContinues, starts_of}
use Rattle.profiles.specs.OfRuns.{AreProfilesOf, IsProfile}
use Rattle.profiles.specs.Profiles.{all_profiles, profile_of, resource_sum}
use Rattle.profiles.proofs.Resources.{resource_is}
use Rattle.profiles.proofs.SegmentLines.{sum_given, slope_given, lines_sampled, lines_divide, lines_change, lines_follow, fewest_lines}
use Rattle.profiles.proofs.SegmentValues.{values_begun, value_given, values_divide, values_change, fewest_values}
use Rattle.profiles.proofs.SumsInRange.{sums_in_range, sums_stay}
use Rattle.profiles.proofs.Terms.{form_of}

value_same : (a b : Value) → (◌≡◌ {A = Sample} (sample.Value a) (sample.Value b)) → a ≡ b
value_same a b e = cc

sum_same : (a b : ℤ) → (◌≡◌ {A = Sample} (sample.Sum a) (sample.Sum b)) → a ≡ b
sum_same a b e = cc

other_kind : (value : Value) (sum : ℤ) → (◌≡◌ {A = Sample} (sample.Value value) (sample.Sum sum)) → ⊥
other_kind value sum e = cc

module _ (model : Parts) (run : Run) where
  pub has_values : (of : Resource) → is_resource model.cells of ≡ true → InRangeBelow model run → HasValues model run of (profile_of model run of)
  has_values (resource.Discrete read) is good = λ t below. (
    values_begun (resource_value model run (resource.Discrete read)) run.reach t below,
    ap (λ v. sample.Value v) (value_given (resource_value model run (resource.Discrete read)) run.reach t below),
  )
  has_values (resource.Linear form) is good = λ t below. (
    lines_sampled (resource_sum model run form) (rate_at model run form) run.reach t (sums_in_range model run form (form_of model.cells form is) good) below,
    ap (λ (z : ℤ). sample.Sum z) (sum_given (resource_sum model run form) (rate_at model run form) run.reach t below),
  )

  pub has_slopes : (of : Resource) → HasSlopes model run of (profile_of model run of)
  has_slopes (resource.Discrete read) = λ t below. refl
  has_slopes (resource.Linear form) = λ t below. slope_given (resource_sum model run form) (rate_at model run form) run.reach t below

  pub is_shortest : (of : Resource) → IsShortest model run of (profile_of model run of)
  is_shortest (resource.Discrete read) (Discrete others) values slopes =
      fewest_values (resource_value model run (resource.Discrete read)) run.reach others (λ t below. let here = values t below in (here.0, value_same _ _ here.1))
  is_shortest (resource.Discrete read) (profile.Linear others) values slopes =
      nothing_to_reach run.reach (λ some. let here = values 0 some in other_kind _ _ (sym here.1))
    where
      nothing_to_reach : (reach : ℕ) → (0 < reach → ⊥) → segment_count (profile_of model (record run { reach = reach }) (resource.Discrete read)) ≤ segment_count (profile.Linear others)
      nothing_to_reach zero none = omega arith
      nothing_to_reach (suc reach) none = absurd (none (omega arith))
  is_shortest (resource.Linear form) (profile.Linear others) values slopes =
      fewest_lines (resource_sum model run form) (rate_at model run form) run.reach others
      (λ t below. let here = values t below in (here.0.starts, sum_same _ _ here.1, slopes t below))
  is_shortest (resource.Linear form) (Discrete others) values slopes =
      nothing_to_reach run.reach (λ some. let here = values 0 some in other_kind _ _ here.1)
    where
      nothing_to_reach : (reach : ℕ) → (0 < reach → ⊥) → segment_count (profile_of model (record run { reach = reach }) (resource.Linear form)) ≤ segment_count (Discrete others)
      nothing_to_reach zero none = omega arith
      nothing_to_reach (suc reach) none = absurd (none (omega arith))

  pub none_continues : (of : Resource) → NoneContinues (profile_of model run of)
  none_continues (resource.Discrete read) = values_change (resource_value model run (resource.Discrete read)) run.reach
  none_continues (resource.Linear form) = lines_change (resource_sum model run form) (rate_at model run form) run.reach

  pub divides_time : (of : Resource) → DivideTime run.reach (starts_of (profile_of model run of))
  divides_time (resource.Discrete read) = values_divide (resource_value model run (resource.Discrete read)) run.reach
  divides_time (resource.Linear form) = lines_divide (resource_sum model run form) (rate_at model run form) run.reach

  pub may_be_compared : (of : Resource) → is_resource model.cells of ≡ true → InRangeBelow model run → MayBeCompared run.reach (profile_of model run of)
  may_be_compared (resource.Discrete read) is good = tt
  may_be_compared (resource.Linear form) is good =
      lines_follow (resource_sum model run form) (rate_at model run form) run.reach (sums_in_range model run form (form_of model.cells form is) good)

  pub stays_within : (of : Resource) → is_resource model.cells of ≡ true → InRangeBelow model run → StaysWithin summed_most run.reach (profile_of model run of)
  stays_within (resource.Discrete read) is good = tt
  stays_within (resource.Linear form) is good = λ t below.
      subst (λ (z : ℤ). unsigned_abs z ≤ summed_most) (sym (sum_given (resource_sum model run form) (rate_at model run form) run.reach t below))
      (sums_stay model run form (form_of model.cells form is) good t below)

  -- the one at a number, by the resource with that number
  of_named : IsTrue (valid_model model) → InRangeBelow model run → (number : ℕ) (profile : Profile) (found : Option (List ℕ × Resource)) → slice_get model.resources number ≡ found →
      option_map (λ named. profile_of model run named.1) found ≡ Some profile → IsProfile model run number profile
  of_named valid good number profile None found is = absurd (none-some _ is)
  of_named valid good number profile (Some named) found is =
      let made : profile_of model run named.1 ≡ profile = same_Some _ _ is in
      let of : is_resource model.cells named.1 ≡ true =
      resource_is model number named valid (slice_get_within model.resources number named found) (sym (get_or_from_slice_get model.resources number named named found)) in
      record {
        values = subst (λ (o : Option (List ℕ × Resource)). IfSome o (λ one. HasValues model run one.1 profile)) (sym found) (subst (HasValues model run named.1) made (has_values named.1 of good));
        divide = subst (λ (p : Profile). DivideTime run.reach (starts_of p)) made (divides_time named.1);
        compared = subst (MayBeCompared run.reach) made (may_be_compared named.1 of good);
        within = subst (StaysWithin summed_most run.reach) made (stays_within named.1 of good);
      }

  pub are_profiles : IsTrue (valid_model model) → InRangeBelow model run → (profiles : List Profile) → profiles ≡ all_profiles model run → AreProfilesOf model run profiles
  are_profiles valid good profiles is = record {
    exact = is;
    by_number = λ number profile there.
        of_named valid good number profile (slice_get model.resources number) refl
        (sym (slice_get-map (λ (named : List ℕ × Resource). profile_of model run named.1) model.resources number) ∙ subst (λ (l : List Profile). slice_get l number ≡ Some profile) is there);
  }
