use Rattle.std.proofs.Common.{◌≡◌, ℕ, ◌<◌, List, length, Option, Some, IfSome, option_map, slice_get, sym, ap, subst, ◌∙◌, arith}
use Rattle.aerie_base.specs.declared.models.Resource.{Resource}
use Rattle.profiles.specs.declared.sampling.Profile.{Profile}
use Rattle.profiles.specs.GivenValues.{summed_most, HasValues, HasSlopes, IsShortest, StaysWithin}
use Rattle.profiles.specs.Neighbours.{DivideTime, MayBeCompared, NoneContinues, starts_of}
use Rattle.profiles.specs.Profiles.{profile_of}
use Rattle.profiles.proofs.GivenProfiles.{has_values, has_slopes, is_shortest, none_continues, divides_time, may_be_compared, stays_within}
use Rattle.profiles.proofs.Resources.{resource_is, found_at}
use Rattle.profiles.proofs.profiling.profile.Goals as goal

pub profile_for-requires-clause-resource : goal.profile_for-requires-clause-resource
profile_for-requires-clause-resource c =
    let same = c.resources-resources.ensures.value in
    let count = ap (λ (l : List (List ℕ × Resource)). length l) same in
    let within : c.from-at.result < length c.args.model.now.resources = omega (arith, c.from-at.ensures, c.requires.resource) in
    resource_is c.args.model.now c.from-at.result c.index-resources-at.result c.resources-resources.ensures.valid within (rw same at c.index-resources-at.is)

pub returns : goal.returns
returns c =
    let model = c.args.model.now in
    let run = c.args.run.now in
    let named : List ℕ × Resource = c.index-resources-at.result in
    let same = c.resources-resources.ensures.value in
    let within : c.from-at.result < length model.resources = omega (arith, c.from-at.ensures, c.requires.resource) in
    let at = rw same at c.index-resources-at.is in
    let there : slice_get model.resources c.from-at.result ≡ Some named = found_at model.resources c.from-at.result named within at in
    let found : slice_get model.resources c.args.resource ≡ Some named = rw c.from-at.ensures at there in
    let is = resource_is model c.from-at.result named c.resources-resources.ensures.valid within at in
    let good = c.can_be_followed.ensures.in_range in
    let made : profile_of model run named.1 ≡ c.in_ok-made.made = sym c.in_ok-made.ensures in
    let some : Some named ≡ slice_get model.resources c.args.resource = sym found in
    record {
      exact = ap (λ (p : Profile). Some p) c.in_ok-made.ensures ∙ sym (ap (option_map (λ (named : List ℕ × Resource). profile_of model run named.1)) found);
      values = subst (λ (o : Option (List ℕ × Resource)). IfSome o (λ one. HasValues model run one.1 c.in_ok-made.made)) some
          (subst (HasValues model run named.1) made (has_values model run named.1 is good));
      slopes = subst (λ (o : Option (List ℕ × Resource)). IfSome o (λ one. HasSlopes model run one.1 c.in_ok-made.made)) some
          (subst (HasSlopes model run named.1) made (has_slopes model run named.1));
      fewest = subst (λ (o : Option (List ℕ × Resource)). IfSome o (λ one. IsShortest model run one.1 c.in_ok-made.made)) some
          (subst (IsShortest model run named.1) made (is_shortest model run named.1));
      none_continues = subst NoneContinues made (none_continues model run named.1);
      divide = subst (λ (p : Profile). DivideTime run.reach (starts_of p)) made (divides_time model run named.1);
      compared = subst (MayBeCompared run.reach) made (may_be_compared model run named.1 is good);
      within = subst (StaysWithin summed_most run.reach) made (stays_within model run named.1 is good);
    }
