use Rattle.std.proofs.Common.{◌<◌, List, ℕ, arith, length, ap, ◌∙◌}
use Rattle.std.proofs.lemmas.List.{length-map, take_all}
use Rattle.aerie_base.specs.declared.models.Resource.{Resource}
use Rattle.profiles.specs.InOrder.{made_of}
use Rattle.profiles.specs.Profiles.{all_profiles, profile_of}
use Rattle.profiles.proofs.GivenProfiles.{are_profiles}
use Rattle.profiles.proofs.Resources.{resource_is}
use Rattle.profiles.proofs.profiling.profiles.Goals as goal

pub profile_for-requires-clause-resource : goal.profile_for-requires-clause-resource
profile_for-requires-clause-resource c =
    let same = c.resources-resources.ensures.value in
    let count = ap (λ (l : List (List ℕ × Resource)). length l) same in
    let within : c.loop-named.named-index < length c.args.model.now.resources = omega (arith, count, c.loop-named-test.true) in
    resource_is c.args.model.now c.loop-named.named-index c.named-item.result c.resources-resources.ensures.valid within (rw same at c.named-item.is)

pub loop-named-preserved : goal.loop-named-preserved
loop-named-preserved c =
    let model = c.args.model.now in
    let run = c.args.run.now in
    let same = c.resources-resources.ensures.value in
    let count = ap (λ (l : List (List ℕ × Resource)). length l) same in
    let within : c.loop-named.named-index < length model.resources = omega (arith, count, c.loop-named-test.true) in
    made_of (λ named. profile_of model run named.1) model.resources c.loop-named.named-index c.named-item.result _ _ _ within (rw same at c.named-item.is)
    c.in_ok-profile_for.ensures c.in_ok-push.ensures.pushed c.loop-named.invariant

pub returns : goal.returns
returns c =
    let model = c.args.model.now in
    let run = c.args.run.now in
    let same = c.resources-resources.ensures.value in
    let count = ap (λ (l : List (List ℕ × Resource)). length l) same in
    let all = length-map model.resources (λ (named : List ℕ × Resource). profile_of model run named.1) in
    are_profiles model run c.resources-resources.ensures.valid c.can_be_followed.ensures.in_range _
    (c.loop-named.invariant ∙ take_all c.loop-named.named-index (all_profiles model run) (omega (arith, all, count, c.loop-named-test.false)))
