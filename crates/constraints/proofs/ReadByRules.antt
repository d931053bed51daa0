-- What rules read, by the profiles of resources and the segments of datasets.
use Rattle.std.proofs.Common.{◌≡◌, ℕ, ◌<◌, ℤ, Bool, true, false, List, [], ◌∷◌, length, map, Option, Some, None, IfSome, IsTrue, slice_get, refl, sym, ap, subst, ◌∙◌, arith, true≢false}
use Rattle.std.proofs.lemmas.Option.{slice_get_within}
use Rattle.aerie_base.specs.declared.names.Name.{Name}
use Rattle.aerie_base.specs.declared.values.Value.{Value}
use Rattle.aerie_base.specs.declared.values.Kind.{Kind}
use Rattle.aerie_base.specs.declared.values.Kind.TheVariants as kind
use Rattle.aerie_base.specs.declared.models.Resource.{Resource}
use Rattle.aerie_base.specs.declared.models.Resource.TheVariants as resource
use Rattle.aerie_base.specs.declared.models.model.Parts.{Parts}
use Rattle.aerie_base.specs.expressions.Arithmetic.{number_in, same_value}
use Rattle.run_data.specs.declared.runs.Run.{Run}
use Rattle.run_data.specs.Values.{resource_value}
use Rattle.profiles.specs.declared.sampling.Profile.TheVariants.{Discrete, Linear}
use Rattle.profiles.specs.declared.sampling.Sample.{Sample}
use Rattle.profiles.specs.declared.sampling.Sample.TheVariants as sample
use Rattle.profiles.specs.GivenValues.{HasValues}
use Rattle.windows.specs.Begun.{StartsRise}
use Rattle.profiles.specs.Neighbours.{RiseUpTo, DivideTime, first_start_of}
use Rattle.windows.specs.declared.segments.Segment.{Segment}
use Rattle.windows.specs.Linear.{segments_value}
use Rattle.constraints.specs.declared.types.Reading.TheVariants as read
use Rattle.constraints.specs.Following.{FollowsReading, AreTimesEqual}
use Rattle.constraints.specs.Holding.{equals_or_not, reading_value, value_of_resource}
use Rattle.constraints.specs.OfModel.{is_of_kind, may_equal, resource_kind}
use Rattle.aerie_base.specs.expressions.Typing.{same_kind}
use Rattle.windows.specs.Times.{TimeSet, contains, AreIntervals}
use Rattle.constraints.proofs.SpanTimes.{same_times}
use Rattle.constraints.specs.Sources.{IsProfile}
use Rattle.constraints.specs.Steps.{Step, AreSteps, HaveNumbers, flat, step_value}
use Rattle.constraints.proofs.FlatPieces.{flat_value, flat_segments_are, flat_small}

-- ---- steps of a discrete profile

-- starts that divide the time of a run are steps from 0 on
rise_behind : (reach last : ℕ) (starts : List ℕ) → last < first_start_of reach starts → RiseUpTo reach starts → StartsRise last starts
rise_behind reach last [] before rise = tt
rise_behind reach last (from ∷ rest) before rise = (before, rise_behind reach from rest rise.0 rise.1)

below_first : (reach : ℕ) (from : ℕ) (rest : List ℕ) → RiseUpTo reach (from ∷ rest) → from < reach
below_first reach from [] rise = rise.0
below_first reach from (next ∷ rest) rise = omega (arith, rise.0, below_first reach next rest rise.1)

pub are_steps : (reach : ℕ) (steps : List Step) → DivideTime reach (map (λ step. step.0) steps) → AreSteps reach steps
are_steps reach [] divide = (tt, λ some. absurd (omega (arith, some, divide.begin_at_zero some)))
are_steps reach (step ∷ rest) divide =
    ((divide.begin_at_zero (omega (arith, below_first reach step.0 (map (λ step. step.0) rest) divide.rise)), rise_behind reach step.0 (map (λ step. step.0) rest) divide.rise.0 divide.rise.1), λ some. omega arith)

value_same : (a b : Value) → sample.Value a ≡ sample.Value b → a ≡ b
value_same a b same = ap value_in same
  where
    value_in : Sample → Value
    value_in (sample.Value v) = v
    value_in (sample.Sum n) = a

sum_same : (a b : ℤ) → sample.Sum a ≡ sample.Sum b → a ≡ b
sum_same a b same = ap sum_in same
  where
    sum_in : Sample → ℤ
    sum_in (sample.Sum n) = n
    sum_in (sample.Value v) = a

abbrev is_value : Sample → Bool
is_value (sample.Value v) = true
is_value (sample.Sum n) = false

-- a profile of values is of a discrete resource, and has its value at each time
discrete_values : (model : Parts) (run : Run) (of : Resource) (steps : List Step) → HasValues model run of (Discrete steps) → (t : ℕ) → t < run.reach → step_value steps t ≡ resource_value model run of t
discrete_values model run (resource.Discrete cell) steps has t below = value_same _ _ (has t below).1
discrete_values model run (resource.Linear form) steps has t below =
    absurd (true≢false (ap is_value (has t below).1))

pub steps_of_resource : (model : Parts) (run : Run) (number : ℕ) (steps : List Step) (found : Option (Name × Resource)) → slice_get model.resources number ≡ found →
    IfSome found (λ named. HasValues model run named.1 (Discrete steps)) → (found ≡ None → ⊥) → (t : ℕ) → t < run.reach → step_value steps t ≡ reading_value model run (read.Resource number) t
steps_of_resource model run number steps None is has some t below = absurd (some refl)
steps_of_resource model run number steps (Some named) is has some t below =
    discrete_values model run named.1 steps has t below ∙ sym (ap (λ (o : Option (Name × Resource)). value_of_resource model run o t) is)

-- ---- sums of a linear profile

abbrev is_linear : Resource → Bool
is_linear (resource.Discrete cell) = false
is_linear (resource.Linear form) = true

linear_values : (model : Parts) (run : Run) (of : Resource) (pieces : List Segment) → HasValues model run of (Linear pieces) → (t : ℕ) → t < run.reach → segments_value pieces t ≡ number_in (resource_value model run of t)
linear_values model run (resource.Discrete cell) pieces has t below =
    absurd (true≢false (sym (ap is_value (has t below).1)))
linear_values model run (resource.Linear form) pieces has t below = sum_same _ _ (has t below).1

linear_is : (model : Parts) (run : Run) (of : Resource) (pieces : List Segment) → HasValues model run of (Linear pieces) → (t : ℕ) → t < run.reach → is_linear of ≡ true
linear_is model run (resource.Discrete cell) pieces has t below =
    absurd (true≢false (sym (ap is_value (has t below).1)))
linear_is model run (resource.Linear form) pieces has t below = refl

-- ---- where a number stands

not_there : {A : Type 0} (xs : List A) (n : ℕ) → (slice_get xs n ≡ None → ⊥) → n < length xs
not_there xs n some = go (slice_get xs n) refl
  where
    go : (found : Option _) → slice_get xs n ≡ found → n < length xs
    go None is = absurd (some is)
    go (Some x) is = slice_get_within xs n x is

-- a thing of some type is there
pub kind_there : (model : Parts) (number : ℕ) (of : Kind) → IsTrue (is_of_kind of (resource_kind model.cells (slice_get model.resources number))) → slice_get model.resources number ≡ None → ⊥
kind_there model number of typed none = no_kind (subst (λ (o : Option (Name × Resource)). IsTrue (is_of_kind of (resource_kind model.cells o))) none typed)
  where
    no_kind : IsTrue false → ⊥
    no_kind wrong = true≢false (sym wrong)

pub number_there : (model : Parts) (number : ℕ) → (slice_get model.resources number ≡ None → ⊥) → number < length model.resources
number_there model number some = not_there model.resources number some

-- ---- what a rule may read

kind_in : (model : Parts) (run : Run) (named : Name × Resource) (of : Kind) → IsTrue (is_of_kind of (resource_kind model.cells (Some named))) → is_linear named.1 ≡ true → IsTrue (same_kind kind.Int of)
kind_in model run (name, resource.Discrete cell) of typed linear = absurd (true≢false (sym linear))
kind_in model run (name, resource.Linear form) of typed linear = typed

no_variant : (model : Parts) (v : Value) (named : Name × Resource) → IsTrue (may_equal model v (resource_kind model.cells (Some named))) → is_linear named.1 ≡ true → ⊥
no_variant model v (name, resource.Discrete cell) typed linear = true≢false (sym linear)
no_variant model v (name, resource.Linear form) typed linear = true≢false (sym typed)

-- what is compared with a value is there
pub equal_there : (model : Parts) (v : Value) (number : ℕ) → IsTrue (may_equal model v (resource_kind model.cells (slice_get model.resources number))) → slice_get model.resources number ≡ None → ⊥
equal_there model v number typed none =
    true≢false (sym (subst (λ (o : Option (Name × Resource)). IsTrue (may_equal model v (resource_kind model.cells o))) none typed))

-- the times at which a discrete resource is equal
pub discrete_times : (model : Parts) (run : Run) (number : ℕ) (v : Value) (equal : Bool) (steps : List Step) (made : TimeSet) → IsTrue (may_equal model v (resource_kind model.cells (slice_get model.resources number))) →
    IsProfile model run number (Discrete steps) → made.reach ≡ run.reach → AreIntervals made.reach (λ t. equals_or_not equal (same_value (step_value steps t) v)) made.intervals → AreTimesEqual model run (read.Resource number) v equal made
discrete_times model run number v equal steps made typed profile reach times = record {
  reach_is = reach;
  times = same_times made.reach _ _ made.intervals
      (λ t below. ap (λ (x : Value). equals_or_not equal (same_value x v))
      (steps_of_resource model run number steps (slice_get model.resources number) refl profile.values (equal_there model v number typed) t (subst (λ n. t < n) reach below))) times;
}

-- no linear resource is compared with a value
pub no_linear : (model : Parts) (run : Run) (number : ℕ) (v : Value) (pieces : List Segment) (found : Option (Name × Resource)) → slice_get model.resources number ≡ found →
    IsTrue (may_equal model v (resource_kind model.cells found)) → IfSome found (λ named. HasValues model run named.1 (Linear pieces)) → (t : ℕ) → t < run.reach → ⊥
no_linear model run number v pieces None is typed has t below = true≢false (sym typed)
no_linear model run number v pieces (Some named) is typed has t below = no_variant model v named typed (linear_is model run named.1 pieces has t below)

pub linear_times : (model : Parts) (run : Run) (number : ℕ) (v : Value) (equal : Bool) (pieces : List Segment) (made : TimeSet) → IsTrue (may_equal model v (resource_kind model.cells (slice_get model.resources number))) →
    IsProfile model run number (Linear pieces) → made.reach ≡ run.reach → AreIntervals made.reach (λ t. contains [] t) made.intervals → AreTimesEqual model run (read.Resource number) v equal made
linear_times model run number v equal pieces made typed profile reach times = record {
  reach_is = reach;
  times = same_times made.reach _ _ made.intervals
      (λ t below. absurd (no_linear model run number v pieces (slice_get model.resources number) refl typed profile.values t (subst (λ n. t < n) reach below))) times;
}

-- ---- numbers of a resource

pub discrete_pieces : (model : Parts) (run : Run) (number : ℕ) (steps : List Step) (made : List Segment) → IsTrue (is_of_kind kind.Int (resource_kind model.cells (slice_get model.resources number))) →
    IsProfile model run number (Discrete steps) → made ≡ map flat steps → HaveNumbers made → FollowsReading model run (read.Resource number) made
discrete_pieces model run number steps made typed profile made_is numbers = subst (FollowsReading model run (read.Resource number)) (sym made_is) (record {
  form = flat_segments_are run.reach steps profile.divide (subst HaveNumbers made_is numbers);
  values = λ t below.
      flat_value steps t
      ∙ ap number_in (steps_of_resource model run number steps (slice_get model.resources number) refl profile.values (kind_there model number kind.Int typed) t below);
  small = λ t below. let small = flat_small steps t (subst HaveNumbers made_is numbers) in omega (arith, small);
})

-- by the resource that is found
found_values : (model : Parts) (run : Run) (pieces : List Segment) (found : Option (Name × Resource)) → IfSome found (λ named. HasValues model run named.1 (Linear pieces)) →
    (found ≡ None → ⊥) → (t : ℕ) → t < run.reach → segments_value pieces t ≡ number_in (value_of_resource model run found t)
found_values model run pieces None has some t below = absurd (some refl)
found_values model run pieces (Some named) has some t below = linear_values model run named.1 pieces has t below

pub linear_pieces : (model : Parts) (run : Run) (number : ℕ) (pieces : List Segment) → IsTrue (is_of_kind kind.Int (resource_kind model.cells (slice_get model.resources number))) →
    IsProfile model run number (Linear pieces) → FollowsReading model run (read.Resource number) pieces
linear_pieces model run number pieces typed profile = record {
  form = profile.compared;
  values = λ t below. found_values model run pieces (slice_get model.resources number) profile.values (kind_there model number kind.Int typed) t below;
  small = λ t below. let small = profile.within t below in omega (arith, small);
}
