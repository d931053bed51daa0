-- The generations of a batch, one after another.
use Rattle.std.proofs.Common.{◌≡◌, ℕ, zero, suc, ◌+◌, ◌*◌, ◌-◌, ◌<◌, ◌≤◌, IsTrue, List, [], ◌∷◌, ◌++◌, All, map, length, Option, Some, None, refl, sym, ap, ◌∙◌, subst, append_assoc, arith}
use Rattle.std.proofs.lemmas.List.{append-nil, nil_from_length}
use Rattle.std.proofs.lemmas.List.Elements.{All-nil, All-cons}
use Rattle.aerie_base.specs.Paths.{child_limit}
use Rattle.aerie_base.specs.Ranges.{number_limit, step_limit}
use Rattle.aerie_base.specs.declared.models.model.Parts.{Parts}
use Rattle.aerie_base.specs.models.ValidModel.{valid_model}
use Rattle.effect_cells.specs.declared.effects.CellState.{CellState}
use Rattle.run_data.specs.TaskFrames.{Frame}
use Rattle.run_data.specs.declared.frames.Record.{Record}
use Rattle.run_data.specs.declared.jobs.Job.{Job}
use Rattle.run_data.specs.declared.steppers.Wave.TheVariants.{Frames, Spent}
use Rattle.run_data.specs.Batches.{limit, batch, cost_of}
use Rattle.run_data.specs.Jobs.{IsJobOf, view_limit}
use Rattle.run_data.specs.Records.{unmatched}
use Rattle.run_data.specs.Waves.{frames_of, wave_of}
use Rattle.run_data.specs.laws.Budgets.{CostIsWithin}
use Rattle.run_data.specs.laws.Generations.{PendingStep, Generation, beside_generation, generation, beside_frames, further, generations, pending_of}
use Rattle.run_data.specs.laws.Orders.{EachOf, EachTwo, AreApart}
use Rattle.run_data.specs.laws.SmallSteps.{IsJobWithin, StepsAreSmall, PendingStepsAreJobs, WithinIsJob}
use Rattle.run_data.specs.laws.WaveFuel.{WaveTellsFrames, SpentIsLimit}
use Rattle.run_data.specs.laws.WaveGenerations.{generation_of, generation_by, GenerationByFrames}
use Rattle.engine_core.specs.BatchGenerations.{jobs_of, gathered_so_far, AddsGeneration, IsGenerationRun, MayRun, PaysForGeneration, LooksForGeneration, in_generations, reach_after, AreDueJobs, StandsBetween, AreAllFrames}
use Rattle.engine_core.proofs.SeenSteps.{seen_steps}
use Rattle.engine_core.proofs.FrameByFrame.{as_many, frame_counts}

-- ---- frames in front

nothing_first : (frames : Option (List Frame)) → frames ≡ beside_frames (Some []) frames
nothing_first None = refl
nothing_first (Some frames) = refl

beside_more : (first second : List Frame) (third : Option (List Frame)) → beside_frames (Some first) (beside_frames (Some second) third) ≡ beside_frames (Some (first ++ second)) third
beside_more first second None = refl
beside_more first second (Some third) = ap Some (sym (append_assoc first second third))

jobs_are : (jobs : List (ℕ × Job)) → map (λ (due : PendingStep). due.job) (map pending_of jobs) ≡ jobs_of jobs
jobs_are [] = refl
jobs_are (job ∷ rest) = ap (λ (l : List Job). job.1 ∷ l) (jobs_are rest)

-- ---- numbers of views

weaker : (model : Parts) (most more : ℕ) → most ≤ more → (jobs : List (ℕ × Job)) → EachOf (λ job. IsJobWithin model most job.1) jobs → EachOf (λ job. IsJobWithin model more job.1) jobs
weaker model most more less [] h = tt
weaker model most more less (job ∷ rest) h = (
  record { state = h.0.state; view = h.0.view; locals = h.0.locals; within = λ cell state is. (let near = h.0.within cell state is in omega (arith, near, less)) },
  weaker model most more less rest h.1,
)

to_pending : (P : Job → Type 0) (jobs : List (ℕ × Job)) → EachOf (λ job. P job.1) jobs → EachOf (λ due. P due.job) (map pending_of jobs)
to_pending P [] h = tt
to_pending P (job ∷ rest) h = (h.0, to_pending P rest h.1)

from_pending : (P : Job → Type 0) (jobs : List (ℕ × Job)) → EachOf (λ due. P due.job) (map pending_of jobs) → EachOf (λ job. P job.1) jobs
from_pending P [] h = tt
from_pending P (job ∷ rest) h = (h.0, from_pending P rest h.1)

all_are_jobs : WithinIsJob → (model : Parts) (most : ℕ) (jobs : List (ℕ × Job)) → most < view_limit → EachOf (λ job. IsJobWithin model most job.1) jobs → All (IsJobOf model) (jobs_of jobs)
all_are_jobs law model most [] less h = All-nil (IsJobOf model)
all_are_jobs law model most (job ∷ rest) less h = All-cons (IsJobOf model) job.1 (jobs_of rest) (law model most job.1 h.0 less) (all_are_jobs law model most rest less h.1)

-- ---- begin

pub begins : (model : Parts) (bound spent : ℕ) (jobs : List (ℕ × Job)) (made : List Frame) → made ≡ [] → spent ≤ bound → AreDueJobs model jobs →
    StandsBetween model bound spent jobs (suc child_limit) made (bound - spent) jobs
unfolding in_generations
begins model bound spent jobs made none less due = record {
  whole =
      nothing_first (generations model bound (child_limit + 1) (map pending_of jobs))
      ∙ ap (λ (l : List Frame). beside_frames (Some l) (generations model bound (child_limit + 1) (map pending_of jobs))) (sym none);
  paid = (let free : cost_of made ≡ 0 = ap cost_of none in omega (arith, less, free));
  within = due.within;
  few = due.made;
}

-- ---- one iteration

module _ (model : Parts) (bound spent : ℕ) (jobs : List (ℕ × Job)) (count : ℕ) (made : List Frame) (left : ℕ) (dues : List (ℕ × Job)) (stands : StandsBetween model bound spent jobs (suc count) made left dues) where
  -- its jobs may be run
  pub can_run : WithinIsJob → StepsAreSmall → CostIsWithin → IsTrue (valid_model model) → bound ≤ step_limit → count ≤ child_limit → MayRun model bound dues
  can_run law small cost valid few least = record {
    may = all_are_jobs law model (reach_after (child_limit + 1 - suc count)) dues (omega arith) stands.within;
    seen = seen_steps small cost model bound (reach_after (child_limit + 1 - suc count)) dues valid few (omega arith) stands.within stands.few;
  }

  -- where the wave is spent, the batch stops by the limit
  stops : SpentIsLimit → EachTwo AreApart jobs → wave_of model left (jobs_of dues) ≡ Spent → (cells : List CellState) → batch model bound spent cells jobs ≡ limit
  unfolding in_generations
  stops law apart is cells =
      law model bound spent left cells jobs made count (map pending_of dues) apart stands.whole (omega (arith, stands.paid)) (omega (arith, stands.paid))
      (ap (wave_of model left) (jobs_are dues) ∙ is)

  pub stopped : SpentIsLimit → EachTwo AreApart jobs → (after : List Frame) (next : Option (List (ℕ × Job) × ℕ)) → next ≡ None → IsGenerationRun model dues left made after next →
      (cells : List CellState) → batch model bound spent cells jobs ≡ limit
  stopped law apart after next e iteration = stops law apart (subst (IsGenerationRun model dues left made after) e iteration)

  -- the generation is what its frames say
  generation_is : WaveTellsFrames → GenerationByFrames → (frames : List Frame) → wave_of model left (jobs_of dues) ≡ Frames frames →
      generation model bound (map pending_of dues) ≡ generation_of model (map pending_of dues) frames
  generation_is tells law frames is =
      law model bound (map pending_of dues) ∙ ap (λ (l : List Job). generation_by model (map pending_of dues) (frames_of model bound l)) (jobs_are dues)
      ∙ ap (generation_by model (map pending_of dues)) (tells model left bound (jobs_of dues) frames (omega (arith, stands.paid)) is).0

  module _ (tells : WaveTellsFrames) (law : GenerationByFrames) (small : PendingStepsAreJobs) (valid : IsTrue (valid_model model)) (few : bound ≤ step_limit) (least : count ≤ child_limit)
      (frames after : List Frame) (rest : ℕ) (next : List (ℕ × Job)) (is : wave_of model left (jobs_of dues) ≡ Frames frames) (adds : AddsGeneration model dues frames made after next) (costs : left ≡ rest + cost_of frames) where
    abbrev Splits : Generation → Type 0
    Splits here = (own : List Frame) × (here ≡ Some (own, map pending_of next)) × (after ≡ made ++ own)

    splits : (here : Generation) → beside_generation (gathered_so_far made []) here ≡ gathered_so_far after next → Splits here
    splits None e = absurd (cc)
    splits (Some here) e =
        let pair : ◌≡◌ {A = List Frame × List PendingStep} (made ++ here.0, here.1) (after, map pending_of next) = cc in
        (here.0, ap (λ (l : List PendingStep). Some (here.0, l)) (ap (λ (p : List Frame × List PendingStep). p.1) pair), sym (ap (λ (p : List Frame × List PendingStep). p.0) pair))

    iterations : StandsBetween model bound spent jobs count after rest next
    iterations =
        let parts = splits (generation_of model (map pending_of dues) frames) adds in
        let here = generation_is tells law frames is ∙ parts.1 in
        let told = tells model left bound (jobs_of dues) frames (omega (arith, stands.paid)) is in
        let counts = frame_counts model dues frames made after next (as_many model bound dues frames told.0) adds in
        record {
          whole =
              stands.whole
              ∙ ap (λ (g : Generation). beside_frames (Some made) (further g (generations model bound count))) here
              ∙ beside_more made parts.0 (generations model bound count (map pending_of next))
              ∙ ap (λ (l : List Frame). beside_frames (Some l) (generations model bound count (map pending_of next))) (sym parts.2);
          paid = omega (arith, stands.paid, counts.cost, costs);
          within =
              weaker model (reach_after (child_limit + 1 - suc count) + bound * number_limit) (reach_after (child_limit + 1 - count)) (omega (arith, few, least)) next
              (from_pending (IsJobWithin model (reach_after (child_limit + 1 - suc count) + bound * number_limit)) next
              (small model bound (reach_after (child_limit + 1 - suc count)) (map pending_of dues) parts.0 (map pending_of next) valid
              (to_pending (IsJobWithin model (reach_after (child_limit + 1 - suc count))) dues stands.within) here));
          few = counts.few;
        }

pub iterated : (model : Parts) (bound spent : ℕ) (jobs : List (ℕ × Job)) (count : ℕ) (made : List Frame) (left : ℕ) (dues : List (ℕ × Job)) → StandsBetween model bound spent jobs (suc count) made left dues →
    WaveTellsFrames → GenerationByFrames → PendingStepsAreJobs → IsTrue (valid_model model) → bound ≤ step_limit → count ≤ child_limit →
    (after : List Frame) (next : Option (List (ℕ × Job) × ℕ)) (later : List (ℕ × Job)) (rest : ℕ) → next ≡ Some (later, rest) → IsGenerationRun model dues left made after next →
    StandsBetween model bound spent jobs count after rest later
iterated model bound spent jobs count made left dues stands tells law small valid few least after next later rest e iteration =
    let is = subst (IsGenerationRun model dues left made after) e iteration in
    iterations model bound spent jobs count made left dues stands tells law small valid few least is.0 after rest later is.1 is.2 is.3

-- one generation less is left
pub one_less : (model : Parts) (bound spent : ℕ) (jobs : List (ℕ × Job)) (iteration : ℕ) (made : List Frame) (left : ℕ) (dues : List (ℕ × Job)) → iteration < child_limit →
    StandsBetween model bound spent jobs (child_limit - iteration) made left dues → StandsBetween model bound spent jobs (suc (child_limit - (iteration + 1))) made left dues
one_less model bound spent jobs iteration made left dues less stands =
    subst (λ n. StandsBetween model bound spent jobs n made left dues) (let e : child_limit - iteration ≡ suc (child_limit - (iteration + 1)) = omega (arith, less) in e) stands

-- ---- what is paid

pub pays_on : {A : Type 0} (next : Option A) (one : A) (records had : List Record) (made after : List Frame) (start before now : ℕ) → next ≡ Some one → records ≡ had →
    before ≤ start + unmatched made had → PaysForGeneration next records made after before now → now ≤ start + unmatched after had
pays_on next one records had made after start before now e same paid iteration =
    let at_some : now + unmatched made records ≤ before + unmatched after records = subst (λ o. PaysForGeneration o records made after before now) e iteration in
    let at_made : unmatched made records ≡ unmatched made had = ap (unmatched made) same in
    let at_after : unmatched after records ≡ unmatched after had = ap (unmatched after) same in
    omega (arith, at_some, at_made, at_after, paid)

pub looks_on : {A : Type 0} (next : Option A) (one : A) (made after : List Frame) (start before now : ℕ) → next ≡ Some one →
    before ≤ start + 2 * length made → LooksForGeneration next made after before now → now ≤ start + 2 * length after
looks_on next one made after start before now e paid iteration =
    let at_some : now + 2 * length made ≤ before + 2 * length after = subst (λ o. LooksForGeneration o made after before now) e iteration in omega (arith, at_some, paid)

-- ---- the end

none_more : (model : Parts) (bound count : ℕ) → generations model bound count [] ≡ Some []
none_more model bound zero = refl
none_more model bound (suc count) = ap (beside_frames (Some [])) (none_more model bound count)

pub ended : (model : Parts) (bound spent : ℕ) (jobs : List (ℕ × Job)) (count : ℕ) (made : List Frame) (left : ℕ) (dues : List (ℕ × Job)) → length dues ≡ 0 →
    StandsBetween model bound spent jobs count made left dues → AreAllFrames model bound spent jobs (Some made)
ended model bound spent jobs count made left dues none stands = (
  stands.whole
      ∙ ap (λ (l : List (ℕ × Job)). beside_frames (Some made) (generations model bound count (map pending_of l))) (nil_from_length dues none)
      ∙ ap (beside_frames (Some made)) (none_more model bound count) ∙ ap Some (append-nil made),
  omega (arith, stands.paid),
)

pub out_of_iterations : (model : Parts) (bound spent : ℕ) (jobs : List (ℕ × Job)) (made : List Frame) (left : ℕ) (dues : List (ℕ × Job)) (iteration : ℕ) → child_limit ≤ iteration →
    StandsBetween model bound spent jobs (child_limit - iteration) made left dues → AreAllFrames model bound spent jobs (Some made)
out_of_iterations model bound spent jobs made left dues iteration past stands = (
  stands.whole
      ∙ ap (λ n. beside_frames (Some made) (generations model bound n (map pending_of dues))) (let e : child_limit - iteration ≡ 0 = omega (arith, past) in e)
      ∙ ap Some (append-nil made),
  omega (arith, stands.paid),
)
