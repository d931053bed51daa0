-- The next batch of an engine beside old frames: they are its frames, or it differs.
use Rattle.std.proofs.Common.{◌≡◌, if◌then◌else◌, inl, inr, ℕ, zero, suc, ◌+◌, ◌<◌, ◌≤◌, Bool, true, false, IsTrue, List, [], ◌∷◌, length, get_or, drop, map, Option, Some, None, slice_get, option_map, refl, sym, ap, ◌∙◌, subst, arith, lit<}
use Rattle.std.proofs.lemmas.List.{at_drop_all}
use Rattle.std.specs.declared.cmp.Ordering.{Ordering}
use Rattle.std.specs.declared.cmp.Ordering.TheVariants.{Less, Equal, Greater}
use Rattle.aerie_base.specs.Paths.{path_cmp}
use Rattle.aerie_base.specs.Ranges.{number_limit, step_limit}
use Rattle.aerie_base.specs.declared.models.model.Parts.{Parts}
use Rattle.aerie_base.specs.models.ValidModel.{valid_model}
use Rattle.run_data.specs.TaskFrames.{Frame}
use Rattle.run_data.specs.declared.jobs.Job.{Job}
use Rattle.run_data.specs.declared.runs.Run.{Run}
use Rattle.run_data.specs.Batches.{by_path, put_by_path, in_front_unless_greater}
use Rattle.run_data.specs.Frames.{room_of}
use Rattle.run_data.specs.Fresh.{SimulationState}
use Rattle.run_data.specs.Jobs.{IsJobOf, view_limit}
use Rattle.run_data.specs.Tasks.{ready_jobs}
use Rattle.run_data.specs.Transitions.{Next, more, finished}
use Rattle.run_data.specs.laws.BatchFrames.{Among, Differ, BatchFrames}
use Rattle.run_data.specs.laws.FittingFrames.{AreOfEach, FitTree, FitAll, FittingFramesAreMade, CommittedFramesFit}
use Rattle.run_data.specs.laws.NumberedTasks.{OrderIsDistinct, OrderIsItself, FoundByNumber}
use Rattle.run_data.specs.laws.Orders.{EachOf}
use Rattle.run_data.specs.laws.ReachedStates.{ReachedIsOfModel}
use Rattle.run_data.specs.laws.SmallSteps.{IsJobWithin, WithinIsJob}
use Rattle.engine_core.specs.EngineStates.{EngineState, IsReachedPruned, IsEngineState, jobs_in}
use Rattle.engine_core.specs.PrunedPoints.{HasWhole, has_whole, jobs_of_whole, batch_of_whole, spent_within, jobs_are_ready}
use Rattle.fitting.specs.Fitting.{AreAmong, Lacks, FindsOrLacks}
use Rattle.fitting.specs.DecidedJobs.{each_weaker, DecidesAll, decides_first, decides_more, decides_none, decides_all}
use Rattle.resimulate.specs.Walks.{FindsReady, AreOfNextBatch, BatchDiffers}

-- ---- frames in order are the same frames

among_put : (one frame : Frame) (frames : List Frame) → Among one (frame ∷ frames) → Among one (put_by_path frame frames)
among_put one frame [] h = h
among_put one frame (first ∷ rest) h = by (path_cmp frame.path first.path) h (among_put one frame rest)
  where
    by : (o : Ordering) → Among one (frame ∷ first ∷ rest) → (Among one (frame ∷ rest) → Among one (put_by_path frame rest)) →
        Among one (in_front_unless_greater o frame first rest (put_by_path frame rest))
    by Less h further = h
    by Equal h further = h
    by Greater (inl e) further = inr (further (inl e))
    by Greater (inr (inl e)) further = inl e
    by Greater (inr (inr h)) further = inr (further (inr h))

among_sorted : (one : Frame) (frames : List Frame) → Among one frames → Among one (by_path frames)
among_sorted one [] h = h
among_sorted one (frame ∷ rest) (inl e) = among_put one frame (by_path rest) (inl e)
among_sorted one (frame ∷ rest) (inr h) = among_put one frame (by_path rest) (inr (among_sorted one rest h))

each_by : (P : Frame → Type 0) (frames : List Frame) → ((one : Frame) → Among one frames → P one) → EachOf P frames
each_by P [] gives = tt
each_by P (frame ∷ rest) gives = (gives frame (inl refl), each_by P rest (λ one h. gives one (inr h)))

-- ---- the ready jobs

-- of some jobs, each with a number, those from an index on begin with that there
pub jobs_from : (all : List (ℕ × Job)) (at number : ℕ) (job : Job) → at < length all → slice_get (map (λ one. one.0) all) at ≡ Some number → job ≡ get_or (map (λ one. one.1) all) at job →
    drop at all ≡ (number, job) ∷ drop (at + 1) all
jobs_from [] at number job less n j = absurd (omega (arith, less))
jobs_from (first ∷ rest) zero number job less n j = (let same : first.0 ≡ number = cc in λ i. (same i, sym j i) ∷ rest)
jobs_from (first ∷ rest) (suc at) number job less n j =
    jobs_from rest at number job (omega (arith, less)) n j ∙ ap (λ k. (number, job) ∷ drop k (first ∷ rest)) (let next : suc (at + 1) ≡ suc at + 1 = omega arith in next)

pub each_there : {A : Type 0} (P : A → Type 0) (all : List A) (at : ℕ) (one : A) (rest : List A) → EachOf P all → drop at all ≡ one ∷ rest → P one
each_there P [] zero one rest each e = absurd (cc)
each_there P [] (suc at) one rest each e = absurd (cc)
each_there P (first ∷ more_) zero one rest each e = (let same : first ≡ one = cc in subst P same each.0)
each_there P (first ∷ more_) (suc at) one rest each e = each_there P more_ at one rest each.1 e

module _ (of_model : ReachedIsOfModel) (engine : EngineState) (stands : IsEngineState engine) (valid : IsTrue (valid_model engine.model)) where
  whole_of : (at : SimulationState) → engine.point ≡ more at → HasWhole engine.model engine.plan engine.bound at
  whole_of at is = has_whole engine.model engine.plan engine.bound at (subst (IsReachedPruned engine.model engine.plan engine.bound) is stands.reached)

  within_of : (at : SimulationState) → engine.point ≡ more at → EachOf (λ job. IsJobWithin engine.model number_limit job.1) (ready_jobs at.cells at.table)
  within_of at is =
      let from = whole_of at is in
      subst (λ (jobs : List (ℕ × Job)). EachOf (λ job. IsJobWithin engine.model number_limit job.1) jobs)
      (jobs_of_whole of_model engine.model engine.plan engine.bound valid stands.plan at from)
      (of_model engine.model engine.plan engine.bound from.whole valid stands.plan from.reached).within

  pub jobs_within : EachOf (λ job. IsJobWithin engine.model number_limit job.1) (jobs_in engine.point)
  jobs_within = by engine.point refl
    where
      by : (point : Next SimulationState Run) → engine.point ≡ point → EachOf (λ job. IsJobWithin engine.model number_limit job.1) (jobs_in point)
      by (more at) is = within_of at is
      by (finished run) is = tt

  pub made_few : OrderIsDistinct → OrderIsItself → FoundByNumber → EachOf (λ job. job.0 ≤ step_limit) (jobs_in engine.point)
  made_few distinct itself found = by engine.point refl
    where
      by : (point : Next SimulationState Run) → engine.point ≡ point → EachOf (λ job. job.0 ≤ step_limit) (jobs_in point)
      by (more at) is =
          let from = whole_of at is in
          let spent = spent_within of_model engine.model engine.plan engine.bound valid stands.plan at from in
          let bound = stands.bound in
          each_weaker (λ job. job.0 ≤ at.spent) (λ job. job.0 ≤ step_limit) (λ job few. omega (arith, few, spent, bound)) (ready_jobs at.cells at.table)
          (jobs_are_ready of_model engine.model engine.plan engine.bound valid stands.plan at from distinct itself found).made
      by (finished run) is = tt

  module _ (is_job : WithinIsJob) where
    jobs_are : (jobs : List (ℕ × Job)) → EachOf (λ job. IsJobWithin engine.model number_limit job.1) jobs → EachOf (λ job. IsJobOf engine.model job.1) jobs
    jobs_are =
        each_weaker (λ job. IsJobWithin engine.model number_limit job.1) (λ job. IsJobOf engine.model job.1)
        (λ job within. is_job engine.model number_limit job.1 within (let less : number_limit < view_limit = lit< tt in less))

    -- frames that fit are those of the batch
    pub found_are : FittingFramesAreMade → (frames : List Frame) → FitAll engine.model engine.bound (jobs_in engine.point) frames → AreOfNextBatch engine frames
    found_are made frames fit =
        ap (option_map by_path) (made engine.model engine.bound (jobs_in engine.point) frames valid (jobs_are (jobs_in engine.point) jobs_within) fit)

    -- where none fit, the batch differs
    pub none_are : CommittedFramesFit → BatchFrames → (old : List Frame) → Lacks (FitAll engine.model engine.bound (jobs_in engine.point)) old → BatchDiffers (Some old) engine
    none_are committed_fit batch_frames_are old lacks at cells touched frames is whole e =
        let same : old ≡ frames = cc in
        let from = whole_of at is in
        let fits = committed_fit engine.model engine.bound at.spent at.cells cells (ready_jobs at.cells at.table) touched frames (jobs_are (ready_jobs at.cells at.table) (within_of at is)) whole in
        let are =
        batch_frames_are engine.model engine.plan engine.bound from.whole cells touched frames valid stands.plan from.reached
        (batch_of_whole of_model engine.model engine.plan engine.bound valid stands.plan at from ∙ whole) in
        lacks (subst Differ (sym same) are.differ) fits.fitting
        (subst (λ (p : Next SimulationState Run). FitAll engine.model engine.bound (jobs_in p) fits.fitting) (sym is) fits.fit)
        (subst (λ (l : List Frame). AreAmong l fits.fitting) (fits.in_order ∙ sym same)
        (each_by (λ one. Among one (by_path fits.fitting)) fits.fitting (λ one h. among_sorted one fits.fitting h)))

    -- what was found in an old batch, if all was
    pub found_if : FittingFramesAreMade → (old found : List Frame) (all : Bool) → FindsReady engine old (if all then Some found else None) → all ≡ true → AreOfNextBatch engine found
    found_if made old found true finds is = found_are made found finds
    found_if made old found false finds is = absurd (cc)

    pub none_if : CommittedFramesFit → BatchFrames → (old found : List Frame) (all : Bool) → FindsReady engine old (if all then Some found else None) → all ≡ false → BatchDiffers (Some old) engine
    none_if committed_fit batch_frames_are old found true finds is = absurd (cc)
    none_if committed_fit batch_frames_are old found false finds is = none_are committed_fit batch_frames_are old finds

-- the same of an old batch where it was found
pub differs_beside : {C : Type 0} (engine : EngineState) (now : C → List Frame) (beside : Option C) (old : C) → beside ≡ Some old → BatchDiffers (Some (now old)) engine → BatchDiffers (option_map now beside) engine
differs_beside engine now beside old is differs = subst (λ o. BatchDiffers (option_map now o) engine) (sym is) differs

-- where no old batch is beside it differs
pub differs_from_none : (engine : EngineState) → BatchDiffers None engine
differs_from_none engine at cells touched frames is whole e = absurd (cc)

-- ---- the ready jobs one after another

abbrev pub FitReady : Parts → ℕ → ℕ × Job → List Frame → Type 0
FitReady model bound job of_job = FitTree model bound (room_of job.1.path) job.0 job.1 of_job

module _ (engine : EngineState) (old : List Frame) where
  abbrev pub Decides : ℕ → List Frame → Type 0
  Decides at now = DecidesAll (FitReady engine.model engine.bound) old (jobs_in engine.point) (drop at (jobs_in engine.point)) [] now

  pub ready_first : (now : List Frame) → now ≡ [] → Decides 0 now
  ready_first now none = decides_first (FitReady engine.model engine.bound) old (jobs_in engine.point) [] now none

  pub ready_last : (at : ℕ) (now : List Frame) → length (jobs_in engine.point) ≤ at → Decides at now → FitAll engine.model engine.bound (jobs_in engine.point) now
  ready_last at now most so_far =
      let found = decides_all (FitReady engine.model engine.bound) old (jobs_in engine.point) [] now
      (subst (λ (l : List (ℕ × Job)). DecidesAll (FitReady engine.model engine.bound) old (jobs_in engine.point) l [] now)
      (at_drop_all (λ (l : List (ℕ × Job)). l) (jobs_in engine.point) at most) so_far) in
      subst (AreOfEach (FitReady engine.model engine.bound) (jobs_in engine.point)) (sym found.1) found.2

  module _ (model : Parts) (bound : ℕ) (same_model : engine.model ≡ model) (same_bound : engine.bound ≡ bound) (at number : ℕ) (job : Job) (now after : List Frame)
      (here : drop at (jobs_in engine.point) ≡ (number, job) ∷ drop (at + 1) (jobs_in engine.point)) (so_far : Decides at now) where
    begins : DecidesAll (FitReady engine.model engine.bound) old (jobs_in engine.point) ((number, job) ∷ drop (at + 1) (jobs_in engine.point)) [] now
    begins = subst (λ (l : List (ℕ × Job)). DecidesAll (FitReady engine.model engine.bound) old (jobs_in engine.point) l [] now) here so_far

    fits_engine : (there : Bool) → FindsOrLacks (FitTree model bound (room_of job.path) number job) old there now after →
        FindsOrLacks (FitTree engine.model engine.bound (room_of job.path) number job) old there now after
    fits_engine there h =
        subst (λ (m : Parts). FindsOrLacks (FitTree m engine.bound (room_of job.path) number job) old there now after) (sym same_model)
        (subst (λ n. FindsOrLacks (FitTree model n (room_of job.path) number job) old there now after) (sym same_bound) h)

    pub ready_more : (there : Bool) → there ≡ true → FindsOrLacks (FitTree model bound (room_of job.path) number job) old there now after → Decides (at + 1) after
    ready_more there is h =
        decides_more (FitReady engine.model engine.bound) old (jobs_in engine.point) [] (number, job) (drop (at + 1) (jobs_in engine.point)) now after begins
        (fits_engine true (subst (λ (b : Bool). FindsOrLacks (FitTree model bound (room_of job.path) number job) old b now after) is h))

    pub ready_none : (there : Bool) → there ≡ false → FindsOrLacks (FitTree model bound (room_of job.path) number job) old there now after → Lacks (FitAll engine.model engine.bound (jobs_in engine.point)) old
    ready_none there is h =
        decides_none (FitReady engine.model engine.bound) old (jobs_in engine.point) [] (number, job) (drop (at + 1) (jobs_in engine.point)) now begins
        (fits_engine false (subst (λ (b : Bool). FindsOrLacks (FitTree model bound (room_of job.path) number job) old b now after) is h))
