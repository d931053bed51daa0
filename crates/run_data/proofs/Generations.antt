-- The frames of jobs and of all children below them: job by job, or a generation at a time.
use Rattle.std.proofs.Common.{◌≡◌, ℕ, zero, suc, ◌+◌, ◌<◌, List, [], ◌∷◌, ◌++◌, map, Option, Some, None, refl, sym, ap, ◌∙◌, append_assoc, subst, arith}
use Rattle.std.specs.List.Sorted.{IsPermutation}
use Rattle.std.proofs.lemmas.List.Sorted.{IsPermutation-refl, IsPermutation-trans, IsPermutation-append_left, IsPermutation-append_right, IsPermutation-append_comm}
use Rattle.aerie_base.specs.Paths.{child_limit}
use Rattle.aerie_base.specs.declared.models.model.Parts.{Parts}
use Rattle.effect_cells.specs.declared.effects.CellState.{CellState}
use Rattle.effect_cells.specs.declared.effects.Effect.{Effect}
use Rattle.effect_cells.specs.Cells.{emitted}
use Rattle.run_data.specs.declared.jobs.Job.{Job}
use Rattle.run_data.specs.TaskFrames.{Frame}
use Rattle.run_data.specs.declared.frames.Item.{Item}
use Rattle.run_data.specs.declared.frames.Item.TheVariants as item
use Rattle.run_data.specs.Steps.{Stepped}
use Rattle.run_data.specs.Frames.{Making, with_effect, with_child, with_frame, job_step, frame_of, child_job, of_items, of_step, too_deep, made_within, made_by, made_by_all, room_of}
use Rattle.run_data.specs.laws.Generations.{PendingStep, child_jobs, deep_frame, Generation, step_generation, beside_generation, generation, beside_frames, further, generations, frames_in, pending_of, SameFrames, SameByGenerations}

-- ---- the same frames

same_itself : (frames : Option (List Frame)) → SameFrames frames frames
same_itself None = tt
same_itself (Some frames) = IsPermutation-refl frames

same_trans : (first second third : Option (List Frame)) → SameFrames first second → SameFrames second third → SameFrames first third
same_trans None None None h k = tt
same_trans None None (Some third) h k = absurd k
same_trans None (Some second) third h k = absurd h
same_trans (Some first) None third h k = absurd h
same_trans (Some first) (Some second) None h k = absurd k
same_trans (Some first) (Some second) (Some third) h k = IsPermutation-trans first second third h k

same_beside : (first rest again : Option (List Frame)) → SameFrames rest again → SameFrames (beside_frames first rest) (beside_frames first again)
same_beside None rest again h = tt
same_beside (Some first) None None h = tt
same_beside (Some first) None (Some again) h = absurd h
same_beside (Some first) (Some rest) None h = absurd h
same_beside (Some first) (Some rest) (Some again) h = IsPermutation-append_right first rest again h

same_further : (here : Generation) (go again : List PendingStep → Option (List Frame)) → ((dues : List PendingStep) → SameFrames (go dues) (again dues)) → SameFrames (further here go) (further here again)
same_further None go again h = tt
same_further (Some here) go again h = same_beside (Some here.0) (go here.1) (again here.1) (h here.1)

-- ---- job by job

module _ (model : Parts) (budget : ℕ) where
  abbrev pub one : PendingStep → Generation
  one due = step_generation model due (job_step model budget due.job)

  abbrev pub all_down : (PendingStep → Option (List Frame)) → List PendingStep → Option (List Frame)
  all_down go [] = Some []
  all_down go (due ∷ rest) = beside_frames (go due) (all_down go rest)

  abbrev pub down : ℕ → PendingStep → Option (List Frame)
  down zero due = Some []
  down (suc count) due = further (one due) (all_down (down count))

  append_frames : (first second third : Option (List Frame)) → beside_frames first (beside_frames second third) ≡ beside_frames (beside_frames first second) third
  append_frames None second third = refl
  append_frames (Some first) None third = refl
  append_frames (Some first) (Some second) None = refl
  append_frames (Some first) (Some second) (Some third) = ap Some (sym (append_assoc first second third))

  nothing_first : (frames : Option (List Frame)) → frames ≡ beside_frames (Some []) frames
  nothing_first None = refl
  nothing_first (Some frames) = refl

  pub down_append : (go : PendingStep → Option (List Frame)) (first second : List PendingStep) → all_down go (first ++ second) ≡ beside_frames (all_down go first) (all_down go second)
  down_append go [] second = nothing_first (all_down go second)
  down_append go (due ∷ rest) second = ap (beside_frames (go due)) (down_append go rest second) ∙ append_frames (go due) (all_down go rest) (all_down go second)

  regroup : (a x b y : List Frame) → IsPermutation ((a ++ x) ++ (b ++ y)) ((a ++ b) ++ (x ++ y))
  regroup a x b y =
      subst (λ l. IsPermutation l ((a ++ b) ++ (x ++ y))) (sym (append_assoc a x (b ++ y)))
      (subst (λ l. IsPermutation (a ++ (x ++ (b ++ y))) l) (sym (append_assoc a b (x ++ y)))
      (IsPermutation-append_right a (x ++ (b ++ y)) (b ++ (x ++ y))
      (subst (λ l. IsPermutation l (b ++ (x ++ y))) (append_assoc x b y)
      (subst (λ l. IsPermutation ((x ++ b) ++ y) l) (append_assoc b x y)
      (IsPermutation-append_left y (x ++ b) (b ++ x) (IsPermutation-append_comm x b))))))

  two_beside : (a b : List Frame) (x y : Option (List Frame)) →
      SameFrames (beside_frames (beside_frames (Some a) x) (beside_frames (Some b) y)) (beside_frames (Some (a ++ b)) (beside_frames x y))
  two_beside a b None y = tt
  two_beside a b (Some x) None = tt
  two_beside a b (Some x) (Some y) = regroup a x b y

  pub none_beside : (frames : Option (List Frame)) → beside_frames frames None ≡ None
  none_beside None = refl
  none_beside (Some frames) = refl

  beside_same : (go : PendingStep → Option (List Frame)) (here rest : Generation) →
      SameFrames (beside_frames (further here (all_down go)) (further rest (all_down go))) (further (beside_generation here rest) (all_down go))
  beside_same go None rest = tt
  beside_same go (Some here) None = subst (λ l. SameFrames l None) (sym (none_beside (beside_frames (Some here.0) (all_down go here.1)))) tt
  beside_same go (Some here) (Some rest) =
      subst (λ l. SameFrames (beside_frames (beside_frames (Some here.0) (all_down go here.1)) (beside_frames (Some rest.0) (all_down go rest.1))) (beside_frames (Some (here.0 ++ rest.0)) l))
      (sym (down_append go here.1 rest.1)) (two_beside here.0 rest.0 (all_down go here.1) (all_down go rest.1))

  one_generation : (count : ℕ) (dues : List PendingStep) → SameFrames (all_down (down (suc count)) dues) (further (generation model budget dues) (all_down (down count)))
  one_generation count [] = IsPermutation-refl []
  one_generation count (due ∷ rest) =
      same_trans (beside_frames (down (suc count) due) (all_down (down (suc count)) rest))
      (beside_frames (down (suc count) due) (further (generation model budget rest) (all_down (down count)))) _
      (same_beside (down (suc count) due) _ _ (one_generation count rest))
      (beside_same (down count) (one due) (generation model budget rest))

  pub zero_down : (dues : List PendingStep) → all_down (down zero) dues ≡ Some []
  zero_down [] = refl
  zero_down (due ∷ rest) = ap (beside_frames (Some [])) (zero_down rest)

  same_generations : (count : ℕ) (dues : List PendingStep) → SameFrames (all_down (down count) dues) (generations model budget count dues)
  same_generations zero dues = subst (λ l. SameFrames l (Some [])) (sym (zero_down dues)) (IsPermutation-refl [])
  same_generations (suc count) dues =
      same_trans (all_down (down (suc count)) dues) (further (generation model budget dues) (all_down (down count))) (generations model budget (suc count) dues)
      (one_generation count dues)
      (same_further (generation model budget dues) (all_down (down count)) (generations model budget count) (same_generations count))

  -- ---- the frames of a job are those

  abbrev all_jobs : (Job → Option (List Frame)) → List Job → Option (List Frame)
  all_jobs go [] = Some []
  all_jobs go (job ∷ rest) = beside_frames (go job) (all_jobs go rest)

  frames_of_child : (child rest : Making) → frames_in (with_child child rest) ≡ beside_frames (frames_in child) (frames_in rest)
  frames_of_child None rest = refl
  frames_of_child (Some child) None = refl
  frames_of_child (Some child) (Some rest) = refl

  frames_of_effect : (cell : ℕ) (effect : Effect) (making : Making) → frames_in (with_effect cell effect making) ≡ frames_in making
  frames_of_effect cell effect None = refl
  frames_of_effect cell effect (Some made) = refl

  frames_of_frame : (frame : Frame) (making : Making) → frames_in (with_frame frame making) ≡ beside_frames (Some (frame ∷ [])) (frames_in making)
  frames_of_frame frame None = refl
  frames_of_frame frame (Some made) = refl

  frames_of_items : (of_child : Job → Making) (maker : List ℕ) (number : ℕ) (view : List CellState) (items : List Item) →
      frames_in (of_items model of_child maker number view items) ≡ all_jobs (λ job. frames_in (of_child job)) (child_jobs model maker number view items)
  frames_of_items of_child maker number view [] = refl
  frames_of_items of_child maker number view (item.Emit cell effect ∷ rest) =
      frames_of_effect cell effect (of_items model of_child maker number (emitted view cell effect) rest)
      ∙ frames_of_items of_child maker number (emitted view cell effect) rest
  frames_of_items of_child maker number view (item.Child kind arguments ∷ rest) =
      frames_of_child (of_child (child_job model maker number view kind arguments)) (of_items model of_child maker (number + 1) view rest)
      ∙ ap (beside_frames (frames_in (of_child (child_job model maker number view kind arguments)))) (frames_of_items of_child maker (number + 1) view rest)

  all_deep : (maker : List ℕ) (jobs : List Job) → all_jobs (λ job. frames_in (too_deep maker job)) jobs ≡ Some (map (deep_frame maker) jobs)
  all_deep maker [] = refl
  all_deep maker (job ∷ rest) = ap (beside_frames (Some (deep_frame maker job ∷ []))) (all_deep maker rest)

  abbrev due_with : ℕ → Job → PendingStep
  due_with room child = record { room = room; number = 0; job = child }

  all_due : (room count : ℕ) (jobs : List Job) → ((job : Job) → frames_in (made_within model budget room 0 job) ≡ down count (due_with room job)) →
      all_jobs (λ job. frames_in (made_within model budget room 0 job)) jobs ≡ all_down (down count) (map (due_with room) jobs)
  all_due room count [] h = refl
  all_due room count (job ∷ rest) h = λ i. beside_frames (h job i) (all_due room count rest h i)

  append_none : (frames : List Frame) → frames ≡ frames ++ []
  append_none [] = refl
  append_none (frame ∷ rest) = ap (λ l. frame ∷ l) (append_none rest)

  zero_step : (count number : ℕ) (job : Job) (stepped : Stepped) →
      frames_in (of_step model (too_deep job.path) job number stepped) ≡ further (step_generation model (record { room = 0; number = number; job = job }) stepped) (all_down (down count))
  zero_step count number job None = refl
  zero_step count number job (Some (status, so_far)) =
      let children = child_jobs model job.path number job.view so_far.items in
      frames_of_frame (frame_of job status so_far) (of_items model (too_deep job.path) job.path number job.view so_far.items)
      ∙ ap (beside_frames (Some (frame_of job status so_far ∷ []))) (frames_of_items (too_deep job.path) job.path number job.view so_far.items ∙ all_deep job.path children)
      ∙ ap (λ l. Some (frame_of job status so_far ∷ l)) (append_none (map (deep_frame job.path) children))

  more_step : (room count number : ℕ) (job : Job) (stepped : Stepped) → ((child : Job) → frames_in (made_within model budget room 0 child) ≡ down count (due_with room child)) →
      frames_in (of_step model (made_within model budget room 0) job number stepped) ≡ further (step_generation model (record { room = suc room; number = number; job = job }) stepped) (all_down (down count))
  more_step room count number job None h = refl
  more_step room count number job (Some (status, so_far)) h =
      frames_of_frame (frame_of job status so_far) (of_items model (made_within model budget room 0) job.path number job.view so_far.items)
      ∙ ap (beside_frames (Some (frame_of job status so_far ∷ [])))
      (frames_of_items (made_within model budget room 0) job.path number job.view so_far.items ∙ all_due room count (child_jobs model job.path number job.view so_far.items) h)

  within_is : (count room number : ℕ) (job : Job) → room < count → frames_in (made_within model budget room number job) ≡ down count (record { room = room; number = number; job = job })
  within_is zero room number job less = absurd (omega arith)
  within_is (suc count) zero number job less = zero_step count number job (job_step model budget job)
  within_is (suc count) (suc room) number job less = more_step room count number job (job_step model budget job) (λ child. within_is count room 0 child (omega arith))

  pub all_is : (jobs : List (ℕ × Job)) → frames_in (made_by_all model budget jobs) ≡ all_down (down (child_limit + 1)) (map pending_of jobs)
  all_is [] = refl
  all_is (job ∷ rest) =
      frames_of_child (made_by model budget job) (made_by_all model budget rest)
      ∙ (λ i. beside_frames (within_is (child_limit + 1) (room_of job.1.path) job.0 job.1 (omega arith) i) (all_is rest i))

pub same_by_generations : SameByGenerations
same_by_generations model budget jobs =
    subst (λ l. SameFrames l (generations model budget (child_limit + 1) (map pending_of jobs))) (sym (all_is model budget jobs))
    (same_generations model budget (child_limit + 1) (map pending_of jobs))
