-- Worked cases: three jobs, of which the second is found.
use Rattle.std.specs.Prelude.{◌≡◌, [], ◌∷◌, Some, None, refl}
use Rattle.run_data.specs.declared.jobs.Job.{Job}
use Rattle.run_data.specs.TaskFrames.{Frame}
use Rattle.batch_run.specs.Answers.{missed, woven}

module _ (first second third : Job) (one two three : Frame) where
  -- the first and the third are run
  the_others_are_missed : missed (first ∷ second ∷ third ∷ []) (None ∷ Some two ∷ None ∷ []) ≡ first ∷ third ∷ []
  the_others_are_missed = refl

  -- and each frame stands in the place of its job
  each_in_its_place : woven (None ∷ Some two ∷ None ∷ []) (one ∷ three ∷ []) ≡ one ∷ two ∷ three ∷ []
  each_in_its_place = refl

  all_found : woven (Some one ∷ Some two ∷ []) [] ≡ one ∷ two ∷ []
  all_found = refl
