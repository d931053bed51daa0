-- The jobs of children, which are due next.
use Rattle.std.specs.Prelude.{◌≡◌, ℕ, ◌≤◌, List, [], map, length, Some, slice_get}
use Rattle.aerie_base.specs.Ranges.{step_limit}
use Rattle.aerie_base.specs.declared.models.model.Parts.{Parts}
use Rattle.run_data.specs.TaskFrames.{Frame}
use Rattle.run_data.specs.declared.frames.Item.{Item}
use Rattle.run_data.specs.declared.jobs.Job.{Job}
use Rattle.run_data.specs.laws.Generations.{child_jobs, deep_frame}
use Rattle.engine_core.specs.BatchViews.{CanEmitAll}

-- jobs of children, whose tasks have made no child
abbrev pub fresh : List Job → List (ℕ × Job)
fresh children = map (λ child. (0, child)) children

-- the frames of children that are too deep, which do not depend on what they would see
abbrev pub deep_children : Parts → List ℕ → List Item → List Frame
deep_children model maker items = map (deep_frame maker) (child_jobs model maker 0 [] items)

-- the effects of a frame can be seen one after another by the children that it makes, and there are few
pub record IsSeenStep (job : ℕ × Job) (frame : Frame) : Type 0 where
  pub effects : CanEmitAll job.1.view frame.items
  pub few : length frame.items ≤ step_limit
  pub number : job.0 ≤ step_limit

-- each frame is that of a step of the job beside it, as above
abbrev pub AreSeenSteps : List (ℕ × Job) → List Frame → Type 0
AreSeenSteps jobs frames = (at : ℕ) (job : ℕ × Job) (frame : Frame) → slice_get jobs at ≡ Some job → slice_get frames at ≡ Some frame → IsSeenStep job frame
