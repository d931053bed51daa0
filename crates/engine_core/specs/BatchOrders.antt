-- Frames in order of path, and the first of them that has faulted.
use Rattle.std.specs.Prelude.{◌≡◌, ℕ, List, [], ◌∷◌, Option, Some, None}
use Rattle.aerie_base.specs.declared.faults.Fault.{Fault}
use Rattle.aerie_base.specs.declared.models.model.Parts.{Parts}
use Rattle.run_data.specs.TaskFrames.{Frame}
use Rattle.run_data.specs.declared.jobs.Job.{Job}
use Rattle.run_data.specs.Batches.{Blame, fault_in, cost_of, by_path}
use Rattle.run_data.specs.Frames.{Made, made_by_all}

abbrev pub unless_faulted : List ℕ → Option Fault → Option Blame → Option Blame
unless_faulted path None rest = rest
unless_faulted path (Some fault) rest = Some (path, fault)

-- the first frame that has faulted
abbrev pub first_fault : List Frame → Option Blame
first_fault [] = None
first_fault (frame ∷ rest) = unless_faulted frame.path (fault_in frame.status) (first_fault rest)

-- Frames are those that a batch makes in some order: they cost as much, and come to the same in order of path.
pub record AreMade (model : Parts) (bound : ℕ) (jobs : List (ℕ × Job)) (frames : List Frame) : Type 0 where
  pub made : Made
  pub by_all : made_by_all model bound jobs ≡ Some made
  pub cost : cost_of frames ≡ cost_of made.frames
  pub sorted : by_path frames ≡ by_path made.frames
