-- What holds of each frame that jobs make, where it holds of the frame of each step and goes on to its children.
use Rattle.std.proofs.Common.{◌≡◌, ℕ, zero, suc, ◌+◌, List, [], ◌∷◌, Option, Some, None, refl}
use Rattle.aerie_base.specs.declared.faults.Fault.{Fault}
use Rattle.aerie_base.specs.declared.models.model.Parts.{Parts}
use Rattle.effect_cells.specs.declared.effects.CellState.{CellState}
use Rattle.effect_cells.specs.declared.effects.Effect.{Effect}
use Rattle.effect_cells.specs.Cells.{emitted}
use Rattle.run_data.specs.declared.jobs.Job.{Job}
use Rattle.run_data.specs.TaskFrames.{Frame}
use Rattle.run_data.specs.declared.frames.Item.{Item}
use Rattle.run_data.specs.declared.frames.Item.TheVariants as item
use Rattle.run_data.specs.declared.frames.Status.{Status}
use Rattle.run_data.specs.Batches.{Blame, blamed, lesser, fault_in, least_fault}
use Rattle.run_data.specs.StepStates.{StepState}
use Rattle.run_data.specs.Steps.{Stepped}
use Rattle.run_data.specs.Frames.{Making, with_effect, with_child, with_frame, job_step, frame_of, child_job, of_items, of_step, too_deep, made_within, made_by, made_by_all, room_of}
use Rattle.run_data.specs.laws.Generations.{child_jobs, deep_frame}
use Rattle.run_data.specs.laws.Orders.{EachOf}
use Rattle.run_data.proofs.Paying.{each_append}

-- each frame that is made has a property
abbrev pub MadeEach : (Frame → Type 0) → Making → Type 0
MadeEach P None = Unit {0}
MadeEach P (Some made) = EachOf P made.frames

module _ (P : Frame → Type 0) where
  effect_each : (cell : ℕ) (effect : Effect) (making : Making) → MadeEach P making → MadeEach P (with_effect cell effect making)
  effect_each cell effect None h = tt
  effect_each cell effect (Some made) h = h

  pub child_each : (child rest : Making) → MadeEach P child → MadeEach P rest → MadeEach P (with_child child rest)
  child_each None rest h k = tt
  child_each (Some child) None h k = tt
  child_each (Some child) (Some rest) h k = each_append P child.frames rest.frames h k

  frame_each : (frame : Frame) (making : Making) → P frame → MadeEach P making → MadeEach P (with_frame frame making)
  frame_each frame None h k = tt
  frame_each frame (Some made) h k = (h, k)

module _ (model : Parts) (budget : ℕ) (J : Job → Type 0) (P : Frame → Type 0)
    (of_step_ : (job : Job) (status : Status) (so_far : StepState) → J job → job_step model budget job ≡ Some (status, so_far) → P (frame_of job status so_far))
    (of_children : (job : Job) (number : ℕ) (status : Status) (so_far : StepState) → J job → job_step model budget job ≡ Some (status, so_far) →
    EachOf J (child_jobs model job.path number job.view so_far.items))
    (of_deep : (maker : List ℕ) (child : Job) → P (deep_frame maker child)) where
  items_each : (of_child : Job → Making) (maker : List ℕ) (number : ℕ) (view : List CellState) (items : List Item) → EachOf J (child_jobs model maker number view items) →
      ((child : Job) → J child → MadeEach P (of_child child)) → MadeEach P (of_items model of_child maker number view items)
  items_each of_child maker number view [] all h = tt
  items_each of_child maker number view (item.Emit cell effect ∷ rest) all h =
      effect_each P cell effect (of_items model of_child maker number (emitted view cell effect) rest) (items_each of_child maker number (emitted view cell effect) rest all h)
  items_each of_child maker number view (item.Child kind arguments ∷ rest) all h =
      child_each P (of_child (child_job model maker number view kind arguments)) (of_items model of_child maker (number + 1) view rest)
      (h (child_job model maker number view kind arguments) all.0) (items_each of_child maker (number + 1) view rest all.1 h)

  step_each : (of_child : Job → Making) (job : Job) (number : ℕ) (stepped : Stepped) → job_step model budget job ≡ stepped → J job →
      ((child : Job) → J child → MadeEach P (of_child child)) → MadeEach P (of_step model of_child job number stepped)
  step_each of_child job number None e is h = tt
  step_each of_child job number (Some (status, so_far)) e is h =
      frame_each P (frame_of job status so_far) (of_items model of_child job.path number job.view so_far.items) (of_step_ job status so_far is e)
      (items_each of_child job.path number job.view so_far.items (of_children job number status so_far is e) h)

  within_each : (room number : ℕ) (job : Job) → J job → MadeEach P (made_within model budget room number job)
  within_each zero number job is = step_each (too_deep job.path) job number (job_step model budget job) refl is (λ child also. (of_deep job.path child, tt))
  within_each (suc room) number job is = step_each (made_within model budget room 0) job number (job_step model budget job) refl is (λ child. within_each room 0 child)

  pub made_each : (jobs : List (ℕ × Job)) → EachOf (λ job. J job.1) jobs → MadeEach P (made_by_all model budget jobs)
  made_each [] all = tt
  made_each (job ∷ rest) all =
      child_each P (made_by model budget job) (made_by_all model budget rest) (within_each (room_of job.1.path) job.0 job.1 all.0) (made_each rest all.1)

-- ---- faults

-- where there is no least fault no frame has one
lesser_is_some : (first : Blame) (rest : Option Blame) → lesser first rest ≡ None → ⊥
lesser_is_some first None e = cc
lesser_is_some first (Some other) e = cc

no_fault_here : (path : List ℕ) (fault : Option Fault) (rest : Option Blame) → blamed path fault rest ≡ None → (fault ≡ None) × (rest ≡ None)
no_fault_here path None rest e = (refl, e)
no_fault_here path (Some fault) rest e = absurd (lesser_is_some (path, fault) rest e)

pub none_faulted : (P : Frame → Type 0) (frames : List Frame) → least_fault frames ≡ None → EachOf (λ frame. fault_in frame.status ≡ None → P frame) frames → EachOf P frames
none_faulted P [] e all = tt
none_faulted P (frame ∷ rest) e all =
    let parts = no_fault_here frame.path (fault_in frame.status) (least_fault rest) e in
    (all.0 parts.0, none_faulted P rest parts.1 all.1)
