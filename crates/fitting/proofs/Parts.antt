-- Frames that fit, part by part: a frame and those of its children.
use Rattle.std.proofs.Common.{◌≡◌, ℕ, zero, suc, List, [], ◌∷◌, ◌++◌, refl, sym, ap, ◌∙◌, subst, append_assoc}
use Rattle.aerie_base.specs.declared.models.model.Parts.{Parts}
use Rattle.run_data.specs.TaskFrames.{Frame}
use Rattle.run_data.specs.declared.jobs.Job.{Job}
use Rattle.run_data.specs.laws.BatchFrames.{Among, HasPath}
use Rattle.run_data.specs.laws.FittingFrames.{FitsJob, FitsWith, FitTree}
use Rattle.run_data.specs.laws.FramesByPath.{path_of}
use Rattle.run_data.specs.laws.Generations.{child_jobs}
use Rattle.fitting.specs.Fitting.{FitChildren, AreAmong, Lacks, Finds}
use Rattle.fitting.proofs.Finding.{only_one}

-- ---- a frame and its children

abbrev ChildrenOf : Parts → ℕ → ℕ → ℕ → Job → List Frame → Type 0
ChildrenOf model bound room number job frames = FitsWith model bound (λ items. FitChildren model bound room (child_jobs model job.path number job.view items)) job frames

pub tree_parts : (model : Parts) (bound room number : ℕ) (job : Job) (frames : List Frame) → FitTree model bound room number job frames → ChildrenOf model bound room number job frames
tree_parts model bound zero number job frames fit = record { frame = fit.frame; behind = fit.behind; are = fit.are; fits = fit.fits; children = fit.children }
tree_parts model bound (suc room) number job frames fit = record { frame = fit.frame; behind = fit.behind; are = fit.are; fits = fit.fits; children = fit.children }

pub tree_from : (model : Parts) (bound room number : ℕ) (job : Job) (frame : Frame) (behind : List Frame) → FitsJob model bound job frame →
    FitChildren model bound room (child_jobs model job.path number job.view frame.items) behind → FitTree model bound room number job (frame ∷ behind)
tree_from model bound zero number job frame behind fits children = record { frame = frame; behind = behind; are = refl; fits = fits; children = children }
tree_from model bound (suc room) number job frame behind fits children = record { frame = frame; behind = behind; are = refl; fits = fits; children = children }

-- the first of frames that fit, which are all among old ones
pub record HasFirst (model : Parts) (bound room number : ℕ) (old : List Frame) (job : Job) : Type 0 where
  pub frame : Frame
  pub behind : List Frame
  pub among : Among frame old
  pub fits : FitsJob model bound job frame
  pub children : FitChildren model bound room (child_jobs model job.path number job.view frame.items) behind
  pub others : AreAmong old behind

pub first_of : (model : Parts) (bound room number : ℕ) (old : List Frame) (job : Job) (frames : List Frame) → FitTree model bound room number job frames → AreAmong old frames →
    HasFirst model bound room number old job
first_of model bound room number old job frames fit among =
    let parts = tree_parts model bound room number job frames fit in
    let all = subst (AreAmong old) parts.are among in
    record { frame = parts.frame; behind = parts.behind; among = all.0; fits = parts.fits; children = parts.children; others = all.1 }

module _ (model : Parts) (bound room number : ℕ) (old : List Frame) (job : Job) where
  -- where no frame is of the job's path
  pub lacks_path : (HasPath job.path old → ⊥) → Lacks (FitTree model bound room number job) old
  lacks_path none differ frames fit among =
      let first = first_of model bound room number old job frames fit among in
      none (subst (λ p. HasPath p old) first.fits.path (path_of first.frame old first.among))

  -- where the frame of its path is another
  pub lacks_frame : (frame : Frame) → Among frame old → frame.path ≡ job.path → (FitsJob model bound job frame → ⊥) → Lacks (FitTree model bound room number job) old
  lacks_frame frame there same none differ frames fit among =
      let first = first_of model bound room number old job frames fit among in
      none (subst (FitsJob model bound job) (only_one old differ frame first.frame there first.among (first.fits.path ∙ sym same)) first.fits)

  -- or lacks its children
  pub lacks_children : (frame : Frame) → Among frame old → frame.path ≡ job.path → Lacks (FitChildren model bound room (child_jobs model job.path number job.view frame.items)) old →
      Lacks (FitTree model bound room number job) old
  lacks_children frame there same none differ frames fit among =
      let first = first_of model bound room number old job frames fit among in
      let is = only_one old differ frame first.frame there first.among (first.fits.path ∙ sym same) in
      none differ first.behind
      (subst (λ (f : Frame). FitChildren model bound room (child_jobs model job.path number job.view f.items) first.behind) is first.children) first.others

  -- with them it is found
  pub finds_tree : (frame : Frame) (before now after : List Frame) → FitsJob model bound job frame → now ≡ before ++ frame ∷ [] →
      Finds (FitChildren model bound room (child_jobs model job.path number job.view frame.items)) now after → Finds (FitTree model bound room number job) before after
  finds_tree frame before now after fits one further = (
    frame ∷ further.0,
    further.1 ∙ ap (λ (l : List Frame). l ++ further.0) one ∙ append_assoc before (frame ∷ []) further.0,
    tree_from model bound room number job frame further.0 fits further.2,
  )
