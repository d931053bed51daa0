-- Frames of valid records that fit the jobs of a batch are the frames of the batch, and each frame of a batch fits.
use Rattle.std.specs.Prelude.{◌≡◌, ℕ, zero, suc, ◌≤◌, IsTrue, List, [], ◌∷◌, ◌++◌, Some, None}
use Rattle.aerie_base.specs.declared.models.model.Parts.{Parts}
use Rattle.aerie_base.specs.models.ValidModel.{valid_model}
use Rattle.effect_cells.specs.declared.effects.CellState.{CellState}
use Rattle.run_data.specs.TaskFrames.{Frame}
use Rattle.run_data.specs.declared.frames.Item.{Item}
use Rattle.run_data.specs.declared.jobs.Job.{Job}
use Rattle.run_data.specs.Batches.{batch, committed, by_path, least_fault}
use Rattle.run_data.specs.Frames.{made_by_all, room_of}
use Rattle.run_data.specs.Jobs.{IsJobOf}
use Rattle.run_data.specs.Records.{Agrees, IsValid, record_of}
use Rattle.run_data.specs.Waves.{frames_of}
use Rattle.run_data.specs.laws.Generations.{frames_in, child_jobs}
use Rattle.run_data.specs.laws.Orders.{EachOf}

-- the first of these frames have one property, and the others another
pub record FirstAndOthers (First Others : List Frame → Type 0) (frames : List Frame) : Type 0 where
  pub first : List Frame
  pub others : List Frame
  pub are : frames ≡ first ++ others
  pub is_first : First first
  pub is_others : Others others

-- frames that are those of the first job, then those of the next, and so on
abbrev pub AreOfEach : {A : Type 0} → (A → List Frame → Type 0) → List A → List Frame → Type 0
AreOfEach Are [] frames = frames ≡ []
AreOfEach Are (job ∷ rest) frames = FirstAndOthers (Are job) (AreOfEach Are rest) frames

module _ (model : Parts) (bound : ℕ) where
  -- A frame fits a job where it is of its path and its state, its record is valid and agrees with what the job sees, and its
  -- cost alone does not pass the bound.
  pub record FitsJob (job : Job) (frame : Frame) : Type 0 where
    pub path : frame.path ≡ job.path
    pub state : frame.before ≡ job.state
    pub valid : IsValid model (record_of frame)
    pub reads : Agrees job.view frame.reads
    pub cost : frame.cost ≤ bound

  -- a frame that fits the job, and behind it those of the children that it makes
  pub record FitsWith (Children : List Item → List Frame → Type 0) (job : Job) (frames : List Frame) : Type 0 where
    pub frame : Frame
    pub behind : List Frame
    pub are : frames ≡ frame ∷ behind
    pub fits : FitsJob job frame
    pub children : Children frame.items behind

  -- The frames of a job whose path has room for so many numbers more, and whose task made so many children before. Each child
  -- sees what its maker sees, with the effects that the maker emitted before it; where there is no room there is no child.
  abbrev pub FitTree : ℕ → ℕ → Job → List Frame → Type 0
  FitTree zero number job frames =
      FitsWith (λ items. AreOfEach (λ child of_child. ⊥) (child_jobs model job.path number job.view items)) job frames
  FitTree (suc room) number job frames =
      FitsWith (λ items. AreOfEach (FitTree room 0) (child_jobs model job.path number job.view items)) job frames

  -- the frames of the jobs of a batch
  abbrev pub FitAll : List (ℕ × Job) → List Frame → Type 0
  FitAll jobs frames = AreOfEach (λ job of_job. FitTree (room_of job.1.path) job.0 job.1 of_job) jobs frames

  -- a frame for each job of a wave
  abbrev pub FitEach : List Job → List Frame → Type 0
  FitEach [] [] = Unit {0}
  FitEach [] (frame ∷ frames) = ⊥
  FitEach (job ∷ jobs) [] = ⊥
  FitEach (job ∷ jobs) (frame ∷ frames) = FitsJob job frame × FitEach jobs frames

-- ---- the laws

-- what fits a wave is the wave
abbrev pub FittingWave : Type 0
FittingWave =
    (model : Parts) (bound : ℕ) (jobs : List Job) (frames : List Frame) → EachOf (IsJobOf model) jobs →
    FitEach model bound jobs frames → frames_of model bound jobs ≡ Some frames

-- frames that fit the jobs of a batch are those that the batch makes, and so, in order of path, those that it commits
abbrev pub FittingFramesAreMade : Type 0
FittingFramesAreMade =
    (model : Parts) (bound : ℕ) (jobs : List (ℕ × Job)) (frames : List Frame) → IsTrue (valid_model model) → EachOf (λ job. IsJobOf model job.1) jobs →
    FitAll model bound jobs frames → frames_in (made_by_all model bound jobs) ≡ Some frames

-- and back: those that a batch makes fit, where none has faulted
abbrev pub MadeFramesFit : Type 0
MadeFramesFit =
    (model : Parts) (bound : ℕ) (jobs : List (ℕ × Job)) (frames : List Frame) → EachOf (λ job. IsJobOf model job.1) jobs →
    frames_in (made_by_all model bound jobs) ≡ Some frames → least_fault frames ≡ None → FitAll model bound jobs frames

-- so the frames of a committed batch are frames that fit, in order of path
pub record FitByPath (model : Parts) (bound : ℕ) (jobs : List (ℕ × Job)) (frames : List Frame) : Type 0 where
  pub fitting : List Frame
  pub fit : FitAll model bound jobs fitting
  pub in_order : by_path fitting ≡ frames

abbrev pub CommittedFramesFit : Type 0
CommittedFramesFit =
    (model : Parts) (bound spent : ℕ) (cells next : List CellState) (jobs : List (ℕ × Job)) (touched : List ℕ) (frames : List Frame) →
    EachOf (λ job. IsJobOf model job.1) jobs → batch model bound spent cells jobs ≡ committed next touched frames →
    FitByPath model bound jobs frames
