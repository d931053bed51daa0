-- A batch a generation at a time: what one iteration does, and where the batch stands between iterations.
use Rattle.std.specs.Prelude.{◌≡◌, ℕ, ◌+◌, ◌*◌, ◌-◌, ◌≤◌, ◌<◌, List, [], map, length, Option, Some, None, IsTrue, slice_get}
use Rattle.std.specs.List.{All}
use Rattle.aerie_base.specs.Paths.{child_limit, children_of, is_path}
use Rattle.aerie_base.specs.Ranges.{number_limit, step_limit}
use Rattle.aerie_base.specs.declared.models.model.Parts.{Parts}
use Rattle.effect_cells.specs.declared.effects.CellState.{CellState}
use Rattle.run_data.specs.TaskFrames.{Frame}
use Rattle.run_data.specs.declared.frames.Record.{Record}
use Rattle.run_data.specs.declared.jobs.Job.{Job}
use Rattle.run_data.specs.declared.steppers.Wave.TheVariants.{Frames, Spent}
use Rattle.run_data.specs.Batches.{limit, batch, cost_of}
use Rattle.run_data.specs.Frames.{room_of}
use Rattle.run_data.specs.Jobs.{IsJobOf}
use Rattle.run_data.specs.Records.{unmatched}
use Rattle.run_data.specs.Waves.{frames_of, wave_of, RoseAlike}
use Rattle.run_data.specs.laws.Generations.{Generation, child_jobs, with_children, beside_generation, beside_frames, generations, pending_of}
use Rattle.run_data.specs.laws.Orders.{EachOf, EachTwo, AreApart}
use Rattle.run_data.specs.laws.SmallSteps.{IsJobWithin}
use Rattle.run_data.specs.laws.WaveGenerations.{generation_of}
use Rattle.engine_core.specs.BatchDues.{AreSeenSteps}

abbrev pub jobs_of : List (ℕ × Job) → List Job
jobs_of jobs = map (λ job. job.1) jobs

-- ---- one generation

-- frames so far, and the jobs that are due then
abbrev pub gathered_so_far : List Frame → List (ℕ × Job) → Generation
gathered_so_far made dues = Some (made, map pending_of dues)

-- what the frame of a job adds to these
abbrev pub added_by : Parts → ℕ × Job → Frame → Generation
added_by model job frame = with_children (room_of job.1.path) job.1.path frame (child_jobs model job.1.path job.0 job.1.view frame.items)

-- the frames of jobs added to those so far, and the jobs that are due next
abbrev pub AddsGeneration : Parts → List (ℕ × Job) → List Frame → List Frame → List Frame → List (ℕ × Job) → Type 0
AddsGeneration model jobs frames made after dues =
    beside_generation (gathered_so_far made []) (generation_of model (map pending_of jobs) frames) ≡ gathered_so_far after dues

-- jobs may be stepped, and what the steps do can be seen by the children that they make
pub record MayRun (model : Parts) (bound : ℕ) (jobs : List (ℕ × Job)) : Type 0 where
  pub may : All (IsJobOf model) (jobs_of jobs)
  pub seen : (frames : List Frame) → frames_of model bound (jobs_of jobs) ≡ Some frames → AreSeenSteps jobs frames

-- the wave of jobs is spent, or its frames are added; with them comes what is left of the fuel
abbrev pub IsGenerationRun : Parts → List (ℕ × Job) → ℕ → List Frame → List Frame → Option (List (ℕ × Job) × ℕ) → Type 0
IsGenerationRun model jobs fuel made after None = wave_of model fuel (jobs_of jobs) ≡ Spent
IsGenerationRun model jobs fuel made after (Some (dues, left)) =
    (frames : List Frame) × (wave_of model fuel (jobs_of jobs) ≡ Frames frames) × AddsGeneration model jobs frames made after dues × (fuel ≡ left + cost_of frames)

-- where frames were added, a count rose by at most what no record fits of them
abbrev pub PaysForGeneration : {A : Type 0} → Option A → List Record → List Frame → List Frame → ℕ → ℕ → Type 0
PaysForGeneration None records made after before now = Unit {0}
PaysForGeneration (Some next) records made after before now = now + unmatched made records ≤ before + unmatched after records

-- and another by at most two for each
abbrev pub LooksForGeneration : {A : Type 0} → Option A → List Frame → List Frame → ℕ → ℕ → Type 0
LooksForGeneration None made after before now = Unit {0}
LooksForGeneration (Some next) made after before now = now + 2 * length made ≤ before + 2 * length after

-- ---- between generations

-- the frames of a batch a generation at a time, each step of which may cost so much
unfoldable pub in_generations : Parts → ℕ → List (ℕ × Job) → Option (List Frame)
in_generations model bound jobs = generations model bound (child_limit + 1) (map pending_of jobs)

-- how far from 0 the numbers of a view may be after so many generations, each of which costs at most the greatest bound
abbrev pub reach_after : ℕ → ℕ
reach_after done = number_limit + done * (step_limit * number_limit)

-- jobs of different tasks with little numbers
pub record AreDueJobs (model : Parts) (jobs : List (ℕ × Job)) : Type 0 where
  pub within : EachOf (λ job. IsJobWithin model number_limit job.1) jobs
  pub apart : EachTwo AreApart jobs
  pub made : EachOf (λ job. job.0 ≤ step_limit) jobs

-- So many generations are left: the frames so far with theirs are all of the batch, and what is left of the bound is what
-- those so far and the batches before do not cost.
pub record StandsBetween (model : Parts) (bound spent : ℕ) (jobs : List (ℕ × Job)) (count : ℕ) (made : List Frame) (left : ℕ) (dues : List (ℕ × Job)) : Type 0 where
  pub whole : in_generations model bound jobs ≡ beside_frames (Some made) (generations model bound count (map pending_of dues))
  pub paid : spent + cost_of made + left ≡ bound
  pub within : EachOf (λ due. IsJobWithin model (reach_after (child_limit + 1 - count)) due.1) dues
  pub few : EachOf (λ due. due.0 ≤ step_limit) dues

-- ---- all generations

-- the frames of a batch a generation at a time, whose costs are within the bound, or the batch stops by the limit
abbrev pub AreAllFrames : Parts → ℕ → ℕ → List (ℕ × Job) → Option (List Frame) → Type 0
AreAllFrames model bound spent jobs None = (cells : List CellState) → batch model bound spent cells jobs ≡ limit
AreAllFrames model bound spent jobs (Some frames) =
    (in_generations model bound jobs ≡ Some frames) × (spent + cost_of frames ≤ bound)

-- where there are frames, a count rose by at most what no record fits of them
abbrev pub PaysForAll : Option (List Frame) → List Record → ℕ → ℕ → Type 0
PaysForAll None records before now = Unit {0}
PaysForAll (Some frames) records before now = now ≤ before + unmatched frames records

-- and another by at most two for each
abbrev pub LooksForAll : Option (List Frame) → ℕ → ℕ → Type 0
LooksForAll None before now = Unit {0}
LooksForAll (Some frames) before now = now ≤ before + 2 * length frames

-- ---- the stepper

-- What runs of a stepper leave as it was, and how its counts rise: it is of the same models, has the same records and the same
-- anchor, what it opened rises as the statements do, and the searches do not fall.
pub record Ran (was is : Parts → Type 0) (had has : List Record) (address stays : ℕ) (opened steps looks opened_after steps_after looks_after : ℕ) : Type 0 where
  pub models : (of : Parts) → (was of → is of) × (is of → was of)
  pub records : has ≡ had
  pub same_address : stays ≡ address
  pub rose : RoseAlike opened steps opened_after steps_after
  pub looked : looks ≤ looks_after

-- ---- one frame

-- it is a path, and has room for a child
pub record HasRoomForChild (path : List ℕ) : Type 0 where
  pub good : IsTrue (is_path path)
  pub room : length (children_of path) < child_limit

abbrev pub HaveRoomForChildren : List Job → Type 0
HaveRoomForChildren jobs = (at : ℕ) (job : Job) → slice_get jobs at ≡ Some job → HasRoomForChild job.path

-- the frame of a job with those so far, and the jobs that are due then
abbrev pub AddsFrame : Parts → ℕ × Job → Frame → List Frame → List Frame → List (ℕ × Job) → List (ℕ × Job) → Type 0
AddsFrame model job frame made after dues later = beside_generation (gathered_so_far made dues) (added_by model job frame) ≡ gathered_so_far after later
