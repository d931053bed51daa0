-- What stored steps answer to the jobs of a wave, and the frames that come of it.
use Rattle.std.specs.Prelude.{◌≡◌, List, [], ◌∷◌, ◌++◌, Option, Some, None}
use Rattle.std.specs.List.{All}
use Rattle.aerie_base.specs.declared.models.model.Parts.{Parts}
use Rattle.record_book.specs.StoredSteps.{StoredSteps, FitsView}
use Rattle.run_data.specs.declared.frames.Record.{Record}
use Rattle.run_data.specs.declared.jobs.Job.{Job}
use Rattle.run_data.specs.TaskFrames.{Frame, frame_with}
use Rattle.run_data.specs.Records.{IsValid}

-- the steps of two books
abbrev pub stored_by : StoredSteps → StoredSteps → List Record
stored_by book kept = book.records ++ kept.records

-- a step that was found: it is valid, it goes from the job's state, and the job's view agrees with its reads
abbrev pub IsFoundFor : Parts → Job → Frame → Type 0
IsFoundFor model job frame = (of : Record) × ((IsValid model of) × (FitsView job.state job.view of) × (frame ≡ frame_with job.path of))

-- no stored step fits the job
abbrev pub HasNoStep : List Record → Job → Type 0
HasNoStep records job = All (λ of. FitsView job.state job.view of → ⊥) records

-- the answer to a job: the frame of a step that was found, or none where no stored step fits
abbrev pub IsAnswerFor : Parts → List Record → Job → Option Frame → Type 0
IsAnswerFor model records job (Some frame) = IsFoundFor model job frame
IsAnswerFor model records job None = HasNoStep records job

-- an answer to each job, in their order
abbrev pub AreAnswers : Parts → List Record → List Job → List (Option Frame) → Type 0
AreAnswers model records [] [] = Unit {0}
AreAnswers model records [] (answer ∷ answers) = ⊥
AreAnswers model records (job ∷ jobs) [] = ⊥
AreAnswers model records (job ∷ jobs) (answer ∷ answers) = IsAnswerFor model records job answer × AreAnswers model records jobs answers

-- the jobs to which the answer is none
abbrev pub missed : List Job → List (Option Frame) → List Job
missed [] answers = []
missed (job ∷ jobs) [] = []
missed (job ∷ jobs) (Some frame ∷ answers) = missed jobs answers
missed (job ∷ jobs) (None ∷ answers) = job ∷ missed jobs answers

-- the frames of all jobs: those that were found, and those of the missed jobs in the places between
abbrev pub woven : List (Option Frame) → List Frame → List Frame
woven [] fresh = []
woven (Some frame ∷ answers) fresh = frame ∷ woven answers fresh
woven (None ∷ answers) [] = woven answers []
woven (None ∷ answers) (frame ∷ fresh) = frame ∷ woven answers fresh

-- the frame of the next job: the one that was found, or else the first of those that were run, which leaves the others
abbrev pub TakesNext : Option Frame → Option Frame → List Frame → List Frame → Type 0
TakesNext (Some frame) next before after = (next ≡ Some frame) × (after ≡ before)
TakesNext None (Some frame) before after = before ≡ frame ∷ after
TakesNext None None before after = (before ≡ []) × (after ≡ [])
