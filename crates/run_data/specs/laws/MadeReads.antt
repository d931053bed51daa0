-- What jobs make depends on the cells that were read for it, and on nothing else of the view.
use Rattle.std.specs.Prelude.{◌≡◌, ℕ, List, [], ◌∷◌, Some, length, map, slice_get}
use Rattle.aerie_base.specs.declared.models.model.Parts.{Parts}
use Rattle.effect_cells.specs.declared.effects.CellState.{CellState}
use Rattle.run_data.specs.declared.jobs.Job.{Job}
use Rattle.run_data.specs.TaskFrames.{Frame}
use Rattle.run_data.specs.declared.frames.Status.{Status}
use Rattle.run_data.specs.StepStates.{StepState}
use Rattle.run_data.specs.Frames.{Made, job_step, frame_of, made_by_all}
use Rattle.run_data.specs.Records.{Agrees}
use Rattle.run_data.specs.Tasks.{Table, ready_jobs}

-- the cells that a frame has as read are those of its job's view
abbrev pub ReadsAgree : Type 0
ReadsAgree =
    (model : Parts) (budget : ℕ) (job : Job) (status : Status) (so_far : StepState) →
    job_step model budget job ≡ Some (status, so_far) → Agrees job.view (frame_of job status so_far).reads

-- each of these cells is in the one view as in the other
abbrev pub AreAlikeAt : List CellState → List CellState → List (ℕ × CellState) → Type 0
AreAlikeAt view other [] = Unit {0}
AreAlikeAt view other (read ∷ rest) = (slice_get other read.0 ≡ slice_get view read.0) × AreAlikeAt view other rest

-- each cell that one of these frames read is
abbrev pub AreAlikeWhereRead : List CellState → List CellState → List Frame → Type 0
AreAlikeWhereRead view other [] = Unit {0}
AreAlikeWhereRead view other (frame ∷ rest) = AreAlikeAt view other frame.reads × AreAlikeWhereRead view other rest

-- the same jobs in another view
abbrev pub all_in_view : List CellState → List (ℕ × Job) → List (ℕ × Job)
all_in_view view jobs = map (λ job. (job.0, record job.1 { view = view })) jobs

-- Where two views of as many cells agree on each cell that a frame of a making read, those of children included, the same
-- jobs make the same in both.
abbrev pub MadeDependsOnReads : Type 0
MadeDependsOnReads =
    (model : Parts) (budget : ℕ) (view other : List CellState) (jobs : List (ℕ × Job)) (made : Made) →
    length other ≡ length view →
    made_by_all model budget (all_in_view view jobs) ≡ Some made →
    AreAlikeWhereRead view other made.frames →
    made_by_all model budget (all_in_view other jobs) ≡ Some made

-- the ready tasks of one table give the same jobs in whatever view
abbrev pub ReadyInView : Type 0
ReadyInView = (view other : List CellState) (table : Table) → ready_jobs other table ≡ all_in_view other (ready_jobs view table)
