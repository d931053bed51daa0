-- What jobs make depends on the cells that were read for it alone.
use Rattle.std.proofs.Common.{◌≡◌, ℕ, zero, suc, ◌+◌, Bool, true, false, List, [], ◌∷◌, ◌++◌, length, Some, None, refl, sym, ap, ◌∙◌, subst}
use Rattle.aerie_base.specs.declared.models.model.Parts.{Parts}
use Rattle.aerie_base.specs.statements.Places.{left}
use Rattle.effect_cells.specs.declared.effects.CellState.{CellState}
use Rattle.effect_cells.specs.declared.effects.Effect.{Effect}
use Rattle.effect_cells.specs.Cells.{emitted}
use Rattle.run_data.specs.declared.jobs.Job.{Job}
use Rattle.run_data.specs.declared.tasks.TaskState.{TaskState}
use Rattle.run_data.specs.TaskFrames.{Frame}
use Rattle.run_data.specs.declared.frames.Item.{Item}
use Rattle.run_data.specs.declared.frames.Item.TheVariants as item
use Rattle.run_data.specs.declared.frames.Status.{Status}
use Rattle.run_data.specs.StepStates.{StepState, starting}
use Rattle.run_data.specs.Steps.{Stepped}
use Rattle.run_data.specs.Frames.{Made, Making, with_effect, with_child, with_frame, job_step, frame_of, read_from, child_job, of_items, of_step, too_deep, made_within, made_by_all, room_of}
use Rattle.run_data.specs.Records.{Agrees}
use Rattle.run_data.specs.Tasks.{TaskPhase, anchored, ready, delayed, waiting, calling, over, Task, ready_jobs, job_if_ready}
use Rattle.run_data.specs.TaskStates.{body_of}
use Rattle.run_data.specs.laws.MadeReads.{ReadsAgree, AreAlikeAt, AreAlikeWhereRead, all_in_view, MadeDependsOnReads, ReadyInView}
use Rattle.run_data.proofs.FreshRuns.{emitted_count}
use Rattle.run_data.proofs.Reading.{emitted_same, steps_same, frame_depends}
use Rattle.run_data.proofs.Sublists.{StandsAt, standing_whole}

-- ---- a frame's reads

reads_stand : (whole : List CellState) (from : ℕ) (read_flags : List Bool) (states : List CellState) → StandsAt whole from states → Agrees whole (read_from from read_flags states)
reads_stand whole from [] states h = tt
reads_stand whole from (flag ∷ rest) [] h = tt
reads_stand whole from (true ∷ rest) (state ∷ states) h = (h.0, reads_stand whole (from + 1) rest states h.1)
reads_stand whole from (false ∷ rest) (state ∷ states) h = reads_stand whole (from + 1) rest states h.1

pub view_stays : (model : Parts) (budget : ℕ) (job : Job) (status : Status) (so_far : StepState) → job_step model budget job ≡ Some (status, so_far) → so_far.view ≡ job.view
view_stays model budget job status so_far e =
    (steps_same budget job.view job.view job.state.kind (left (body_of model job.state.kind) job.state.at) status so_far (starting job.view job.state.locals) refl e (λ cell read_flags. refl)).1

pub reads_agree : ReadsAgree
reads_agree model budget job status so_far e =
    subst (λ (view : List CellState). Agrees job.view (read_from 0 so_far.read_flags view)) (sym (view_stays model budget job status so_far e))
    (reads_stand job.view 0 so_far.read_flags job.view (standing_whole job.view))

-- ---- another view

agrees_too : (view other : List CellState) (reads : List (ℕ × CellState)) → Agrees view reads → AreAlikeAt view other reads → Agrees other reads
agrees_too view other [] agrees alike = tt
agrees_too view other (read ∷ rest) agrees alike = (alike.0 ∙ agrees.0, agrees_too view other rest agrees.1 alike.1)

alike_split : (view other : List CellState) (first second : List Frame) → AreAlikeWhereRead view other (first ++ second) → AreAlikeWhereRead view other first × AreAlikeWhereRead view other second
alike_split view other [] second alike = (tt, alike)
alike_split view other (frame ∷ first) second alike = let parts = alike_split view other first second alike.1 in ((alike.0, parts.0), parts.1)

reads_emitted : (view other : List CellState) (cell : ℕ) (effect : Effect) (reads : List (ℕ × CellState)) → AreAlikeAt view other reads → AreAlikeAt (emitted view cell effect) (emitted other cell effect) reads
reads_emitted view other cell effect [] alike = tt
reads_emitted view other cell effect (read ∷ rest) alike = (emitted_same view other cell read.0 effect alike.0, reads_emitted view other cell effect rest alike.1)

alike_emitted : (view other : List CellState) (cell : ℕ) (effect : Effect) (frames : List Frame) → AreAlikeWhereRead view other frames →
    AreAlikeWhereRead (emitted view cell effect) (emitted other cell effect) frames
alike_emitted view other cell effect [] alike = tt
alike_emitted view other cell effect (frame ∷ rest) alike = (reads_emitted view other cell effect frame.reads alike.0, alike_emitted view other cell effect rest alike.1)

-- where the views agree on what the first making read, the second is the same
abbrev Goes : List CellState → List CellState → Making → Making → Type 0
Goes view other None again = Unit {0}
Goes view other (Some made) again = AreAlikeWhereRead view other made.frames → again ≡ Some made

effect_goes : (view other : List CellState) (cell : ℕ) (effect : Effect) (making again : Making) → Goes (emitted view cell effect) (emitted other cell effect) making again →
    Goes view other (with_effect cell effect making) (with_effect cell effect again)
effect_goes view other cell effect None again h = tt
effect_goes view other cell effect (Some made) again h = λ alike. ap (with_effect cell effect) (h (alike_emitted view other cell effect made.frames alike))

child_goes : (view other : List CellState) (child child_again rest rest_again : Making) → Goes view other child child_again → Goes view other rest rest_again →
    Goes view other (with_child child rest) (with_child child_again rest_again)
child_goes view other None child_again rest rest_again h k = tt
child_goes view other (Some child) child_again None rest_again h k = tt
child_goes view other (Some child) child_again (Some rest) rest_again h k =
    λ alike. (let parts = alike_split view other child.frames rest.frames alike in λ i. with_child (h parts.0 i) (k parts.1 i))

abbrev ChildGoes : (Job → Making) → Type 0
ChildGoes of_child =
    (path : List ℕ) (state : TaskState) (view other : List CellState) → length other ≡ length view →
    Goes view other (of_child (record { path = path; state = state; view = view })) (of_child (record { path = path; state = state; view = other }))

items_go : (model : Parts) (of_child : Job → Making) → ChildGoes of_child → (maker : List ℕ) (number : ℕ) (view other : List CellState) (items : List Item) → length other ≡ length view →
    Goes view other (of_items model of_child maker number view items) (of_items model of_child maker number other items)
items_go model of_child goes maker number view other [] e = λ alike. refl
items_go model of_child goes maker number view other (item.Emit cell effect ∷ rest) e =
    effect_goes view other cell effect (of_items model of_child maker number (emitted view cell effect) rest) (of_items model of_child maker number (emitted other cell effect) rest)
    (items_go model of_child goes maker number (emitted view cell effect) (emitted other cell effect) rest (emitted_count other cell effect ∙ e ∙ sym (emitted_count view cell effect)))
items_go model of_child goes maker number view other (item.Child kind arguments ∷ rest) e =
    let child = child_job model maker number view kind arguments in
    child_goes view other (of_child child) (of_child (child_job model maker number other kind arguments))
    (of_items model of_child maker (number + 1) view rest) (of_items model of_child maker (number + 1) other rest)
    (goes child.path child.state view other e) (items_go model of_child goes maker (number + 1) view other rest e)

module _ (model : Parts) (budget number : ℕ) (path : List ℕ) (state : TaskState) (view other : List CellState) (long : length other ≡ length view) where
  abbrev job : Job
  job = record { path = path; state = state; view = view }

  abbrev again : Job
  again = record { path = path; state = state; view = other }

  frame_goes : (of_child : Job → Making) → ChildGoes of_child → (status : Status) (so_far : StepState) → job_step model budget job ≡ Some (status, so_far) → (making : Making) →
      Goes view other making (of_items model of_child path number other so_far.items) →
      Goes view other (with_frame (frame_of job status so_far) making) (of_step model of_child again number (job_step model budget again))
  frame_goes of_child goes status so_far e None h = tt
  frame_goes of_child goes status so_far e (Some made) h =
      λ alike.
      (let depends = frame_depends model budget path state view other status so_far e long
      (agrees_too view other (frame_of job status so_far).reads (reads_agree model budget job status so_far e) alike.0) in
      ap (of_step model of_child again number) depends.0
      ∙ (λ i. with_frame (depends.1 i) (h alike.1 i)))

  step_goes : (of_child : Job → Making) → ChildGoes of_child → (stepped : Stepped) → job_step model budget job ≡ stepped →
      Goes view other (of_step model of_child job number stepped) (of_step model of_child again number (job_step model budget again))
  step_goes of_child goes None e = tt
  step_goes of_child goes (Some (status, so_far)) e =
      frame_goes of_child goes status so_far e (of_items model of_child path number view so_far.items)
      (items_go model of_child goes path number view other so_far.items long)

within_goes : (model : Parts) (budget room number : ℕ) → ChildGoes (made_within model budget room number)
within_goes model budget zero number path state view other e =
    step_goes model budget number path state view other e (too_deep path) (λ child_path child_state one second same alike. refl)
    (job_step model budget (record { path = path; state = state; view = view })) refl
within_goes model budget (suc room) number path state view other e =
    step_goes model budget number path state view other e (made_within model budget room 0) (within_goes model budget room 0)
    (job_step model budget (record { path = path; state = state; view = view })) refl

all_go : (model : Parts) (budget : ℕ) (view other : List CellState) (jobs : List (ℕ × Job)) → length other ≡ length view →
    Goes view other (made_by_all model budget (all_in_view view jobs)) (made_by_all model budget (all_in_view other jobs))
all_go model budget view other [] e = λ alike. refl
all_go model budget view other (job ∷ rest) e =
    child_goes view other (made_within model budget (room_of job.1.path) job.0 (record job.1 { view = view })) (made_within model budget (room_of job.1.path) job.0 (record job.1 { view = other }))
    (made_by_all model budget (all_in_view view rest)) (made_by_all model budget (all_in_view other rest))
    (within_goes model budget (room_of job.1.path) job.0 job.1.path job.1.state view other e) (all_go model budget view other rest e)

goes_on : (view other : List CellState) (making again : Making) → Goes view other making again → (made : Made) → making ≡ Some made → AreAlikeWhereRead view other made.frames → again ≡ Some made
goes_on view other None again h made e alike = absurd (cc)
goes_on view other (Some found) again h made e alike =
    let same : found ≡ made = cc in
    subst (λ (m : Made). AreAlikeWhereRead view other m.frames → again ≡ Some m) same h alike

pub made_depends : MadeDependsOnReads
made_depends model budget view other jobs made long e alike =
    goes_on view other (made_by_all model budget (all_in_view view jobs)) (made_by_all model budget (all_in_view other jobs)) (all_go model budget view other jobs long) made e alike

-- ---- ready tasks

if_ready_in : (view other : List CellState) (path : List ℕ) (task : Task) (phase : TaskPhase) (rest : List (ℕ × Job)) →
    job_if_ready other path task phase (all_in_view other rest) ≡ all_in_view other (job_if_ready view path task phase rest)
if_ready_in view other path task (ready state) rest = refl
if_ready_in view other path task (anchored to edge start state) rest = refl
if_ready_in view other path task (delayed until state) rest = refl
if_ready_in view other path task (waiting condition state) rest = refl
if_ready_in view other path task (calling child into state) rest = refl
if_ready_in view other path task (over result) rest = refl

pub ready_in_view : ReadyInView
ready_in_view view other [] = refl
ready_in_view view other (entry ∷ rest) =
    ap (job_if_ready other entry.0 entry.1 entry.1.phase) (ready_in_view view other rest)
    ∙ if_ready_in view other entry.0 entry.1 entry.1.phase (ready_jobs view rest)
