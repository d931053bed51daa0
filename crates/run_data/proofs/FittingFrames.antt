-- Frames that fit, and frames that are made.
use Rattle.std.proofs.Common.{◌≡◌, ℕ, zero, suc, ◌+◌, Bool, true, false, List, [], ◌∷◌, ◌++◌, length, Option, Some, None, refl, sym, ap, ◌∙◌, subst, IsTrue, if◌then◌else◌, nat_lt}
use Rattle.aerie_base.specs.declared.faults.Fault.TheVariants.{TooDeep}
use Rattle.aerie_base.specs.declared.models.model.Parts.{Parts}
use Rattle.aerie_base.specs.models.ValidModel.{valid_model}
use Rattle.effect_cells.specs.declared.effects.CellState.{CellState}
use Rattle.effect_cells.specs.declared.effects.Effect.{Effect}
use Rattle.effect_cells.specs.Cells.{emitted, committed_cells, first_out}
use Rattle.run_data.specs.TaskFrames.{Frame}
use Rattle.run_data.specs.declared.frames.Item.{Item}
use Rattle.run_data.specs.declared.frames.Item.TheVariants as item
use Rattle.run_data.specs.declared.frames.Record.{Record}
use Rattle.run_data.specs.declared.frames.Status.{Status}
use Rattle.run_data.specs.declared.frames.Status.TheVariants as status
use Rattle.run_data.specs.declared.jobs.Job.{Job}
use Rattle.run_data.specs.Batches.{committed, judged, when_within, when_no_fault, unless_out, Blame, by_path, fault_in, least_fault, tree_of, cost_of}
use Rattle.run_data.specs.Frames.{Made, Making, with_effect, with_child, with_frame, job_step, frame_of, child_job, of_items, of_step, too_deep, made_within, made_by_all, room_of, read_from}
use Rattle.run_data.specs.Jobs.{is_state_of, AreCellsOf, IsJobOf}
use Rattle.run_data.specs.Records.{record_of, stepped_record}
use Rattle.run_data.specs.StepStates.{StepState}
use Rattle.run_data.specs.Steps.{Stepped}
use Rattle.run_data.specs.TaskStates.{body_of}
use Rattle.run_data.specs.Waves.{frames_of, with_step}
use Rattle.run_data.specs.laws.FittingFrames.{FirstAndOthers, AreOfEach, FitsJob, FitsWith, FitTree, FitAll, FitEach, FittingWave, FittingFramesAreMade, MadeFramesFit, FitByPath, CommittedFramesFit}
use Rattle.run_data.specs.laws.Generations.{frames_in, child_jobs}
use Rattle.run_data.specs.laws.ModelSteps.{AreChildrenOf}
use Rattle.run_data.specs.laws.Orders.{EachOf}
use Rattle.run_data.proofs.Budgets.{cost_is_within}
use Rattle.run_data.proofs.CellKinds.{cells_emitted}
use Rattle.run_data.proofs.FreshRuns.{emitted_count}
use Rattle.run_data.proofs.MadeReads.{reads_agree}
use Rattle.run_data.proofs.ModelSteps.{step_keeps}
use Rattle.run_data.specs.laws.Orders.{EachOf}
use Rattle.run_data.proofs.ReachedStates.{none_faulted}
use Rattle.run_data.proofs.StepLeavings.{EffectsFit, step_leaves}
use Rattle.run_data.proofs.ValidRecords.{frames_are_valid, valid_records_fit}

-- ---- the frames of what is made

effect_frames : (cell : ℕ) (effect : Effect) (making : Making) → frames_in (with_effect cell effect making) ≡ frames_in making
effect_frames cell effect None = refl
effect_frames cell effect (Some made) = refl

child_frames : (child rest : Making) (first others : List Frame) → frames_in child ≡ Some first → frames_in rest ≡ Some others → frames_in (with_child child rest) ≡ Some (first ++ others)
child_frames None rest first others e f = absurd (cc)
child_frames (Some child) None first others e f = absurd (cc)
child_frames (Some child) (Some rest) first others e f =
    let one : child.frames ≡ first = cc in
    let two : rest.frames ≡ others = cc in
    λ i. Some (one i ++ two i)

frame_frames : (frame : Frame) (making : Making) (behind : List Frame) → frames_in making ≡ Some behind → frames_in (with_frame frame making) ≡ Some (frame ∷ behind)
frame_frames frame None behind e = absurd (cc)
frame_frames frame (Some made) behind e = let same : made.frames ≡ behind = cc in ap (λ (l : List Frame). Some (frame ∷ l)) same

split_child : (child rest : Making) (frames : List Frame) → frames_in (with_child child rest) ≡ Some frames →
    FirstAndOthers (λ first. frames_in child ≡ Some first) (λ others. frames_in rest ≡ Some others) frames
split_child None rest frames e = absurd (cc)
split_child (Some child) None frames e = absurd (cc)
split_child (Some child) (Some rest) frames e =
    let same : child.frames ++ rest.frames ≡ frames = cc in
    record { first = child.frames; others = rest.frames; are = sym same; is_first = refl; is_others = refl }

split_frame : (frame : Frame) (making : Making) (frames : List Frame) → frames_in (with_frame frame making) ≡ Some frames →
    (behind : List Frame) × (frames ≡ frame ∷ behind) × (frames_in making ≡ Some behind)
split_frame frame None frames e = absurd (cc)
split_frame frame (Some made) frames e = let same : frame ∷ made.frames ≡ frames = cc in (made.frames, sym same, refl)

-- ---- one frame

abbrev framed_by : List ℕ → Record → Frame
framed_by path of = record { path = path; before = of.before; reads = of.reads; items = of.items; status = of.status; cost = of.cost }

record IsFrameOf (job : Job) (stepped : Stepped) (frame : Frame) : Type 0 where
  status : Status
  so_far : StepState
  is : stepped ≡ Some (status, so_far)
  frame_is : frame_of job status so_far ≡ frame

module _ (model : Parts) (bound : ℕ) where
  frame_by : (job : Job) (frame : Frame) → AreCellsOf model job.view → FitsJob model bound job frame → IsFrameOf job (job_step model bound job) frame
  frame_by job frame view fits = by (job_step model bound job) (valid_records_fit model bound job (record_of frame) fits.valid fits.state view fits.reads fits.cost)
    where
      by : (stepped : Stepped) → stepped_record job.state stepped ≡ Some (record_of frame) → IsFrameOf job stepped frame
      by None e = absurd (cc)
      by (Some (status, so_far)) e =
          let same : record {
            before = job.state;
            reads = read_from 0 so_far.read_flags so_far.view;
            items = so_far.items;
            status = status;
            cost = so_far.cost;
          } ≡ record_of frame = cc in
          record { status = status; so_far = so_far; is = refl; frame_is = λ i. framed_by (sym fits.path i) (same i) }

  made_fits : (job : Job) (status : Status) (so_far : StepState) → length job.view ≡ length model.cells → job_step model bound job ≡ Some (status, so_far) → FitsJob model bound job (frame_of job status so_far)
  made_fits job status so_far count e = record {
    path = refl;
    state = refl;
    valid = frames_are_valid model bound job status so_far count e;
    reads = reads_agree model bound job status so_far e;
    cost = cost_is_within (body_of model job.state.kind) job.state job.view bound status so_far e;
  }

  -- ---- a wave

  wave_step : (job : Job) (frame : Frame) (frames : List Frame) (stepped : Stepped) → IsFrameOf job stepped frame → with_step job stepped (Some frames) ≡ Some (frame ∷ frames)
  wave_step job frame frames stepped of =
      ap (λ (s : Stepped). with_step job s (Some frames)) of.is ∙ ap (λ (one : Frame). Some (one ∷ frames)) of.frame_is

  wave_fits : (jobs : List Job) (frames : List Frame) → EachOf (IsJobOf model) jobs → FitEach model bound jobs frames → frames_of model bound jobs ≡ Some frames
  wave_fits [] [] are fit = refl
  wave_fits [] (frame ∷ frames) are fit = absurd fit
  wave_fits (job ∷ jobs) [] are fit = absurd fit
  wave_fits (job ∷ jobs) (frame ∷ frames) are fit =
      ap (with_step job (job_step model bound job)) (wave_fits jobs frames are.1 fit.1)
      ∙ wave_step job frame frames (job_step model bound job) (frame_by job frame are.0.view fit.0)

  -- ---- frames that fit are made

  module _ (valid : IsTrue (valid_model model)) where
    abbrev IsMadeOf : (Job → List Frame → Type 0) → (Job → Making) → Type 0
    IsMadeOf Fit of_child = (job : Job) → IsTrue (is_state_of model job.state) → AreCellsOf model job.view → (frames : List Frame) → Fit job frames → frames_in (of_child job) ≡ Some frames

    items_made : (Fit : Job → List Frame → Type 0) (of_child : Job → Making) → IsMadeOf Fit of_child → (maker : List ℕ) (number : ℕ) (view : List CellState) (items : List Item) →
        AreCellsOf model view → EffectsFit model items → AreChildrenOf model items → (frames : List Frame) → AreOfEach Fit (child_jobs model maker number view items) frames →
        frames_in (of_items model of_child maker number view items) ≡ Some frames
    items_made Fit of_child is_made maker number view [] value_read effects children frames fit = ap Some (sym fit)
    items_made Fit of_child is_made maker number view (item.Emit cell effect ∷ rest) value_read effects children frames fit =
        effect_frames cell effect (of_items model of_child maker number (emitted view cell effect) rest)
        ∙ items_made Fit of_child is_made maker number (emitted view cell effect) rest (cells_emitted model view cell effect value_read (effects.0 view value_read)) effects.1 children frames fit
    items_made Fit of_child is_made maker number view (item.Child kind arguments ∷ rest) value_read effects children frames fit =
        child_frames (of_child (child_job model maker number view kind arguments)) (of_items model of_child maker (number + 1) view rest) fit.first fit.others
        (is_made (child_job model maker number view kind arguments) children.0 value_read fit.first fit.is_first)
        (items_made Fit of_child is_made maker (number + 1) view rest value_read effects children.1 fit.others fit.is_others)
        ∙ ap Some (sym fit.are)

    step_made : (Fit : Job → List Frame → Type 0) (of_child : Job → Making) → IsMadeOf Fit of_child → (number : ℕ) (job : Job) → IsTrue (is_state_of model job.state) → AreCellsOf model job.view →
        (frames : List Frame) → FitsWith model bound (λ items. AreOfEach Fit (child_jobs model job.path number job.view items)) job frames →
        frames_in (of_step model of_child job number (job_step model bound job)) ≡ Some frames
    step_made Fit of_child is_made number job state view frames fit =
        let of = frame_by job fit.frame view fit.fits in
        let items : of.so_far.items ≡ fit.frame.items = ap (λ (f : Frame). f.items) of.frame_is in
        let stays = step_keeps model bound job of.status of.so_far valid state view of.is in
        ap (λ (s : Stepped). frames_in (of_step model of_child job number s)) of.is
        ∙ frame_frames (frame_of job of.status of.so_far) (of_items model of_child job.path number job.view of.so_far.items) fit.behind
        (items_made Fit of_child is_made job.path number job.view of.so_far.items view (step_leaves model valid bound job of.status of.so_far state view of.is).0 stays.0.children fit.behind
        (subst (λ (list : List Item). AreOfEach Fit (child_jobs model job.path number job.view list) fit.behind) (sym items) fit.children))
        ∙ ap (λ (f : Frame). Some (f ∷ fit.behind)) of.frame_is ∙ ap Some (sym fit.are)

    job_made : (room number : ℕ) → IsMadeOf (FitTree model bound room number) (made_within model bound room number)
    job_made zero number job state view frames fit = step_made (λ child of_child. ⊥) (too_deep job.path) (λ child of_model value_read one no. absurd no) number job state view frames fit
    job_made (suc room) number job state view frames fit = step_made (FitTree model bound room 0) (made_within model bound room 0) (job_made room 0) number job state view frames fit

    all_made : (jobs : List (ℕ × Job)) (frames : List Frame) → EachOf (λ job. IsJobOf model job.1) jobs → FitAll model bound jobs frames → frames_in (made_by_all model bound jobs) ≡ Some frames
    all_made [] frames are fit = ap Some (sym fit)
    all_made (job ∷ rest) frames are fit =
        child_frames (made_within model bound (room_of job.1.path) job.0 job.1) (made_by_all model bound rest) fit.first fit.others
        (job_made (room_of job.1.path) job.0 job.1 are.0.state are.0.view fit.first fit.is_first) (all_made rest fit.others are.1 fit.is_others)
        ∙ ap Some (sym fit.are)

  -- ---- frames that are made fit

  abbrev NoneFaulted : List Frame → Type 0
  NoneFaulted frames = EachOf (λ frame. fault_in frame.status ≡ None) frames

  split_none : (first others : List Frame) → NoneFaulted (first ++ others) → NoneFaulted first × NoneFaulted others
  split_none [] others none = (tt, none)
  split_none (frame ∷ first) others none = let further = split_none first others none.1 in ((none.0, further.0), further.1)

  abbrev FitsAsMade : (Job → List Frame → Type 0) → (Job → Making) → Type 0
  FitsAsMade Fit of_child = (job : Job) → length job.view ≡ length model.cells → (frames : List Frame) → frames_in (of_child job) ≡ Some frames → NoneFaulted frames → Fit job frames

  -- of what a child and the rest make
  both_fit : {First Others : List Frame → Type 0} (child rest : Making) (frames : List Frame) → frames_in (with_child child rest) ≡ Some frames → NoneFaulted frames →
      ((first : List Frame) → frames_in child ≡ Some first → NoneFaulted first → First first) →
      ((others : List Frame) → frames_in rest ≡ Some others → NoneFaulted others → Others others) → FirstAndOthers First Others frames
  both_fit child rest frames e none first others =
      let parts = split_child child rest frames e in
      let nones = split_none parts.first parts.others (subst NoneFaulted parts.are none) in
      record {
        first = parts.first;
        others = parts.others;
        are = parts.are;
        is_first = first parts.first parts.is_first nones.0;
        is_others = others parts.others parts.is_others nones.1;
      }

  items_fit : (Fit : Job → List Frame → Type 0) (of_child : Job → Making) → FitsAsMade Fit of_child → (maker : List ℕ) (number : ℕ) (view : List CellState) (items : List Item) → length view ≡ length model.cells →
      (frames : List Frame) → frames_in (of_items model of_child maker number view items) ≡ Some frames → NoneFaulted frames → AreOfEach Fit (child_jobs model maker number view items) frames
  items_fit Fit of_child fits maker number view [] count frames e none = let same : [] ≡ frames = cc in sym same
  items_fit Fit of_child fits maker number view (item.Emit cell effect ∷ rest) count frames e none =
      items_fit Fit of_child fits maker number (emitted view cell effect) rest (emitted_count view cell effect ∙ count) frames
      (sym (effect_frames cell effect (of_items model of_child maker number (emitted view cell effect) rest)) ∙ e) none
  items_fit Fit of_child fits maker number view (item.Child kind arguments ∷ rest) count frames e none =
      both_fit (of_child (child_job model maker number view kind arguments)) (of_items model of_child maker (number + 1) view rest) frames e none
      (fits (child_job model maker number view kind arguments) count) (items_fit Fit of_child fits maker (number + 1) view rest count)

  step_fits : (Fit : Job → List Frame → Type 0) (of_child : Job → Making) → FitsAsMade Fit of_child → (number : ℕ) (job : Job) → length job.view ≡ length model.cells →
      (frames : List Frame) (stepped : Stepped) → job_step model bound job ≡ stepped → frames_in (of_step model of_child job number stepped) ≡ Some frames → NoneFaulted frames →
      FitsWith model bound (λ items. AreOfEach Fit (child_jobs model job.path number job.view items)) job frames
  step_fits Fit of_child fits number job count frames None s e none = absurd (cc)
  step_fits Fit of_child fits number job count frames (Some (status, so_far)) s e none =
      let parts = split_frame (frame_of job status so_far) (of_items model of_child job.path number job.view so_far.items) frames e in
      record {
        frame = frame_of job status so_far;
        behind = parts.0;
        are = parts.1;
        fits = made_fits job status so_far count s;
        children = items_fit Fit of_child fits job.path number job.view so_far.items count parts.0 parts.2 (subst NoneFaulted parts.1 none).1;
      }

  too_deep_none : (maker : List ℕ) → FitsAsMade (λ child of_child. ⊥) (too_deep maker)
  too_deep_none maker child count [] e none = absurd (cc)
  too_deep_none maker child count (frame ∷ rest) e none =
      let deep : record { path = maker; before = child.state; reads = []; items = []; status = status.Faulted TooDeep; cost = 0 } ≡ frame = cc in
      let fault = subst (λ (f : Frame). fault_in f.status ≡ None) (sym deep) none.0 in
      absurd (cc)

  job_fits : (room number : ℕ) → FitsAsMade (FitTree model bound room number) (made_within model bound room number)
  job_fits zero number job count frames e none =
      step_fits (λ child of_child. ⊥) (too_deep job.path) (too_deep_none job.path) number job count frames (job_step model bound job) refl e none
  job_fits (suc room) number job count frames e none =
      step_fits (FitTree model bound room 0) (made_within model bound room 0) (job_fits room 0) number job count frames (job_step model bound job) refl e none

  all_fit : (jobs : List (ℕ × Job)) (frames : List Frame) → EachOf (λ job. IsJobOf model job.1) jobs → frames_in (made_by_all model bound jobs) ≡ Some frames → NoneFaulted frames → FitAll model bound jobs frames
  all_fit [] frames are e none = let same : [] ≡ frames = cc in sym same
  all_fit (job ∷ rest) frames are e none =
      both_fit (made_within model bound (room_of job.1.path) job.0 job.1) (made_by_all model bound rest) frames e none
      (job_fits (room_of job.1.path) job.0 job.1 are.0.view.count) (λ others f none. all_fit rest others are.1 f none)

-- ---- the laws

pub fitting_wave : FittingWave
fitting_wave = wave_fits

pub fitting_frames_are_made : FittingFramesAreMade
fitting_frames_are_made model bound jobs frames valid are fit = all_made model bound valid jobs frames are fit

pub made_frames_fit : MadeFramesFit
made_frames_fit model bound jobs frames are e none = all_fit model bound jobs frames are e (none_faulted frames none)

-- ---- a committed batch

module _ (model : Parts) (bound spent : ℕ) (cells next : List CellState) (jobs : List (ℕ × Job)) (touched : List ℕ) (frames : List Frame) (are : EachOf (λ job. IsJobOf model job.1) jobs) where
  out_fits : (made : Made) → made_by_all model bound jobs ≡ Some made → least_fault made.frames ≡ None → (out : Option ℕ) (after : List CellState) →
      unless_out out made cells after ≡ committed next touched frames → FitByPath model bound jobs frames
  out_fits made e none None after f =
      let same : by_path made.frames ≡ frames = cc in
      record { fitting = made.frames; fit = made_frames_fit model bound jobs made.frames are (ap frames_in e) none; in_order = same }
  out_fits made e none (Some cell) after f = absurd (cc)

  fault_fits : (made : Made) → made_by_all model bound jobs ≡ Some made → (blame : Option Blame) → least_fault made.frames ≡ blame →
      when_no_fault blame made cells ≡ committed next touched frames → FitByPath model bound jobs frames
  fault_fits made e None none f = out_fits made e none (first_out (committed_cells cells (tree_of made))) (committed_cells cells (tree_of made)) f
  fault_fits made e (Some (path, fault)) none f = absurd (cc)

  within_fits : (made : Made) → made_by_all model bound jobs ≡ Some made → (fit : Bool) → when_within fit made cells ≡ committed next touched frames → FitByPath model bound jobs frames
  within_fits made e true f = fault_fits made e (least_fault made.frames) refl f
  within_fits made e false f = absurd (cc)

  making_fits : (making : Making) → made_by_all model bound jobs ≡ making → judged bound spent cells making ≡ committed next touched frames → FitByPath model bound jobs frames
  making_fits None e f = absurd (cc)
  making_fits (Some made) e f = within_fits made e (if nat_lt bound (spent + cost_of made.frames) then false else true) f

pub committed_frames_fit : CommittedFramesFit
committed_frames_fit model bound spent cells next jobs touched frames are e =
    making_fits model bound spent cells next jobs touched frames are (made_by_all model bound jobs) refl e
