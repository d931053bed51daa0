-- The frames that were found and those of the missed jobs, woven together, tell what the wave of all jobs does.
use Rattle.std.proofs.Common.{◌≡◌, ◌≤◌, ◌<◌, ℕ, ◌+◌, Bool, true, false, List, [], ◌∷◌, ◌++◌, Option, Some, None, arith, refl, sym, ap, ◌∙◌, subst, is_some, length, drop, append_assoc, append-nil}
use Rattle.std.specs.List.{All}
use Rattle.std.specs.Option.{option_to_list}
use Rattle.std.proofs.lemmas.List.{drop_all}
use Rattle.std.proofs.lemmas.List.Elements.{All-cons, All-head, All-nil, All-tail}
use Rattle.aerie_base.specs.declared.models.model.Parts.{Parts}
use Rattle.run_data.specs.declared.frames.Record.{Record}
use Rattle.run_data.specs.declared.frames.Status.{Status}
use Rattle.run_data.specs.declared.jobs.Job.{Job}
use Rattle.run_data.specs.declared.steppers.Wave.{Wave}
use Rattle.run_data.specs.declared.steppers.Wave.TheVariants.{Frames, Spent}
use Rattle.run_data.specs.TaskFrames.{Frame}
use Rattle.run_data.specs.Batches.{cost_of}
use Rattle.run_data.specs.Counts.{cost_append, unmatched_of_none}
use Rattle.run_data.specs.Frames.{frame_of, job_step}
use Rattle.run_data.specs.Jobs.{IsJobOf}
use Rattle.run_data.specs.Records.{has_fit, unmatched}
use Rattle.run_data.specs.StepStates.{StepState}
use Rattle.run_data.specs.Steps.{Stepped}
use Rattle.run_data.specs.Waves.{frames_of, unless_spent, wave_of, with_step, IsFrugal}
use Rattle.run_data.specs.laws.MadeReads.{ReadsAgree}
use Rattle.run_data.specs.laws.ValidRecords.{SameReadsAreEqual, SameTasksAreEqual, ValidRecordsFit, ValidRecordsPass}
use Rattle.batch_run.specs.Answers.{AreAnswers, HasNoStep, TakesNext, missed, woven}
use Rattle.batch_run.proofs.Joining.{alike, costs_more, frames_append, spent_by, tells}
use Rattle.batch_run.proofs.Stored.{fits_none, found_is}

-- ---- answers

abbrev pub IsNothing : Option Frame → Type 0
IsNothing answer = answer ≡ None

pub nothing_there : (answer : Option Frame) → is_some answer ≡ false → answer ≡ None
nothing_there None is = refl
nothing_there (Some frame) is = absurd (cc)

-- all jobs are answered
pub all_answered : (model : Parts) (records : List Record) (jobs : List Job) (i : ℕ) (answers : List (Option Frame)) → length jobs ≤ i →
    ((rest : List (Option Frame)) → AreAnswers model records (drop i jobs) rest → AreAnswers model records jobs (answers ++ rest)) → AreAnswers model records jobs answers
all_answered model records jobs i answers all so_far =
    subst (AreAnswers model records jobs) (append-nil answers)
    (so_far [] (subst (λ (these : List Job). AreAnswers model records these []) (sym (drop_all i jobs all)) tt))

-- ---- frames in their places

-- the frames that come of the next answer and of those behind it
pub woven_next : (answer next : Option Frame) (answers : List (Option Frame)) (before after : List Frame) → TakesNext answer next before after → woven (answer ∷ answers) before ≡ option_to_list next ++ woven answers after
woven_next (Some frame) next answers before after is = rw (is.0, is.1) refl
woven_next None (Some frame) answers before after is = rw is refl
woven_next None None answers before after is = rw (is.0, is.1) refl

-- one frame more, which is paid for
pub one_woven : (answer : Option Frame) (frame : Frame) (answers : List (Option Frame)) (before after frames whole : List Frame) → TakesNext answer (Some frame) before after →
    frames ++ woven (answer ∷ answers) before ≡ whole → (frames ++ frame ∷ []) ++ woven answers after ≡ whole
one_woven answer frame answers before after frames whole is so_far =
    append_assoc frames (frame ∷ []) (woven answers after) ∙ ap (λ (these : List Frame). frames ++ these) (sym (woven_next answer (Some frame) answers before after is)) ∙ so_far

-- no frame more
pub none_woven : (answer : Option Frame) (answers : List (Option Frame)) (before after frames whole : List Frame) → TakesNext answer None before after →
    frames ++ woven (answer ∷ answers) before ≡ whole → frames ++ woven answers after ≡ whole
none_woven answer answers before after frames whole is so_far =
    ap (λ (these : List Frame). frames ++ these) (sym (woven_next answer None answers before after is)) ∙ so_far

-- a frame that costs more than what is left
pub past_woven : (fuel left : ℕ) (answer : Option Frame) (frame : Frame) (answers : List (Option Frame)) (before after frames whole : List Frame) → TakesNext answer (Some frame) before after →
    left + cost_of frames ≡ fuel → left < frame.cost → frames ++ woven (answer ∷ answers) before ≡ whole → Spent ≡ unless_spent fuel (Some whole)
past_woven fuel left answer frame answers before after frames whole is costs more so_far =
    let all = one_woven answer frame answers before after frames whole is so_far in
    let sum = cost_append (frames ++ frame ∷ []) (woven answers after) in
    let one = cost_append frames (frame ∷ []) in
    let past : fuel < cost_of ((frames ++ frame ∷ []) ++ woven answers after) = omega (arith, sum, one, costs, more) in
    sym (ap (λ (these : List Frame). unless_spent fuel (Some these)) (sym all) ∙ spent_by fuel ((frames ++ frame ∷ []) ++ woven answers after) past)

-- ---- the missed jobs

pub missed_are : (P : Job → Type 0) (jobs : List Job) (answers : List (Option Frame)) → All P jobs → All P (missed jobs answers)
missed_are P [] answers all = All-nil P
missed_are P (job ∷ jobs) [] all = All-nil P
missed_are P (job ∷ jobs) (Some frame ∷ answers) all = missed_are P jobs answers (All-tail P job jobs all)
missed_are P (job ∷ jobs) (None ∷ answers) all = All-cons P job (missed jobs answers) (All-head P job jobs all) (missed_are P jobs answers (All-tail P job jobs all))

pub as_many : (model : Parts) (records : List Record) (jobs : List Job) (answers : List (Option Frame)) → AreAnswers model records jobs answers → length answers ≡ length jobs
as_many model records [] [] are = refl
as_many model records [] (answer ∷ answers) are = absurd are
as_many model records (job ∷ jobs) [] are = absurd are
as_many model records (job ∷ jobs) (answer ∷ answers) are = omega (arith, as_many model records jobs answers are.1)

-- where nothing is found all jobs are missed
pub all_missed : (model : Parts) (records : List Record) (jobs : List Job) (answers : List (Option Frame)) → AreAnswers model records jobs answers → All (λ (answer : Option Frame). answer ≡ None) answers →
    missed jobs answers ≡ jobs
all_missed model records [] answers are none = refl
all_missed model records (job ∷ jobs) [] are none = absurd are
all_missed model records (job ∷ jobs) (Some frame ∷ answers) are none =
    let no : Some frame ≡ None = All-head (λ (answer : Option Frame). answer ≡ None) (Some frame) answers none in absurd (cc)
all_missed model records (job ∷ jobs) (None ∷ answers) are none =
    ap (λ (rest : List Job). job ∷ rest) (all_missed model records jobs answers are.1 (All-tail (λ (answer : Option Frame). answer ≡ None) None answers none))

-- ---- the frames of a job and of those behind it

-- the frame of the first job, and those of the others
pub record First (model : Parts) (fuel : ℕ) (job : Job) (jobs : List Job) (frames : List Frame) : Type 0 where
  pub status : Status
  pub so_far : StepState
  pub others : List Frame
  pub step : job_step model fuel job ≡ Some (status, so_far)
  pub rest : frames_of model fuel jobs ≡ Some others
  pub all : frames ≡ frame_of job status so_far ∷ others

first_of : (model : Parts) (fuel : ℕ) (job : Job) (jobs : List Job) (frames : List Frame) → frames_of model fuel (job ∷ jobs) ≡ Some frames → First model fuel job jobs frames
first_of model fuel job jobs frames is = by (job_step model fuel job) (frames_of model fuel jobs) refl refl is
  where
    by : (step : Stepped) (rest : Option (List Frame)) → job_step model fuel job ≡ step → frames_of model fuel jobs ≡ rest → with_step job step rest ≡ Some frames → First model fuel job jobs frames
    by None rest s r w = absurd (cc)
    by (Some (status, so_far)) None s r w = absurd (cc)
    by (Some (status, so_far)) (Some others) s r w = record { status = status; so_far = so_far; others = others; step = s; rest = r; all = cc }

none_behind : (model : Parts) (fuel : ℕ) (job : Job) (jobs : List Job) → frames_of model fuel jobs ≡ None → frames_of model fuel (job ∷ jobs) ≡ None
none_behind model fuel job jobs none = ap (with_step job (job_step model fuel job)) none ∙ by (job_step model fuel job)
  where
    by : (step : Stepped) → with_step job step None ≡ None
    by None = refl
    by (Some (status, so_far)) = refl

-- ---- the wave

module _ (fit : ValidRecordsFit) (pass : ValidRecordsPass) (model : Parts) (records : List Record) (fuel : ℕ) where
  -- the woven frames tell what the wave of all jobs does
  pub woven_is : (jobs : List Job) (answers : List (Option Frame)) (fresh : List Frame) → All (IsJobOf model) jobs → AreAnswers model records jobs answers →
      frames_of model fuel (missed jobs answers) ≡ Some fresh → unless_spent fuel (Some (woven answers fresh)) ≡ wave_of model fuel jobs
  woven_is [] [] fresh all are is = refl
  woven_is [] (answer ∷ answers) fresh all are is = absurd are
  woven_is (job ∷ jobs) [] fresh all are is = absurd are
  woven_is (job ∷ jobs) (Some frame ∷ answers) fresh all are is =
      let cells = (All-head (IsJobOf model) job jobs all).view in
      let rest = woven_is jobs answers fresh (All-tail (IsJobOf model) job jobs all) are.1 is in
      alike fuel (Some (frame ∷ [])) (frames_of model fuel (job ∷ [])) (Some (woven answers fresh)) (frames_of model fuel jobs) (found_is fit pass model fuel job cells frame are.0) rest
      ∙ ap (unless_spent fuel) (sym (frames_append model fuel (job ∷ []) jobs))
  woven_is (job ∷ jobs) (None ∷ answers) fresh all are is =
      let first = first_of model fuel job (missed jobs answers) fresh is in
      let frame = frame_of job first.status first.so_far in
      let rest = woven_is jobs answers first.others (All-tail (IsJobOf model) job jobs all) are.1 first.rest in
      let one : Some (frame ∷ []) ≡ frames_of model fuel (job ∷ []) = sym (ap (λ (step : Stepped). with_step job step (Some [])) first.step) in
      ap (λ (these : List Frame). unless_spent fuel (Some (woven (None ∷ answers) these))) first.all
      ∙ alike fuel (Some (frame ∷ [])) (frames_of model fuel (job ∷ [])) (Some (woven answers first.others)) (frames_of model fuel jobs) (ap (unless_spent fuel) one) rest
      ∙ ap (unless_spent fuel) (sym (frames_append model fuel (job ∷ []) jobs))

  none_missed : (jobs : List Job) (answers : List (Option Frame)) → AreAnswers model records jobs answers → frames_of model fuel (missed jobs answers) ≡ None → frames_of model fuel jobs ≡ None
  none_missed [] [] are none = none
  none_missed [] (answer ∷ answers) are none = absurd are
  none_missed (job ∷ jobs) [] are none = absurd are
  none_missed (job ∷ jobs) (Some frame ∷ answers) are none = none_behind model fuel job jobs (none_missed jobs answers are.1 none)
  none_missed (job ∷ jobs) (None ∷ answers) are none = by (job_step model fuel job) (frames_of model fuel (missed jobs answers)) refl refl none (none_missed jobs answers are.1)
    where
      by : (step : Stepped) (rest : Option (List Frame)) → job_step model fuel job ≡ step → frames_of model fuel (missed jobs answers) ≡ rest → with_step job step rest ≡ None →
          (frames_of model fuel (missed jobs answers) ≡ None → frames_of model fuel jobs ≡ None) → frames_of model fuel (job ∷ jobs) ≡ None
      by None rest s r w more = ap (λ (step : Stepped). with_step job step (frames_of model fuel jobs)) s
      by (Some (status, so_far)) None s r w more = none_behind model fuel job jobs (more r)
      by (Some (status, so_far)) (Some others) s r w more = absurd (cc)

  -- ---- what it costs

  module _ (states : SameTasksAreEqual) (reads : SameReadsAreEqual) (agree : ReadsAgree) where
    unfitted : (job : Job) (status : Status) (so_far : StepState) → job_step model fuel job ≡ Some (status, so_far) → HasNoStep records job → has_fit records (frame_of job status so_far) ≡ false
    unfitted job status so_far step none = fits_none states reads job records (frame_of job status so_far) refl (agree model fuel job status so_far step) none

    counted : (frame : Frame) (frames : List Frame) (fits : Bool) → has_fit records frame ≡ fits → unmatched frames records ≤ unmatched (frame ∷ frames) records
    counted frame frames true fits = rw fits (omega arith)
    counted frame frames false fits = rw fits (omega arith)

    -- what was run costs no more than what of all frames no stored step fits
    pub frugal : (jobs : List Job) (answers : List (Option Frame)) (fresh : List Frame) → AreAnswers model records jobs answers → frames_of model fuel (missed jobs answers) ≡ Some fresh →
        cost_of fresh ≤ unmatched (woven answers fresh) records
    frugal [] [] fresh are is = let none : fresh ≡ [] = cc in rw none (omega arith)
    frugal [] (answer ∷ answers) fresh are is = absurd are
    frugal (job ∷ jobs) [] fresh are is = absurd are
    frugal (job ∷ jobs) (Some frame ∷ answers) fresh are is =
        let rest = frugal jobs answers fresh are.1 is in
        let more = counted frame (woven answers fresh) (has_fit records frame) refl in
        omega (arith, rest, more)
    frugal (job ∷ jobs) (None ∷ answers) fresh are is =
        let first = first_of model fuel job (missed jobs answers) fresh is in
        let rest = frugal jobs answers first.others are.1 first.rest in
        let none = unfitted job first.status first.so_far first.step are.0 in
        let frame = frame_of job first.status first.so_far in
        let here : frame.cost + cost_of first.others ≤ unmatched (frame ∷ woven answers first.others) records = rw none (omega (arith, rest)) in
        subst (λ (these : List Frame). cost_of these ≤ unmatched (woven (None ∷ answers) these) records) (sym first.all) here

    unmatched_within : (frames : List Frame) → unmatched frames records ≤ cost_of frames
    unmatched_within [] = omega arith
    unmatched_within (frame ∷ frames) = by (has_fit records frame) refl (unmatched_within frames)
      where
        by : (fits : Bool) → has_fit records frame ≡ fits → unmatched frames records ≤ cost_of frames → unmatched (frame ∷ frames) records ≤ cost_of (frame ∷ frames)
        by true fits less = rw fits (omega (arith, less))
        by false fits less = rw fits (omega (arith, less))

    -- where the missed jobs pass the fuel, all jobs do
    pub spent_is : (jobs : List Job) (answers : List (Option Frame)) → All (IsJobOf model) jobs → AreAnswers model records jobs answers → wave_of model fuel (missed jobs answers) ≡ Spent → Spent ≡ wave_of model fuel jobs
    spent_is jobs answers all are spent = by (frames_of model fuel (missed jobs answers)) refl spent
      where
        by : (found : Option (List Frame)) → frames_of model fuel (missed jobs answers) ≡ found → unless_spent fuel found ≡ Spent → Spent ≡ wave_of model fuel jobs
        by None is w = sym (ap (unless_spent fuel) (none_missed jobs answers are is))
        by (Some fresh) is w =
            let more = costs_more fuel fresh w in
            let least = frugal jobs answers fresh are is in
            let most = unmatched_within (woven answers fresh) in
            sym (spent_by fuel (woven answers fresh) (omega (arith, more, least, most))) ∙ woven_is jobs answers fresh all are is

    -- the wave of all jobs, where the missed ones have frames
    pub wave_is : (jobs : List Job) (answers : List (Option Frame)) (fresh : List Frame) → All (IsJobOf model) jobs → AreAnswers model records jobs answers → Frames fresh ≡ wave_of model fuel (missed jobs answers) →
        unless_spent fuel (Some (woven answers fresh)) ≡ wave_of model fuel jobs
    wave_is jobs answers fresh all are is = woven_is jobs answers fresh all are (tells fuel (frames_of model fuel (missed jobs answers)) fresh (sym is)).0

    pub wave_frugal : (jobs : List Job) (answers : List (Option Frame)) (fresh : List Frame) (wave : Wave) (before after : ℕ) → AreAnswers model records jobs answers →
        Frames fresh ≡ wave_of model fuel (missed jobs answers) → wave ≡ unless_spent fuel (Some (woven answers fresh)) → IsFrugal (Frames fresh) [] before after → IsFrugal wave records before after
    wave_frugal jobs answers fresh Spent before after are is wave within = tt
    wave_frugal jobs answers fresh (Frames frames) before after are is wave within =
        let told = (tells fuel (Some (woven answers fresh)) frames (sym wave)).0 in
        let same : woven answers fresh ≡ frames = cc in
        let least = frugal jobs answers fresh are (tells fuel (frames_of model fuel (missed jobs answers)) fresh (sym is)).0 in
        let none = unmatched_of_none fresh in
        subst (λ (these : List Frame). after ≤ before + unmatched these records) same (omega (arith, within, none, least))

    -- where nothing was found, all that was run is matched by no stored step
    pub frugal_alone : (jobs : List Job) (answers : List (Option Frame)) (fresh : List Frame) → AreAnswers model records jobs answers → All (λ (answer : Option Frame). answer ≡ None) answers →
        frames_of model fuel jobs ≡ Some fresh → cost_of fresh ≤ unmatched fresh records
    frugal_alone [] answers fresh are none is = let no : fresh ≡ [] = cc in rw no (omega arith)
    frugal_alone (job ∷ jobs) [] fresh are none is = absurd are
    frugal_alone (job ∷ jobs) (Some frame ∷ answers) fresh are none is =
        let no : Some frame ≡ None = All-head (λ (answer : Option Frame). answer ≡ None) (Some frame) answers none in absurd (cc)
    frugal_alone (job ∷ jobs) (None ∷ answers) fresh are none is =
        let first = first_of model fuel job jobs fresh is in
        let rest = frugal_alone jobs answers first.others are.1 (All-tail (λ (answer : Option Frame). answer ≡ None) None answers none) first.rest in
        let unfit = unfitted job first.status first.so_far first.step are.0 in
        let frame = frame_of job first.status first.so_far in
        let here : frame.cost + cost_of first.others ≤ unmatched (frame ∷ first.others) records = rw unfit (omega (arith, rest)) in
        subst (λ (these : List Frame). cost_of these ≤ unmatched these records) (sym first.all) here

    pub alone_frugal : (jobs : List Job) (answers : List (Option Frame)) (wave : Wave) (before after : ℕ) → AreAnswers model records jobs answers → All IsNothing answers →
        wave ≡ wave_of model fuel jobs → IsFrugal wave [] before after → IsFrugal wave records before after
    alone_frugal jobs answers Spent before after are none is within = tt
    alone_frugal jobs answers (Frames fresh) before after are none is within =
        let least = frugal_alone jobs answers fresh are none (tells fuel (frames_of model fuel jobs) fresh (sym is)).0 in
        let all = unmatched_of_none fresh in
        omega (arith, within, all, least)
