-- Jobs that are run one after another, each with the fuel that those before it left, give the frames that each has with
-- the whole fuel, as long as there is enough of it.
use Rattle.std.proofs.Common.{◌≡◌, ◌≤◌, ◌<◌, ℕ, suc, ◌+◌, Bool, true, false, IsTrue, List, [], ◌∷◌, ◌++◌, Option, Some, None, length, drop, get_or, slice_get, arith, refl, sym, ap, subst, ◌∙◌, append_assoc, append-nil, drop-cons, nat_lt, nat_le}
use Rattle.std.proofs.lemmas.Option.{slice_get_within}
use Rattle.aerie_base.specs.declared.models.model.Parts.{Parts}
use Rattle.aerie_base.specs.declared.statements.Stmt.{Stmt}
use Rattle.aerie_base.specs.declared.values.Value.{Value}
use Rattle.aerie_base.specs.declared.models.Activity.{Activity}
use Rattle.aerie_base.specs.declared.models.Daemon.{Daemon}
use Rattle.body_code.specs.ModelCodes.{AreCodesOf}
use Rattle.body_code.specs.Denoting.{IsCodeOf}
use Rattle.body_code.specs.declared.instructions.Instruction.{Instruction}
use Rattle.run_data.specs.declared.tasks.BodyId.{BodyId}
use Rattle.run_data.specs.declared.tasks.BodyId.TheVariants as body
use Rattle.run_data.specs.declared.tasks.TaskState.{TaskState}
use Rattle.run_data.specs.declared.jobs.Job.{Job}
use Rattle.run_data.specs.TaskFrames.{Frame}
use Rattle.run_data.specs.declared.frames.Status.{Status}
use Rattle.run_data.specs.declared.steppers.Wave.TheVariants.{Frames, Spent}
use Rattle.run_data.specs.Batches.{cost_of}
use Rattle.run_data.specs.StepStates.{StepState}
use Rattle.run_data.specs.Frames.{frame_of, job_step, framed, job_frame}
use Rattle.run_data.specs.Jobs.{is_activity_state, is_daemon_state, is_state_in, is_state_of}
use Rattle.run_data.specs.Steps.{Stepped}
use Rattle.run_data.specs.TaskStates.{activity_body, daemon_body, body_of}
use Rattle.run_data.specs.Counts.{cost_append}
use Rattle.run_data.specs.Waves.{with_step, frames_of, unless_spent, wave_of}
use Rattle.run_data.specs.laws.Budgets.{CostIsWithin, SameWithinCost}
use Rattle.task_step.specs.Directs.{code_place, PutsFrame}

-- ---- codes

nothing : {A B : Type 0} (x : A) → None ≡ Some x → B
nothing x e = absurd (cc)

value_is : {A : Type 0} (x y : A) → Some x ≡ Some y → x ≡ y
value_is x y e = cc

module _ (model : Parts) (codes : List (List Instruction)) (stands : AreCodesOf model codes) where
  -- a code of this body stands at this place
  abbrev HasCode : ℕ → List Stmt → Type 0
  HasCode at body = (code : List Instruction) × (slice_get codes at ≡ Some code) × IsCodeOf body code

  of_activity : (kind : ℕ) (found : Option Activity) (at : ℕ) (locals : List Value) → slice_get model.activities kind ≡ found →
      IsTrue (is_activity_state model found at locals) → HasCode kind (activity_body found)
  of_activity kind None at locals e h = absurd (cc)
  of_activity kind (Some activity) at locals e h = stands.activities kind activity e

  of_daemon : (number : ℕ) (found : Option Daemon) (at : ℕ) (locals : List Value) → slice_get model.daemons number ≡ found →
      IsTrue (is_daemon_state model found at locals) → HasCode (length model.activities + number) (daemon_body found)
  of_daemon number None at locals e h = absurd (cc)
  of_daemon number (Some daemon) at locals e h = stands.daemons number daemon e

  code_in : (kind : BodyId) (at : ℕ) (locals : List Value) → IsTrue (is_state_in model kind at locals) → HasCode (code_place model kind) (body_of model kind)
  code_in (body.Activity kind) at locals h = of_activity kind (slice_get model.activities kind) at locals refl h
  code_in (body.Daemon number) at locals h = of_daemon number (slice_get model.daemons number) at locals refl h

  has_code : (state : TaskState) → IsTrue (is_state_of model state) → HasCode (code_place model state.kind) (body_of model state.kind)
  unfolding is_state_of
  has_code state h = code_in state.kind state.at state.locals h

  pub place_within : (state : TaskState) → IsTrue (is_state_of model state) → code_place model state.kind < length codes
  place_within state h = let has = has_code state h in slice_get_within codes (code_place model state.kind) has.0 has.1

  pub code_stands : (state : TaskState) → IsTrue (is_state_of model state) → (at : ℕ) → at ≡ code_place model state.kind → (code : List Instruction) → slice_get codes at ≡ Some code → IsCodeOf (body_of model state.kind) code
  code_stands state h at here code is =
      let has = has_code state h in
      subst (IsCodeOf (body_of model state.kind)) (value_is has.0 code (sym has.1 ∙ ap (slice_get codes) (sym here) ∙ is)) has.2

-- ---- one frame more behind others

-- where a cost is told there is a frame, which has it
pub added : (frame : Option Frame) (told : Option ℕ) (cost : ℕ) (before after : List Frame) → PutsFrame frame told before after → told ≡ Some cost →
    (its : Frame) × (frame ≡ Some its) × (cost ≡ its.cost) × (after ≡ before ++ its ∷ [])
added None told cost before after adds is = nothing cost (sym adds ∙ is)
added (Some its) told cost before after adds is = (its, refl, value_is cost its.cost (sym is ∙ adds.0), adds.1)

-- where none is told there is no frame
pub none_added : (frame : Option Frame) (told : Option ℕ) (before after : List Frame) → PutsFrame frame told before after → told ≡ None → frame ≡ None
none_added None told before after adds is = refl
none_added (Some its) told before after adds is = nothing its.cost (sym is ∙ adds.0)

-- ---- costs

pub cost_more : (frames : List Frame) (frame : Frame) → cost_of (frames ++ frame ∷ []) ≡ cost_of frames + frame.cost
cost_more frames frame = omega (arith, cost_append frames (frame ∷ []))

-- ---- frames

-- some frames in front of the others, where there are these
abbrev pub in_front : List Frame → Option (List Frame) → Option (List Frame)
in_front frames None = None
in_front frames (Some rest) = Some (frames ++ rest)

pub none_in_front : (rest : Option (List Frame)) → in_front [] rest ≡ rest
none_in_front None = refl
none_in_front (Some rest) = refl

in_front_more : (frames : List Frame) (frame : Frame) (rest : Option (List Frame)) → in_front (frames ++ frame ∷ []) rest ≡ in_front frames (in_front (frame ∷ []) rest)
in_front_more frames frame None = refl
in_front_more frames frame (Some rest) = ap Some (append_assoc frames (frame ∷ []) rest)

step_in_front : (job : Job) (status : Status) (so_far : StepState) (rest : Option (List Frame)) → with_step job (Some (status, so_far)) rest ≡ in_front (frame_of job status so_far ∷ []) rest
step_in_front job status so_far None = refl
step_in_front job status so_far (Some rest) = refl

next_left : (jobs : List Job) (i : ℕ) (none : Job) → i < length jobs → drop i jobs ≡ get_or jobs i none ∷ drop (i + 1) jobs
next_left jobs i none within = let next : i + 1 ≡ suc i = omega arith in rw next (drop-cons jobs i none within)

module _ (least : CostIsWithin) (same : SameWithinCost) (model : Parts) (fuel : ℕ) where
  -- the step of a job costs no more than it may, and the whole fuel gives the same frame
  fits : (left : ℕ) (job : Job) (stepped : Stepped) → left ≤ fuel → job_step model left job ≡ stepped → (frame : Frame) → framed job stepped ≡ Some frame →
      (frame.cost ≤ left) × ((rest : List Job) → frames_of model fuel (job ∷ rest) ≡ in_front (frame ∷ []) (frames_of model fuel rest))
  fits left job None less e frame is = nothing frame is
  fits left job (Some (status, so_far)) less e frame is =
      let body = body_of model job.state.kind in
      let within = least body job.state job.view left status so_far e in
      let whole = same body job.state job.view left fuel status so_far e (omega (arith, within, less)) in
      let its = value_is (frame_of job status so_far) frame is in (
        omega (arith, within, ap (λ f. f.cost) its),
        λ rest.
            ap (λ stepped. with_step job stepped (frames_of model fuel rest)) whole
            ∙ step_in_front job status so_far (frames_of model fuel rest)
            ∙ ap (λ f. in_front (f ∷ []) (frames_of model fuel rest)) its,
      )

  pub cost_within : (left : ℕ) (job : Job) (frame : Frame) → left ≤ fuel → job_frame model left job ≡ Some frame → frame.cost ≤ left
  cost_within left job frame less is = (fits left job (job_step model left job) less refl frame is).0

  -- one frame more
  pub one_more : (left i : ℕ) (jobs : List Job) (job : Job) (frames : List Frame) (frame : Frame) (whole : Option (List Frame)) → i < length jobs → job ≡ get_or jobs i job → left ≤ fuel →
      job_frame model left job ≡ Some frame → in_front frames (frames_of model fuel (drop i jobs)) ≡ whole →
      in_front (frames ++ frame ∷ []) (frames_of model fuel (drop (i + 1) jobs)) ≡ whole
  one_more left i jobs job frames frame whole within here less is before =
      let rest = drop (i + 1) jobs in
      in_front_more frames frame (frames_of model fuel rest)
      ∙ ap (in_front frames) (sym ((fits left job (job_step model left job) less refl frame is).1 rest))
      ∙ ap (λ first. in_front frames (frames_of model fuel (first ∷ rest))) here
      ∙ ap (λ jobs. in_front frames (frames_of model fuel jobs)) (sym (next_left jobs i job within))
      ∙ before

  -- the frames are all
  pub all_done : (left : ℕ) (jobs : List Job) (frames : List Frame) → left + cost_of frames ≡ fuel → in_front frames (Some []) ≡ frames_of model fuel jobs →
      Frames frames ≡ wave_of model fuel jobs
  all_done left jobs frames costs before =
      let enough : nat_lt fuel (cost_of frames) ≡ false = grind (arith, costs) in
      sym (ap (unless_spent fuel) (sym before ∙ ap Some (append-nil frames)) ∙ rw enough refl)

  -- a step that may not cost what is left costs more
  dearer : (left : ℕ) (job : Job) (status : Status) (so_far : StepState) → job_step model fuel job ≡ Some (status, so_far) → job_frame model left job ≡ None →
      (test : Bool) → nat_le so_far.cost left ≡ test → left < so_far.cost
  dearer left job status so_far e is false test = grind (arith, test)
  dearer left job status so_far e is true test =
      let less : so_far.cost ≤ left = grind (arith, test) in
      let again = same (body_of model job.state.kind) job.state job.view fuel left status so_far e less in
      nothing (frame_of job status so_far) (sym is ∙ ap (framed job) again)

  -- a job that passes what is left passes the fuel
  passes : (left : ℕ) (job : Job) (frames : List Frame) (stepped : Stepped) (rest : Option (List Frame)) (jobs : List Job) → job_step model fuel job ≡ stepped → left + cost_of frames ≡ fuel →
      job_frame model left job ≡ None → in_front frames (with_step job stepped rest) ≡ frames_of model fuel jobs → Spent ≡ wave_of model fuel jobs
  passes left job frames None rest jobs e costs is before = ap (unless_spent fuel) before
  passes left job frames (Some (status, so_far)) None jobs e costs is before = ap (unless_spent fuel) before
  passes left job frames (Some (status, so_far)) (Some rest) jobs e costs is before =
      let all = frames ++ frame_of job status so_far ∷ rest in
      let more = dearer left job status so_far e is (nat_le so_far.cost left) refl in
      let total = cost_append frames (frame_of job status so_far ∷ rest) in
      let too_much : nat_lt fuel (cost_of all) ≡ true = grind (arith, more, total, costs) in
      sym (ap (unless_spent fuel) (sym before) ∙ rw too_much refl)

  pub is_spent : (left i : ℕ) (jobs : List Job) (job : Job) (frames : List Frame) → i < length jobs → job ≡ get_or jobs i job → left + cost_of frames ≡ fuel →
      job_frame model left job ≡ None → in_front frames (frames_of model fuel (drop i jobs)) ≡ frames_of model fuel jobs → Spent ≡ wave_of model fuel jobs
  is_spent left i jobs job frames within here costs is before =
      passes left job frames (job_step model fuel job) (frames_of model fuel (drop (i + 1) jobs)) jobs refl costs is
      (ap (λ first. in_front frames (frames_of model fuel (first ∷ drop (i + 1) jobs))) here
      ∙ ap (λ jobs. in_front frames (frames_of model fuel jobs)) (sym (next_left jobs i job within))
      ∙ before)
