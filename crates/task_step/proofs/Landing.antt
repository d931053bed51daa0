-- The places of flat code through which a step goes, and its invariant.
use Rattle.std.proofs.Common.{◌≡◌, ◌≢◌, get_or, ℕ, suc, ◌-◌, ◌<◌, ◌≤◌, List, [], ◌∷◌, Option, Some, None, true, false, refl, sym, ap, ◌∙◌, subst, arith, length, inl, inr}
use Rattle.std.specs.Prelude.{slice_get}
use Rattle.std.proofs.lemmas.Option.{slice_get-get_or}
use Rattle.aerie_base.specs.declared.statements.Stmt.{Stmt}
use Rattle.aerie_base.specs.declared.models.model.Parts.{Parts}
use Rattle.aerie_base.specs.statements.Places.{Placed, left}
use Rattle.body_code.specs.Denoting.{IsCodeOf, Denotes, Tests, chooses, repeats, JumpsEnd, IsTestAt}
use Rattle.body_code.specs.declared.instructions.Instruction.{Instruction}
use Rattle.body_code.specs.declared.instructions.Instruction.TheVariants.{Do, Test, Jump, End}
use Rattle.run_data.specs.declared.jobs.Job.{Job}
use Rattle.run_data.specs.TaskFrames.{Frame}
use Rattle.run_data.specs.declared.frames.Status.{Status}
use Rattle.run_data.specs.declared.frames.Status.TheVariants.{Done}
use Rattle.run_data.specs.StepStates.{StepState, starting}
use Rattle.run_data.specs.Frames.{frame_of, job_step, framed, job_frame}
use Rattle.run_data.specs.Steps.{steps}
use Rattle.run_data.specs.TaskStates.{body_of}
use Rattle.task_step.specs.Moves.{is_end, is_jump, is_work, rank, rank_of}
use Rattle.task_step.specs.Ways.{Leads}

-- ---- jumps

pub lands : (body : List Stmt) (code : List Instruction) (at to : ℕ) (instruction : Instruction) (start : List Placed) →
    IsCodeOf body code → slice_get code at ≡ Some instruction → instruction ≡ Jump to → left body at ≡ start → (to < length code) × (left body to ≡ start)
lands body code at to instruction start is_code at_is e h =
    let s = subst (Denotes (left body) (length code) at) e (is_code.denotes at instruction at_is) in
    (s.0, sym s.1 ∙ h)

rank_zero : (code : List Instruction) (at : ℕ) → IsTestAt code at → rank code at ≡ 0
rank_zero code at t = ap (λ o. rank_of o (length code - at)) t.2

rank_most : (there : Option Instruction) (places : ℕ) → rank_of there places ≤ places
rank_most None places = omega arith
rank_most (Some (Do stmt)) places = omega arith
rank_most (Some (Test test otherwise)) places = omega arith
rank_most (Some (Jump to)) places = omega arith
rank_most (Some End) places = omega arith

pub falls : (body : List Stmt) (code : List Instruction) (at to : ℕ) (instruction : Instruction) →
    IsCodeOf body code → slice_get code at ≡ Some instruction → instruction ≡ Jump to → at < length code → rank code to < rank code at
falls body code at to instruction is_code at_is e lt =
    let t = subst (JumpsEnd code at) e (is_code.jumps_end at instruction at_is) in
    let here : rank code at ≡ length code - at = ap (λ o. rank_of o (length code - at)) (at_is ∙ ap Some e) in
    elim t [ inl more ↦ omega (arith, here, rank_most (slice_get code to) (length code - to)) | inr test ↦ omega (arith, here, rank_zero code to test) ]

-- ---- the loop

end_left : (body : List Stmt) (code : List Instruction) (at : ℕ) (there : Option Instruction) → IsCodeOf body code → slice_get code at ≡ there → is_end there ≡ true → left body at ≡ []
end_left body code at None is_code e h = absurd (cc)
end_left body code at (Some (Do stmt)) is_code e h = absurd (cc)
end_left body code at (Some (Test test otherwise)) is_code e h = absurd (cc)
end_left body code at (Some (Jump to)) is_code e h = absurd (cc)
end_left body code at (Some End) is_code e h = is_code.denotes at End e

work_of : (there : Option Instruction) (instruction : Instruction) → there ≡ Some instruction → is_jump there ≡ false → is_end there ≡ false → is_work there ≡ true
work_of None instruction e j h = absurd (cc)
work_of (Some (Do stmt)) instruction e j h = refl
work_of (Some (Test test otherwise)) instruction e j h = refl
work_of (Some (Jump to)) instruction e j h = absurd (cc)
work_of (Some End) instruction e j h = absurd (cc)

pub works : (code : List Instruction) (at : ℕ) → at < length code → is_jump (slice_get code at) ≡ false → is_end (slice_get code at) ≡ false → is_work (slice_get code at) ≡ true
works code at lt j h = work_of (slice_get code at) (get_or code at End) (slice_get-get_or code at End lt) j h

work_left : (body : List Stmt) (code : List Instruction) (at : ℕ) (there : Option Instruction) → IsCodeOf body code → slice_get code at ≡ there → is_work there ≡ true →
    (here : Placed) × (rest : List Placed) × (left body at ≡ here ∷ rest)
work_left body code at None is_code e h = absurd (cc)
work_left body code at (Some (Do stmt)) is_code e h = (_, _, (is_code.denotes at (Do stmt) e).2)
work_left body code at (Some (Test test otherwise)) is_code e h = of_tests (is_code.denotes at (Test test otherwise) e).2 where
  of_tests : Tests (left body) at test otherwise → (here : Placed) × (rest : List Placed) × (left body at ≡ here ∷ rest)
  of_tests (chooses block other rest here then_left else_left) = (_, rest, here)
  of_tests (repeats block rest here then_left else_left) = (_, rest, here)
work_left body code at (Some (Jump to)) is_code e h = absurd (cc)
work_left body code at (Some End) is_code e h = absurd (cc)

module _ (model : Parts) (code : List Instruction) (job : Job) (at here fuel : ℕ) (so_far : StepState) (is_code : IsCodeOf (body_of model job.state.kind) code)
    (same : steps job.state.kind fuel (left (body_of model job.state.kind) job.state.at) (starting job.view job.state.locals)
    ≡ steps job.state.kind (fuel - so_far.cost) (left (body_of model job.state.kind) at) so_far)
    (landed : left (body_of model job.state.kind) here ≡ left (body_of model job.state.kind) at) where
  steps_here : job_step model fuel job ≡ steps job.state.kind (fuel - so_far.cost) (left (body_of model job.state.kind) here) so_far
  steps_here = same ∙ ap (λ l. steps job.state.kind (fuel - so_far.cost) l so_far) (sym landed)

  -- at the end of the body
  pub over : (frame : Frame) → is_end (slice_get code here) ≡ true → frame ≡ frame_of job (Done None) so_far → job_frame model fuel job ≡ Some frame
  over frame h e =
      ap (framed job) (steps_here ∙ ap (λ l. steps job.state.kind (fuel - so_far.cost) l so_far) (end_left (body_of model job.state.kind) code here (slice_get code here) is_code refl h))
      ∙ ap Some (sym e)

  -- where the fuel is spent
  pub spent : here < length code → is_jump (slice_get code here) ≡ false → is_end (slice_get code here) ≡ false → so_far.cost ≡ fuel → job_frame model fuel job ≡ None
  spent lt j h c =
      let w = work_left (body_of model job.state.kind) code here (slice_get code here) is_code refl (works code here lt j h) in
      let z : fuel - so_far.cost ≡ 0 = omega arith in
      ap (framed job) (steps_here ∙ ap (λ l. steps job.state.kind (fuel - so_far.cost) l so_far) w.2 ∙ ap (λ n. steps job.state.kind n (w.0 ∷ w.1) so_far) z)

  -- where a statement or a test ends the step
  pub ends : (frame : Frame) (status : Status) (last : StepState) → so_far.cost ≤ fuel → so_far.cost ≢ fuel →
      ((budget : ℕ) → steps job.state.kind (suc budget) (left (body_of model job.state.kind) here) so_far ≡ Some (status, last)) →
      frame ≡ frame_of job status last → job_frame model fuel job ≡ Some frame
  ends frame status last le ne g e =
      let z : fuel - so_far.cost ≡ suc (fuel - so_far.cost - 1) = omega arith in
      ap (framed job) (steps_here ∙ ap (λ n. steps job.state.kind n (left (body_of model job.state.kind) here) so_far) z ∙ g (fuel - so_far.cost - 1))
      ∙ ap Some (sym e)

  -- where it goes on
  pub goes_on : (to : ℕ) (next : StepState) → so_far.cost ≤ fuel → so_far.cost ≢ fuel → Leads model code job.state.kind here so_far to next →
      steps job.state.kind fuel (left (body_of model job.state.kind) job.state.at) (starting job.view job.state.locals)
      ≡ steps job.state.kind (fuel - next.cost) (left (body_of model job.state.kind) to) next
  goes_on to next le ne g =
      let z : fuel - so_far.cost ≡ suc (fuel - next.cost) = omega (arith, g.cost) in
      steps_here ∙ ap (λ n. steps job.state.kind n (left (body_of model job.state.kind) here) so_far) z ∙ g.same (fuel - next.cost)
