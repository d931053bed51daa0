-- What a batch makes under one bound it makes under another that pays for it.
use Rattle.std.proofs.Common.{◌≡◌, ℕ, zero, suc, ◌+◌, ◌≤◌, Bool, true, false, List, [], ◌∷◌, ◌++◌, Option, Some, None, refl, sym, ap, ◌∙◌, if◌then◌else◌, nat_lt, arith}
use Rattle.std.proofs.lemmas.Bool.{ltb-true, ltb-false}
use Rattle.aerie_base.specs.declared.faults.Fault.{Fault}
use Rattle.run_data.specs.declared.runs.Who.{Who}
use Rattle.aerie_base.specs.declared.models.model.Parts.{Parts}
use Rattle.effect_cells.specs.declared.effects.CellState.{CellState}
use Rattle.effect_cells.specs.declared.effects.Effect.{Effect}
use Rattle.effect_cells.specs.declared.trees.Part.{Emit, Child}
use Rattle.effect_cells.specs.Cells.{emitted, committed_cells, first_out}
use Rattle.run_data.specs.declared.jobs.Job.{Job}
use Rattle.run_data.specs.TaskFrames.{Frame}
use Rattle.run_data.specs.declared.frames.Item.{Item}
use Rattle.run_data.specs.declared.frames.Item.TheVariants as item
use Rattle.run_data.specs.Batches.{failed, committed, batch, judged, when_within, when_no_fault, unless_out, Blame, least_fault, tree_of, cost_of, by_path}
use Rattle.run_data.specs.Frames.{Made, Making, with_effect, with_child, with_frame, job_step, frame_of, child_job, of_items, of_step, too_deep, made_within, made_by, made_by_all, room_of}
use Rattle.run_data.specs.Steps.{Stepped}
use Rattle.run_data.specs.TaskStates.{body_of}
use Rattle.run_data.proofs.Budgets.{same_within_cost}
use Rattle.run_data.specs.FrameLaws.{sorted_cost}
use Rattle.run_data.specs.Counts.{cost_append}

module _ (most : ℕ) where
  -- the first makes nothing of so little cost that the second does not make
  abbrev MakesToo : Making → Making → Type 0
  MakesToo first second = (made : Made) → first ≡ Some made → cost_of made.frames ≤ most → second ≡ Some made

  effect_too : (cell : ℕ) (effect : Effect) (first second : Making) → MakesToo first second → MakesToo (with_effect cell effect first) (with_effect cell effect second)
  effect_too cell effect None second too made e fit = absurd (cc)
  effect_too cell effect (Some one) second too made e fit =
      let same : record { frames = one.frames; tree = Emit cell effect ∷ one.tree } ≡ made = cc in
      let cost : cost_of one.frames ≡ cost_of made.frames = ap (λ (m : Made). cost_of m.frames) same in
      ap (with_effect cell effect) (too one refl (omega (arith, cost, fit))) ∙ e

  child_too : (first again rest others : Making) → MakesToo first again → MakesToo rest others → MakesToo (with_child first rest) (with_child again others)
  child_too None again rest others too further made e fit = absurd (cc)
  child_too (Some one) again None others too further made e fit = absurd (cc)
  child_too (Some one) again (Some more) others too further made e fit =
      let same : record { frames = one.frames ++ more.frames; tree = Child (record { items = one.tree }) ∷ more.tree } ≡ made = cc in
      let cost : cost_of (one.frames ++ more.frames) ≡ cost_of made.frames = ap (λ (m : Made). cost_of m.frames) same in
      let sum = cost_append one.frames more.frames in
      let a = too one refl (omega (arith, sum, cost, fit)) in
      let b = further more refl (omega (arith, sum, cost, fit)) in
      ap (λ m. with_child m others) a ∙ ap (with_child (Some one)) b ∙ e

  frame_too : (frame : Frame) (first second : Making) → MakesToo first second → MakesToo (with_frame frame first) (with_frame frame second)
  frame_too frame None second too made e fit = absurd (cc)
  frame_too frame (Some one) second too made e fit =
      let same : record { frames = frame ∷ one.frames; tree = one.tree } ≡ made = cc in
      let cost : frame.cost + cost_of one.frames ≡ cost_of made.frames = ap (λ (m : Made). cost_of m.frames) same in
      ap (with_frame frame) (too one refl (omega (arith, cost, fit))) ∙ e

  items_too : (model : Parts) (of_child other : Job → Making) → ((job : Job) → MakesToo (of_child job) (other job)) → (maker : List ℕ) (number : ℕ) (view : List CellState) (items : List Item) →
      MakesToo (of_items model of_child maker number view items) (of_items model other maker number view items)
  items_too model of_child other too maker number view [] = λ made e fit. e
  items_too model of_child other too maker number view (item.Emit cell effect ∷ rest) =
      effect_too cell effect (of_items model of_child maker number (emitted view cell effect) rest) (of_items model other maker number (emitted view cell effect) rest)
      (items_too model of_child other too maker number (emitted view cell effect) rest)
  items_too model of_child other too maker number view (item.Child kind arguments ∷ rest) =
      child_too (of_child (child_job model maker number view kind arguments)) (other (child_job model maker number view kind arguments))
      (of_items model of_child maker (number + 1) view rest) (of_items model other maker (number + 1) view rest)
      (too (child_job model maker number view kind arguments)) (items_too model of_child other too maker (number + 1) view rest)

  frame_cost : (frame : Frame) (making : Making) (made : Made) → with_frame frame making ≡ Some made → frame.cost ≤ cost_of made.frames
  frame_cost frame None made e = absurd (cc)
  frame_cost frame (Some one) made e =
      let same : record { frames = frame ∷ one.frames; tree = one.tree } ≡ made = cc in
      let cost : frame.cost + cost_of one.frames ≡ cost_of made.frames = ap (λ (m : Made). cost_of m.frames) same in omega (arith, cost)

  module _ (model : Parts) (budget other_budget : ℕ) (least : most ≤ other_budget) where
    step_too : (of_child other : Job → Making) → ((job : Job) → MakesToo (of_child job) (other job)) → (job : Job) (number : ℕ) (stepped : Stepped) → job_step model budget job ≡ stepped →
        MakesToo (of_step model of_child job number stepped) (of_step model other job number (job_step model other_budget job))
    step_too of_child other too job number None e made f fit = absurd (cc)
    step_too of_child other too job number (Some (status, so_far)) e made f fit =
        let frame = frame_of job status so_far in
        let cost = frame_cost frame (of_items model of_child job.path number job.view so_far.items) made f in
        let again : job_step model other_budget job ≡ Some (status, so_far) =
        same_within_cost (body_of model job.state.kind) job.state job.view budget other_budget status so_far e (omega (arith, cost, fit, least)) in
        ap (of_step model other job number) again
        ∙ frame_too frame (of_items model of_child job.path number job.view so_far.items) (of_items model other job.path number job.view so_far.items)
        (items_too model of_child other too job.path number job.view so_far.items) made f fit

    within_too : (room number : ℕ) (job : Job) → MakesToo (made_within model budget room number job) (made_within model other_budget room number job)
    within_too zero number job = step_too (too_deep job.path) (too_deep job.path) (λ child made e fit. e) job number (job_step model budget job) refl
    within_too (suc room) number job =
        step_too (made_within model budget room 0) (made_within model other_budget room 0) (λ child. within_too room 0 child) job number (job_step model budget job) refl

    pub all_too : (jobs : List (ℕ × Job)) → MakesToo (made_by_all model budget jobs) (made_by_all model other_budget jobs)
    all_too [] = λ made e fit. e
    all_too (job ∷ rest) =
        child_too (made_by model budget job) (made_by model other_budget job) (made_by_all model budget rest) (made_by_all model other_budget rest)
        (within_too (room_of job.1.path) job.0 job.1) (all_too rest)

-- ---- the batch

not_less : (a b : ℕ) → b ≤ a → nat_lt a b ≡ false
not_less a b h = by (nat_lt a b) refl
  where
    by : (less : Bool) → nat_lt a b ≡ less → less ≡ false
    by true e = let k = ltb-true a b e in absurd (omega arith)
    by false e = refl

module _ (model : Parts) (bound old_bound spent old_spent : ℕ) (cells : List CellState) (jobs : List (ℕ × Job)) (next : List CellState) (touched : List ℕ) (frames : List Frame) where
  out_cost : (made : Made) (after : List CellState) (out : Option ℕ) → unless_out out made cells after ≡ committed next touched frames → cost_of made.frames ≡ cost_of frames
  out_cost made after None e = let same : by_path made.frames ≡ frames = cc in sym (sorted_cost made.frames) ∙ ap cost_of same
  out_cost made after (Some cell) e = absurd (cc)

  fault_cost : (made : Made) (blame : Option Blame) → when_no_fault blame made cells ≡ committed next touched frames → cost_of made.frames ≡ cost_of frames
  fault_cost made None e = out_cost made (committed_cells cells (tree_of made)) (first_out (committed_cells cells (tree_of made))) e
  fault_cost made (Some (path, fault)) e = absurd (cc)

  within_cost : (made : Made) (fit : Bool) → when_within fit made cells ≡ committed next touched frames → when_no_fault (least_fault made.frames) made cells ≡ committed next touched frames
  within_cost made true e = e
  within_cost made false e = absurd (cc)

  making_same : (making : Making) → made_by_all model old_bound jobs ≡ making → judged old_bound old_spent cells making ≡ committed next touched frames → spent + cost_of frames ≤ bound →
      batch model bound spent cells jobs ≡ committed next touched frames
  making_same None e f fit = absurd (cc)
  making_same (Some made) e f fit =
      let g = within_cost made (if nat_lt old_bound (old_spent + cost_of made.frames) then false else true) f in
      let cost = fault_cost made (least_fault made.frames) g in
      let again : made_by_all model bound jobs ≡ Some made = all_too (cost_of made.frames) model old_bound bound (omega (arith, cost, fit)) jobs made e (omega arith) in
      let fits : nat_lt bound (spent + cost_of made.frames) ≡ false = not_less bound (spent + cost_of made.frames) (omega (arith, cost, fit)) in
      ap (judged bound spent cells) again ∙ ap (λ b. when_within (if b then false else true) made cells) fits ∙ g

  -- a batch that is committed under one bound is committed under another that pays for it
  pub batch_paid : batch model old_bound old_spent cells jobs ≡ committed next touched frames → spent + cost_of frames ≤ bound → batch model bound spent cells jobs ≡ committed next touched frames
  batch_paid e fit = making_same (made_by_all model old_bound jobs) refl e fit

-- ---- where what is left of the bound is no less

module _ (model : Parts) (bound old_bound spent old_spent : ℕ) (left : spent + old_bound ≤ bound + old_spent) (cells : List CellState) (jobs : List (ℕ × Job)) (who : Who) (fault : Fault) where
  within_fails : (made : Made) (past : Bool) → nat_lt old_bound (old_spent + cost_of made.frames) ≡ past → when_within (if past then false else true) made cells ≡ failed who fault →
      (when_no_fault (least_fault made.frames) made cells ≡ failed who fault) × (old_spent + cost_of made.frames ≤ old_bound)
  within_fails made true e f = absurd (cc)
  within_fails made false e f = (f, ltb-false old_bound (old_spent + cost_of made.frames) e)

  making_fails : (making : Making) → made_by_all model old_bound jobs ≡ making → judged old_bound old_spent cells making ≡ failed who fault → batch model bound spent cells jobs ≡ failed who fault
  making_fails None e f = absurd (cc)
  making_fails (Some made) e f =
      let g = within_fails made (nat_lt old_bound (old_spent + cost_of made.frames)) refl f in
      let again : made_by_all model bound jobs ≡ Some made = all_too (cost_of made.frames) model old_bound bound (omega (arith, g.1, left)) jobs made e (omega arith) in
      let fits : nat_lt bound (spent + cost_of made.frames) ≡ false = not_less bound (spent + cost_of made.frames) (omega (arith, g.1, left)) in
      ap (judged bound spent cells) again ∙ ap (λ b. when_within (if b then false else true) made cells) fits ∙ g.0

  -- a batch that fails under one bound fails in the same way where no less is left
  pub batch_fails : batch model old_bound old_spent cells jobs ≡ failed who fault → batch model bound spent cells jobs ≡ failed who fault
  batch_fails e = making_fails (made_by_all model old_bound jobs) refl e
