-- A step from states that are alike gives states that are alike.
use Rattle.std.proofs.Common.{◌≡◌, inl, inr, ℕ, ◌-◌, List, [], ◌∷◌, ◌++◌, Option, Some, None, refl, sym, ap, ◌∙◌, subst, IsTrue, arith}
use Rattle.aerie_base.specs.declared.models.model.Parts.{Parts}
use Rattle.aerie_base.specs.declared.plans.Plan.{Plan}
use Rattle.aerie_base.specs.models.ValidModel.{valid_model}
use Rattle.aerie_base.specs.plans.OfModel.{IsPlanOf}
use Rattle.effect_cells.specs.declared.effects.CellState.{CellState}
use Rattle.effect_cells.specs.Cells.{passed, first_out}
use Rattle.run_data.specs.TaskFrames.{Frame}
use Rattle.run_data.specs.declared.jobs.Job.{Job}
use Rattle.run_data.specs.declared.runs.Outcome.TheVariants.{Failed}
use Rattle.run_data.specs.declared.runs.Who.TheVariants as who_
use Rattle.aerie_base.specs.declared.faults.Fault.TheVariants.{Range}
use Rattle.run_data.specs.Batches.{Batch, limit, failed, committed, batch}
use Rattle.run_data.specs.Endings.{after_batch}
use Rattle.run_data.specs.Fresh.{SimulationState, instant_at, next_state, next_by, woken_or_moved, moved, to_time, to_end, after_outcome, least_due, below, IsReached}
use Rattle.run_data.specs.Tasks.{on_each, ready_jobs, woken, rested}
use Rattle.run_data.specs.Transitions.{more}
use Rattle.run_data.specs.laws.OrderedTables.{IsOrderedTable}
use Rattle.run_data.specs.laws.OpenTasks.{order_batch, woken_open, rested_open}
use Rattle.run_data.specs.TableLaws.{order_each}
use Rattle.run_data.proofs.QuietStates.{reached_is_quiet}
use Rattle.run_data.proofs.ReachedStates.{reached_is_of_model, batch_frames}
use Rattle.run_data.specs.laws.AlikeSteps.{StepsAlike, IsPaid, NextIsAlike, Alike}
use Rattle.run_data.specs.laws.LiveParts.{live}
use Rattle.run_data.specs.laws.LivePartLaws.{SameLive, same_of, live_of, same_ready, same_due, same_each}
use Rattle.run_data.specs.laws.LiveAfterBatches.{batch_same}
use Rattle.run_data.proofs.OtherBounds.{batch_paid, batch_fails}

pub append_none : {A : Type 0} (list : List A) → list ++ [] ≡ list
append_none [] = refl
append_none (first ∷ rest) = ap (λ l. first ∷ l) (append_none rest)

module _ (model : Parts) (plan old_plan : Plan) (bound old_bound : ℕ) (at other : SimulationState) (valid : IsTrue (valid_model model))
    (is : IsPlanOf model plan) (old_is : IsPlanOf model old_plan) (lasts : plan.duration ≡ old_plan.duration)
    (reached : IsReached model plan bound (more at)) (old_reached : IsReached model old_plan old_bound (more other)) (alike : Alike at other) where
  order : IsOrderedTable at.table
  order = (reached_is_of_model model plan bound at valid is reached).table.order

  second : IsOrderedTable other.table
  second = (reached_is_of_model model old_plan old_bound other valid old_is old_reached).table.order

  same : SameLive at.table other.table
  same = same_of at.table other.table order second alike.tables

  instant_same : instant_at at ≡ instant_at other
  instant_same = λ i. record { time = alike.time i; batches = alike.batches i; changed = (instant_at (record at { cells = alike.cells i; touched = alike.touched i })).changed }

  -- ---- a batch

  batch_alike : (next : List CellState) (touched : List ℕ) (frames : List Frame) → batch model old_bound other.spent other.cells (ready_jobs other.cells other.table) ≡ committed next touched frames →
      batch model bound at.spent at.cells (ready_jobs at.cells at.table) ≡ committed next touched frames → live (after_batch at.time frames at.table) ≡ live (after_batch other.time frames other.table)
  batch_alike next touched frames old_batch new_batch =
      ap (λ t. live (after_batch t frames at.table)) alike.time
      ∙ live_of (after_batch other.time frames at.table) (after_batch other.time frames other.table) (order_batch other.time frames at.table order) (order_batch other.time frames other.table second)
      (batch_same other.time frames at.table other.table order second same (reached_is_quiet model plan bound at is reached) (reached_is_quiet model old_plan old_bound other old_is old_reached)
      (batch_frames model plan bound at next touched frames valid is reached new_batch) (batch_frames model old_plan old_bound other next touched frames valid old_is old_reached old_batch))

  jobs_same : ready_jobs at.cells at.table ≡ ready_jobs other.cells other.table
  jobs_same = ap (λ c. ready_jobs c at.table) alike.cells ∙ same_ready at.table other.table order second same other.cells

  outcome_alike : (outcome : Batch) → batch model old_bound other.spent other.cells (ready_jobs other.cells other.table) ≡ outcome → IsPaid bound old_bound at other (after_outcome model old_plan old_bound other outcome) →
      StepsAlike at other (after_outcome model plan bound at (batch model bound at.spent at.cells (ready_jobs other.cells other.table))) (after_outcome model old_plan old_bound other outcome)
  outcome_alike limit e (inl completed) = absurd (cc)
  outcome_alike limit e (inr left) = absurd left.0
  outcome_alike (failed who fault) e (inl completed) = absurd (cc)
  outcome_alike (failed who fault) e (inr left) =
      let again : batch model bound at.spent at.cells (ready_jobs other.cells other.table) ≡ failed who fault =
      ap (λ c. batch model bound at.spent c (ready_jobs other.cells other.table)) alike.cells
      ∙ batch_fails model bound old_bound at.spent other.spent left.1 other.cells (ready_jobs other.cells other.table) who fault e in
      subst (λ b. StepsAlike at other (after_outcome model plan bound at b) (after_outcome model old_plan old_bound other (failed who fault))) (sym again)
      ((λ i. Failed (alike.time i) who fault), alike.time, ([], sym (append_none at.instants), sym (append_none other.instants)))
  outcome_alike (committed next touched frames) e paid =
      let again : batch model bound at.spent other.cells (ready_jobs other.cells other.table) ≡ committed next touched frames =
      batch_paid model bound old_bound at.spent other.spent other.cells (ready_jobs other.cells other.table) next touched frames e (omega (arith, paid)) in
      let here : batch model bound at.spent at.cells (ready_jobs other.cells other.table) ≡ committed next touched frames =
      ap (λ c. batch model bound at.spent c (ready_jobs other.cells other.table)) alike.cells ∙ again in
      let there : batch model bound at.spent at.cells (ready_jobs at.cells at.table) ≡ committed next touched frames = ap (batch model bound at.spent at.cells) jobs_same ∙ here in
      subst (λ b. StepsAlike at other (after_outcome model plan bound at b) (after_outcome model old_plan old_bound other (committed next touched frames))) (sym here) (
        record {
          time = alike.time;
          cells = refl;
          batches = ap (λ b. b ++ frames ∷ []) alike.batches;
          touched = ap (λ t. t ++ touched) alike.touched;
          tables = batch_alike next touched frames e there;
        },
        omega arith,
        ([], sym (append_none at.instants), sym (append_none other.instants)),
      )

  -- ---- a later time

  time_alike : (time : ℕ) (out : Option ℕ) → IsPaid bound old_bound at other (to_time model old_plan old_bound other time (passed other.cells (time - other.time)) out) →
      StepsAlike at other (to_time model plan bound at time (passed other.cells (time - other.time)) out) (to_time model old_plan old_bound other time (passed other.cells (time - other.time)) out)
  time_alike time (Some cell) paid = (refl, alike.time, (instant_at other ∷ [], ap (λ i. at.instants ++ i ∷ []) instant_same, refl))
  time_alike time None paid = (
    record {
      time = refl;
      cells = refl;
      batches = refl;
      touched = refl;
      tables = live_of (on_each (rested time) at.table) (on_each (rested time) other.table) (order_each (rested time) at.table order) (order_each (rested time) other.table second)
          (same_each (rested time) (λ path task. rested_open time task.phase) (λ path task. refl) at.table other.table same);
    },
    omega arith,
    (instant_at other ∷ [], ap (λ i. at.instants ++ i ∷ []) instant_same, refl),
  )

  end_alike : (out : Option ℕ) → IsPaid bound old_bound at other (to_end model old_plan old_bound other out) → StepsAlike at other (to_end model plan bound at out) (to_end model old_plan old_bound other out)
  end_alike (Some cell) paid = ((λ i. Failed (lasts i) (who_.Cell cell) Range), alike.time, (instant_at other ∷ [], ap (λ i. at.instants ++ i ∷ []) instant_same, refl))
  end_alike None paid = (refl, lasts, (instant_at other ∷ [], ap (λ i. at.instants ++ i ∷ []) instant_same, refl))

  later_same : (time : ℕ) → passed at.cells (time - at.time) ≡ passed other.cells (time - other.time)
  later_same time = λ i. passed (alike.cells i) (time - alike.time i)

  moved_alike : (time : Option ℕ) → IsPaid bound old_bound at other (moved model old_plan old_bound other time) → StepsAlike at other (moved model plan bound at time) (moved model old_plan old_bound other time)
  moved_alike (Some time) paid =
      subst (λ c. StepsAlike at other (to_time model plan bound at time c (first_out c)) (moved model old_plan old_bound other (Some time))) (sym (later_same time))
      (time_alike time (first_out (passed other.cells (time - other.time))) paid)
  moved_alike None paid =
      let later : passed at.cells (plan.duration - at.time) ≡ passed other.cells (old_plan.duration - other.time) = λ i. passed (alike.cells i) (lasts i - alike.time i) in
      subst (λ c. StepsAlike at other (to_end model plan bound at (first_out c)) (moved model old_plan old_bound other None)) (sym later)
      (end_alike (first_out (passed other.cells (old_plan.duration - other.time))) paid)

  due_same : below plan.duration (least_due at.time plan.duration at.cells at.table) ≡ below old_plan.duration (least_due other.time old_plan.duration other.cells other.table)
  due_same =
      (λ i. below (lasts i) (least_due (alike.time i) (lasts i) (alike.cells i) at.table))
      ∙ ap (below old_plan.duration) (same_due at.table other.table order second same other.time old_plan.duration other.cells)

  -- ---- woken

  woken_same : SameLive (on_each (woken other.cells) at.table) (on_each (woken other.cells) other.table)
  woken_same = same_each (woken other.cells) (λ path task. woken_open other.cells task.phase) (λ path task. refl) at.table other.table same

  woken_order : IsOrderedTable (on_each (woken other.cells) at.table)
  woken_order = order_each (woken other.cells) at.table order

  woken_second : IsOrderedTable (on_each (woken other.cells) other.table)
  woken_second = order_each (woken other.cells) other.table second

  judged_alike : (jobs : List (ℕ × Job)) → IsPaid bound old_bound at other (woken_or_moved model old_plan old_bound other (on_each (woken other.cells) other.table) jobs) →
      StepsAlike at other (woken_or_moved model plan bound at (on_each (woken other.cells) at.table) jobs) (woken_or_moved model old_plan old_bound other (on_each (woken other.cells) other.table) jobs)
  judged_alike [] paid =
      subst (λ d. StepsAlike at other (moved model plan bound at d) (moved model old_plan old_bound other (below old_plan.duration (least_due other.time old_plan.duration other.cells other.table)))) (sym due_same)
      (moved_alike (below old_plan.duration (least_due other.time old_plan.duration other.cells other.table)) paid)
  judged_alike (job ∷ rest) paid = (
    record {
      time = alike.time;
      cells = alike.cells;
      batches = alike.batches;
      touched = alike.touched;
      tables = live_of (on_each (woken other.cells) at.table) (on_each (woken other.cells) other.table) woken_order woken_second woken_same;
    },
    refl,
    ([], sym (append_none at.instants), sym (append_none other.instants)),
  )

  woken_jobs : ready_jobs other.cells (on_each (woken other.cells) at.table) ≡ ready_jobs other.cells (on_each (woken other.cells) other.table)
  woken_jobs = same_ready (on_each (woken other.cells) at.table) (on_each (woken other.cells) other.table) woken_order woken_second woken_same other.cells

  by_alike : (jobs : List (ℕ × Job)) → ready_jobs other.cells other.table ≡ jobs → IsPaid bound old_bound at other (next_by model old_plan old_bound other jobs) →
      StepsAlike at other (next_by model plan bound at jobs) (next_by model old_plan old_bound other jobs)
  by_alike [] e paid =
      subst (λ c. StepsAlike at other (woken_or_moved model plan bound at (on_each (woken c) at.table) (ready_jobs c (on_each (woken c) at.table))) (next_by model old_plan old_bound other [])) (sym alike.cells)
      (subst (λ jobs. StepsAlike at other (woken_or_moved model plan bound at (on_each (woken other.cells) at.table) jobs) (next_by model old_plan old_bound other [])) (sym woken_jobs)
      (judged_alike (ready_jobs other.cells (on_each (woken other.cells) other.table)) paid))
  by_alike (job ∷ rest) e paid =
      subst (λ jobs. StepsAlike at other (after_outcome model plan bound at (batch model bound at.spent at.cells jobs)) (after_outcome model old_plan old_bound other (batch model old_bound other.spent other.cells jobs))) e
      (outcome_alike (batch model old_bound other.spent other.cells (ready_jobs other.cells other.table)) refl
      (subst (λ jobs. IsPaid bound old_bound at other (after_outcome model old_plan old_bound other (batch model old_bound other.spent other.cells jobs))) (sym e) paid))

  pub step_is_alike : IsPaid bound old_bound at other (next_state model old_plan old_bound other) → StepsAlike at other (next_state model plan bound at) (next_state model old_plan old_bound other)
  step_is_alike paid =
      subst (λ jobs. StepsAlike at other (next_by model plan bound at jobs) (next_state model old_plan old_bound other)) (sym jobs_same)
      (by_alike (ready_jobs other.cells other.table) refl paid)

pub next_is_alike : NextIsAlike
next_is_alike model plan old_plan bound old_bound at other both alike paid =
    step_is_alike model plan old_plan bound old_bound at other both.valid both.is_plan both.old_is_plan both.lasts both.reached both.old_reached alike paid
