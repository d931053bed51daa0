-- A step of the live part alone.
use Rattle.std.proofs.Common.{◌≡◌, ℕ, ◌+◌, ◌-◌, List, [], ◌∷◌, ◌++◌, Option, Some, None, refl, sym, ap, ◌∙◌, IsTrue}
use Rattle.aerie_base.specs.declared.models.model.Parts.{Parts}
use Rattle.aerie_base.specs.declared.plans.Plan.{Plan}
use Rattle.aerie_base.specs.models.ValidModel.{valid_model}
use Rattle.aerie_base.specs.plans.OfModel.{IsPlanOf}
use Rattle.effect_cells.specs.declared.effects.CellState.{CellState}
use Rattle.effect_cells.specs.Cells.{passed, first_out}
use Rattle.run_data.specs.declared.jobs.Job.{Job}
use Rattle.run_data.specs.Batches.{Batch, limit, failed, committed, batch, cost_of}
use Rattle.run_data.specs.Endings.{after_batch}
use Rattle.run_data.specs.Fresh.{SimulationState, instant_at, next_state, next_by, woken_or_moved, moved, to_time, to_end, after_outcome, least_due, below, IsReached}
use Rattle.run_data.specs.Tasks.{on_each, ready_jobs, woken, rested}
use Rattle.run_data.specs.Transitions.{more}
use Rattle.run_data.specs.laws.OrderedTables.{IsOrderedTable}
use Rattle.run_data.specs.laws.OpenTasks.{order_batch, woken_open, rested_open}
use Rattle.run_data.specs.TableLaws.{order_each}
use Rattle.run_data.proofs.QuietStates.{reached_is_quiet}
use Rattle.run_data.proofs.ReachedStates.{reached_is_of_model, batch_frames}
use Rattle.run_data.specs.laws.LiveTables.{live_order, live_same, part_quiet, live_frames}
use Rattle.run_data.specs.laws.LiveParts.{live}
use Rattle.run_data.specs.laws.PrunedStates.{pruned, pruned_point, PrunedStep}
use Rattle.run_data.specs.laws.LivePartLaws.{SameLive, live_of, same_ready, same_due, same_each}
use Rattle.run_data.specs.laws.LiveAfterBatches.{batch_same}

-- ---- one step

module _ (model : Parts) (plan : Plan) (bound : ℕ) (at : SimulationState) (valid : IsTrue (valid_model model)) (is : IsPlanOf model plan) (reached : IsReached model plan bound (more at)) where
  order : IsOrderedTable at.table
  order = (reached_is_of_model model plan bound at valid is reached).table.order

  second : IsOrderedTable (live at.table)
  second = live_order at.table order

  same : SameLive at.table (live at.table)
  same = live_same at.table order

  outcome_pruned : (outcome : Batch) → batch model bound at.spent at.cells (ready_jobs at.cells at.table) ≡ outcome →
      pruned_point (after_outcome model plan bound (pruned at) outcome) ≡ pruned_point (after_outcome model plan bound at outcome)
  outcome_pruned limit e = refl
  outcome_pruned (failed who fault) e = refl
  outcome_pruned (committed next touched frames) e =
      let are = batch_frames model plan bound at next touched frames valid is reached e in
      let tables : live (after_batch at.time frames at.table) ≡ live (after_batch at.time frames (live at.table)) =
      live_of (after_batch at.time frames at.table) (after_batch at.time frames (live at.table)) (order_batch at.time frames at.table order) (order_batch at.time frames (live at.table) second)
      (batch_same at.time frames at.table (live at.table) order second same (reached_is_quiet model plan bound at is reached) (part_quiet at.table order at.table (reached_is_quiet model plan bound at is reached)) are
      (live_frames at.table order frames are)) in
      λ i. more (record (pruned (record at { cells = next; spent = at.spent + cost_of frames; batches = at.batches ++ frames ∷ []; touched = at.touched ++ touched })) { table = sym tables i })

  time_pruned : (time : ℕ) (cells : List CellState) (out : Option ℕ) → pruned_point (to_time model plan bound (pruned at) time cells out) ≡ pruned_point (to_time model plan bound at time cells out)
  time_pruned time cells (Some cell) = refl
  time_pruned time cells None =
      let tables : live (on_each (rested time) at.table) ≡ live (on_each (rested time) (live at.table)) =
      live_of (on_each (rested time) at.table) (on_each (rested time) (live at.table)) (order_each (rested time) at.table order) (order_each (rested time) (live at.table) second)
      (same_each (rested time) (λ path task. rested_open time task.phase) (λ path task. refl) at.table (live at.table) same) in
      λ i. more (record at { time = time; cells = cells; instants = at.instants ++ instant_at at ∷ []; batches = []; touched = []; table = sym tables i })

  end_pruned : (out : Option ℕ) → pruned_point (to_end model plan bound (pruned at) out) ≡ pruned_point (to_end model plan bound at out)
  end_pruned (Some cell) = refl
  end_pruned None = refl

  moved_pruned : (time : Option ℕ) → pruned_point (moved model plan bound (pruned at) time) ≡ pruned_point (moved model plan bound at time)
  moved_pruned (Some time) = time_pruned time (passed at.cells (time - at.time)) (first_out (passed at.cells (time - at.time)))
  moved_pruned None = end_pruned (first_out (passed at.cells (plan.duration - at.time)))

  woken_same : SameLive (on_each (woken at.cells) at.table) (on_each (woken at.cells) (live at.table))
  woken_same = same_each (woken at.cells) (λ path task. woken_open at.cells task.phase) (λ path task. refl) at.table (live at.table) same

  woken_order : IsOrderedTable (on_each (woken at.cells) at.table)
  woken_order = order_each (woken at.cells) at.table order

  woken_second : IsOrderedTable (on_each (woken at.cells) (live at.table))
  woken_second = order_each (woken at.cells) (live at.table) second

  judged_pruned : (jobs : List (ℕ × Job)) →
      pruned_point (woken_or_moved model plan bound (pruned at) (on_each (woken at.cells) (live at.table)) jobs) ≡ pruned_point (woken_or_moved model plan bound at (on_each (woken at.cells) at.table) jobs)
  judged_pruned [] =
      ap (λ d. pruned_point (moved model plan bound (pruned at) (below plan.duration d))) (sym (same_due at.table (live at.table) order second same at.time plan.duration at.cells))
      ∙ moved_pruned (below plan.duration (least_due at.time plan.duration at.cells at.table))
  judged_pruned (job ∷ rest) =
      let tables = live_of (on_each (woken at.cells) at.table) (on_each (woken at.cells) (live at.table)) woken_order woken_second woken_same in
      λ i. more (record at { table = sym tables i })

  by_pruned : (jobs : List (ℕ × Job)) → ready_jobs at.cells at.table ≡ jobs → pruned_point (next_by model plan bound (pruned at) jobs) ≡ pruned_point (next_by model plan bound at jobs)
  by_pruned [] e =
      ap (λ jobs. pruned_point (woken_or_moved model plan bound (pruned at) (on_each (woken at.cells) (live at.table)) jobs))
      (sym (same_ready (on_each (woken at.cells) at.table) (on_each (woken at.cells) (live at.table)) woken_order woken_second woken_same at.cells))
      ∙ judged_pruned (ready_jobs at.cells (on_each (woken at.cells) at.table))
  by_pruned (job ∷ rest) e = outcome_pruned (batch model bound at.spent at.cells (job ∷ rest)) (ap (batch model bound at.spent at.cells) e)

  pub step_pruned : pruned_point (next_state model plan bound (pruned at)) ≡ pruned_point (next_state model plan bound at)
  step_pruned =
      ap (λ jobs. pruned_point (next_by model plan bound (pruned at) jobs)) (sym (same_ready at.table (live at.table) order second same at.cells))
      ∙ by_pruned (ready_jobs at.cells at.table) refl

pub pruned_step : PrunedStep
pruned_step = step_pruned
