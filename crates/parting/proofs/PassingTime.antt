-- Time never runs back in a simulation: a step that passes time opens and spends nothing, and yet the weight of the state falls.
use Rattle.std.proofs.Common.{◌≡◌, ◌⊎◌, inl, inr, ℕ, ◌+◌, ◌-◌, ◌*◌, ◌<◌, ◌≤◌, List, [], ◌∷◌, Option, Some, None, refl, subst, IsTrue, arith}
use Rattle.aerie_base.specs.declared.models.model.Parts.{Parts}
use Rattle.aerie_base.specs.declared.plans.Plan.{Plan}
use Rattle.aerie_base.specs.models.ValidModel.{valid_model}
use Rattle.aerie_base.specs.plans.OfModel.{IsPlanOf}
use Rattle.effect_cells.specs.declared.effects.CellState.{CellState}
use Rattle.effect_cells.specs.Cells.{passed, first_out}
use Rattle.run_data.specs.declared.jobs.Job.{Job}
use Rattle.run_data.specs.declared.runs.Run.{Run}
use Rattle.run_data.specs.Batches.{Batch, limit, failed, committed, batch}
use Rattle.run_data.specs.Fresh.{SimulationState, next_state, next_by, woken_or_moved, moved, to_time, to_end, after_outcome, least_due, below, IsReached}
use Rattle.run_data.specs.Tasks.{Table, on_each, ready_jobs, woken, rested}
use Rattle.run_data.specs.Transitions.{Next, more, finished, onward}
use Rattle.run_data.specs.laws.OpenTasks.{rested_open}
use Rattle.run_data.specs.laws.ReachedStates.{ReachedIsOfModel}
use Rattle.run_data.specs.laws.Weights.{one_if, opens, idle, weight, WeightFalls}

opens_rested : (now : ℕ) (table : Table) → opens (on_each (rested now) table) ≡ opens table
opens_rested now [] = refl
opens_rested now (entry ∷ rest) = λ i. one_if (rested_open now entry.1.phase i) + opens_rested now rest i

-- the time stays, or nothing is opened or spent
abbrev TimeStays : SimulationState → Next SimulationState Run → Type 0
TimeStays at (more next) = (next.time ≡ at.time) ⊎ ((opens next.table ≡ opens at.table) × (next.spent ≡ at.spent))
TimeStays at (finished run) = Unit {0}

module _ (model : Parts) (plan : Plan) (bound : ℕ) (at : SimulationState) where
  outcome_stays : (outcome : Batch) → TimeStays at (after_outcome model plan bound at outcome)
  outcome_stays limit = tt
  outcome_stays (failed who fault) = tt
  outcome_stays (committed next touched frames) = inl refl

  time_passes : (time : ℕ) (cells : List CellState) (out : Option ℕ) → TimeStays at (to_time model plan bound at time cells out)
  time_passes time cells (Some cell) = tt
  time_passes time cells None = inr (opens_rested time at.table, refl)

  end_comes : (out : Option ℕ) → TimeStays at (to_end model plan bound at out)
  end_comes (Some cell) = tt
  end_comes None = tt

  moved_passes : (time : Option ℕ) → TimeStays at (moved model plan bound at time)
  moved_passes (Some time) = time_passes time (passed at.cells (time - at.time)) (first_out (passed at.cells (time - at.time)))
  moved_passes None = end_comes (first_out (passed at.cells (plan.duration - at.time)))

  judged_stays : (table : Table) (jobs : List (ℕ × Job)) → TimeStays at (woken_or_moved model plan bound at table jobs)
  judged_stays table [] = moved_passes (below plan.duration (least_due at.time plan.duration at.cells at.table))
  judged_stays table (job ∷ rest) = inl refl

  next_stays : (jobs : List (ℕ × Job)) → TimeStays at (next_by model plan bound at jobs)
  next_stays [] = judged_stays (on_each (woken at.cells) at.table) (ready_jobs at.cells (on_each (woken at.cells) at.table))
  next_stays (job ∷ rest) = outcome_stays (batch model bound at.spent at.cells (job ∷ rest))

at_most_one : (jobs : List (ℕ × Job)) → idle jobs ≤ 1
at_most_one [] = omega arith
at_most_one (job ∷ rest) = omega arith

less_time : (open_ left rest other time later duration : ℕ) → 2 * (open_ + left) + other + (duration - later) < 2 * (open_ + left) + rest + (duration - time) → rest ≤ 1 → later < duration → time ≤ later
less_time open_ left rest other time later duration less most inside = omega arith

pub step_later : ReachedIsOfModel → WeightFalls → (model : Parts) (plan : Plan) (bound : ℕ) → IsTrue (valid_model model) → IsPlanOf model plan → (at next : SimulationState) → IsReached model plan bound (more at) →
    next_state model plan bound at ≡ more next → at.time ≤ next.time
step_later of_model falls model plan bound valid is at next reached e = by (subst (TimeStays at) e (next_stays model plan bound at (ready_jobs at.cells at.table)))
  where
    inside : next.time < plan.duration
    inside = (of_model model plan bound next valid is (subst (IsReached model plan bound) e (onward reached))).time

    by : (next.time ≡ at.time) ⊎ ((opens next.table ≡ opens at.table) × (next.spent ≡ at.spent)) → at.time ≤ next.time
    by (inl same) = omega (arith, same)
    by (inr same) =
        less_time (opens at.table) (bound - at.spent) (idle (ready_jobs at.cells at.table)) (idle (ready_jobs next.cells next.table)) at.time next.time plan.duration
        (subst (λ n. n < weight plan bound at) (λ i. 2 * (same.0 i + (bound - same.1 i)) + idle (ready_jobs next.cells next.table) + (plan.duration - next.time)) (falls model plan bound at next reached e))
        (at_most_one (ready_jobs at.cells at.table)) inside
