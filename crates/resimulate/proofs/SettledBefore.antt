-- Where no batch stands yet, a settled state was before, or nothing.
use Rattle.std.proofs.Common.{◌≡◌, ◌⊎◌, inl, inr, ℕ, ◌-◌, List, [], ◌∷◌, ◌++◌, Option, Some, None, refl}
use Rattle.aerie_base.specs.declared.models.model.Parts.{Parts}
use Rattle.aerie_base.specs.declared.plans.Plan.{Plan}
use Rattle.effect_cells.specs.declared.effects.CellState.{CellState}
use Rattle.effect_cells.specs.Cells.{passed, first_out}
use Rattle.run_data.specs.TaskFrames.{Frame}
use Rattle.run_data.specs.declared.jobs.Job.{Job}
use Rattle.run_data.specs.declared.runs.Run.{Run}
use Rattle.run_data.specs.Batches.{Batch, limit, failed, committed, batch}
use Rattle.run_data.specs.Fresh.{SimulationState, next_by, woken_or_moved, moved, to_time, to_end, after_outcome, below, least_due, IsReached}
use Rattle.run_data.specs.Tasks.{on_each, woken, ready_jobs}
use Rattle.run_data.specs.Transitions.{Next, more, finished, begins, onward}
use Rattle.run_data.specs.laws.SettledInstants.{IsSettled}
use Rattle.resimulate.specs.SettledBefore.{FollowsSettled, InstantsFollowSettled}

not_empty : (batches : List (List Frame)) (frames : List Frame) → batches ++ frames ∷ [] ≡ [] → ⊥
not_empty [] frames e = absurd (cc)
not_empty (first ∷ rest) frames e = absurd (cc)

module _ (model : Parts) (plan : Plan) (bound : ℕ) where
  abbrev Follows : SimulationState → Type 0
  Follows later = later.batches ≡ [] → (later.instants ≡ []) ⊎ FollowsSettled model plan bound later

  abbrev FollowsAt : Next SimulationState Run → Type 0
  FollowsAt (more later) = Follows later
  FollowsAt (finished run) = Unit {0}

  after_batch : (at : SimulationState) (whole : Batch) → FollowsAt (after_outcome model plan bound at whole)
  after_batch at limit = tt
  after_batch at (failed who fault) = tt
  after_batch at (committed cells touched frames) = λ none. absurd (not_empty at.batches frames none)

  by_time : (at : SimulationState) → IsReached model plan bound (more at) → IsSettled at → (time : ℕ) (cells : List CellState) (out : Option ℕ) → FollowsAt (to_time model plan bound at time cells out)
  by_time at reached settled time cells (Some cell) = tt
  by_time at reached settled time cells None = λ none. inr (record { at = at; is_reached = reached; is_settled = settled; instants = refl; spent = refl })

  by_end : (at : SimulationState) (out : Option ℕ) → FollowsAt (to_end model plan bound at out)
  by_end at (Some cell) = tt
  by_end at None = tt

  by_move : (at : SimulationState) → IsReached model plan bound (more at) → IsSettled at → (due : Option ℕ) → FollowsAt (moved model plan bound at due)
  by_move at reached settled (Some time) = by_time at reached settled time (passed at.cells (time - at.time)) (first_out (passed at.cells (time - at.time)))
  by_move at reached settled None = by_end at (first_out (passed at.cells (plan.duration - at.time)))

  idle_on : (at : SimulationState) → IsReached model plan bound (more at) → ready_jobs at.cells at.table ≡ [] → Follows at → (jobs : List (ℕ × Job)) →
      ready_jobs at.cells (on_each (woken at.cells) at.table) ≡ jobs → FollowsAt (woken_or_moved model plan bound at (on_each (woken at.cells) at.table) jobs)
  idle_on at reached none follows [] wakes =
      by_move at reached (record { none_ready = none; none_wakes = wakes }) (below plan.duration (least_due at.time plan.duration at.cells at.table))
  idle_on at reached none follows (job ∷ rest) wakes = λ empty. by (follows empty)
    where
      by : (at.instants ≡ []) ⊎ FollowsSettled model plan bound at → (at.instants ≡ []) ⊎ FollowsSettled model plan bound (record at { table = on_each (woken at.cells) at.table })
      by (inl first) = inl first
      by (inr settled) = inr (record { at = settled.at; is_reached = settled.is_reached; is_settled = settled.is_settled; instants = settled.instants; spent = settled.spent })

  on : (at : SimulationState) → IsReached model plan bound (more at) → Follows at → (jobs : List (ℕ × Job)) → ready_jobs at.cells at.table ≡ jobs → FollowsAt (next_by model plan bound at jobs)
  on at reached follows [] none = idle_on at reached none follows (ready_jobs at.cells (on_each (woken at.cells) at.table)) refl
  on at reached follows (job ∷ rest) some = after_batch at (batch model bound at.spent at.cells (job ∷ rest))

  follows : (point : Next SimulationState Run) → IsReached model plan bound point → FollowsAt point
  follows point begins = λ none. inl refl
  follows point (onward {point = at} reached) = on at reached (follows (more at) reached) (ready_jobs at.cells at.table) refl

pub instants_follow : InstantsFollowSettled
instants_follow model plan bound later reached = follows model plan bound (more later) reached
