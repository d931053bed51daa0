-- How an instant begins.
use Rattle.std.proofs.Common.{◌≡◌, ℕ, ◌+◌, ◌-◌, List, [], ◌∷◌, ◌++◌, Option, Some, None, refl, subst}
use Rattle.aerie_base.specs.declared.models.model.Parts.{Parts}
use Rattle.aerie_base.specs.declared.plans.Plan.{Plan}
use Rattle.effect_cells.specs.declared.effects.CellState.{CellState}
use Rattle.effect_cells.specs.Cells.{passed, first_out}
use Rattle.run_data.specs.TaskFrames.{Frame}
use Rattle.run_data.specs.declared.jobs.Job.{Job}
use Rattle.run_data.specs.declared.runs.Run.{Run}
use Rattle.run_data.specs.Batches.{Batch, limit, failed, committed, batch}
use Rattle.run_data.specs.Fresh.{SimulationState, next_by, woken_or_moved, moved, to_time, to_end, after_outcome, least_due, below, IsReached}
use Rattle.run_data.specs.Tasks.{on_each, ready_jobs, woken}
use Rattle.run_data.specs.Transitions.{Next, more, finished, begins, onward}
use Rattle.run_data.specs.laws.InstantBeginnings.{InstantsBeginUntouched}
use Rattle.run_data.proofs.Replay.{SameElsewhere, cells_before, point_follows}

none_touched : (from : ℕ) (cells states : List CellState) → SameElsewhere from [] cells states → states ≡ cells
none_touched from [] [] same = refl
none_touched from [] (now ∷ states) same = absurd same
none_touched from (state ∷ rest) [] same = absurd same
none_touched from (state ∷ rest) (now ∷ states) same =
    let here : now ≡ state = same.0 refl in
    let further = none_touched (from + 1) rest states same.1 in
    λ i. here i ∷ further i

one_behind : (batches : List (List Frame)) (last : List Frame) → batches ++ last ∷ [] ≡ [] → ⊥
one_behind [] last e = absurd (cc)
one_behind (first ∷ batches) last e = absurd (cc)

module _ (model : Parts) (plan : Plan) (bound : ℕ) where
  abbrev Untouched : Next SimulationState Run → Type 0
  Untouched (more at) = at.batches ≡ [] → at.touched ≡ []
  Untouched (finished run) = Unit {0}

  outcome_untouched : (at : SimulationState) (outcome : Batch) → Untouched (after_outcome model plan bound at outcome)
  outcome_untouched at limit = tt
  outcome_untouched at (failed who fault) = tt
  outcome_untouched at (committed cells touched frames) = λ none. absurd (one_behind at.batches frames none)

  time_untouched : (at : SimulationState) (time : ℕ) (cells : List CellState) (out : Option ℕ) → Untouched (to_time model plan bound at time cells out)
  time_untouched at time cells None = λ none. refl
  time_untouched at time cells (Some cell) = tt

  end_untouched : (at : SimulationState) (out : Option ℕ) → Untouched (to_end model plan bound at out)
  end_untouched at None = tt
  end_untouched at (Some cell) = tt

  moved_untouched : (at : SimulationState) (time : Option ℕ) → Untouched (moved model plan bound at time)
  moved_untouched at None = end_untouched at (first_out (passed at.cells (plan.duration - at.time)))
  moved_untouched at (Some time) = time_untouched at time (passed at.cells (time - at.time)) (first_out (passed at.cells (time - at.time)))

  judged_untouched : (at : SimulationState) (jobs : List (ℕ × Job)) → Untouched (more at) → Untouched (woken_or_moved model plan bound at (on_each (woken at.cells) at.table) jobs)
  judged_untouched at [] before = moved_untouched at (below plan.duration (least_due at.time plan.duration at.cells at.table))
  judged_untouched at (job ∷ rest) before = before

  next_untouched : (at : SimulationState) (jobs : List (ℕ × Job)) → Untouched (more at) → Untouched (next_by model plan bound at jobs)
  next_untouched at [] before = judged_untouched at (ready_jobs at.cells (on_each (woken at.cells) at.table)) before
  next_untouched at (job ∷ rest) before = outcome_untouched at (batch model bound at.spent at.cells (job ∷ rest))

  point_untouched : (point : Next SimulationState Run) → IsReached model plan bound point → Untouched point
  point_untouched (more at) begins = λ none. refl
  point_untouched point (onward {point = at} before) = next_untouched at (ready_jobs at.cells at.table) (point_untouched (more at) before)

pub instants_begin_untouched : InstantsBeginUntouched
instants_begin_untouched model plan bound at reached none =
    let touched = point_untouched model plan bound (more at) reached none in (
      touched,
      none_touched 0 (cells_before model plan bound at) at.cells
          (subst (λ (list : List ℕ). SameElsewhere 0 list (cells_before model plan bound at) at.cells) touched (point_follows model plan bound (more at) reached)),
    )
