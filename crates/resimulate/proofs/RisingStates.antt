-- The instants of a settled state rise, since some run begins with them.
use Rattle.std.proofs.Common.{◌≡◌, ℕ, zero, suc, ◌-◌, List, [], ◌∷◌, ◌++◌, Option, Some, None, refl, sym, ap, ◌∙◌, subst, append_assoc}
use Rattle.std.proofs.lemmas.List.{append-nil}
use Rattle.aerie_base.specs.declared.models.model.Parts.{Parts}
use Rattle.aerie_base.specs.declared.plans.Plan.{Plan}
use Rattle.effect_cells.specs.declared.effects.CellState.{CellState}
use Rattle.effect_cells.specs.Cells.{passed, first_out}
use Rattle.run_data.specs.declared.jobs.Job.{Job}
use Rattle.run_data.specs.declared.runs.Instant.{Instant}
use Rattle.run_data.specs.declared.runs.Run.{Run}
use Rattle.run_data.specs.Batches.{Batch, limit, failed, committed, batch}
use Rattle.run_data.specs.Fresh.{SimulationState, start, instant_at, next_state, next_by, woken_or_moved, moved, to_time, to_end, after_outcome, least_due, below, IsReached, IsFresh, after_transitions}
use Rattle.run_data.specs.Tasks.{on_each, woken, ready_jobs}
use Rattle.run_data.specs.Transitions.{Next, more, finished, onward, and_on, iterate}
use Rattle.run_data.specs.laws.Ending.{enough_transitions, TransitionsFinish}
use Rattle.run_data.specs.laws.Iteration.{transition_more, comes_by_transitions, result_stays}
use Rattle.run_data.specs.laws.LateDifferences.{instants_of}
use Rattle.run_data.specs.laws.Rising.{RiseAbove, RiseFromStart, InstantsRise}
use Rattle.run_data.specs.laws.SettledInstants.{IsSettled}
use Rattle.run_data.specs.laws.Transitions.{TransitionsStand}
use Rattle.resimulate.specs.AlikeByFrames.{instants_with}

abbrev pub SettledInstantsRise : Type 0
SettledInstantsRise =
    (model : Parts) (plan : Plan) (bound : ℕ) (at : SimulationState) → IsReached model plan bound (more at) → IsSettled at → RiseFromStart (instants_with at)

-- some instants begin with others
abbrev BeginWith : List Instant → List Instant → Type 0
BeginWith first whole = (rest : List Instant) × (whole ≡ first ++ rest)

begin_same : (first whole : List Instant) → first ≡ whole → BeginWith first whole
begin_same first whole e = ([], sym e ∙ sym (append-nil first))

begin_one : (first : List Instant) (one : Instant) → BeginWith first (first ++ one ∷ [])
begin_one first one = (one ∷ [], refl)

begin_then : (first middle whole : List Instant) → BeginWith first middle → BeginWith middle whole → BeginWith first whole
begin_then first middle whole one two = (one.0 ++ two.0, two.1 ∙ ap (λ l. l ++ two.0) one.1 ∙ append_assoc first one.0 two.0)

above_front : (time : ℕ) (first rest : List Instant) → RiseAbove time (first ++ rest) → RiseAbove time first
above_front time [] rest rise = tt
above_front time (one ∷ first) rest rise = (rise.0, above_front one.time first rest rise.1)

rise_front : (first rest : List Instant) → RiseFromStart (first ++ rest) → RiseFromStart first
rise_front [] rest rise = tt
rise_front (one ∷ first) rest rise = (rise.0, above_front one.time first rest rise.1)

module _ (S R : Type 0) (next : S → Next S R) where
  either_first : (count again : ℕ) (point : Next S R) → iterate S R next count (iterate S R next again point) ≡ iterate S R next again (iterate S R next count point)
  either_first count zero point = refl
  either_first count (suc again) point = either_first count again (and_on S R next point) ∙ ap (iterate S R next again) (transition_more S R next count point)

module _ (model : Parts) (plan : Plan) (bound : ℕ) where
  abbrev Grows : SimulationState → Next SimulationState Run → Type 0
  Grows at point = BeginWith at.instants (instants_of point)

  after_outcome_grows : (at : SimulationState) (whole : Batch) → Grows at (after_outcome model plan bound at whole)
  after_outcome_grows at limit = begin_same at.instants at.instants refl
  after_outcome_grows at (failed who fault) = begin_same at.instants at.instants refl
  after_outcome_grows at (committed cells touched frames) = begin_same at.instants at.instants refl

  -- from a settled state, its own instant is there
  time_settles : (at : SimulationState) (time : ℕ) (cells : List CellState) (out : Option ℕ) → instants_of (to_time model plan bound at time cells out) ≡ instants_with at
  time_settles at time cells (Some cell) = refl
  time_settles at time cells None = refl

  end_settles : (at : SimulationState) (out : Option ℕ) → instants_of (to_end model plan bound at out) ≡ instants_with at
  end_settles at (Some cell) = refl
  end_settles at None = refl

  move_settles : (at : SimulationState) (due : Option ℕ) → instants_of (moved model plan bound at due) ≡ instants_with at
  move_settles at (Some time) = time_settles at time (passed at.cells (time - at.time)) (first_out (passed at.cells (time - at.time)))
  move_settles at None = end_settles at (first_out (passed at.cells (plan.duration - at.time)))

  idle_grows : (at : SimulationState) (jobs : List (ℕ × Job)) → Grows at (woken_or_moved model plan bound at (on_each (woken at.cells) at.table) jobs)
  idle_grows at [] =
      let due = below plan.duration (least_due at.time plan.duration at.cells at.table) in
      begin_then at.instants (instants_with at) (instants_of (moved model plan bound at due)) (begin_one at.instants (instant_at at)) (begin_same (instants_with at) _ (sym (move_settles at due)))
  idle_grows at (job ∷ rest) = begin_same at.instants at.instants refl

  next_grows : (at : SimulationState) (jobs : List (ℕ × Job)) → Grows at (next_by model plan bound at jobs)
  next_grows at [] = idle_grows at (ready_jobs at.cells (on_each (woken at.cells) at.table))
  next_grows at (job ∷ rest) = after_outcome_grows at (batch model bound at.spent at.cells (job ∷ rest))

  -- so the run begins with the instants of each point on the way
  run_begins : (count : ℕ) (point : Next SimulationState Run) (run : Run) → iterate SimulationState Run (next_state model plan bound) count point ≡ finished run → BeginWith (instants_of point) run.instants
  run_begins zero point run e = begin_same (instants_of point) run.instants (ap instants_of e)
  run_begins (suc count) (finished other) run e = run_begins count (finished other) run e
  run_begins (suc count) (more at) run e =
      begin_then at.instants (instants_of (next_state model plan bound at)) run.instants (next_grows at (ready_jobs at.cells at.table)) (run_begins count (next_state model plan bound at) run e)

  module _ (finish : TransitionsFinish) (stand : TransitionsStand) (instants_rise : InstantsRise) where
    point_rises : (point : Next SimulationState Run) → IsReached model plan bound point → RiseFromStart (instants_of point)
    point_rises point reached = rise_front (instants_of point) begins.0 (subst RiseFromStart begins.1 (instants_rise model plan bound run fresh))
      where
        next : SimulationState → Next SimulationState Run
        next = next_state model plan bound

        enough : ℕ
        enough = enough_transitions model plan bound

        run : Run
        run = (finish model plan bound).0

        whole : after_transitions model plan bound enough ≡ finished run
        whole = (finish model plan bound).1

        fresh : IsFresh model plan bound run
        fresh = subst (IsReached model plan bound) whole (stand model plan bound enough)

        comes : (count : ℕ) × (iterate SimulationState Run next count (more (start model plan)) ≡ point)
        comes = comes_by_transitions SimulationState Run next (start model plan) point reached

        begins : BeginWith (instants_of point) run.instants
        begins =
            run_begins enough point run
            (ap (iterate SimulationState Run next enough) (sym comes.1) ∙ either_first SimulationState Run next enough comes.0 (more (start model plan))
            ∙ ap (iterate SimulationState Run next comes.0) whole ∙ result_stays SimulationState Run next comes.0 run)

  settled_moves : (at : SimulationState) → IsSettled at → next_state model plan bound at ≡ moved model plan bound at (below plan.duration (least_due at.time plan.duration at.cells at.table))
  settled_moves at settled = ap (next_by model plan bound at) settled.none_ready ∙ ap (woken_or_moved model plan bound at (on_each (woken at.cells) at.table)) settled.none_wakes

pub settled_instants_rise : TransitionsFinish → TransitionsStand → InstantsRise → SettledInstantsRise
settled_instants_rise finish stand instants_rise model plan bound at reached settled =
    subst RiseFromStart (ap instants_of (settled_moves model plan bound at settled) ∙ move_settles model plan bound at (below plan.duration (least_due at.time plan.duration at.cells at.table)))
    (point_rises model plan bound finish stand instants_rise (next_state model plan bound at) (onward reached))
