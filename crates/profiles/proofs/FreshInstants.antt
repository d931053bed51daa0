-- The instants of a fresh run: each changed cells in the order of their numbers, and there is one where the run came past 0.
use Rattle.std.proofs.Common.{ℕ, ◌+◌, ◌-◌, ◌≤◌, Bool, true, false, List, [], ◌∷◌, ◌++◌, Option, Some, None, cond, nat_eq, arith}
use Rattle.std.specs.List.{list_any}
use Rattle.aerie_base.specs.declared.models.model.Parts.{Parts}
use Rattle.aerie_base.specs.declared.plans.Plan.{Plan}
use Rattle.effect_cells.specs.declared.effects.CellState.{CellState}
use Rattle.effect_cells.specs.Cells.{passed, first_out}
use Rattle.run_data.specs.declared.jobs.Job.{Job}
use Rattle.run_data.specs.declared.runs.Instant.{Instant}
use Rattle.run_data.specs.declared.runs.Run.{Run}
use Rattle.run_data.specs.Batches.{Batch, limit, failed, committed, batch}
use Rattle.run_data.specs.Transitions.{Next, more, finished, begins, onward}
use Rattle.run_data.specs.Fresh.{SimulationState, start, next_by, woken_or_moved, moved, to_time, to_end, after_outcome, settled, instant_at, states_from, least_due, below, IsReached, IsFresh}
use Rattle.run_data.specs.Tasks.{Table, on_each, ready_jobs, woken}
use Rattle.profiles.specs.Followed.{ChangesRise, HasSome, AreGoodInstants}
use Rattle.profiles.specs.States.{RiseFrom}

-- ---- changed cells

rise_lower : (low high : ℕ) (changed : List (ℕ × CellState)) → low ≤ high → RiseFrom high changed → RiseFrom low changed
rise_lower low high [] le rise = tt
rise_lower low high (entry ∷ rest) le rise = (omega (arith, rise.0), rise.1)

states_rise : (cell : ℕ) (touched : List ℕ) (states : List CellState) → RiseFrom cell (states_from cell touched states)
states_rise cell touched [] = tt
states_rise cell touched (state ∷ rest) = go (list_any (nat_eq cell) touched) (states_rise (cell + 1) touched rest)
  where
    go : (b : Bool) → RiseFrom (cell + 1) (states_from (cell + 1) touched rest) →
        RiseFrom cell (cond b ((cell, state) ∷ states_from (cell + 1) touched rest) (states_from (cell + 1) touched rest))
    go true after = (omega arith, after)
    go false after = rise_lower cell (cell + 1) (states_from (cell + 1) touched rest) (omega arith) after

rise_more : (instants : List Instant) (last : Instant) → ChangesRise instants → RiseFrom 0 last.changed → ChangesRise (instants ++ last ∷ [])
rise_more [] last rise here = (here, tt)
rise_more (instant ∷ rest) last rise here = (rise.0, rise_more rest last rise.1 here)

-- ---- whether there is one

some_more : (instants : List Instant) (last : Instant) → HasSome (instants ++ last ∷ [])
some_more [] last = tt
some_more (instant ∷ rest) last = tt

-- ---- where a run stands

module _ (model : Parts) (plan : Plan) (bound : ℕ) where
  abbrev StandsWell : Next SimulationState Run → Type 0
  StandsWell (more at) = AreGoodInstants at.instants at.time
  StandsWell (finished run) = AreGoodInstants run.instants run.reach

  settled_well : (at : SimulationState) (time : ℕ) → StandsWell (more at) → AreGoodInstants (settled model plan bound at) time
  settled_well at time well = record {
    changes = rise_more at.instants (instant_at at) well.changes (states_rise 0 at.touched at.cells);
    some = λ later. some_more at.instants (instant_at at);
  }

  outcome_well : (at : SimulationState) (outcome : Batch) → StandsWell (more at) → StandsWell (after_outcome model plan bound at outcome)
  outcome_well at limit well = record { changes = well.changes; some = well.some }
  outcome_well at (failed who fault) well = record { changes = well.changes; some = well.some }
  outcome_well at (committed cells touched frames) well = record { changes = well.changes; some = well.some }

  time_well : (at : SimulationState) (time : ℕ) (cells : List CellState) (out : Option ℕ) → StandsWell (more at) → StandsWell (to_time model plan bound at time cells out)
  time_well at time cells (Some cell) well = settled_well at at.time well
  time_well at time cells None well = settled_well at time well

  end_well : (at : SimulationState) (out : Option ℕ) → StandsWell (more at) → StandsWell (to_end model plan bound at out)
  end_well at (Some cell) well = settled_well at at.time well
  end_well at None well = settled_well at plan.duration well

  moved_well : (at : SimulationState) (time : Option ℕ) → StandsWell (more at) → StandsWell (moved model plan bound at time)
  moved_well at None well = end_well at (first_out (passed at.cells (plan.duration - at.time))) well
  moved_well at (Some time) well = time_well at time (passed at.cells (time - at.time)) (first_out (passed at.cells (time - at.time))) well

  judged_well : (at : SimulationState) (table : Table) (jobs : List (ℕ × Job)) → StandsWell (more at) → StandsWell (woken_or_moved model plan bound at table jobs)
  judged_well at table [] well = moved_well at (below plan.duration (least_due at.time plan.duration at.cells at.table)) well
  judged_well at table (job ∷ rest) well = record { changes = well.changes; some = well.some }

  next_well : (at : SimulationState) (jobs : List (ℕ × Job)) → StandsWell (more at) → StandsWell (next_by model plan bound at jobs)
  next_well at [] well = judged_well at (on_each (woken at.cells) at.table) (ready_jobs at.cells (on_each (woken at.cells) at.table)) well
  next_well at (job ∷ rest) well = outcome_well at (batch model bound at.spent at.cells (job ∷ rest)) well

  start_well : StandsWell (more (start model plan))
  start_well = record { changes = tt; some = λ later. absurd (omega arith) }

  point_well : (point : Next SimulationState Run) → IsReached model plan bound point → StandsWell point
  point_well (more at) begins = start_well
  point_well point (onward {point = at} before) = next_well at (ready_jobs at.cells at.table) (point_well (more at) before)

pub good_instants : (model : Parts) (plan : Plan) (bound : ℕ) (run : Run) → IsFresh model plan bound run → AreGoodInstants run.instants run.reach
good_instants model plan bound run fresh = point_well model plan bound (finished run) fresh
