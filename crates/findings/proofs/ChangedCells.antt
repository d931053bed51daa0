-- The cells that the instants of a fresh run changed are in range.
use Rattle.std.proofs.Common.{◌≡◌, ℕ, ◌+◌, ◌-◌, Bool, true, false, cond, IsTrue, List, [], ◌∷◌, ◌++◌, Option, Some, None, map, nat_eq, nat_le, set, refl, sym, ap, ◌∙◌, subst, if◌then◌else◌}
use Rattle.std.specs.List.{list_any}
use Rattle.std.proofs.lemmas.List.Elements.{All-cons, All-nil, All-set}
use Rattle.aerie_base.specs.declared.models.model.Parts.{Parts}
use Rattle.aerie_base.specs.declared.plans.Plan.{Plan}
use Rattle.aerie_base.specs.models.ValidModel.{valid_model}
use Rattle.aerie_base.specs.plans.OfModel.{IsPlanOf}
use Rattle.effect_cells.specs.Cells.{AreInRange, first_out_from, initial, passed, first_out}
use Rattle.effect_cells.specs.States.{is_in_range}
use Rattle.effect_cells.specs.declared.effects.CellState.{CellState}
use Rattle.run_data.specs.declared.jobs.Job.{Job}
use Rattle.run_data.specs.declared.runs.Instant.{Instant}
use Rattle.run_data.specs.declared.runs.Run.{Run}
use Rattle.run_data.specs.Batches.{Batch, limit, failed, committed, batch}
use Rattle.run_data.specs.Transitions.{Next, more, finished, begins, onward}
use Rattle.run_data.specs.Fresh.{SimulationState, start, next_by, woken_or_moved, moved, to_time, to_end, after_outcome, settled, instant_at, states_from, least_due, below, IsReached, IsFresh}
use Rattle.run_data.specs.Tasks.{Table, on_each, ready_jobs, woken}
use Rattle.run_data.specs.laws.ReachedStates.{ReachedIsOfModel}
use Rattle.findings.specs.SettledStates.{AreAllInRange, SettledState, settled_at_start, settled_until, with_settled}

-- ---- changed cells in range

abbrev pub AreChangesInRange : List (ℕ × CellState) → Type 0
AreChangesInRange [] = Unit {0}
AreChangesInRange (one ∷ rest) = (is_in_range one.1 ≡ true) × AreChangesInRange rest

abbrev pub ChangeInRange : List Instant → Type 0
ChangeInRange [] = Unit {0}
ChangeInRange (instant ∷ rest) = AreChangesInRange instant.changed × ChangeInRange rest

parts_in : (from : ℕ) (state : CellState) (rest : List CellState) → first_out_from from (state ∷ rest) ≡ None → (is_in_range state ≡ true) × (first_out_from (from + 1) rest ≡ None)
parts_in from state rest e = by (is_in_range state) refl e
  where
    by : (good : Bool) → is_in_range state ≡ good → (if good then first_out_from (from + 1) rest else Some from) ≡ None → (is_in_range state ≡ true) × (first_out_from (from + 1) rest ≡ None)
    by true e h = (e, h)
    by false e h = absurd (cc)

states_in : (from cell : ℕ) (touched : List ℕ) (cells : List CellState) → first_out_from from cells ≡ None → AreChangesInRange (states_from cell touched cells)
states_in from cell touched [] e = tt
states_in from cell touched (state ∷ rest) e = go (list_any (nat_eq cell) touched) (states_in (from + 1) (cell + 1) touched rest (parts_in from state rest e).1)
  where
    go : (b : Bool) → AreChangesInRange (states_from (cell + 1) touched rest) →
        AreChangesInRange (cond b ((cell, state) ∷ states_from (cell + 1) touched rest) (states_from (cell + 1) touched rest))
    go true after = ((parts_in from state rest e).0, after)
    go false after = after

one_more : (instants : List Instant) (last : Instant) → ChangeInRange instants → AreChangesInRange last.changed → ChangeInRange (instants ++ last ∷ [])
one_more [] last before here = (here, tt)
one_more (instant ∷ rest) last before here = (before.0, one_more rest last before.1 here)

-- ---- where a run stands

module _ (reached_is : ReachedIsOfModel) (model : Parts) (plan : Plan) (bound : ℕ) (valid : IsTrue (valid_model model)) (of_model : IsPlanOf model plan) where
  abbrev StandsInRange : Next SimulationState Run → Type 0
  StandsInRange (more at) = ChangeInRange at.instants
  StandsInRange (finished run) = ChangeInRange run.instants

  settled_in : (at : SimulationState) → AreInRange at.cells → ChangeInRange at.instants → ChangeInRange (settled model plan bound at)
  settled_in at cells before = one_more at.instants (instant_at at) before (states_in 0 0 at.touched at.cells cells)

  outcome_in : (at : SimulationState) (outcome : Batch) → ChangeInRange at.instants → StandsInRange (after_outcome model plan bound at outcome)
  outcome_in at limit before = before
  outcome_in at (failed who fault) before = before
  outcome_in at (committed cells touched frames) before = before

  time_in : (at : SimulationState) (time : ℕ) (cells : List CellState) (out : Option ℕ) → ChangeInRange (settled model plan bound at) → StandsInRange (to_time model plan bound at time cells out)
  time_in at time cells (Some cell) here = here
  time_in at time cells None here = here

  end_in : (at : SimulationState) (out : Option ℕ) → ChangeInRange (settled model plan bound at) → StandsInRange (to_end model plan bound at out)
  end_in at (Some cell) here = here
  end_in at None here = here

  moved_in : (at : SimulationState) (time : Option ℕ) → ChangeInRange (settled model plan bound at) → StandsInRange (moved model plan bound at time)
  moved_in at None here = end_in at (first_out (passed at.cells (plan.duration - at.time))) here
  moved_in at (Some time) here = time_in at time (passed at.cells (time - at.time)) (first_out (passed at.cells (time - at.time))) here

  judged_in : (at : SimulationState) (table : Table) (jobs : List (ℕ × Job)) → AreInRange at.cells → ChangeInRange at.instants → StandsInRange (woken_or_moved model plan bound at table jobs)
  judged_in at table [] cells before = moved_in at (below plan.duration (least_due at.time plan.duration at.cells at.table)) (settled_in at cells before)
  judged_in at table (job ∷ rest) cells before = before

  next_in : (at : SimulationState) (jobs : List (ℕ × Job)) → AreInRange at.cells → ChangeInRange at.instants → StandsInRange (next_by model plan bound at jobs)
  next_in at [] cells before = judged_in at (on_each (woken at.cells) at.table) (ready_jobs at.cells (on_each (woken at.cells) at.table)) cells before
  next_in at (job ∷ rest) cells before = outcome_in at (batch model bound at.spent at.cells (job ∷ rest)) before

  point_in : (point : Next SimulationState Run) → IsReached model plan bound point → StandsInRange point
  point_in (more at) begins = tt
  point_in point (onward {point = at} before) =
      next_in at (ready_jobs at.cells at.table) (reached_is model plan bound at valid of_model before).in_range (point_in (more at) before)

  pub changes_in_range : (run : Run) → IsFresh model plan bound run → ChangeInRange run.instants
  changes_in_range run fresh = point_in (finished run) fresh

  pub start_in_range : AreInRange (initial model)
  start_in_range = (reached_is model plan bound (start model plan) valid of_model begins).in_range

-- ---- settled states in range

abbrev IsInRange : SettledState → Type 0
IsInRange settled = is_in_range settled.1 ≡ true

first_in : (from : ℕ) (cells : List CellState) → first_out_from from cells ≡ None → AreAllInRange (settled_at_start cells)
first_in from [] e = All-nil IsInRange
first_in from (state ∷ rest) e =
    let parts = parts_in from state rest e in
    All-cons IsInRange (0, state) (settled_at_start rest) parts.0 (first_in (from + 1) rest parts.1)

changed_in : (time : ℕ) (states : List SettledState) (changed : List (ℕ × CellState)) → AreChangesInRange changed → AreAllInRange states → AreAllInRange (with_settled time states changed)
changed_in time states [] good all = all
changed_in time states (one ∷ rest) good all =
    changed_in time (set states one.0 (time, one.1)) rest good.1
    (All-set IsInRange states one.0 (time, one.1) good.0 all)

until_in : (t : ℕ) (states : List SettledState) (instants : List Instant) → ChangeInRange instants → AreAllInRange states → AreAllInRange (settled_until t states instants)
until_in t states [] good all = all
until_in t states (instant ∷ rest) good all =
    go (nat_le instant.time t) (until_in t (with_settled instant.time states instant.changed) rest good.1 (changed_in instant.time states instant.changed good.0 all))
  where
    go : (b : Bool) → AreAllInRange (settled_until t (with_settled instant.time states instant.changed) rest) →
        AreAllInRange (cond b (settled_until t (with_settled instant.time states instant.changed) rest) states)
    go true further = further
    go false further = all

pub settled_in_range : (cells : List CellState) (instants : List Instant) (t : ℕ) → AreInRange cells → ChangeInRange instants → AreAllInRange (settled_until t (settled_at_start cells) instants)
settled_in_range cells instants t first good = until_in t (settled_at_start cells) instants good (first_in 0 cells first)
