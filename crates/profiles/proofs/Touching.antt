-- The state of one cell from instant to instant: an instant that does not touch it leaves it to evolve by itself.
use Rattle.std.proofs.Common.{◌≡◌, ℕ, ◌+◌, ◌-◌, ◌<◌, ◌≤◌, pos, Bool, true, false, cond, List, [], ◌∷◌, length, get_or, nat_le, Option, None, unwrap_or, refl, sym, ap, ◌∙◌, arith}
use Rattle.std.proofs.lemmas.Bool.{le-leb, lt-leb, leb-true}
use Rattle.std.proofs.lemmas.Bool.Decides.{nat_tests}
use Rattle.aerie_base.specs.declared.models.model.Parts.{Parts}
use Rattle.effect_cells.specs.declared.effects.CellState.{CellState}
use Rattle.effect_cells.specs.declared.effects.CellState.TheVariants.{Counter}
use Rattle.effect_cells.specs.Cells.{initial, passed}
use Rattle.effect_cells.specs.States.{state_after}
use Rattle.effect_cells.proofs.KeptWakes.{passes_in_parts}
use Rattle.run_data.specs.declared.runs.Instant.{Instant}
use Rattle.run_data.specs.Values.{with_states, cells_from}
use Rattle.run_data.specs.laws.Rising.{RiseAbove}
use Rattle.profiles.specs.States.{changed_state}
use Rattle.profiles.specs.Followed.{ChangesRise}
use Rattle.profiles.specs.Touches.{IsUntouched}
use Rattle.profiles.proofs.Following.{Settled, IsBeforeFirst, next_count, none_passed, state_next, state_later}

abbrev pub state_in : List CellState → ℕ → CellState
state_in cells k = get_or cells k (Counter (pos 0))

-- the state of a cell at time t, by the one settled at a time before
abbrev pub state_from : ℕ → CellState → List Instant → ℕ → ℕ → CellState
state_from settled state [] k t = state_after (t - settled) state
state_from settled state (instant ∷ rest) k t =
    cond (nat_le instant.time t)
    (state_from instant.time (unwrap_or (changed_state instant.changed k) (state_after (instant.time - settled) state)) rest k t)
    (state_after (t - settled) state)

-- ---- one cell of all

one_cell : (settled : ℕ) (cells : List CellState) (instants : List Instant) (k t : ℕ) → k < length cells →
    state_in (cells_from settled cells instants t) k ≡ state_from settled (state_in cells k) instants k t
one_cell settled cells [] k t within = state_later cells (t - settled) k
one_cell settled cells (instant ∷ rest) k t within =
    by (nat_le instant.time t)
    (one_cell instant.time (with_states (passed cells (instant.time - settled)) instant.changed) rest k t
    (let count = next_count cells (instant.time - settled) instant.changed in omega (arith, count, within)))
  where
    by : (b : Bool) →
        state_in (cells_from instant.time (with_states (passed cells (instant.time - settled)) instant.changed) rest t) k
        ≡ state_from instant.time (state_in (with_states (passed cells (instant.time - settled)) instant.changed) k) rest k t →
        state_in (cond b (cells_from instant.time (with_states (passed cells (instant.time - settled)) instant.changed) rest t) (passed cells (t - settled))) k
        ≡ cond b (state_from instant.time (unwrap_or (changed_state instant.changed k) (state_after (instant.time - settled) (state_in cells k))) rest k t)
        (state_after (t - settled) (state_in cells k))
    by true further =
        further ∙ ap (λ (s : CellState). state_from instant.time s rest k t) (state_next cells (instant.time - settled) instant.changed k within)
    by false further = state_later cells (t - settled) k

-- ---- time in parts

later_twice : (state : CellState) (settled from t : ℕ) → settled ≤ from → from ≤ t → state_after (t - from) (state_after (from - settled) state) ≡ state_after (t - settled) state
later_twice state settled from t le later =
    let whole : (from - settled) + (t - from) ≡ t - settled = omega arith in
    ap (λ (cells : List CellState). get_or cells 0 state) (passes_in_parts (state ∷ []) (from - settled) (t - from))
    ∙ ap (λ dt. state_after dt state) whole

not_yet : (settled : ℕ) (state : CellState) (rest : List Instant) (k t : ℕ) → IsBeforeFirst t rest → state_from settled state rest k t ≡ state_after (t - settled) state
not_yet settled state [] k t before = refl
not_yet settled state (instant ∷ rest) k t before =
    ap (λ b. cond b (state_from instant.time (unwrap_or (changed_state instant.changed k) (state_after (instant.time - settled) state)) rest k t) (state_after (t - settled) state))
    (lt-leb instant.time t before)

moved_on : (settled from : ℕ) (state : CellState) (rest : List Instant) (k t : ℕ) → settled ≤ from → RiseAbove from rest → from ≤ t →
    state_from from (state_after (from - settled) state) rest k t ≡ state_from settled state rest k t
moved_on settled from state [] k t le rise later = later_twice state settled from t le later
moved_on settled from state (instant ∷ rest) k t le rise later =
    ap (λ (s : CellState). cond (nat_le instant.time t) (state_from instant.time (unwrap_or (changed_state instant.changed k) s) rest k t)
    (state_after (t - from) (state_after (from - settled) state)))
    (later_twice state settled from instant.time le (omega (arith, rise.0)))
    ∙ ap (λ (s : CellState).
    cond (nat_le instant.time t) (state_from instant.time (unwrap_or (changed_state instant.changed k) (state_after (instant.time - settled) state)) rest k t) s)
    (later_twice state settled from t le later)

before_rest : (time t : ℕ) (rest : List Instant) → RiseAbove time rest → t < time → IsBeforeFirst t rest
before_rest time t [] rise less = tt
before_rest time t (instant ∷ rest) rise less = omega (arith, rise.0)

-- an instant that does not touch it
skipped : (settled : ℕ) (state : CellState) (instant : Instant) (rest : List Instant) (k t : ℕ) → changed_state instant.changed k ≡ None → settled ≤ instant.time →
    RiseAbove instant.time rest → state_from settled state (instant ∷ rest) k t ≡ state_from settled state rest k t
skipped settled state instant rest k t untouched le rise = by (nat_le instant.time t) refl
  where
    by : (b : Bool) → nat_le instant.time t ≡ b →
        cond b (state_from instant.time (unwrap_or (changed_state instant.changed k) (state_after (instant.time - settled) state)) rest k t) (state_after (t - settled) state)
        ≡ state_from settled state rest k t
    by true e =
        ap (λ (o : Option CellState). state_from instant.time (unwrap_or o (state_after (instant.time - settled) state)) rest k t) untouched
        ∙ moved_on settled instant.time state rest k t le rise (leb-true instant.time t e)
    by false e =
        sym (not_yet settled state rest k t (before_rest instant.time t rest rise (later e)))
      where
        later : nat_le instant.time t ≡ false → t < instant.time
        later e = grind (arith, nat_tests, e)

rise_lower : (time later : ℕ) (rest : List Instant) → time ≤ later → RiseAbove later rest → RiseAbove time rest
rise_lower time later [] le rise = tt
rise_lower time later (instant ∷ rest) le rise = (omega (arith, rise.0), rise.1)

-- ---- where a walk is that looks at some cells alone

pub record SettledOn (On : ℕ → Type 0) (model : Parts) (instants rest : List Instant) (time : ℕ) (cells : List CellState) : Type 0 where
  pub same : (k t : ℕ) → On k → time ≤ t → state_in (cells_from 0 (initial model) instants t) k ≡ state_from time (state_in cells k) rest k t
  pub count : length cells ≡ length (initial model)
  pub rise : RiseAbove time rest
  pub changes : ChangesRise rest

-- they are among the cells of the model
abbrev pub AreInside : (ℕ → Type 0) → Parts → Type 0
AreInside On model = (k : ℕ) → On k → k < length (initial model)

module _ (On : ℕ → Type 0) (model : Parts) (inside : AreInside On model) (instants rest : List Instant) where
  pub settled_on : (time : ℕ) (cells : List CellState) → Settled model instants rest time cells → SettledOn On model instants rest time cells
  settled_on time cells at = record {
    same = λ k t on from.
        ap (λ (l : List CellState). state_in l k) (at.same t from)
        ∙ one_cell time cells rest k t (let within = inside k on in omega (arith, within, at.count));
    count = at.count;
    rise = at.rise;
    changes = at.changes;
  }

  module _ (instant : Instant) (time : ℕ) (cells : List CellState) (at : SettledOn On model instants (instant ∷ rest) time cells) where
    -- the next instant
    pub settled_then : SettledOn On model instants rest instant.time (with_states (passed cells (instant.time - time)) instant.changed)
    settled_then = record {
      same = λ k t on from.
          at.same k t on (omega (arith, at.rise.0, from))
          ∙ (ap (λ b. cond b (state_from instant.time (unwrap_or (changed_state instant.changed k) (state_after (instant.time - time) (state_in cells k))) rest k t)
          (state_after (t - time) (state_in cells k))) (le-leb instant.time t from)
          ∙ ap (λ (s : CellState). state_from instant.time s rest k t)
          (sym (state_next cells (instant.time - time) instant.changed k (let within = inside k on in omega (arith, within, at.count)))));
      count = next_count cells (instant.time - time) instant.changed ∙ at.count;
      rise = at.rise.1;
      changes = at.changes.1;
    }

    -- an instant that touches none of them
    pub settled_still : IsUntouched On instant → SettledOn On model instants rest time cells
    settled_still untouched = record {
      same = λ k t on from.
          at.same k t on from ∙ skipped time (state_in cells k) instant rest k t (untouched k on) (omega (arith, at.rise.0)) at.rise.1;
      count = at.count;
      rise = rise_lower time instant.time rest (omega (arith, at.rise.0)) at.rise.1;
      changes = at.changes.1;
    }

  module _ (time : ℕ) (cells : List CellState) (at : SettledOn On model instants rest time cells) where
    -- until the next instant they evolve by themselves
    pub until_then : (k t : ℕ) → On k → time ≤ t → IsBeforeFirst t rest → state_in (cells_from 0 (initial model) instants t) k ≡ state_in (passed cells (t - time)) k
    until_then k t on from before =
        at.same k t on from ∙ (not_yet time (state_in cells k) rest k t before ∙ sym (state_later cells (t - time) k))

    pub still_here : (k : ℕ) → On k → state_in (cells_from 0 (initial model) instants time) k ≡ state_in cells k
    still_here k on =
        until_then k time on (omega arith) (later rest at.rise)
        ∙ (ap (λ dt. state_in (passed cells dt) k) none ∙ ap (λ (l : List CellState). state_in l k) (none_passed cells))
      where
        later : (rest : List Instant) → RiseAbove time rest → IsBeforeFirst time rest
        later [] rise = tt
        later (instant ∷ rest) rise = rise.0

        none : time - time ≡ 0
        none = omega arith
