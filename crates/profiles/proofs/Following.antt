-- The cells of a run from instant to instant.
use Rattle.std.proofs.Common.{◌≡◌, ℕ, zero, suc, ◌-◌, ◌<◌, ◌≤◌, ℤ, pos, ◌+ℤ◌, ◌*ℤ◌, Bool, true, false, cond, List, [], ◌∷◌, length, get_or, set, Option, Some, None, unwrap_or, nat_eq, refl, sym, ap, ◌∙◌, arith}
use Rattle.std.proofs.lemmas.Bool.{le-leb, lt-leb, eq-eqb, ne_eqb, eqb-true, eqb-false}
use Rattle.std.proofs.lemmas.Int.{ints}
use Rattle.std.proofs.Math.IntN.{*ℤ-zero}
use Rattle.aerie_base.specs.declared.models.model.Parts.{Parts}
use Rattle.effect_cells.specs.declared.effects.CellState.{CellState}
use Rattle.effect_cells.specs.declared.effects.CellState.TheVariants.{Counter, Register, Volume}
use Rattle.effect_cells.specs.Cells.{initial, passed}
use Rattle.effect_cells.specs.States.{state_after}
use Rattle.run_data.specs.declared.runs.Instant.{Instant}
use Rattle.run_data.specs.Values.{with_states, cells_from}
use Rattle.run_data.specs.laws.Rising.{RiseAbove}
use Rattle.profiles.specs.States.{unless_later, changed_state}
use Rattle.profiles.specs.Followed.{ChangesRise}

-- ---- no time

no_flow : (volume rate : ℤ) → volume +ℤ rate *ℤ pos 0 ≡ volume
no_flow volume rate = let none = *ℤ-zero rate in omega (arith, ints, none)

no_time : (state : CellState) → state_after 0 state ≡ state
no_time (Counter number) = refl
no_time (Register value flag) = refl
no_time (Volume volume rate) = ap (λ (v : ℤ). Volume v rate) (no_flow volume rate)

pub none_passed : (cells : List CellState) → passed cells 0 ≡ cells
none_passed [] = refl
none_passed (state ∷ rest) = ap (λ s. s ∷ passed rest 0) (no_time state) ∙ ap (λ l. state ∷ l) (none_passed rest)

-- ---- where a walk over the instants is: the cells settled at a time, which give all cells from then on

pub record Settled (model : Parts) (instants rest : List Instant) (time : ℕ) (cells : List CellState) : Type 0 where
  pub same : (t : ℕ) → time ≤ t → cells_from 0 (initial model) instants t ≡ cells_from time cells rest t
  pub count : length cells ≡ length (initial model)
  pub rise : RiseAbove time rest
  pub changes : ChangesRise rest

passed_count : (cells : List CellState) (dt : ℕ) → length (passed cells dt) ≡ length cells
passed_count [] dt = refl
passed_count (state ∷ rest) dt = omega (arith, passed_count rest dt)

set_count : (cells : List CellState) (i : ℕ) (state : CellState) → length (set cells i state) ≡ length cells
set_count [] i state = refl
set_count (first ∷ rest) zero state = refl
set_count (first ∷ rest) (suc i) state = omega (arith, set_count rest i state)

changed_count : (cells : List CellState) (changed : List (ℕ × CellState)) → length (with_states cells changed) ≡ length cells
changed_count cells [] = refl
changed_count cells (entry ∷ rest) = changed_count (set cells entry.0 entry.1) rest ∙ set_count cells entry.0 entry.1

-- a time is before the next instant, where there is one
abbrev pub IsBeforeFirst : ℕ → List Instant → Type 0
IsBeforeFirst t [] = Unit {0}
IsBeforeFirst t (instant ∷ rest) = t < instant.time

pub next_count : (cells : List CellState) (dt : ℕ) (changed : List (ℕ × CellState)) → length (with_states (passed cells dt) changed) ≡ length cells
next_count cells dt changed = changed_count (passed cells dt) changed ∙ passed_count cells dt

-- one instant more
pub settled_next : (model : Parts) (instants rest : List Instant) (instant : Instant) (time : ℕ) (cells : List CellState) → Settled model instants (instant ∷ rest) time cells →
    Settled model instants rest instant.time (with_states (passed cells (instant.time - time)) instant.changed)
settled_next model instants rest instant time cells at = record {
  same = λ t from.
      at.same t (omega (arith, at.rise.0, from))
      ∙ ap (λ b. cond b (cells_from instant.time (with_states (passed cells (instant.time - time)) instant.changed) rest t) (passed cells (t - time))) (le-leb instant.time t from);
  count = changed_count (passed cells (instant.time - time)) instant.changed ∙ (passed_count cells (instant.time - time) ∙ at.count);
  rise = at.rise.1;
  changes = at.changes.1;
}

-- until the next instant the cells evolve by themselves
pub until_next : (model : Parts) (instants rest : List Instant) (time : ℕ) (cells : List CellState) → Settled model instants rest time cells → (t : ℕ) → time ≤ t →
    IsBeforeFirst t rest → cells_from 0 (initial model) instants t ≡ passed cells (t - time)
until_next model instants [] time cells at t from before = at.same t from
until_next model instants (instant ∷ rest) time cells at t from before =
    at.same t from
    ∙ ap (λ b. cond b (cells_from instant.time (with_states (passed cells (instant.time - time)) instant.changed) rest t) (passed cells (t - time))) (lt-leb instant.time t before)

-- ---- one cell

get_set : (cells : List CellState) (i k : ℕ) (state none : CellState) → k < length cells → get_or (set cells i state) k none ≡ cond (nat_eq i k) state (get_or cells k none)
get_set [] i k state none within = absurd (omega arith)
get_set (first ∷ rest) zero zero state none within = refl
get_set (first ∷ rest) zero (suc k) state none within = sym (ap (λ b. cond b state (get_or rest k none)) (ne_eqb 0 (suc k) (λ same. absurd (omega arith))))
get_set (first ∷ rest) (suc i) zero state none within = sym (ap (λ b. cond b state first) (ne_eqb (suc i) 0 (λ same. absurd (omega arith))))
get_set (first ∷ rest) (suc i) (suc k) state none within = get_set rest i k state none (omega arith) ∙ ap (λ b. cond b state (get_or rest k none)) (by (nat_eq i k) refl)
  where
    by : (b : Bool) → nat_eq i k ≡ b → nat_eq i k ≡ nat_eq (suc i) (suc k)
    by true e = e ∙ sym (eq-eqb (suc i) (suc k) (ap suc (eqb-true i k e)))
    by false e = e ∙ sym (ne_eqb (suc i) (suc k) (λ same. eqb-false i k e (omega arith)))

later_wins : (o : Option CellState) (b : Bool) (state other : CellState) → unwrap_or o (cond b state other) ≡ unwrap_or (unless_later o (cond b (Some state) None)) other
later_wins (Some found) b state other = refl
later_wins None true state other = refl
later_wins None false state other = refl

-- the state of a cell after an instant's changes
pub changed_there : (cells : List CellState) (changed : List (ℕ × CellState)) (k : ℕ) (none : CellState) → k < length cells →
    get_or (with_states cells changed) k none ≡ unwrap_or (changed_state changed k) (get_or cells k none)
changed_there cells [] k none within = refl
changed_there cells (entry ∷ rest) k none within =
    changed_there (set cells entry.0 entry.1) rest k none (rw (set_count cells entry.0 entry.1) within)
    ∙ (ap (λ s. unwrap_or (changed_state rest k) s) (get_set cells entry.0 k entry.1 none within)
    ∙ later_wins (changed_state rest k) (nat_eq entry.0 k) entry.1 (get_or cells k none))

passed_there : (cells : List CellState) (dt k : ℕ) → get_or (passed cells dt) k (Counter (pos 0)) ≡ state_after dt (get_or cells k (Counter (pos 0)))
passed_there [] dt k = refl
passed_there (state ∷ rest) dt zero = refl
passed_there (state ∷ rest) dt (suc k) = passed_there rest dt k

pub state_next : (cells : List CellState) (dt : ℕ) (changed : List (ℕ × CellState)) (k : ℕ) → k < length cells →
    get_or (with_states (passed cells dt) changed) k (Counter (pos 0)) ≡ unwrap_or (changed_state changed k) (state_after dt (get_or cells k (Counter (pos 0))))
state_next cells dt changed k within =
    changed_there (passed cells dt) changed k (Counter (pos 0)) (rw (passed_count cells dt) within)
    ∙ ap (λ s. unwrap_or (changed_state changed k) s) (passed_there cells dt k)

pub state_later : (cells : List CellState) (dt k : ℕ) → get_or (passed cells dt) k (Counter (pos 0)) ≡ state_after dt (get_or cells k (Counter (pos 0)))
state_later = passed_there
