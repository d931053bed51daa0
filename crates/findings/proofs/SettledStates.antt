-- States that are settled from instant to instant are the cells of a run.
use Rattle.std.proofs.Common.{◌≡◌, ℕ, zero, suc, ◌+◌, ◌-◌, ◌≤◌, Bool, true, false, cond, List, [], ◌∷◌, map, set, nat_le, refl, sym, ap, ◌∙◌, arith}
use Rattle.std.proofs.lemmas.Bool.{leb-true}
use Rattle.std.proofs.lemmas.List.{map-set}
use Rattle.effect_cells.specs.Cells.{passed}
use Rattle.effect_cells.specs.States.{state_after, volume_of}
use Rattle.effect_cells.specs.SumLaws.{flowed_sum, flowed_zero}
use Rattle.effect_cells.specs.declared.effects.CellState.{CellState}
use Rattle.effect_cells.specs.declared.effects.CellState.TheVariants.{Counter, Register, Volume}
use Rattle.run_data.specs.Values.{cells_from, with_states}
use Rattle.run_data.specs.declared.runs.Instant.{Instant}
use Rattle.run_data.specs.laws.Rising.{RiseAbove, RiseFromStart}
use Rattle.findings.specs.SettledStates.{SettledState, settled_at_start, settled_until, states_then, with_settled}

-- ---- time passes in parts

later_twice : (state : CellState) (a b : ℕ) → state_after b (state_after a state) ≡ state_after (a + b) state
later_twice (Counter number) a b = refl
later_twice (Register value conflicted) a b = refl
later_twice (Volume volume rate) a b = ap volume_of (sym (flowed_sum (volume, rate) a b))

later_none : (state : CellState) → state_after 0 state ≡ state
later_none (Counter number) = refl
later_none (Register value conflicted) = refl
later_none (Volume volume rate) = ap volume_of (flowed_zero (volume, rate))

-- ---- settled by a time

abbrev AreBy : ℕ → List SettledState → Type 0
AreBy t [] = Unit {0}
AreBy t (settled ∷ rest) = (settled.0 ≤ t) × AreBy t rest

by_later : (t u : ℕ) (states : List SettledState) → t ≤ u → AreBy t states → AreBy u states
by_later t u [] less by = tt
by_later t u (settled ∷ rest) less by = (omega (arith, less, by.0), by_later t u rest less by.1)

by_set : (t cell : ℕ) (state : CellState) (states : List SettledState) → AreBy t states → AreBy t (set states cell (t, state))
by_set t cell state [] by = tt
by_set t zero state (settled ∷ rest) by = (omega arith, by.1)
by_set t (suc cell) state (settled ∷ rest) by = (by.0, by_set t cell state rest by.1)

-- what goes on by itself from one time to another
goes_on : (t u : ℕ) (states : List SettledState) → t ≤ u → AreBy t states → passed (states_then t states) (u - t) ≡ states_then u states
goes_on t u [] less by = refl
goes_on t u (settled ∷ rest) less by =
    let whole : (t - settled.0) + (u - t) ≡ u - settled.0 = omega (arith, less, by.0) in
    let here = later_twice settled.1 (t - settled.0) (u - t) ∙ ap (λ n. state_after n settled.1) whole in
    λ i. here i ∷ goes_on t u rest less by.1 i

-- ---- what changes at a time

now : (t : ℕ) (state : CellState) → state_after (t - t) state ≡ state
now t state = (let none : t - t ≡ 0 = omega arith in ap (λ n. state_after n state) none) ∙ later_none state

set_now : (t cell : ℕ) (state : CellState) (states : List SettledState) → states_then t (set states cell (t, state)) ≡ set (states_then t states) cell state
set_now t cell state states =
    map-set (λ settled. state_after (t - settled.0) settled.1) states cell (t, state)
    ∙ ap (λ s. set (states_then t states) cell s) (now t state)

changed_by : (t : ℕ) (states : List SettledState) (changed : List (ℕ × CellState)) → AreBy t states → AreBy t (with_settled t states changed)
changed_by t states [] by = by
changed_by t states (one ∷ rest) by = changed_by t (set states one.0 (t, one.1)) rest (by_set t one.0 one.1 states by)

changed_now : (t : ℕ) (states : List SettledState) (changed : List (ℕ × CellState)) → states_then t (with_settled t states changed) ≡ with_states (states_then t states) changed
changed_now t states [] = refl
changed_now t states (one ∷ rest) =
    changed_now t (set states one.0 (t, one.1)) rest ∙ ap (λ cells. with_states cells rest) (set_now t one.0 one.1 states)

-- ---- instant by instant

-- none of the instants is before the one in front of it, and the first not before this time
abbrev AreNotBefore : ℕ → List Instant → Type 0
AreNotBefore time [] = Unit {0}
AreNotBefore time (instant ∷ rest) = (time ≤ instant.time) × AreNotBefore instant.time rest

rising : (time : ℕ) (instants : List Instant) → RiseAbove time instants → AreNotBefore time instants
rising time [] rise = tt
rising time (instant ∷ rest) rise = (let above = rise.0 in omega (arith, above), rising instant.time rest rise.1)

from_start : (instants : List Instant) → RiseFromStart instants → AreNotBefore 0 instants
from_start [] rise = tt
from_start (first ∷ rest) rise = (omega arith, rising first.time rest rise.1)

until : (time t : ℕ) (states : List SettledState) (instants : List Instant) → time ≤ t → AreBy time states → AreNotBefore time instants →
    states_then t (settled_until t states instants) ≡ cells_from time (states_then time states) instants t
until time t states [] less by rise = sym (goes_on time t states less by)
until time t states (instant ∷ rest) less by rise =
    go (nat_le instant.time t) refl (λ later. until instant.time t there rest later (changed_by instant.time states instant.changed (by_later time instant.time states rise.0 by)) rise.1)
  where
    there : List SettledState
    there = with_settled instant.time states instant.changed

    go : (b : Bool) → nat_le instant.time t ≡ b →
        (instant.time ≤ t → states_then t (settled_until t there rest) ≡ cells_from instant.time (states_then instant.time there) rest t) →
        states_then t (cond b (settled_until t there rest) states)
        ≡ cond b (cells_from instant.time (with_states (passed (states_then time states) (instant.time - time)) instant.changed) rest t) (passed (states_then time states) (t - time))
    go true e further =
        further (leb-true instant.time t e)
        ∙ ap (λ cells. cells_from instant.time cells rest t)
        (changed_now instant.time states instant.changed ∙ ap (λ cells. with_states cells instant.changed) (sym (goes_on time instant.time states rise.0 by)))
    go false e further = sym (goes_on time t states less by)

-- ---- from the start

start_by : (cells : List CellState) → AreBy 0 (settled_at_start cells)
start_by [] = tt
start_by (state ∷ rest) = (omega arith, start_by rest)

start_is : (cells : List CellState) → states_then 0 (settled_at_start cells) ≡ cells
start_is [] = refl
start_is (state ∷ rest) = λ i. later_none state i ∷ start_is rest i

-- the states that are settled until a time are the cells at that time
pub settled_cells : (cells : List CellState) (instants : List Instant) (t : ℕ) → RiseFromStart instants →
    states_then t (settled_until t (settled_at_start cells) instants) ≡ cells_from 0 cells instants t
settled_cells cells instants t rise =
    until 0 t (settled_at_start cells) instants (omega arith) (start_by cells) (from_start instants rise)
    ∙ ap (λ first. cells_from 0 first instants t) (start_is cells)
