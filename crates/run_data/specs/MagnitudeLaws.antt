-- A file of lemmas: what it proves need not be read to trust a clause.
--
-- How far the numbers of a view come when an effect is put on it.
use Rattle.std.proofs.Common.{◌≡◌, ℕ, zero, suc, ◌+◌, ◌<◌, ◌≤◌, List, [], ◌∷◌, Option, Some, None, slice_get, slice_set, refl, ap, arith}
use Rattle.std.proofs.lemmas.Int.{ints}
use Rattle.effect_cells.specs.declared.effects.CellState.{CellState}
use Rattle.effect_cells.specs.declared.effects.CellState.TheVariants as state
use Rattle.effect_cells.specs.declared.effects.Effect.{Effect}
use Rattle.effect_cells.specs.declared.effects.Effect.TheVariants.{Add, Register, Flow}
use Rattle.effect_cells.specs.declared.registers.Change.TheVariants as change
use Rattle.effect_cells.specs.Cells.{emitted, emitted_on}
use Rattle.effect_cells.specs.States.{applied, IsSmallState}
use Rattle.effect_cells.specs.Sums.{sum_limit}
use Rattle.run_data.specs.Magnitudes.{state_magnitude, effect_magnitude, AreWithin}

pub set_within : (cells : List CellState) (cell most : ℕ) (new : CellState) → AreWithin most cells → state_magnitude new ≤ most → AreWithin most (slice_set cells cell new)
set_within [] cell most new h k j s e = h j s e
set_within (first ∷ rest) zero most new h k zero s e = (let i : new ≡ s = cc in omega (arith, k, ap state_magnitude i))
set_within (first ∷ rest) zero most new h k (suc j) s e = h (suc j) s e
set_within (first ∷ rest) (suc cell) most new h k zero s e = h 0 s e
set_within (first ∷ rest) (suc cell) most new h k (suc j) s e = set_within rest cell most new (λ i. h (suc i)) k j s e

pub applied_within : (before : CellState) (effect : Effect) → state_magnitude (applied before effect) ≤ state_magnitude before + effect_magnitude effect
applied_within (state.Counter n) (Add x) = omega (arith, ints)
applied_within (state.Counter n) (Register c) = omega arith
applied_within (state.Counter n) (Flow x y) = omega arith
applied_within (state.Register v f) (Add x) = omega arith
applied_within (state.Register v f) (Register change.Nothing) = omega arith
applied_within (state.Register v f) (Register (change.Set w)) = omega arith
applied_within (state.Register v f) (Register change.Mark) = omega arith
applied_within (state.Register v f) (Register (change.SetMark w)) = omega arith
applied_within (state.Register v f) (Flow x y) = omega arith
applied_within (state.Volume v r) (Add x) = omega arith
applied_within (state.Volume v r) (Register c) = omega arith
applied_within (state.Volume v r) (Flow x y) = omega (arith, ints)

on_within : (cells : List CellState) (cell : ℕ) (effect : Effect) (there : Option CellState) (most more : ℕ) → slice_get cells cell ≡ there →
    AreWithin most cells → effect_magnitude effect ≤ more → AreWithin (most + more) (emitted_on cells cell effect there)
on_within cells cell effect None most more e h k = λ j s i. omega (arith, h j s i)
on_within cells cell effect (Some before) most more e h k =
    set_within cells cell (most + more) (applied before effect) (λ j s i. omega (arith, h j s i))
    (omega (arith, applied_within before effect, h cell before e, k))

pub emitted_within : (cells : List CellState) (cell : ℕ) (effect : Effect) (most more : ℕ) → AreWithin most cells → effect_magnitude effect ≤ more → AreWithin (most + more) (emitted cells cell effect)
emitted_within cells cell effect most more = on_within cells cell effect (slice_get cells cell) most more refl

-- a state with such numbers is one that an effect may leave
pub is_small : (state : CellState) → state_magnitude state < sum_limit → IsSmallState state
is_small (state.Counter n) h = h
is_small (state.Register v f) h = tt
is_small (state.Volume v r) h = (omega (arith, h), omega (arith, h))
