-- The state of a cell: what an effect and time do to it, and its range.
use Rattle.std.specs.Prelude.{◌≡◌, ℕ, ℤ, pos, negsuc, ◌+ℤ◌, Bool, true, false, ◌&&◌, Option, Some, None, refl}
use Rattle.aerie_base.specs.Ranges.{is_number, is_rate}
use Rattle.aerie_base.specs.declared.values.Value.{Value}
use Rattle.aerie_base.specs.declared.values.Value.TheVariants.{Int}
use Rattle.effect_cells.specs.Sums.{IsSmall, AreSmall, IsWide, AreWide, CanFlow, both_sums, flowed}
use Rattle.effect_cells.specs.Changes.{changed}
use Rattle.effect_cells.specs.declared.registers.Change.TheVariants as change
use Rattle.effect_cells.specs.declared.effects.Effect.{Effect}
use Rattle.effect_cells.specs.declared.effects.Effect.TheVariants as effect
use Rattle.effect_cells.specs.declared.effects.CellState.{CellState}
use Rattle.effect_cells.specs.declared.effects.CellState.TheVariants.{Counter, Register, Volume}

-- a register's state as a pair, and an accumulator's
abbrev pub register_of : Value × Bool → CellState
register_of pair = Register pair.0 pair.1

abbrev pub volume_of : ℤ × ℤ → CellState
volume_of pair = Volume pair.0 pair.1

-- whether an effect is of the kind of the cell
abbrev pub is_of_kind : CellState → Effect → Bool
is_of_kind (Counter n) (effect.Add x) = true
is_of_kind (Register v f) (effect.Register c) = true
is_of_kind (Volume v r) (effect.Flow x y) = true
is_of_kind state _ = false

-- the state after an effect of its kind; one of another kind, which is never on the cell, leaves it
abbrev pub applied : CellState → Effect → CellState
applied (Counter n) (effect.Add x) = Counter (n +ℤ x)
applied (Register v f) (effect.Register c) = register_of (changed (v, f) c)
applied (Volume v r) (effect.Flow x y) = volume_of (both_sums (v, r) (x, y))
applied state _ = state

abbrev pub applied_if_any : CellState → Option Effect → CellState
applied_if_any state None = state
applied_if_any state (Some e) = applied state e

-- the state so many microseconds later: only a volume changes by itself
abbrev pub state_after : ℕ → CellState → CellState
state_after dt (Counter n) = Counter n
state_after dt (Register v f) = Register v f
state_after dt (Volume v r) = volume_of (flowed (v, r) dt)

-- all numbers of a state are below 2^120 in magnitude
abbrev pub IsSmallState : CellState → Type 0
IsSmallState (Counter n) = IsSmall n
IsSmallState (Register v f) = Unit {0}
IsSmallState (Volume v r) = AreSmall (v, r)

-- the numbers of a state in range with a sum below that added
abbrev pub IsWideState : CellState → Type 0
IsWideState (Counter n) = IsWide n
IsWideState (Register v f) = Unit {0}
IsWideState (Volume v r) = AreWide (v, r)

-- what time adds to it is below 2^120 in magnitude, and the state after that to it
abbrev pub CanPass : ℕ → CellState → Type 0
CanPass dt (Counter n) = Unit {0}
CanPass dt (Register v f) = Unit {0}
CanPass dt (Volume v r) = CanFlow (v, r) dt

-- whether the state is in the range of its kind; a register always is
abbrev pub is_in_range : CellState → Bool
is_in_range (Counter n) = is_number n
is_in_range (Register v f) = true
is_in_range (Volume v r) = is_number v && is_rate r

-- ---- worked cases: every change of a register

pub nothing_on_it : applied (Register (Int (pos 7)) true) (effect.Register change.Nothing) ≡ Register (Int (pos 7)) true
nothing_on_it = refl

pub set_clears_the_flag : applied (Register (Int (pos 7)) true) (effect.Register (change.Set (Int (pos 8)))) ≡ Register (Int (pos 8)) false
set_clears_the_flag = refl

pub mark_keeps_the_value : applied (Register (Int (pos 7)) false) (effect.Register change.Mark) ≡ Register (Int (pos 7)) true
mark_keeps_the_value = refl

pub set_and_marked : applied (Register (Int (pos 7)) false) (effect.Register (change.SetMark (Int (pos 8)))) ≡ Register (Int (pos 8)) true
set_and_marked = refl

-- an accumulator over a time, and the ranges of its volume and its rate

pub volume_rises : state_after 4 (Volume (pos 5) (pos 3)) ≡ Volume (pos 17) (pos 3)
volume_rises = refl

pub volume_falls : state_after 3 (Volume (pos 1) (negsuc 0)) ≡ Volume (negsuc 1) (negsuc 0)
volume_falls = refl

pub the_greatest_volume : is_in_range (Volume (pos 1_000_000_000_000_000_000) (pos 1_000_000_000_000)) ≡ true
the_greatest_volume = refl

pub volume_out_of_range : is_in_range (Volume (negsuc 1_000_000_000_000_000_000) (pos 0)) ≡ false
volume_out_of_range = refl

pub rate_out_of_range : is_in_range (Volume (pos 0) (pos 1_000_000_000_001)) ≡ false
rate_out_of_range = refl
