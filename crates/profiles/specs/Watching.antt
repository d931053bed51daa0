-- The cells that a linear resource reads, with their states.
use Rattle.std.specs.Prelude.{◌≡◌, ◌≤◌, ℕ, ℤ, pos, ◌+ℤ◌, ◌*ℤ◌, true, List, [], ◌∷◌, ◌++◌, Some, unwrap_or}
use Rattle.std.specs.Int.RustNames.{unsigned_abs}
use Rattle.aerie_base.specs.declared.operands.CellRead.{CellRead}
use Rattle.aerie_base.specs.declared.operands.CellRead.TheVariants as read
use Rattle.aerie_base.specs.declared.operands.Operand.{Operand}
use Rattle.aerie_base.specs.declared.operands.Operand.TheVariants.{Read, Local}
use Rattle.aerie_base.specs.declared.linear.Term.{Term}
use Rattle.aerie_base.specs.expressions.Arithmetic.{number_in}
use Rattle.aerie_base.specs.expressions.Readings.{cell_of}
use Rattle.effect_cells.specs.declared.effects.CellState.{CellState}
use Rattle.effect_cells.specs.Reads.{state_value}
use Rattle.effect_cells.specs.States.{is_in_range, state_after}
use Rattle.windows.specs.declared.segments.Segment.{Segment}
use Rattle.profiles.specs.declared.watching.Watched.{Watched}
use Rattle.profiles.specs.States.{state_on, changed_state}

-- ---- which cells

abbrev pub watched_operand : List CellState → ℤ → Operand → List Watched
watched_operand cells coefficient (Read one) = (record { read = one; coefficient = coefficient; state = state_on cells one }) ∷ []
watched_operand cells coefficient (Local slot) = []

abbrev pub watched_term : List CellState → Term → List Watched
watched_term cells term = watched_operand cells term.coefficient term.operand

abbrev pub watched_on : List CellState → List Term → List Watched
watched_on cells [] = []
watched_on cells (term ∷ rest) = watched_term cells term ++ watched_on cells rest

-- ---- from instant to instant

abbrev pub advanced : ℕ → List (ℕ × CellState) → Watched → Watched
advanced dt changed watched = record watched { state = unwrap_or (changed_state changed (cell_of watched.read)) (state_after dt watched.state) }

-- ---- what they come to

abbrev pub read_number : CellRead → CellState → ℤ
read_number one state = number_in (state_value one (Some state))

abbrev pub read_rate : CellRead → CellState → ℤ
read_rate (read.Volume cell) state = number_in (state_value (read.Rate cell) (Some state))
read_rate (read.Counter cell) state = pos 0
read_rate (read.Register cell) state = pos 0
read_rate (read.Conflicted cell) state = pos 0
read_rate (read.Rate cell) state = pos 0

abbrev pub values_sum : List Watched → ℤ
values_sum [] = pos 0
values_sum (watched ∷ rest) = (watched.coefficient *ℤ read_number watched.read watched.state) +ℤ values_sum rest

abbrev pub rates_sum : List Watched → ℤ
rates_sum [] = pos 0
rates_sum (watched ∷ rest) = (watched.coefficient *ℤ read_rate watched.read watched.state) +ℤ rates_sum rest

-- a term of a model, its cell in range
abbrev pub IsSummed : CellRead → Type 0
IsSummed (read.Counter cell) = Unit {0}
IsSummed (read.Volume cell) = Unit {0}
IsSummed (read.Register cell) = ⊥
IsSummed (read.Conflicted cell) = ⊥
IsSummed (read.Rate cell) = ⊥

pub record IsWatchable (watched : Watched) : Type 0 where
  pub summed : IsSummed watched.read
  pub coefficient : unsigned_abs watched.coefficient ≤ 1_000_000
  pub in_range : is_in_range watched.state ≡ true

-- ---- the straight piece that they are

abbrev pub summed_line : ℕ → List Watched → Segment
summed_line from watched = record { from = from; value = values_sum watched; rate = rates_sum watched }

-- far below the greatest sum, also after the longest time
pub record IsModerate (line : Segment) : Type 0 where
  pub value : unsigned_abs line.value ≤ 16_000_000_000_000_000_000_000_000
  pub rate : unsigned_abs line.rate ≤ 16_000_000_000_000_000_000
