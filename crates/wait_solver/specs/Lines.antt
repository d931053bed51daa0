-- Numbers that change at a constant rate: what a linear form comes to while the cells evolve by themselves.
use Rattle.std.specs.Prelude.{◌≡◌, ℕ, ℤ, pos, ◌+ℤ◌, ◌-ℤ◌, ◌*ℤ◌, List, [], ◌∷◌, Option, Some, slice_get, refl, ◌≤◌, unsigned_abs}
use Rattle.aerie_base.specs.expressions.Arithmetic.{number_in}
use Rattle.aerie_base.specs.expressions.Readings.{cell_of}
use Rattle.aerie_base.specs.declared.operands.CellRead.{CellRead}
use Rattle.aerie_base.specs.declared.operands.CellRead.TheVariants as read
use Rattle.aerie_base.specs.declared.operands.Operand.{Operand}
use Rattle.aerie_base.specs.declared.operands.Operand.TheVariants.{Read, Local}
use Rattle.aerie_base.specs.declared.linear.Term.{Term}
use Rattle.aerie_base.specs.declared.linear.Linear.{Linear}
use Rattle.effect_cells.specs.Reads.{state_value}
use Rattle.effect_cells.specs.declared.effects.CellState.{CellState}
use Rattle.effect_cells.specs.declared.effects.CellState.TheVariants.{Volume}
use Rattle.wait_solver.specs.declared.lines.Line.{Line}

-- the number so many microseconds from now
abbrev pub line_value : Line → ℕ → ℤ
line_value line dt = line.value +ℤ line.rate *ℤ pos dt

-- a number that stands
abbrev pub still : ℤ → Line
still number = record { value = number; rate = pos 0 }

-- the sum of two
abbrev pub sum_of_lines : Line → Line → Line
sum_of_lines a b = record { value = a.value +ℤ b.value; rate = a.rate +ℤ b.rate }

-- so many times the number
abbrev pub scaled : ℤ → Line → Line
scaled factor line = record { value = factor *ℤ line.value; rate = factor *ℤ line.rate }

-- a volume moves by its rate, all else that is read stands
abbrev pub state_line : CellRead → Option CellState → Line
state_line (read.Volume cell) (Some (Volume volume rate)) = record { value = volume; rate = rate }
state_line read state = still (number_in (state_value read state))

-- a local, which no condition has here, would be 0
abbrev pub operand_line : List CellState → Operand → Line
operand_line cells (Read read) = state_line read (slice_get cells (cell_of read))
operand_line cells (Local slot) = still (pos 0)

abbrev pub term_line : List CellState → Term → Line
term_line cells term = scaled term.coefficient (operand_line cells term.operand)

abbrev pub terms_line : List CellState → List Term → Line
terms_line cells [] = still (pos 0)
terms_line cells (term ∷ rest) = sum_of_lines (term_line cells term) (terms_line cells rest)

-- a linear form
abbrev pub form_line : List CellState → Linear → Line
form_line cells form = sum_of_lines (terms_line cells form.terms) (still form.constant)

-- how far the first is above the second, from so many microseconds on
abbrev pub gap_from : ℕ → Line → Line → Line
gap_from dt a b = record { value = line_value a dt -ℤ line_value b dt; rate = a.rate -ℤ b.rate }

-- the magnitudes of the value and of the rate are at most these
abbrev pub IsWithin : ℕ → ℕ → Line → Type 0
IsWithin value rate line = (unsigned_abs line.value ≤ value) × (unsigned_abs line.rate ≤ rate)

-- ---- worked cases

-- 5 and 3 more each microsecond
pub after_four : line_value (record { value = pos 5; rate = pos 3 }) 4 ≡ pos 17
after_four = refl

pub twice_a_volume : term_line (Volume (pos 5) (pos 3) ∷ []) (record { coefficient = pos 2; operand = Read (read.Volume 0) }) ≡ record { value = pos 10; rate = pos 6 }
twice_a_volume = refl

pub a_rate_stands : term_line (Volume (pos 5) (pos 3) ∷ []) (record { coefficient = pos 2; operand = Read (read.Rate 0) }) ≡ record { value = pos 6; rate = pos 0 }
a_rate_stands = refl
