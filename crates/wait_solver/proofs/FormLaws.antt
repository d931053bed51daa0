-- A linear form on the cells passed by a time is its line at that time.
use Rattle.std.proofs.Common.{◌≡◌, ℕ, ℤ, pos, ◌+ℤ◌, ◌*ℤ◌, List, [], ◌∷◌, Option, Some, None, slice_get, refl, ap, ◌∙◌, arith}
use Rattle.std.specs.Option.{option_map}
use Rattle.std.proofs.lemmas.Int.{ints}
use Rattle.std.proofs.lemmas.Option.{slice_get-map}
use Rattle.aerie_base.specs.conditions.Holding.{operand_value, term_value, terms_value, linear_value}
use Rattle.aerie_base.specs.expressions.Arithmetic.{number_in}
use Rattle.aerie_base.specs.expressions.Readings.{cell_of}
use Rattle.aerie_base.specs.declared.operands.CellRead.{CellRead}
use Rattle.aerie_base.specs.declared.operands.CellRead.TheVariants as read
use Rattle.aerie_base.specs.declared.operands.Operand.{Operand}
use Rattle.aerie_base.specs.declared.operands.Operand.TheVariants.{Read, Local}
use Rattle.aerie_base.specs.declared.linear.Term.{Term}
use Rattle.aerie_base.specs.declared.linear.Linear.{Linear}
use Rattle.effect_cells.specs.Cells.{passed}
use Rattle.effect_cells.specs.Reads.{state_value, value_on}
use Rattle.effect_cells.specs.States.{state_after}
use Rattle.effect_cells.specs.declared.effects.CellState.{CellState}
use Rattle.effect_cells.specs.declared.effects.CellState.TheVariants.{Counter, Register, Volume}
use Rattle.aerie_base.specs.Products.{sum_times, times_sum, times_times}
use Rattle.wait_solver.specs.Lines.{line_value, still, sum_of_lines, scaled, state_line, operand_line, term_line, terms_line, form_line}
use Rattle.wait_solver.specs.declared.lines.Line.{Line}

-- two lines with the same value and rate are one
pub same_line : (a b : Line) → a.value ≡ b.value → a.rate ≡ b.rate → a ≡ b
same_line a b value rate = λ i. record { value = value i; rate = rate i }

still_at : (number : ℤ) (dt : ℕ) → number ≡ line_value (still number) dt
still_at number dt = omega (arith, ints)

sum_at : (a b : Line) (dt : ℕ) → line_value a dt +ℤ line_value b dt ≡ line_value (sum_of_lines a b) dt
sum_at a b dt = let spread = sum_times a.rate b.rate dt in omega (arith, ints, spread)

scaled_at : (factor : ℤ) (line : Line) (dt : ℕ) → factor *ℤ line_value line dt ≡ line_value (scaled factor line) dt
scaled_at factor line dt =
    times_sum factor line.value (line.rate *ℤ pos dt) ∙ ap (λ (z : ℤ). factor *ℤ line.value +ℤ z) (times_times factor line.rate dt)

state_at : (read : CellRead) (state : Option CellState) (dt : ℕ) → number_in (state_value read (option_map (state_after dt) state)) ≡ line_value (state_line read state) dt
state_at (read.Counter cell) None dt = still_at _ dt
state_at (read.Counter cell) (Some (Counter number)) dt = still_at _ dt
state_at (read.Counter cell) (Some (Register value conflicted)) dt = still_at _ dt
state_at (read.Counter cell) (Some (Volume volume rate)) dt = still_at _ dt
state_at (read.Register cell) None dt = still_at _ dt
state_at (read.Register cell) (Some (Counter number)) dt = still_at _ dt
state_at (read.Register cell) (Some (Register value conflicted)) dt = still_at _ dt
state_at (read.Register cell) (Some (Volume volume rate)) dt = still_at _ dt
state_at (read.Conflicted cell) None dt = still_at _ dt
state_at (read.Conflicted cell) (Some (Counter number)) dt = still_at _ dt
state_at (read.Conflicted cell) (Some (Register value conflicted)) dt = still_at _ dt
state_at (read.Conflicted cell) (Some (Volume volume rate)) dt = still_at _ dt
state_at (read.Volume cell) None dt = still_at _ dt
state_at (read.Volume cell) (Some (Counter number)) dt = still_at _ dt
state_at (read.Volume cell) (Some (Register value conflicted)) dt = still_at _ dt
state_at (read.Volume cell) (Some (Volume volume rate)) dt = refl
state_at (read.Rate cell) None dt = still_at _ dt
state_at (read.Rate cell) (Some (Counter number)) dt = still_at _ dt
state_at (read.Rate cell) (Some (Register value conflicted)) dt = still_at _ dt
state_at (read.Rate cell) (Some (Volume volume rate)) dt = still_at _ dt

module _ (cells : List CellState) (dt : ℕ) where
  operand_at : (operand : Operand) → number_in (operand_value (value_on (passed cells dt)) [] operand) ≡ line_value (operand_line cells operand) dt
  operand_at (Read read) =
      ap (λ (state : Option CellState). number_in (state_value read state)) (slice_get-map (state_after dt) cells (cell_of read))
      ∙ state_at read (slice_get cells (cell_of read)) dt
  operand_at (Local slot) = still_at _ dt

  term_at : (term : Term) → term_value (value_on (passed cells dt)) [] term ≡ line_value (term_line cells term) dt
  term_at term =
      ap (λ (number : ℤ). term.coefficient *ℤ number) (operand_at term.operand)
      ∙ scaled_at term.coefficient (operand_line cells term.operand) dt

  terms_at : (terms : List Term) → terms_value (value_on (passed cells dt)) [] terms ≡ line_value (terms_line cells terms) dt
  terms_at [] = still_at _ dt
  terms_at (term ∷ rest) =
      (λ i. term_at term i +ℤ terms_at rest i) ∙ sum_at (term_line cells term) (terms_line cells rest) dt

  -- the value of a linear form after a time is its line there
  pub form_at : (form : Linear) → linear_value (value_on (passed cells dt)) [] form ≡ line_value (form_line cells form) dt
  form_at form =
      (λ i. terms_at form.terms i +ℤ still_at form.constant dt i) ∙ sum_at (terms_line cells form.terms) (still form.constant) dt
