-- Which cells a condition reads.
use Rattle.std.specs.Prelude.{◌≡◌, ℕ, Bool, true, false, ◌||◌, List, [], ◌∷◌, slice_get, nat_eq, refl}
use Rattle.aerie_base.specs.conditions.Recursion.{cond_gives}
use Rattle.aerie_base.specs.expressions.Readings.{cell_of}
use Rattle.aerie_base.specs.declared.conditions.Cond.{Cond}
use Rattle.aerie_base.specs.declared.conditions.Cond.TheOpen.{Cond-F}
use Rattle.aerie_base.specs.declared.conditions.Simple.{Simple}
use Rattle.aerie_base.specs.declared.conditions.Simple.TheVariants as simple
use Rattle.aerie_base.specs.declared.linear.Term.{Term}
use Rattle.aerie_base.specs.declared.operands.Operand.{Operand}
use Rattle.aerie_base.specs.declared.operands.Operand.TheVariants.{Read, Local}
use Rattle.effect_cells.specs.Touched.{flagged_from}
use Rattle.effect_cells.specs.WakeTimes.{ten_are_there}
use Rattle.effect_cells.specs.declared.effects.CellState.{CellState}

abbrev pub reads_operand : Operand → ℕ → Bool
reads_operand (Read read) cell = nat_eq (cell_of read) cell
reads_operand (Local slot) cell = false

abbrev pub reads_side : Simple → ℕ → Bool
reads_side (simple.Literal value) cell = false
reads_side (simple.Operand operand) cell = reads_operand operand cell

abbrev pub reads_terms : List Term → ℕ → Bool
reads_terms [] cell = false
reads_terms (term ∷ rest) cell = reads_operand term.operand cell || reads_terms rest cell

abbrev pub reads_step : Cond-F (ℕ → Bool) → ℕ → Bool
reads_step (Cond-F.Literal truth) cell = false
reads_step (Cond-F.Flag operand) cell = reads_operand operand cell
reads_step (Cond-F.Same left right equal) cell = reads_side left cell || reads_side right cell
reads_step (Cond-F.Compare left how right) cell = reads_terms left.terms cell || reads_terms right.terms cell
reads_step (Cond-F.Not part) cell = part cell
reads_step (Cond-F.And left right) cell = left cell || right cell
reads_step (Cond-F.Or left right) cell = left cell || right cell

-- whether a condition reads the cell
unfoldable pub reads_cell : Cond → ℕ → Bool
reads_cell = cond_gives (ℕ → Bool) (λ cell. false) reads_step

-- flags by cell, and the cells besides that a condition reads
abbrev pub also_read : Cond → List Bool → List Bool
also_read condition flags = flagged_from (reads_cell condition) 0 flags

-- the cells that pass a test are the same in both
abbrev pub AgreeOn : (ℕ → Bool) → List CellState → List CellState → Type 0
AgreeOn test cells others = (cell : ℕ) → test cell ≡ true → slice_get cells cell ≡ slice_get others cell

-- ---- worked cases

pub a_volume_is_read : also_read ten_are_there (false ∷ false ∷ []) ≡ false ∷ true ∷ []
unfolding reads_cell
a_volume_is_read = refl
