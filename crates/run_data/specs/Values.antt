-- The cells at a time of a run, and the value of a resource then.
use Rattle.std.specs.Prelude.{ℕ, ℤ, pos, ◌-◌, ◌+ℤ◌, ◌*ℤ◌, List, [], ◌∷◌, nat_le, slice_set, if◌then◌else◌}
use Rattle.aerie_base.specs.declared.values.Value.{Value}
use Rattle.aerie_base.specs.declared.values.Value.TheVariants.{Int}
use Rattle.aerie_base.specs.declared.operands.CellRead.{CellRead}
use Rattle.aerie_base.specs.declared.operands.CellRead.TheVariants as read
use Rattle.aerie_base.specs.declared.operands.Operand.{Operand}
use Rattle.aerie_base.specs.declared.operands.Operand.TheVariants.{Read, Local}
use Rattle.aerie_base.specs.declared.linear.Term.{Term}
use Rattle.aerie_base.specs.declared.linear.Linear.{Linear}
use Rattle.aerie_base.specs.declared.models.Resource.{Resource}
use Rattle.aerie_base.specs.declared.models.Resource.TheVariants.{Discrete}
use Rattle.aerie_base.specs.declared.models.Resource.TheVariants as resource
use Rattle.aerie_base.specs.declared.models.model.Parts.{Parts}
use Rattle.aerie_base.specs.conditions.Holding.{linear_value}
use Rattle.aerie_base.specs.expressions.Arithmetic.{number_in}
use Rattle.effect_cells.specs.declared.effects.CellState.{CellState}
use Rattle.effect_cells.specs.Cells.{initial, passed}
use Rattle.effect_cells.specs.Reads.{value_on}
use Rattle.run_data.specs.declared.runs.Instant.{Instant}
use Rattle.run_data.specs.declared.runs.Run.{Run}

-- cells with some states in place of their own
abbrev pub with_states : List CellState → List (ℕ × CellState) → List CellState
with_states cells [] = cells
with_states cells (changed ∷ rest) = with_states (slice_set cells changed.0 changed.1) rest

-- The cells at time t, by those settled at a time before: each instant until then passes them to its time and has its
-- changed states.
abbrev pub cells_from : ℕ → List CellState → List Instant → ℕ → List CellState
cells_from settled cells [] t = passed cells (t - settled)
cells_from settled cells (instant ∷ rest) t =
    if nat_le instant.time t
    then cells_from instant.time (with_states (passed cells (instant.time - settled)) instant.changed) rest t
    else passed cells (t - settled)

-- the cells at a time below the run's reach
abbrev pub cells_at : Parts → Run → ℕ → List CellState
cells_at model run t = cells_from 0 (initial model) run.instants t

-- ---- resources

abbrev pub resource_on : List CellState → Resource → Value
resource_on cells (Discrete read) = value_on cells read
resource_on cells (resource.Linear form) = Int (linear_value (value_on cells) [] form)

-- the value of a resource at a time below the run's reach
abbrev pub resource_value : Parts → Run → Resource → ℕ → Value
resource_value model run resource t = resource_on (cells_at model run t) resource

-- by how much a volume rises each microsecond; a counter does not
abbrev pub rate_on : List CellState → CellRead → ℤ
rate_on cells (read.Volume cell) = number_in (value_on cells (read.Rate cell))
rate_on cells (read.Counter cell) = pos 0
rate_on cells (read.Register cell) = pos 0
rate_on cells (read.Conflicted cell) = pos 0
rate_on cells (read.Rate cell) = pos 0

abbrev pub operand_rate : List CellState → Operand → ℤ
operand_rate cells (Read read) = rate_on cells read
operand_rate cells (Local slot) = pos 0

-- the same sum over rates
abbrev pub terms_rate : List CellState → List Term → ℤ
terms_rate cells [] = pos 0
terms_rate cells (term ∷ rest) = (term.coefficient *ℤ operand_rate cells term.operand) +ℤ terms_rate cells rest

-- by how much a linear resource rises each microsecond from a time on
abbrev pub rate_at : Parts → Run → Linear → ℕ → ℤ
rate_at model run form t = terms_rate (cells_at model run t) form.terms
