-- The cells of a model, in the order of their declaration: one state for each.
use Rattle.std.specs.Prelude.{◌≡◌, ℕ, ◌+◌, Bool, true, false, List, [], ◌∷◌, map, Option, Some, None, Result, Ok, Err, slice_get, slice_set, if◌then◌else◌}
use Rattle.aerie_base.specs.declared.models.CellStart.{CellStart}
use Rattle.aerie_base.specs.declared.models.CellStart.TheVariants as start
use Rattle.aerie_base.specs.declared.models.model.Parts.{Parts}
use Rattle.aerie_base.specs.Ranges.{is_rate}
use Rattle.effect_cells.specs.Worth.{worth_of, all_accepted}
use Rattle.effect_cells.specs.States.{applied, applied_if_any, state_after, is_of_kind, is_in_range, IsSmallState}
use Rattle.effect_cells.specs.declared.trees.Tree.{Tree}
use Rattle.effect_cells.specs.declared.effects.Effect.{Effect}
use Rattle.effect_cells.specs.declared.effects.CellState.{CellState}
use Rattle.effect_cells.specs.declared.effects.CellState.TheVariants as state
use Rattle.effect_cells.specs.declared.cells.OutOfRange.{OutOfRange}

-- a cell as it is declared: a register begins without a conflict
abbrev pub first_state : CellStart → CellState
first_state (start.Counter number) = state.Counter number
first_state (start.Register kind value) = state.Register value false
first_state (start.Accumulator volume rate) = state.Volume volume rate

-- a number and a volume begin within their range by their type, a rate as it is declared
abbrev pub begins_in_range : CellStart → Bool
begins_in_range (start.Counter number) = true
begins_in_range (start.Register kind value) = true
begins_in_range (start.Accumulator volume rate) = is_rate rate

-- the cells of a model as they are declared
abbrev pub initial : Parts → List CellState
initial model = map (λ cell. first_state cell.1) model.cells

abbrev pub accepted_by : Option CellState → Effect → Bool
accepted_by None effect = false
accepted_by (Some state) effect = is_of_kind state effect

-- whether an effect on a cell is of the kind of that cell, which is one of the cells
abbrev pub accepts : List CellState → ℕ → Effect → Bool
accepts cells cell effect = accepted_by (slice_get cells cell) effect

-- whether each effect of a tree is on one of the cells and of its kind
abbrev pub fits_cells : List CellState → Tree → Bool
fits_cells cells tree = all_accepted (accepts cells) tree

-- each cell with the effect that is on it, where there is one; the first of them is cell `from`
abbrev pub with_effects : ℕ → (ℕ → Option Effect) → List CellState → List CellState
with_effects from on [] = []
with_effects from on (state ∷ rest) = applied_if_any state (on from) ∷ with_effects (from + 1) on rest

-- the cells after a batch with this tree: each becomes its state with the worth of the tree on it applied
abbrev pub committed_cells : List CellState → Tree → List CellState
committed_cells cells tree = with_effects 0 (worth_of tree) cells

-- the cells so many microseconds later, where there is no effect
abbrev pub passed : List CellState → ℕ → List CellState
passed cells dt = map (state_after dt) cells

abbrev pub emitted_on : List CellState → ℕ → Effect → Option CellState → List CellState
emitted_on cells cell effect None = cells
emitted_on cells cell effect (Some state) = slice_set cells cell (applied state effect)

-- the cells after one effect on one cell
abbrev pub emitted : List CellState → ℕ → Effect → List CellState
emitted cells cell effect = emitted_on cells cell effect (slice_get cells cell)

-- an effect on the state of a cell leaves all numbers below 2^120 in magnitude
abbrev pub IsSmallOn : Option CellState → Effect → Type 0
IsSmallOn None effect = Unit {0}
IsSmallOn (Some state) effect = IsSmallState (applied state effect)

abbrev pub first_out_from : ℕ → List CellState → Option ℕ
first_out_from from [] = None
first_out_from from (state ∷ rest) = if is_in_range state then first_out_from (from + 1) rest else Some from

-- the first cell in the order of declaration that is out of range
abbrev pub first_out : List CellState → Option ℕ
first_out = first_out_from 0

abbrev pub refusal : Option ℕ → Result (Unit {0}) OutOfRange
refusal None = Ok tt
refusal (Some cell) = Err (record { cell = cell })

-- the answer where the cells would come to be these: the first that is out of range is named
abbrev pub verdict : List CellState → Result (Unit {0}) OutOfRange
verdict cells = refusal (first_out cells)

-- every cell is in range
abbrev pub AreInRange : List CellState → Type 0
AreInRange cells = first_out cells ≡ None
