-- Cells that no accumulator is among stay as time passes.
use Rattle.std.proofs.Common.{◌≡◌, ℕ, zero, suc, Bool, true, false, ◌||◌, List, [], ◌∷◌, Option, Some, None, Ok, slice_get, refl, sym, ap, ◌∙◌}
use Rattle.std.specs.List.{list_any}
use Rattle.aerie_base.specs.declared.models.CellStart.{CellStart}
use Rattle.aerie_base.specs.declared.models.CellStart.TheVariants as start
use Rattle.aerie_base.specs.declared.models.model.Parts.{Parts}
use Rattle.aerie_base.specs.declared.operands.CellRead.TheVariants as read
use Rattle.aerie_base.specs.models.Cells.{NamedCells, cell_start_at, flow_kind}
use Rattle.effect_cells.specs.declared.effects.CellState.{CellState}
use Rattle.effect_cells.specs.declared.effects.CellState.TheVariants.{Counter, Register, Volume}
use Rattle.effect_cells.specs.Cells.{passed, refusal, verdict, AreInRange}
use Rattle.effect_cells.specs.Reads.{state_kind}
use Rattle.effect_cells.specs.States.{state_after}
use Rattle.run_data.specs.Jobs.{AreCellsOf}
use Rattle.engine_core.specs.Passing.{is_accumulator, has_accumulator, HasPassed}

-- a state without a volume stays
same_state : (dt : ℕ) (state : CellState) → state_kind (read.Volume 0) (Some state) ≡ None → state_after dt state ≡ state
same_state dt (Counter number) none = refl
same_state dt (Register value conflicted) none = refl
same_state dt (Volume volume rate) none = absurd (cc)

same_states : (dt : ℕ) (cells : List CellState) → ((cell : ℕ) → state_kind (read.Volume 0) (slice_get cells cell) ≡ None) → passed cells dt ≡ cells
same_states dt [] none = refl
same_states dt (state ∷ rest) none = λ i. same_state dt state (none 0) i ∷ same_states dt rest (λ cell. none (suc cell)) i

-- every cell has a volume or none, whatever its number
any_number : (cell other : ℕ) (there : Option CellState) → state_kind (read.Volume cell) there ≡ state_kind (read.Volume other) there
any_number cell other None = refl
any_number cell other (Some (Counter number)) = refl
any_number cell other (Some (Register value conflicted)) = refl
any_number cell other (Some (Volume volume rate)) = refl

neither : (one other : Bool) → (one || other) ≡ false → (one ≡ false) × (other ≡ false)
neither true other h = absurd (cc)
neither false other h = (refl, h)

no_flow : (begins : CellStart) → is_accumulator begins ≡ false → flow_kind (Some begins) ≡ None
no_flow (start.Counter number) none = refl
no_flow (start.Register kind value) none = refl
no_flow (start.Accumulator volume rate) none = absurd (cc)

none_flows : (cells : NamedCells) → list_any (λ cell. is_accumulator cell.1) cells ≡ false → (cell : ℕ) → flow_kind (cell_start_at cells cell) ≡ None
none_flows [] none cell = refl
none_flows (first ∷ rest) none zero = no_flow first.1 (neither (is_accumulator first.1) (list_any (λ cell. is_accumulator cell.1) rest) none).0
none_flows (first ∷ rest) none (suc cell) = none_flows rest (neither (is_accumulator first.1) (list_any (λ cell. is_accumulator cell.1) rest) none).1 cell

-- so a time passes and the cells stay
pub stay : (model : Parts) (cells : List CellState) (dt : ℕ) → AreCellsOf model cells → AreInRange cells → has_accumulator model ≡ false → HasPassed dt cells cells (Ok tt)
stay model cells dt of_model range none = record { answer = sym (ap verdict same ∙ ap refusal range); moved = sym same }
  where
    same : passed cells dt ≡ cells
    same = same_states dt cells (λ cell. any_number 0 cell (slice_get cells cell) ∙ of_model.kinds (read.Volume cell) ∙ none_flows model.cells none cell)
