-- The cells that a step sees stay of the model, and what is read of them has the type that it has in the model.
use Rattle.std.proofs.Common.{◌≡◌, ℕ, zero, suc, ℤ, ◌+ℤ◌, Bool, false, List, [], ◌∷◌, ◌++◌, Option, Some, None, length, slice_get, slice_set, refl, sym, ap, ◌∙◌, length-set}
use Rattle.aerie_base.specs.declared.values.Kind.{Kind}
use Rattle.aerie_base.specs.declared.values.Value.{Value}
use Rattle.aerie_base.specs.declared.operands.CellRead.{CellRead}
use Rattle.aerie_base.specs.declared.operands.CellRead.TheVariants as read
use Rattle.aerie_base.specs.declared.models.CellStart.{CellStart}
use Rattle.aerie_base.specs.declared.models.CellStart.TheVariants as start
use Rattle.aerie_base.specs.declared.models.model.Parts.{Parts}
use Rattle.aerie_base.specs.expressions.Arithmetic.{value_kind}
use Rattle.aerie_base.specs.expressions.Readings.{MayHave, AreReadings, cell_of}
use Rattle.aerie_base.specs.models.Cells.{NamedCells, cell_start_at, counter_kind, flag_kind, flow_kind, read_kind}
use Rattle.effect_cells.specs.declared.effects.CellState.{CellState}
use Rattle.effect_cells.specs.declared.effects.CellState.TheVariants.{Counter, Register, Volume}
use Rattle.effect_cells.specs.declared.effects.Effect.{Effect}
use Rattle.effect_cells.specs.declared.effects.Effect.TheVariants as effect
use Rattle.effect_cells.specs.declared.registers.Change.TheVariants as setting
use Rattle.effect_cells.specs.Cells.{emitted, emitted_on}
use Rattle.effect_cells.specs.Reads.{state_value, state_kind, kind_on}
use Rattle.effect_cells.specs.Solvable.{may_be_solved}
use Rattle.effect_cells.specs.States.{applied}
use Rattle.run_data.specs.declared.frames.Item.{Item}
use Rattle.run_data.specs.StepStates.{after_item, after_items, value_read}
use Rattle.run_data.specs.Jobs.{AreCellsOf}
use Rattle.run_data.specs.laws.ModelSteps.{WaitsGoByCells}

-- ---- what is read

state_has : (what : CellRead) (state : Option CellState) (of : Kind) → state_kind what state ≡ Some of → value_kind (state_value what state) ≡ of
state_has (read.Counter cell) None of e = absurd (cc)
state_has (read.Counter cell) (Some (Counter number)) of e = cc
state_has (read.Counter cell) (Some (Register value conflicted)) of e = absurd (cc)
state_has (read.Counter cell) (Some (Volume volume rate)) of e = absurd (cc)
state_has (read.Register cell) None of e = absurd (cc)
state_has (read.Register cell) (Some (Counter number)) of e = absurd (cc)
state_has (read.Register cell) (Some (Register value conflicted)) of e = cc
state_has (read.Register cell) (Some (Volume volume rate)) of e = absurd (cc)
state_has (read.Conflicted cell) None of e = absurd (cc)
state_has (read.Conflicted cell) (Some (Counter number)) of e = absurd (cc)
state_has (read.Conflicted cell) (Some (Register value conflicted)) of e = cc
state_has (read.Conflicted cell) (Some (Volume volume rate)) of e = absurd (cc)
state_has (read.Volume cell) None of e = absurd (cc)
state_has (read.Volume cell) (Some (Counter number)) of e = absurd (cc)
state_has (read.Volume cell) (Some (Register value conflicted)) of e = absurd (cc)
state_has (read.Volume cell) (Some (Volume volume rate)) of e = cc
state_has (read.Rate cell) None of e = absurd (cc)
state_has (read.Rate cell) (Some (Counter number)) of e = absurd (cc)
state_has (read.Rate cell) (Some (Register value conflicted)) of e = absurd (cc)
state_has (read.Rate cell) (Some (Volume volume rate)) of e = cc

counter_may : (cell : ℕ) (found : Option CellStart) (of : Kind) → counter_kind found ≡ Some of → MayHave (read.Counter cell) of
counter_may cell None of e = absurd (cc)
counter_may cell (Some (start.Counter number)) of e = cc
counter_may cell (Some (start.Register kind value)) of e = absurd (cc)
counter_may cell (Some (start.Accumulator volume rate)) of e = absurd (cc)

flag_may : (cell : ℕ) (found : Option CellStart) (of : Kind) → flag_kind found ≡ Some of → MayHave (read.Conflicted cell) of
flag_may cell None of e = absurd (cc)
flag_may cell (Some (start.Counter number)) of e = absurd (cc)
flag_may cell (Some (start.Register kind value)) of e = cc
flag_may cell (Some (start.Accumulator volume rate)) of e = absurd (cc)

flow_may : (cell : ℕ) (found : Option CellStart) (of : Kind) → flow_kind found ≡ Some of → MayHave (read.Volume cell) of
flow_may cell None of e = absurd (cc)
flow_may cell (Some (start.Counter number)) of e = absurd (cc)
flow_may cell (Some (start.Register kind value)) of e = absurd (cc)
flow_may cell (Some (start.Accumulator volume rate)) of e = cc

read_may : (cells : NamedCells) (what : CellRead) (of : Kind) → read_kind cells what ≡ Some of → MayHave what of
read_may cells (read.Counter cell) of e = counter_may cell (cell_start_at cells cell) of e
read_may cells (read.Register cell) of e = tt
read_may cells (read.Conflicted cell) of e = flag_may cell (cell_start_at cells cell) of e
read_may cells (read.Volume cell) of e = flow_may cell (cell_start_at cells cell) of e
read_may cells (read.Rate cell) of e = flow_may cell (cell_start_at cells cell) of e

-- what a step sees of the cells of a model has the types of the model
pub value_read_readings : (model : Parts) (view : List CellState) (items : List Item) → AreCellsOf model (after_items view items) → AreReadings (read_kind model.cells) (value_read view items)
value_read_readings model view items cells = record {
  of_kind = λ what of e. state_has what (slice_get (after_items view items) (cell_of what)) of (cells.kinds what ∙ e);
  sorts = λ what of e. read_may model.cells what of e;
}

-- what may be waited for by the types of the model may be on cells of the model
pub waits_go_by_cells : WaitsGoByCells
waits_go_by_cells model cells condition are = λ i. may_be_solved (λ what. sym (are.kinds what) i) condition

-- ---- effects

emitted_length_on : (cells : List CellState) (cell : ℕ) (change : Effect) (found : Option CellState) → length (emitted_on cells cell change found) ≡ length cells
emitted_length_on cells cell change None = refl
emitted_length_on cells cell change (Some state) = length-set cells cell (applied state change)

emitted_length : (cells : List CellState) (cell : ℕ) (change : Effect) → length (emitted cells cell change) ≡ length cells
emitted_length cells cell change = emitted_length_on cells cell change (slice_get cells cell)

-- an effect that leaves each read of a state with its type
abbrev pub LeavesKinds : Effect → Option CellState → Type 0
LeavesKinds change None = Unit {0}
LeavesKinds change (Some state) = (what : CellRead) → state_kind what (Some (applied state change)) ≡ state_kind what (Some state)

set_kind : (cells : List CellState) (at other : ℕ) (new old : CellState) (what : CellRead) → slice_get cells at ≡ Some old →
    state_kind what (Some new) ≡ state_kind what (Some old) →
    state_kind what (slice_get (slice_set cells at new) other) ≡ state_kind what (slice_get cells other)
set_kind [] at other new old what e kept = refl
set_kind (x ∷ cells) zero zero new old what e kept = kept ∙ ap (λ (found : Option CellState). state_kind what found) (sym e)
set_kind (x ∷ cells) zero (suc other) new old what e kept = refl
set_kind (x ∷ cells) (suc at) zero new old what e kept = refl
set_kind (x ∷ cells) (suc at) (suc other) new old what e kept = set_kind cells at other new old what e kept

emitted_kind_on : (cells : List CellState) (cell : ℕ) (change : Effect) (what : CellRead) (found : Option CellState) → slice_get cells cell ≡ found → LeavesKinds change found →
    kind_on (emitted_on cells cell change found) what ≡ kind_on cells what
emitted_kind_on cells cell change what None e kept = refl
emitted_kind_on cells cell change what (Some state) e kept = set_kind cells cell (cell_of what) (applied state change) state what e (kept what)

pub cells_emitted : (model : Parts) (cells : List CellState) (cell : ℕ) (change : Effect) → AreCellsOf model cells → LeavesKinds change (slice_get cells cell) →
    AreCellsOf model (emitted cells cell change)
cells_emitted model cells cell change are kept = record {
  count = emitted_length cells cell change ∙ are.count;
  kinds = λ what. emitted_kind_on cells cell change what (slice_get cells cell) refl kept ∙ are.kinds what;
}

pub after_more : (cells : List CellState) (items : List Item) (last : Item) → after_items cells (items ++ last ∷ []) ≡ after_item (after_items cells items) last
after_more cells [] last = refl
after_more cells (item ∷ items) last = after_more (after_item cells item) items last

-- ---- the effects of statements

counter_kept : (x y : ℤ) (what : CellRead) → state_kind what (Some (Counter y)) ≡ state_kind what (Some (Counter x))
counter_kept x y (read.Counter cell) = refl
counter_kept x y (read.Register cell) = refl
counter_kept x y (read.Conflicted cell) = refl
counter_kept x y (read.Volume cell) = refl
counter_kept x y (read.Rate cell) = refl

volume_kept : (a b c d : ℤ) (what : CellRead) → state_kind what (Some (Volume c d)) ≡ state_kind what (Some (Volume a b))
volume_kept a b c d (read.Counter cell) = refl
volume_kept a b c d (read.Register cell) = refl
volume_kept a b c d (read.Conflicted cell) = refl
volume_kept a b c d (read.Volume cell) = refl
volume_kept a b c d (read.Rate cell) = refl

register_kept : (old new : Value) (flag other : Bool) → value_kind new ≡ value_kind old → (what : CellRead) → state_kind what (Some (Register new other)) ≡ state_kind what (Some (Register old flag))
register_kept old new flag other same (read.Counter cell) = refl
register_kept old new flag other same (read.Register cell) = ap Some same
register_kept old new flag other same (read.Conflicted cell) = refl
register_kept old new flag other same (read.Volume cell) = refl
register_kept old new flag other same (read.Rate cell) = refl

pub add_leaves : (x : ℤ) (found : Option CellState) → LeavesKinds (effect.Add x) found
add_leaves x None = tt
add_leaves x (Some (Counter number)) = λ what. counter_kept number (number +ℤ x) what
add_leaves x (Some (Register old flag)) = λ what. refl
add_leaves x (Some (Volume volume rate)) = λ what. refl

pub flow_leaves : (x y : ℤ) (found : Option CellState) → LeavesKinds (effect.Flow x y) found
flow_leaves x y None = tt
flow_leaves x y (Some (Counter number)) = λ what. refl
flow_leaves x y (Some (Register old flag)) = λ what. refl
flow_leaves x y (Some (Volume volume rate)) = λ what. volume_kept volume rate (volume +ℤ x) (rate +ℤ y) what

pub set_leaves : (cell : ℕ) (new : Value) (found : Option CellState) → state_kind (read.Register cell) found ≡ Some (value_kind new) → LeavesKinds (effect.Register (setting.Set new)) found
set_leaves cell new None e = tt
set_leaves cell new (Some (Counter number)) e = λ what. refl
set_leaves cell new (Some (Register old flag)) e = λ what. register_kept old new flag false (cc) what
set_leaves cell new (Some (Volume volume rate)) e = λ what. refl
