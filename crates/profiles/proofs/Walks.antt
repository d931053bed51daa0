-- A walk over the instants of a fresh run: the cells at each settled time, and until the next one.
use Rattle.std.proofs.Common.{◌≡◌, ℕ, zero, suc, ◌+◌, ◌-◌, ◌<◌, ◌≤◌, pos, Bool, true, false, cond, ◌&&◌, IsTrue, List, [], ◌∷◌, length, map, get_or, drop, Some, None, slice_get, nat_eq, refl, sym, ap, subst, ◌∙◌, arith, add-one, drop-cons}
use Rattle.std.proofs.lemmas.Bool.{le-leb, eqb-false}
use Rattle.aerie_base.specs.declared.models.model.Parts.{Parts}
use Rattle.aerie_base.specs.declared.operands.CellRead.{CellRead}
use Rattle.aerie_base.specs.declared.operands.CellRead.TheVariants as read
use Rattle.aerie_base.specs.expressions.Readings.{cell_of}
use Rattle.std.specs.List.{list_all}
use Rattle.std.proofs.lemmas.List.{drop_all}
use Rattle.aerie_base.specs.declared.models.EnumType.{EnumType}
use Rattle.aerie_base.specs.declared.models.CellStart.{CellStart}
use Rattle.aerie_base.specs.declared.models.CellStart.TheVariants as start
use Rattle.aerie_base.specs.models.Cells.{is_cell}
use Rattle.aerie_base.specs.models.ValidModel.{valid_model, has_good_cells}
use Rattle.aerie_base.specs.models.ValidParts.{are_good}
use Rattle.effect_cells.specs.declared.effects.CellState.{CellState}
use Rattle.effect_cells.specs.declared.effects.CellState.TheVariants.{Counter}
use Rattle.effect_cells.specs.Cells.{first_state, initial, passed, first_out_from, AreInRange}
use Rattle.effect_cells.specs.Reads.{state_value, value_on}
use Rattle.effect_cells.specs.States.{is_in_range}
use Rattle.effect_cells.proofs.InRange.{first_is, rest_is}
use Rattle.run_data.specs.declared.runs.Instant.{Instant}
use Rattle.run_data.specs.declared.runs.Run.{Run}
use Rattle.run_data.specs.Values.{with_states, cells_from, cells_at}
use Rattle.run_data.specs.laws.Rising.{RiseAbove, RiseFromStart}
use Rattle.profiles.specs.States.{state_on}
use Rattle.profiles.specs.Followed.{ChangesRise, AreGoodInstants, InRangeBelow}
use Rattle.profiles.proofs.Following.{Settled, until_next, none_passed, next_count, IsBeforeFirst}

-- ---- one cell

value_there : (one : CellRead) (cells : List CellState) (k : ℕ) → state_value one (slice_get cells k) ≡ state_value one (Some (get_or cells k (Counter (pos 0))))
value_there (read.Counter cell) [] k = refl
value_there (read.Register cell) [] k = refl
value_there (read.Conflicted cell) [] k = refl
value_there (read.Volume cell) [] k = refl
value_there (read.Rate cell) [] k = refl
value_there one (state ∷ rest) zero = refl
value_there one (state ∷ rest) (suc k) = value_there one rest k

-- what a read has on cells, by the state of its cell
pub seen_is : (one : CellRead) (cells : List CellState) → value_on cells one ≡ state_value one (Some (state_on cells one))
seen_is one cells = value_there one cells (cell_of one)

in_range_from : (from : ℕ) (cells : List CellState) (k : ℕ) → first_out_from from cells ≡ None → is_in_range (get_or cells k (Counter (pos 0))) ≡ true
in_range_from from [] k none = refl
in_range_from from (state ∷ rest) zero none = first_is from state rest none
in_range_from from (state ∷ rest) (suc k) none = in_range_from (from + 1) rest k (rest_is from state rest none)

pub in_range_there : (cells : List CellState) (k : ℕ) → AreInRange cells → is_in_range (get_or cells k (Counter (pos 0))) ≡ true
in_range_there cells k good = in_range_from 0 cells k good

-- ---- the walk

pub rest_is_later : (time : ℕ) (rest : List Instant) → RiseAbove time rest → IsBeforeFirst time rest
rest_is_later time [] rise = tt
rest_is_later time (instant ∷ rest) rise = rise.0

-- a settled time's own cells
pub cells_here : (model : Parts) (run : Run) (rest : List Instant) (time : ℕ) (cells : List CellState) → Settled model run.instants rest time cells → cells_at model run time ≡ cells
cells_here model run rest time cells at =
    let none : time - time ≡ 0 = omega arith in
    until_next model run.instants rest time cells at time (omega arith) (rest_is_later time rest at.rise)
    ∙ (ap (λ dt. passed cells dt) none ∙ none_passed cells)

pub in_range_here : (model : Parts) (run : Run) (rest : List Instant) (time : ℕ) (cells : List CellState) → InRangeBelow model run → time < run.reach →
    Settled model run.instants rest time cells → AreInRange cells
in_range_here model run rest time cells good below at = subst AreInRange (cells_here model run rest time cells at) (good time below)

-- the first instant, at 0
pub settled_first : (model : Parts) (instants rest : List Instant) (first : Instant) → instants ≡ first ∷ rest → RiseFromStart instants → ChangesRise instants →
    Settled model instants rest first.time (with_states (passed (initial model) (first.time - 0)) first.changed)
settled_first model instants rest first is rise changes =
    let rises : RiseFromStart (first ∷ rest) = subst RiseFromStart is rise in
    let changed : ChangesRise (first ∷ rest) = subst ChangesRise is changes in
    record {
      same = λ t from.
          ap (λ (l : List Instant). cells_from 0 (initial model) l t) is
          ∙ ap (λ b. cond b (cells_from first.time (with_states (passed (initial model) (first.time - 0)) first.changed) rest t) (passed (initial model) (t - 0))) (le-leb first.time t from);
      count = next_count (initial model) (first.time - 0) first.changed;
      rise = rises.1;
      changes = changed.1;
    }

pub cut_at : (instants : List Instant) (i : ℕ) (instant : Instant) → i < length instants → instant ≡ get_or instants i instant → drop i instants ≡ instant ∷ drop (i + 1) instants
cut_at instants i instant within is = rw (add-one, is) (drop-cons instants i instant within)

-- where there is no instant, nothing was reached
pub nothing_reached : (instants : List Instant) (reach : ℕ) → AreGoodInstants instants reach → length instants ≡ 0 → reach ≡ 0
nothing_reached [] zero good none = refl
nothing_reached [] (suc reach) good none = absurd (good.some (omega arith))
nothing_reached (instant ∷ rest) reach good none = absurd (omega arith)

-- the first instant is at 0
pub first_is_zero : (instants rest : List Instant) (first : Instant) → instants ≡ first ∷ rest → RiseFromStart instants → first.time ≡ 0
first_is_zero instants rest first is rise = (subst RiseFromStart is rise).0

-- the next instant is past the reach
pub past_reach : (reach : ℕ) (instant : Instant) (rest left : List Instant) → left ≡ instant ∷ rest → reach ≤ instant.time → (t : ℕ) → t < reach → IsBeforeFirst t left
past_reach reach instant rest left is past t below = subst (IsBeforeFirst t) (sym is) (omega arith)

-- there is no next instant
pub no_more_left : (instants : List Instant) (i : ℕ) → length instants ≤ i → (reach t : ℕ) → t < reach → IsBeforeFirst t (drop i instants)
no_more_left instants i past reach t below = subst (IsBeforeFirst t) (sym (drop_all i instants past)) tt

-- ---- the cells of a valid model begin in range

both : (a b : Bool) → IsTrue (a && b) → (a ≡ true) × (b ≡ true)
both a b h = (grind arith, grind arith)

begins_well : (enums : List EnumType) (cell : CellStart) → is_cell enums cell ≡ true → is_in_range (first_state cell) ≡ true
begins_well enums (start.Counter number) good = good
begins_well enums (start.Register kind value) good = refl
begins_well enums (start.Accumulator volume rate) good = good

start_in_range : (enums : List EnumType) (cells : List (List ℕ × CellStart)) (k : ℕ) → list_all (λ cell. is_cell enums cell.1) cells ≡ true →
    is_in_range (get_or (map (λ cell. first_state cell.1) cells) k (Counter (pos 0))) ≡ true
start_in_range enums [] k good = refl
start_in_range enums (cell ∷ rest) zero good = begins_well enums cell.1 (both (is_cell enums cell.1) (list_all (λ cell. is_cell enums cell.1) rest) good).0
start_in_range enums (cell ∷ rest) (suc k) good = start_in_range enums rest k (both (is_cell enums cell.1) (list_all (λ cell. is_cell enums cell.1) rest) good).1

pub begins_in_range : (model : Parts) (one : CellRead) → IsTrue (valid_model model) → is_in_range (state_on (initial model) one) ≡ true
unfolding has_good_cells
begins_in_range model one valid = start_in_range model.enums model.cells (cell_of one) (both _ _ (are_good model valid).cells).1

pub first_cut : (instants slice : List Instant) (first : Instant) → slice ≡ instants → 0 < length slice → first ≡ get_or slice 0 first → instants ≡ first ∷ drop 1 slice
first_cut instants slice first same some is = sym same ∙ cut_at slice 0 first some is

pub some_there : (count : ℕ) → nat_eq count 0 ≡ false → 0 < count
some_there count e = let apart : count ≡ 0 → ⊥ = eqb-false count 0 e in omega (arith, apart)

-- where the first instant, at 0, is not below the reach, nothing was reached
pub none_below : (instants rest : List Instant) (first : Instant) (reach : ℕ) → instants ≡ first ∷ rest → RiseFromStart instants → reach ≤ first.time → reach ≡ 0
none_below instants rest first reach is rise past = omega (arith, past, first_is_zero instants rest first is rise)

starts_in_range : (enums : List EnumType) (cells : List (List ℕ × CellStart)) (from : ℕ) → list_all (λ cell. is_cell enums cell.1) cells ≡ true →
    first_out_from from (map (λ cell. first_state cell.1) cells) ≡ None
starts_in_range enums [] from good = refl
starts_in_range enums (cell ∷ rest) from good =
    let parts = both (is_cell enums cell.1) (list_all (λ cell. is_cell enums cell.1) rest) good in
    ap (λ b. cond b (first_out_from (from + 1) (map (λ cell. first_state cell.1) rest)) (Some from)) (begins_well enums cell.1 parts.0)
    ∙ starts_in_range enums rest (from + 1) parts.1

pub initial_in_range : (model : Parts) → IsTrue (valid_model model) → AreInRange (initial model)
unfolding has_good_cells
initial_in_range model valid = starts_in_range model.enums model.cells 0 (both _ _ (are_good model valid).cells).1
