-- A walk over the instants of a run for a discrete resource.
use Rattle.std.proofs.Common.{◌≡◌, ℕ, suc, ◌-◌, ◌<◌, ◌≤◌, true, cond, IsTrue, List, [], ◌∷◌, ◌++◌, length, map, Some, unwrap_or, refl, sym, ap, subst, ◌∙◌, arith}
use Rattle.std.proofs.lemmas.Bool.{false≢true}
use Rattle.std.proofs.lemmas.List.{length-map}
use Rattle.aerie_base.specs.declared.models.model.Parts.{Parts}
use Rattle.aerie_base.specs.declared.models.Resource.TheVariants as resource
use Rattle.aerie_base.specs.declared.operands.CellRead.{CellRead}
use Rattle.aerie_base.specs.declared.operands.CellRead.TheVariants as read
use Rattle.aerie_base.specs.declared.values.Value.{Value}
use Rattle.aerie_base.specs.expressions.Arithmetic.{same_value}
use Rattle.aerie_base.specs.expressions.Readings.{cell_of}
use Rattle.aerie_base.specs.models.Resources.{is_shown}
use Rattle.effect_cells.specs.declared.effects.CellState.{CellState}
use Rattle.effect_cells.specs.declared.effects.CellState.TheVariants.{Counter, Register, Volume}
use Rattle.effect_cells.specs.Cells.{initial, passed}
use Rattle.effect_cells.specs.Reads.{state_value}
use Rattle.effect_cells.specs.States.{is_in_range, state_after}
use Rattle.run_data.specs.declared.runs.Instant.{Instant}
use Rattle.run_data.specs.declared.runs.Run.{Run}
use Rattle.run_data.specs.Values.{with_states, cells_at, resource_value}
use Rattle.run_data.specs.laws.Rising.{RiseFromStart}
use Rattle.profiles.specs.declared.discrete.Showing.{Showing}
use Rattle.profiles.specs.Segments.{begins_value, value_segments}
use Rattle.profiles.specs.Showings.{showing_of, first_showing, next_showing}
use Rattle.profiles.specs.States.{state_on, changed_state}
use Rattle.profiles.specs.Touches.{IsUntouched}
use Rattle.profiles.specs.Followed.{ChangesRise, InRangeBelow}
use Rattle.profiles.proofs.Following.{state_next, state_later, IsBeforeFirst}
use Rattle.profiles.proofs.Segmenting.{none_more, one_more, Stays, none_begins, begins_by}
use Rattle.profiles.proofs.Touching.{AreInside, SettledOn, settled_on, settled_still, settled_then, still_here, until_then}
use Rattle.profiles.proofs.Walks.{seen_is, in_range_there, settled_first}

-- what a discrete resource may show stays while time passes
stays : (one : CellRead) (dt : ℕ) (state : CellState) → IsTrue (is_shown one) → state_value one (Some (state_after dt state)) ≡ state_value one (Some state)
stays (read.Counter cell) dt (Counter number) shown = refl
stays (read.Counter cell) dt (Register value flag) shown = refl
stays (read.Counter cell) dt (Volume volume rate) shown = refl
stays (read.Register cell) dt (Counter number) shown = refl
stays (read.Register cell) dt (Register value flag) shown = refl
stays (read.Register cell) dt (Volume volume rate) shown = refl
stays (read.Conflicted cell) dt (Counter number) shown = refl
stays (read.Conflicted cell) dt (Register value flag) shown = refl
stays (read.Conflicted cell) dt (Volume volume rate) shown = refl
stays (read.Volume cell) dt state shown = absurd (false≢true shown)
stays (read.Rate cell) dt (Counter number) shown = refl
stays (read.Rate cell) dt (Register value flag) shown = refl
stays (read.Rate cell) dt (Volume volume rate) shown = refl

-- as many cells as the model has
pub map_count : (model : Parts) → length (initial model) ≡ length model.cells
map_count model = length-map model.cells _

module _ (model : Parts) (run : Run) (one : CellRead) where
  abbrev pub shows : ℕ → Value
  shows = resource_value model run (resource.Discrete one)

  -- the cell that is shown
  abbrev pub IsShownCell : ℕ → Type 0
  IsShownCell k = k ≡ cell_of one

  pub cell_inside : cell_of one < length model.cells → AreInside IsShownCell model
  cell_inside there k is = omega (arith, is, there, map_count model)

  -- what the walk knows at a settled time
  pub record ValueWalk (rest : List Instant) (showing : Showing) (segments : List (ℕ × Value)) : Type 0 where
    pub cells : List CellState
    pub at : SettledOn IsShownCell model run.instants rest showing.time cells
    pub is : showing ≡ showing_of showing.time one (state_on cells one)
    pub before : showing.time < run.reach
    pub made : segments ≡ value_segments shows (suc showing.time)

  -- the same walk
  pub same_walk : (rest : List Instant) (showing other : Showing) (segments others : List (ℕ × Value)) → showing ≡ other → segments ≡ others → ValueWalk rest other others → ValueWalk rest showing segments
  same_walk rest showing other segments others e f walk = subst (λ s. ValueWalk rest s segments) (sym e) (subst (λ l. ValueWalk rest other l) (sym f) walk)

  state_is : (rest : List Instant) (showing : Showing) (segments : List (ℕ × Value)) (walk : ValueWalk rest showing segments) → showing.state ≡ state_on walk.cells one
  state_is rest showing segments walk = ap (λ (s : Showing). s.state) walk.is

  module _ (there : cell_of one < length model.cells) where
    -- the state at a settled time
    here : (rest : List Instant) (time : ℕ) (cells : List CellState) → SettledOn IsShownCell model run.instants rest time cells → state_on (cells_at model run time) one ≡ state_on cells one
    here rest time cells at = still_here IsShownCell model (cell_inside there) run.instants rest time cells at (cell_of one) refl

    in_range_at : (rest : List Instant) (time : ℕ) (cells : List CellState) → InRangeBelow model run → time < run.reach → SettledOn IsShownCell model run.instants rest time cells →
        is_in_range (state_on cells one) ≡ true
    in_range_at rest time cells good below at =
        subst (λ (s : CellState). is_in_range s ≡ true) (here rest time cells at) (in_range_there (cells_at model run time) (cell_of one) (good time below))

    -- the cell is in range
    pub walk_in_range : (rest : List Instant) (showing : Showing) (segments : List (ℕ × Value)) → InRangeBelow model run → ValueWalk rest showing segments → is_in_range showing.state ≡ true
    walk_in_range rest showing segments good walk =
        rw (state_is rest showing segments walk) (in_range_at rest showing.time walk.cells good walk.before walk.at)

    -- the value stays until the next instant
    value_stays : (rest : List Instant) (showing : Showing) (segments : List (ℕ × Value)) → IsTrue (is_shown one) → ValueWalk rest showing segments → (t : ℕ) → showing.time ≤ t → IsBeforeFirst t rest →
        shows t ≡ showing.value
    value_stays rest showing segments shown walk t from before =
        seen_is one (cells_at model run t)
        ∙ (ap (λ (s : CellState). state_value one (Some s))
        (until_then IsShownCell model (cell_inside there) run.instants rest showing.time walk.cells walk.at (cell_of one) t refl from before
        ∙ state_later walk.cells (t - showing.time) (cell_of one))
        ∙ (stays one (t - showing.time) (state_on walk.cells one) shown
        ∙ sym (ap (λ (s : Showing). s.value) walk.is)))

    here_is : (rest : List Instant) (time : ℕ) (cells : List CellState) → SettledOn IsShownCell model run.instants rest time cells → shows time ≡ state_value one (Some (state_on cells one))
    here_is rest time cells at = seen_is one (cells_at model run time) ∙ ap (λ (s : CellState). state_value one (Some s)) (here rest time cells at)

    -- an instant that does not touch the cell
    pub walk_still : (instant : Instant) (rest : List Instant) (showing : Showing) (segments : List (ℕ × Value)) → IsUntouched IsShownCell instant → ValueWalk (instant ∷ rest) showing segments →
        ValueWalk rest showing segments
    walk_still instant rest showing segments untouched walk = record {
      cells = walk.cells;
      at = settled_still IsShownCell model (cell_inside there) run.instants rest instant showing.time walk.cells walk.at untouched;
      is = walk.is;
      before = walk.before;
      made = walk.made;
    }

  -- ---- the next instant

  module _ (instant : Instant) (rest : List Instant) (showing : Showing) (segments : List (ℕ × Value)) (there : cell_of one < length model.cells)
      (walk : ValueWalk (instant ∷ rest) showing segments) where
    new_cells : List CellState
    new_cells = with_states (passed walk.cells (instant.time - showing.time)) instant.changed

    new_at : SettledOn IsShownCell model run.instants rest instant.time (with_states (passed walk.cells (instant.time - showing.time)) instant.changed)
    new_at = settled_then IsShownCell model (cell_inside there) run.instants rest instant showing.time walk.cells walk.at

    inside : cell_of one < length walk.cells
    inside = omega (arith, walk.at.count, there, map_count model)

    new_state : unwrap_or (changed_state instant.changed (cell_of one)) (state_after (instant.time - showing.time) showing.state) ≡
        state_on (with_states (passed walk.cells (instant.time - showing.time)) instant.changed) one
    new_state =
        ap (λ (s : CellState). unwrap_or (changed_state instant.changed (cell_of one)) (state_after (instant.time - showing.time) s)) (state_is (instant ∷ rest) showing segments walk)
        ∙ sym (state_next walk.cells (instant.time - showing.time) instant.changed (cell_of one) inside)

    new_sight : next_showing showing one instant ≡ showing_of instant.time one (state_on (with_states (passed walk.cells (instant.time - showing.time)) instant.changed) one)
    new_sight = ap (λ (s : CellState). showing_of instant.time one s) new_state

    pub next_in_range : InRangeBelow model run → instant.time < run.reach → is_in_range (next_showing showing one instant).state ≡ true
    next_in_range good below =
        subst (λ (s : CellState). is_in_range s ≡ true) (sym new_state)
        (in_range_at there rest instant.time _ good below new_at)

    pub walk_next : IsTrue (is_shown one) → instant.time < run.reach →
        ValueWalk rest (next_showing showing one instant)
        (segments ++ cond (same_value showing.value (next_showing showing one instant).value) [] ((instant.time, (next_showing showing one instant).value) ∷ []))
    walk_next shown below =
        let value : (next_showing showing one instant).value ≡ shows instant.time = ap (λ (s : Showing). s.value) new_sight ∙ sym (here_is there rest instant.time _ new_at) in
        let steady : Stays shows showing.value showing.time instant.time = λ t from before. value_stays there (instant ∷ rest) showing segments shown walk t from before in
        record {
          cells = with_states (passed walk.cells (instant.time - showing.time)) instant.changed;
          at = new_at;
          is = new_sight;
          before = below;
          made =
              ap (λ v. segments ++ cond (same_value showing.value v) [] ((instant.time, v) ∷ [])) value
              ∙ one_more (λ t. (t, shows t)) (begins_value shows) (suc showing.time) instant.time (same_value showing.value (shows instant.time)) segments walk.made
              (omega (arith, walk.at.rise.0)) (none_begins shows showing.value showing.time instant.time steady)
              (begins_by shows showing.value showing.time instant.time walk.at.rise.0 steady);
        }

  -- ---- the end

  pub walk_ends : (rest : List Instant) (showing : Showing) (segments : List (ℕ × Value)) → cell_of one < length model.cells → IsTrue (is_shown one) → ((t : ℕ) → t < run.reach → IsBeforeFirst t rest) → ValueWalk rest showing segments →
      segments ≡ value_segments shows run.reach
  walk_ends rest showing segments there shown past walk =
      walk.made
      ∙ ap (map (λ t. (t, shows t)))
      (sym (none_more (begins_value shows) (suc showing.time) run.reach (omega (arith, walk.before))
      (none_begins shows showing.value showing.time run.reach (λ t from below. value_stays there rest showing segments shown walk t from (past t below)))))

  -- ---- the start

  module _ (first : Instant) (rest : List Instant) (is : run.instants ≡ first ∷ rest) (rise : RiseFromStart run.instants) (changes : ChangesRise run.instants)
      (there : cell_of one < length model.cells) (below : first.time < run.reach) where
    first_at : SettledOn IsShownCell model run.instants rest first.time (with_states (passed (initial model) (first.time - 0)) first.changed)
    first_at = settled_on IsShownCell model (cell_inside there) run.instants rest first.time _ (settled_first model run.instants rest first is rise changes)

    first_state : unwrap_or (changed_state first.changed (cell_of one)) (state_after (first.time - 0) (state_on (initial model) one)) ≡
        state_on (with_states (passed (initial model) (first.time - 0)) first.changed) one
    first_state = sym (state_next (initial model) (first.time - 0) first.changed (cell_of one) (omega (arith, there, map_count model)))

    pub first_in_range : InRangeBelow model run → is_in_range (next_showing (first_showing model one) one first).state ≡ true
    first_in_range good =
        subst (λ (s : CellState). is_in_range s ≡ true) (sym first_state)
        (in_range_at there rest first.time _ good below first_at)

    pub walk_starts : ValueWalk rest (next_showing (first_showing model one) one first) ((first.time, (next_showing (first_showing model one) one first).value) ∷ [])
    walk_starts =
        let showing = ap (λ (s : CellState). showing_of first.time one s) first_state in
        let value : (next_showing (first_showing model one) one first).value ≡ shows first.time = ap (λ (s : Showing). s.value) showing ∙ sym (here_is there rest first.time _ first_at) in
        let at_zero : first.time ≡ 0 = (subst RiseFromStart is rise).0 in
        record {
          cells = with_states (passed (initial model) (first.time - 0)) first.changed;
          at = first_at;
          is = showing;
          before = below;
          made = ap (λ v. (first.time, v) ∷ []) value ∙ subst (λ t. ((t, shows t) ∷ []) ≡ value_segments shows (suc t)) (sym at_zero) refl;
        }
