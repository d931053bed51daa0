-- The cells by their last changes.
use Rattle.std.proofs.Common.{◌≡◌, ◌⊎◌, inl, inr, ℕ, zero, suc, ◌+◌, ◌-◌, ◌<◌, ◌≤◌, nat_eq, nat_le, Bool, true, false, List, [], ◌∷◌, ◌++◌, length, map, Option, Some, None, option_map, slice_get, slice_set, refl, sym, ap, ◌∙◌, if◌then◌else◌, arith}
use Rattle.std.proofs.lemmas.Bool.{cases_lt}
use Rattle.std.proofs.lemmas.List.{length-map}
use Rattle.aerie_base.specs.declared.models.model.Parts.{Parts}
use Rattle.aerie_base.specs.declared.plans.Plan.{Plan}
use Rattle.effect_cells.specs.declared.effects.CellState.{CellState}
use Rattle.effect_cells.specs.Cells.{initial, passed, first_state}
use Rattle.effect_cells.specs.KeptWakes.{PassesInParts}
use Rattle.effect_cells.specs.States.{state_after, volume_of}
use Rattle.effect_cells.specs.SumLaws.{flowed_zero}
use Rattle.effect_cells.specs.declared.effects.CellState.TheVariants.{Counter, Register, Volume}
use Rattle.run_data.specs.declared.runs.Instant.{Instant}
use Rattle.run_data.specs.Fresh.{SimulationState, instant_at, IsReached}
use Rattle.run_data.specs.Transitions.{more}
use Rattle.run_data.specs.Values.{with_states, cells_from}
use Rattle.run_data.specs.laws.PathsUnder.{same_number}
use Rattle.run_data.specs.laws.Replay.{CellsAreReplayed}
use Rattle.run_data.specs.laws.Rising.{RiseAbove, RiseFromStart}
use Rattle.resimulate.specs.AlikeByFrames.{instants_with}
use Rattle.resimulate.proofs.RisingStates.{SettledInstantsRise}
use Rattle.resimulate.specs.LastChanges.{CellChange, changed_at_time, last_change, LastChangesTellCells}

get_map : {A B : Type 0} (f : A → B) (all : List A) (at : ℕ) → slice_get (map f all) at ≡ option_map f (slice_get all at)
get_map f [] at = refl
get_map f (first ∷ rest) zero = refl
get_map f (first ∷ rest) (suc at) = get_map f rest at

pub get_set : {A : Type 0} (all : List A) (at : ℕ) (new : A) → slice_get (slice_set all at new) at ≡ option_map (λ old. new) (slice_get all at)
get_set [] at new = refl
get_set (first ∷ rest) zero new = refl
get_set (first ∷ rest) (suc at) new = get_set rest at new

pub get_set_other : {A : Type 0} (all : List A) (at other : ℕ) (new : A) → (at ≡ other → ⊥) → slice_get (slice_set all at new) other ≡ slice_get all other
get_set_other [] at other new apart = refl
get_set_other (first ∷ rest) zero zero new apart = absurd (apart refl)
get_set_other (first ∷ rest) zero (suc other) new apart = refl
get_set_other (first ∷ rest) (suc at) zero new apart = refl
get_set_other (first ∷ rest) (suc at) (suc other) new apart = get_set_other rest at other new (λ e. apart (ap suc e))

same_by_index : {A : Type 0} (first second : List A) → ((k : ℕ) → slice_get first k ≡ slice_get second k) → first ≡ second
same_by_index [] [] same = refl
same_by_index [] (one ∷ rest) same = (let none : None ≡ Some one = same 0 in absurd (cc))
same_by_index (one ∷ rest) [] same = (let some : Some one ≡ None = same 0 in absurd (cc))
same_by_index (one ∷ rest) (other ∷ more_) same =
    let first : Some one ≡ Some other = same 0 in
    let here : one ≡ other = cc in
    let further = same_by_index rest more_ (λ k. same (suc k)) in
    λ i. here i ∷ further i

not_after : (a b : ℕ) → a ≤ b → nat_le a b ≡ true
not_after a b h = grind arith

pub other_number : (a b : ℕ) → nat_eq a b ≡ false → a ≡ b → ⊥
other_number a b e same = grind arith

at_once : (state : CellState) → state_after 0 state ≡ state
at_once (Counter number) = refl
at_once (Register value conflicted) = refl
at_once (Volume volume rate) = ap volume_of (flowed_zero (volume, rate))

passed_none : (cells : List CellState) → passed cells 0 ≡ cells
passed_none [] = refl
passed_none (state ∷ rest) = λ i. at_once state i ∷ passed_none rest i

module _ (parts : PassesInParts) where
  in_parts : (a b : ℕ) (state : CellState) → state_after b (state_after a state) ≡ state_after (a + b) state
  in_parts a b state = (let whole : state_after b (state_after a state) ∷ [] ≡ state_after (a + b) state ∷ [] = parts (state ∷ []) a b in cc)

  -- the state at a time of a cell that began so and whose last change is known
  abbrev state_by : ℕ → Option CellState → Option CellChange → Option CellState
  state_by time first None = option_map (state_after time) first
  state_by time first (Some change) = option_map (λ was. state_after (time - change.0) change.1) first

  -- a last change was not later
  abbrev IsBy : ℕ → Option CellChange → Type 0
  IsBy time None = Unit {0}
  IsBy time (Some change) = change.0 ≤ time

  by_later : (time later : ℕ) (last : Option CellChange) → time ≤ later → IsBy time last → IsBy later last
  by_later time later None less is = tt
  by_later time later (Some change) less is = omega (arith, less, is)

  moves_on : (time later : ℕ) (first : Option CellState) (last : Option CellChange) → time ≤ later → IsBy time last →
      option_map (state_after (later - time)) (state_by time first last) ≡ state_by later first last
  moves_on time later None None less is = refl
  moves_on time later None (Some change) less is = refl
  moves_on time later (Some state) None less is =
      ap Some (in_parts time (later - time) state ∙ ap (λ n. state_after n state) (let n : time + (later - time) ≡ later = omega (arith, less) in n))
  moves_on time later (Some state) (Some change) less is =
      ap Some (in_parts (time - change.0) (later - time) change.1 ∙ ap (λ n. state_after n change.1) (let n : (time - change.0) + (later - time) ≡ later - change.0 = omega (arith, less, is) in n))

  changed_now : (time : ℕ) (first : Option CellState) (last : Option CellChange) (state : CellState) → option_map (λ old. state) (state_by time first last) ≡ state_by time first (Some (time, state))
  changed_now time None None state = refl
  changed_now time None (Some change) state = refl
  changed_now time (Some was) None state = ap Some (sym (at_once state) ∙ ap (λ n. state_after n state) (let n : 0 ≡ time - time = omega arith in n))
  changed_now time (Some was) (Some change) state = ap Some (sym (at_once state) ∙ ap (λ n. state_after n state) (let n : 0 ≡ time - time = omega arith in n))

  module _ (cell : ℕ) (first : Option CellState) where
    -- a cell is as its last change tells
    abbrev Tells : ℕ → List CellState → Option CellChange → Type 0
    Tells time cells last = (slice_get cells cell ≡ state_by time first last) × IsBy time last

    with_changed : (time : ℕ) (changed : List (ℕ × CellState)) (cells : List CellState) (last : Option CellChange) → Tells time cells last → Tells time (with_states cells changed) (changed_at_time cell time changed last)
    with_changed time [] cells last tells = tells
    with_changed time (one ∷ rest) cells last tells = by (nat_eq one.0 cell) refl (with_changed time rest (slice_set cells one.0 one.1))
      where
        by : (b : Bool) → nat_eq one.0 cell ≡ b →
            ((before : Option CellChange) → Tells time (slice_set cells one.0 one.1) before → Tells time (with_states (slice_set cells one.0 one.1) rest) (changed_at_time cell time rest before)) →
            Tells time (with_states (slice_set cells one.0 one.1) rest) (changed_at_time cell time rest (if b then Some (time, one.1) else last))
        by true e further =
            let same = same_number one.0 cell e in
            further (Some (time, one.1)) (
              ap (λ k. slice_get (slice_set cells k one.1) cell) same ∙ get_set cells cell one.1 ∙ ap (option_map (λ old. one.1)) tells.0 ∙ changed_now time first last one.1,
              (let is : time ≤ time = omega arith in is),
            )
        by false e further = further last (get_set_other cells one.0 cell one.1 (other_number one.0 cell e) ∙ tells.0, tells.1)

    goes_on : (time later : ℕ) (cells : List CellState) (last : Option CellChange) → time ≤ later → Tells time cells last → Tells later (passed cells (later - time)) last
    goes_on time later cells last less tells = (
      get_map (state_after (later - time)) cells cell ∙ ap (option_map (state_after (later - time))) tells.0 ∙ moves_on time later first last less tells.1,
      by_later time later last less tells.1,
    )

    -- each of these instants is at a time between
    abbrev Between : ℕ → List Instant → ℕ → Type 0
    Between time [] later = time ≤ later
    Between time (instant ∷ rest) later = (time ≤ instant.time) × (instant.time ≤ later) × Between instant.time rest later

    told : (time later : ℕ) (instants : List Instant) (cells : List CellState) (last : Option CellChange) → Between time instants later → Tells time cells last →
        slice_get (cells_from time cells instants later) cell ≡ state_by later first (last_change cell instants last)
    told time later [] cells last between tells = (goes_on time later cells last between tells).0
    told time later (instant ∷ rest) cells last between tells =
        ap (λ (b : Bool). slice_get (if b then cells_from instant.time (with_states (passed cells (instant.time - time)) instant.changed) rest later else passed cells (later - time)) cell)
        (not_after instant.time later between.1)
        ∙ told instant.time later rest (with_states (passed cells (instant.time - time)) instant.changed) (changed_at_time cell instant.time instant.changed last) between.2
        (with_changed instant.time instant.changed (passed cells (instant.time - time)) last (goes_on time instant.time cells last between.0 tells))

    up_to : (time : ℕ) (instants : List Instant) (last : Instant) → RiseAbove time (instants ++ last ∷ []) → Between time (instants ++ last ∷ []) last.time
    up_to time [] last rise = (let above = rise.0 in (omega (arith, above), (let is : last.time ≤ last.time = omega arith in is), (let is : last.time ≤ last.time = omega arith in is)))
    up_to time (instant ∷ rest) last rise =
        let above = rise.0 in
        (omega (arith, above), up_to_last instant.time rest last rise.1, up_to instant.time rest last rise.1)
      where
        up_to_last : (time : ℕ) (instants : List Instant) (last : Instant) → RiseAbove time (instants ++ last ∷ []) → time ≤ last.time
        up_to_last time [] last rise = (let above = rise.0 in omega (arith, above))
        up_to_last time (instant ∷ rest) last rise = (let above = rise.0 in let further = up_to_last instant.time rest last rise.1 in omega (arith, above, further))

    from_start : (instants : List Instant) (last : Instant) → RiseFromStart (instants ++ last ∷ []) → Between 0 (instants ++ last ∷ []) last.time
    from_start [] last rise = (omega arith, (let is : last.time ≤ last.time = omega arith in is), (let is : last.time ≤ last.time = omega arith in is))
    from_start (instant ∷ rest) last rise = (omega arith, later instant.time rest last rise.1, up_to instant.time rest last rise.1)
      where
        later : (time : ℕ) (instants : List Instant) (last : Instant) → RiseAbove time (instants ++ last ∷ []) → time ≤ last.time
        later time [] last rise = (let above = rise.0 in omega (arith, above))
        later time (instant ∷ rest) last rise = (let above = rise.0 in let further = later instant.time rest last rise.1 in omega (arith, above, further))

  module _ (replayed : CellsAreReplayed) (model : Parts) (cell : ℕ) where
    -- a cell of a state by its last change
    cell_told : (plan : Plan) (bound : ℕ) (at : SimulationState) → IsReached model plan bound (more at) → RiseFromStart (instants_with at) →
        slice_get at.cells cell ≡ state_by at.time (slice_get (initial model) cell) (last_change cell (instants_with at) None)
    cell_told plan bound at reached rise =
        ap (λ cells. slice_get cells cell)
        (sym (passed_none at.cells) ∙ ap (passed at.cells) (let n : 0 ≡ at.time - at.time = omega arith in n)
        ∙ sym (replayed model plan bound at reached at.time (let is : at.time ≤ at.time = omega arith in is)))
        ∙ told cell (slice_get (initial model) cell) 0 at.time (instants_with at) (initial model) None (from_start cell (slice_get (initial model) cell) at.instants (instant_at at) rise)
        (begins (slice_get (initial model) cell), tt)
      where
        begins : (first : Option CellState) → first ≡ option_map (state_after 0) first
        begins None = refl
        begins (Some state) = ap Some (sym (at_once state))

  none_past : {A : Type 0} (all : List A) (at : ℕ) → length all ≤ at → slice_get all at ≡ None
  none_past [] at less = refl
  none_past (first ∷ rest) zero less = absurd (omega (arith, less))
  none_past (first ∷ rest) (suc at) less = none_past rest at (omega (arith, less))

  pub last_changes_tell : CellsAreReplayed → SettledInstantsRise → LastChangesTellCells
  last_changes_tell replayed rise model plan old_plan bound old_bound at other reached old_reached is_settled old_settled time same = same_by_index at.cells other.cells by
    where
      begin : ℕ → Option CellState
      begin cell = slice_get (initial model) cell

      here : (cell : ℕ) → slice_get at.cells cell ≡ state_by at.time (begin cell) (last_change cell (instants_with at) None)
      here cell = cell_told replayed model cell plan bound at reached (rise model plan bound at reached is_settled)

      there : (cell : ℕ) → slice_get other.cells cell ≡ state_by other.time (begin cell) (last_change cell (instants_with other) None)
      there cell = cell_told replayed model cell old_plan old_bound other old_reached (rise model old_plan old_bound other old_reached old_settled)

      nothing : (later : ℕ) (last : Option CellChange) (first : Option CellState) → first ≡ None → state_by later first last ≡ None
      nothing later None first e = ap (option_map (state_after later)) e
      nothing later (Some change) first e = ap (option_map (λ was. state_after (later - change.0) change.1)) e

      go : (cell : ℕ) → (cell < length model.cells) ⊎ (length model.cells ≤ cell) → slice_get at.cells cell ≡ slice_get other.cells cell
      go cell (inl less) = here cell ∙ (λ i. state_by (time i) (begin cell) (same cell less i)) ∙ sym (there cell)
      go cell (inr past) =
          let none : begin cell ≡ None = none_past (initial model) cell (let long = length-map model.cells (λ cell. first_state cell.1) in omega (arith, past, long)) in
          here cell ∙ nothing at.time (last_change cell (instants_with at) None) (begin cell) none
          ∙ sym (there cell ∙ nothing other.time (last_change cell (instants_with other) None) (begin cell) none)

      by : (cell : ℕ) → slice_get at.cells cell ≡ slice_get other.cells cell
      by cell = go cell (cases_lt cell (length model.cells))
