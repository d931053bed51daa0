-- One effect after another gives what their worth gives.
use Rattle.std.proofs.Common.{◌≡◌, ℕ, ℤ, zero, suc, ◌+◌, ◌+ℤ◌, ◌≤◌, List, [], ◌∷◌, Option, Some, None, Bool, true, false, ◌&&◌, refl, sym, ap, ◌∙◌, subst, arith, if◌then◌else◌, nat_eq, slice_get}
use Rattle.std.proofs.lemmas.Int.{ints}
use Rattle.std.proofs.lemmas.Bool.{eq-eqb}
use Rattle.aerie_base.specs.declared.values.Value.{Value}
use Rattle.effect_cells.specs.ChangeLaws.{changed_in_turn}
use Rattle.effect_cells.specs.Changes.{changed}
use Rattle.effect_cells.specs.SumLaws.{sums_in_turn}
use Rattle.effect_cells.specs.Sums.{both_sums}
use Rattle.effect_cells.specs.Cells.{emitted, accepts, accepted_by, fits_cells, with_effects}
use Rattle.effect_cells.specs.States.{applied, applied_if_any, is_of_kind, register_of, volume_of}
use Rattle.effect_cells.specs.Worth.{effect_in_turn, in_front, worth_of}
use Rattle.effect_cells.specs.declared.effects.CellState.{CellState}
use Rattle.effect_cells.specs.declared.effects.CellState.TheVariants as state
use Rattle.effect_cells.specs.declared.effects.Effect.{Effect}
use Rattle.effect_cells.specs.declared.effects.Effect.TheVariants.{Add, Register, Flow}
use Rattle.run_data.specs.declared.frames.Item.{Item}
use Rattle.run_data.specs.declared.frames.Item.TheVariants as item
use Rattle.run_data.specs.laws.InTurn.{own_effects, EffectsInTurn}
use Rattle.run_data.proofs.Reading.{emitted_more}

-- ---- one cell

-- to apply one effect and then another is to apply both in turn
applied_in_turn : (s : CellState) (first then_ : Effect) → is_of_kind s first ≡ true → is_of_kind s then_ ≡ true →
    applied s (effect_in_turn first then_) ≡ applied (applied s first) then_
applied_in_turn (state.Counter n) (Add x) (Add y) h k = let m : n +ℤ (x +ℤ y) ≡ (n +ℤ x) +ℤ y = omega (arith, ints) in ap state.Counter m
applied_in_turn (state.Counter n) (Add x) (Register f) h k = absurd (cc)
applied_in_turn (state.Counter n) (Add x) (Flow a b) h k = absurd (cc)
applied_in_turn (state.Counter n) (Register e) f h k = absurd (cc)
applied_in_turn (state.Counter n) (Flow a b) f h k = absurd (cc)
applied_in_turn (state.Register v c) (Register e) (Register f) h k = ap register_of (changed_in_turn (v, c) e f)
applied_in_turn (state.Register v c) (Register e) (Add x) h k = absurd (cc)
applied_in_turn (state.Register v c) (Register e) (Flow a b) h k = absurd (cc)
applied_in_turn (state.Register v c) (Add x) f h k = absurd (cc)
applied_in_turn (state.Register v c) (Flow a b) f h k = absurd (cc)
applied_in_turn (state.Volume v r) (Flow a b) (Flow p q) h k = ap volume_of (sums_in_turn (v, r) (a, b) (p, q))
applied_in_turn (state.Volume v r) (Flow a b) (Add x) h k = absurd (cc)
applied_in_turn (state.Volume v r) (Flow a b) (Register f) h k = absurd (cc)
applied_in_turn (state.Volume v r) (Add x) f h k = absurd (cc)
applied_in_turn (state.Volume v r) (Register e) f h k = absurd (cc)

-- an effect leaves the kind
same_kind : (s : CellState) (e f : Effect) → is_of_kind (applied s e) f ≡ is_of_kind s f
same_kind (state.Counter n) (Add x) f = of_counter n (n +ℤ x) f
  where
    of_counter : (a b : ℤ) (f : Effect) → is_of_kind (state.Counter b) f ≡ is_of_kind (state.Counter a) f
    of_counter a b (Add x) = refl
    of_counter a b (Register e) = refl
    of_counter a b (Flow x y) = refl
same_kind (state.Counter n) (Register e) f = refl
same_kind (state.Counter n) (Flow a b) f = refl
same_kind (state.Register v c) (Add x) f = refl
same_kind (state.Register v c) (Register e) f = of_register v c (changed (v, c) e) f
  where
    of_register : (v : Value) (c : Bool) (p : Value × Bool) (f : Effect) → is_of_kind (register_of p) f ≡ is_of_kind (state.Register v c) f
    of_register v c p (Add x) = refl
    of_register v c p (Register e) = refl
    of_register v c p (Flow x y) = refl
same_kind (state.Register v c) (Flow a b) f = refl
same_kind (state.Volume v r) (Add x) f = refl
same_kind (state.Volume v r) (Register e) f = refl
same_kind (state.Volume v r) (Flow a b) f = of_volume v r (both_sums (v, r) (a, b)) f
  where
    of_volume : (v r : ℤ) (p : ℤ × ℤ) (f : Effect) → is_of_kind (volume_of p) f ≡ is_of_kind (state.Volume v r) f
    of_volume v r p (Add x) = refl
    of_volume v r p (Register e) = refl
    of_volume v r p (Flow x y) = refl

in_turn_kind : (s : CellState) (e f : Effect) → is_of_kind s e ≡ true → is_of_kind s (effect_in_turn e f) ≡ true
in_turn_kind (state.Counter n) (Add x) (Add y) h = refl
in_turn_kind (state.Counter n) (Add x) (Register f) h = refl
in_turn_kind (state.Counter n) (Add x) (Flow a b) h = refl
in_turn_kind (state.Counter n) (Register e) f h = absurd (cc)
in_turn_kind (state.Counter n) (Flow a b) f h = absurd (cc)
in_turn_kind (state.Register v c) (Register e) (Register f) h = refl
in_turn_kind (state.Register v c) (Register e) (Add x) h = refl
in_turn_kind (state.Register v c) (Register e) (Flow a b) h = refl
in_turn_kind (state.Register v c) (Add x) f h = absurd (cc)
in_turn_kind (state.Register v c) (Flow a b) f h = absurd (cc)
in_turn_kind (state.Volume v r) (Flow a b) (Flow p q) h = refl
in_turn_kind (state.Volume v r) (Flow a b) (Add x) h = refl
in_turn_kind (state.Volume v r) (Flow a b) (Register f) h = refl
in_turn_kind (state.Volume v r) (Add x) f h = absurd (cc)
in_turn_kind (state.Volume v r) (Register e) f h = absurd (cc)

-- the worth on a cell is of its kind, where there is one
abbrev pub FitsAny : Option CellState → Option Effect → Type 0
FitsAny None worth = Unit {0}
FitsAny (Some s) None = Unit {0}
FitsAny (Some s) (Some effect) = is_of_kind s effect ≡ true

pub front_fits : (found : Option CellState) (effect : Effect) (rest : Option Effect) → accepted_by found effect ≡ true → FitsAny found (in_front effect rest)
front_fits None effect rest h = tt
front_fits (Some s) effect None h = h
front_fits (Some s) effect (Some other) h = in_turn_kind s effect other h

applied_front : (s : CellState) (effect : Effect) (rest : Option Effect) → is_of_kind s effect ≡ true → FitsAny (Some s) rest →
    applied_if_any (applied s effect) rest ≡ applied_if_any s (in_front effect rest)
applied_front s effect None h k = refl
applied_front s effect (Some other) h k = sym (applied_in_turn s effect other h k)

-- ---- all cells

effects_same : (from : ℕ) (on other : ℕ → Option Effect) (view : List CellState) → ((cell : ℕ) → from ≤ cell → other cell ≡ on cell) → with_effects from other view ≡ with_effects from on view
effects_same from on other [] same = refl
effects_same from on other (s ∷ rest) same =
    λ i. applied_if_any s (same from (omega arith) i) ∷ effects_same (from + 1) on other rest (λ cell less. same cell (omega arith)) i

no_effects : (from : ℕ) (view : List CellState) → with_effects from (λ cell. None) view ≡ view
no_effects from [] = refl
no_effects from (s ∷ rest) = ap (λ l. s ∷ l) (no_effects (from + 1) rest)

not_same : (a b : ℕ) → (a ≡ b → ⊥) → nat_eq a b ≡ false
not_same a b other = by (nat_eq a b) refl
  where
    by : (same : Bool) → nat_eq a b ≡ same → same ≡ false
    by true e = let is : a ≡ b = grind arith in absurd (other is)
    by false e = refl

-- an effect before those on all cells
abbrev led_by : ℕ → Effect → (ℕ → Option Effect) → ℕ → Option Effect
led_by at effect on cell = if nat_eq at cell then in_front effect (on cell) else on cell

led_here : (at cell : ℕ) (effect : Effect) (on : ℕ → Option Effect) → at ≡ cell → led_by at effect on cell ≡ in_front effect (on cell)
led_here at cell effect on e = ap (λ same. if same then in_front effect (on cell) else on cell) (eq-eqb at cell e)

led_elsewhere : (at cell : ℕ) (effect : Effect) (on : ℕ → Option Effect) → (at ≡ cell → ⊥) → led_by at effect on cell ≡ on cell
led_elsewhere at cell effect on other = ap (λ same. if same then in_front effect (on cell) else on cell) (not_same at cell other)

emits : (from at cell : ℕ) (effect : Effect) (on : ℕ → Option Effect) (view : List CellState) → at ≡ from + cell → accepts view cell effect ≡ true → FitsAny (slice_get view cell) (on at) →
    with_effects from on (emitted view cell effect) ≡ with_effects from (led_by at effect on) view
emits from at cell effect on [] e h k = absurd (cc)
emits from at zero effect on (s ∷ rest) e h k =
    let here : at ≡ from = omega arith in
    let first : applied_if_any (applied s effect) (on from) ≡ applied_if_any s (led_by at effect on from) =
    applied_front s effect (on from) h (subst (λ c. FitsAny (Some s) (on c)) here k) ∙ ap (applied_if_any s) (sym (led_here at from effect on here)) in
    let others = effects_same (from + 1) (led_by at effect on) on rest (λ c less. sym (led_elsewhere at c effect on (λ same. omega arith))) in
    λ i. first i ∷ others i
emits from at (suc cell) effect on (s ∷ rest) e h k =
    let later : at ≡ from + 1 + cell = omega arith in
    let first : applied_if_any s (on from) ≡ applied_if_any s (led_by at effect on from) =
    ap (applied_if_any s) (sym (led_elsewhere at from effect on (λ same. omega arith))) in
    ap (with_effects from on) (emitted_more s rest cell effect)
    ∙ (λ i. first i ∷ emits (from + 1) at cell effect on rest later h k i)

-- ---- kinds stay

emitted_accepts : (view : List CellState) (cell on : ℕ) (effect other : Effect) → accepted_by (slice_get (emitted view cell effect) on) other ≡ accepted_by (slice_get view on) other
emitted_accepts [] cell on effect other = refl
emitted_accepts (s ∷ rest) zero zero effect other = same_kind s effect other
emitted_accepts (s ∷ rest) zero (suc on) effect other = refl
emitted_accepts (s ∷ rest) (suc cell) zero effect other = ap (λ l. accepted_by (slice_get l 0) other) (emitted_more s rest cell effect)
emitted_accepts (s ∷ rest) (suc cell) (suc on) effect other =
    ap (λ l. accepted_by (slice_get l (suc on)) other) (emitted_more s rest cell effect) ∙ emitted_accepts rest cell on effect other

still_fit : (view : List CellState) (cell : ℕ) (effect : Effect) (items : List Item) → fits_cells (emitted view cell effect) (own_effects items) ≡ fits_cells view (own_effects items)
still_fit view cell effect [] = refl
still_fit view cell effect (item.Emit on other ∷ rest) = λ i. emitted_accepts view cell on effect other i && still_fit view cell effect rest i
still_fit view cell effect (item.Child kind arguments ∷ rest) = still_fit view cell effect rest

pub both : (first second : Bool) → (first && second) ≡ true → (first ≡ true) × (second ≡ true)
both true true h = (refl, refl)
both true false h = absurd (cc)
both false second h = absurd (cc)

worth_fits : (view : List CellState) (items : List Item) (cell : ℕ) → fits_cells view (own_effects items) ≡ true → FitsAny (slice_get view cell) (worth_of (own_effects items) cell)
worth_fits view [] cell h = none (slice_get view cell)
  where
    none : (found : Option CellState) → FitsAny found None
    none None = tt
    none (Some s) = tt
worth_fits view (item.Child kind arguments ∷ rest) cell h = worth_fits view rest cell h
worth_fits view (item.Emit on effect ∷ rest) cell h =
    let fit = both (accepts view on effect) (fits_cells view (own_effects rest)) h in
    by (nat_eq on cell) refl fit.0 (worth_fits view rest cell fit.1)
  where
    by : (here : Bool) → nat_eq on cell ≡ here → accepts view on effect ≡ true → FitsAny (slice_get view cell) (worth_of (own_effects rest) cell) →
        FitsAny (slice_get view cell) (if here then in_front effect (worth_of (own_effects rest) cell) else worth_of (own_effects rest) cell)
    by true e a k = let is : on ≡ cell = grind arith in
        front_fits (slice_get view cell) effect (worth_of (own_effects rest) cell) (subst (λ c. accepted_by (slice_get view c) effect ≡ true) is a)
    by false e a k = k

-- ---- the law

pub effects_in_turn : EffectsInTurn
effects_in_turn view [] h = sym (no_effects 0 view)
effects_in_turn view (item.Child kind arguments ∷ rest) h = effects_in_turn view rest h
effects_in_turn view (item.Emit cell effect ∷ rest) h =
    let fit = both (accepts view cell effect) (fits_cells view (own_effects rest)) h in
    let start : cell ≡ 0 + cell = omega arith in
    effects_in_turn (emitted view cell effect) rest (still_fit view cell effect rest ∙ fit.1)
    ∙ emits 0 cell cell effect (worth_of (own_effects rest)) view start fit.0 (worth_fits view rest cell fit.1)
