-- Cells with the states of those that were written.
use Rattle.std.proofs.Common.{◌≡◌, ◌≢◌, ℕ, zero, suc, ◌+◌, ◌<◌, true, false, List, [], ◌∷◌, Option, Some, None, refl, sym, ap, ◌∙◌, subst, arith, length, nat_eq, if◌then◌else◌, add-zero, zero-add}
use Rattle.std.specs.Prelude.{slice_get, slice_set, unwrap_or, IsSome, is_some}
use Rattle.effect_cells.specs.declared.effects.CellState.{CellState}
use Rattle.effect_cells.specs.declared.effects.Effect.{Effect}
use Rattle.effect_cells.specs.Cells.{emitted, emitted_on, IsSmallOn}
use Rattle.effect_cells.specs.States.{applied, IsSmallState}
use Rattle.task_step.specs.Overlays.{written_state, overlaid_from, overlaid, Puts}

pub overlaid_length : {A : Type 0} (cell : ℕ) (view : List A) (written : List (ℕ × A)) → length (overlaid_from cell view written) ≡ length view
overlaid_length cell [] written = refl
overlaid_length cell (state ∷ view) written = ap suc (overlaid_length (cell + 1) view written)

pub overlaid_none : {A : Type 0} (cell : ℕ) (view : List A) → overlaid_from cell view [] ≡ view
overlaid_none cell [] = refl
overlaid_none cell (state ∷ view) = ap (λ r. state ∷ r) (overlaid_none (cell + 1) view)

next : (cell at : ℕ) → cell + 1 + at ≡ cell + suc at
next cell at = omega arith

get_written : {A : Type 0} (cell at : ℕ) (view : List A) (written : List (ℕ × A)) (state : A) → at < length view → written_state (cell + at) written ≡ Some state →
    slice_get (overlaid_from cell view written) at ≡ Some state
get_written cell at [] written state lt h = absurd (omega arith)
get_written cell zero (first ∷ view) written state lt h = ap (λ o. Some (unwrap_or o first)) (ap (λ n. written_state n written) (sym (add-zero cell)) ∙ h)
get_written cell (suc at) (first ∷ view) written state lt h = get_written (cell + 1) at view written state (omega arith) (ap (λ n. written_state n written) (next cell at) ∙ h)

get_view : {A : Type 0} (cell at : ℕ) (view : List A) (written : List (ℕ × A)) → written_state (cell + at) written ≡ None →
    slice_get (overlaid_from cell view written) at ≡ slice_get view at
get_view cell at [] written h = refl
get_view cell zero (first ∷ view) written h = ap (λ o. Some (unwrap_or o first)) (ap (λ n. written_state n written) (sym (add-zero cell)) ∙ h)
get_view cell (suc at) (first ∷ view) written h = get_view (cell + 1) at view written (ap (λ n. written_state n written) (next cell at) ∙ h)

-- a cell that was written
pub seen_written : {A : Type 0} (view : List A) (written : List (ℕ × A)) (cell : ℕ) (state : A) → cell < length (overlaid view written) → written_state cell written ≡ Some state →
    slice_get (overlaid view written) cell ≡ Some state
seen_written view written cell state lt h =
    get_written 0 cell view written state (omega (arith, lt, overlaid_length 0 view written)) (ap (λ n. written_state n written) (zero-add cell) ∙ h)

-- a cell that was not written
pub seen_in_view : {A : Type 0} (view : List A) (written : List (ℕ × A)) (cell : ℕ) → written_state cell written ≡ None →
    slice_get (overlaid view written) cell ≡ slice_get view cell
seen_in_view view written cell h = get_view 0 cell view written (ap (λ n. written_state n written) (zero-add cell) ∙ h)

-- ---- a cell is written

test_self : (a : ℕ) → nat_eq a a ≡ true
test_self a = grind arith

test_other : (a b : ℕ) → a ≢ b → nat_eq a b ≡ false
test_other a b h = grind (arith, h)

same_from : {A : Type 0} (cell from : ℕ) (state : A) (view : List A) (before after : List (ℕ × A)) → Puts cell state before after → cell < from →
    overlaid_from from view after ≡ overlaid_from from view before
same_from cell from state [] before after puts lt = refl
same_from cell from state (first ∷ view) before after puts lt =
    let ne : nat_eq from cell ≡ false = test_other from cell (λ e. absurd (omega (arith, e))) in
    let here : written_state from after ≡ written_state from before = puts from ∙ ap (λ b. if b then Some state else written_state from before) ne in
    (λ i. unwrap_or (here i) first ∷ same_from cell (from + 1) state view before after puts (omega arith) i)

put_from : {A : Type 0} (cell at from : ℕ) (state : A) (view : List A) (before after : List (ℕ × A)) → Puts cell state before after → cell ≡ from + at →
    overlaid_from from view after ≡ slice_set (overlaid_from from view before) at state
put_from cell at from state [] before after puts e = refl
put_from cell zero from state (first ∷ view) before after puts e =
    let same : from ≡ cell = omega (arith, e) in
    let here : written_state from after ≡ Some state = puts from ∙ ap (λ b. if b then Some state else written_state from before) (ap (nat_eq from) (sym same) ∙ test_self from) in
    (λ i. unwrap_or (here i) first ∷ same_from cell (from + 1) state view before after puts (omega (arith, same)) i)
put_from cell (suc at) from state (first ∷ view) before after puts e =
    let ne : nat_eq from cell ≡ false = test_other from cell (λ k. absurd (omega (arith, k, e))) in
    let here : written_state from after ≡ written_state from before = puts from ∙ ap (λ b. if b then Some state else written_state from before) ne in
    (λ i. unwrap_or (here i) first ∷ put_from cell at (from + 1) state view before after puts (e ∙ sym (next from at)) i)

pub put_seen : {A : Type 0} (cell : ℕ) (state : A) (view : List A) (before after : List (ℕ × A)) → Puts cell state before after →
    overlaid view after ≡ slice_set (overlaid view before) cell state
put_seen cell state view before after puts = put_from cell cell 0 state view before after puts (sym (zero-add cell))

set_there : {A : Type 0} (xs : List A) (at : ℕ) (x : A) → slice_get xs at ≡ Some x → slice_set xs at x ≡ xs
set_there [] at x e = refl
set_there (y ∷ xs) zero x e = (let k : y ≡ x = cc in ap (λ z. z ∷ xs) (sym k))
set_there (y ∷ xs) (suc at) x e = ap (λ r. y ∷ r) (set_there xs at x e)

pub not_there : {A : Type 0} (found : Option A) → is_some found ≡ false → found ≡ None
not_there None e = refl
not_there (Some x) e = absurd (cc)

-- a cell that is written as it is
pub split_seen : {A : Type 0} (cell : ℕ) (state : A) (view : List A) (before after : List (ℕ × A)) → Puts cell state before after → written_state cell before ≡ None →
    slice_get view cell ≡ Some state → overlaid view after ≡ overlaid view before
split_seen cell state view before after puts new there =
    put_seen cell state view before after puts ∙ set_there (overlaid view before) cell state (seen_in_view view before cell new ∙ there)

pub is_written : {A : Type 0} (cell : ℕ) (state : A) (before after : List (ℕ × A)) → Puts cell state before after → IsSome (written_state cell after)
is_written cell state before after puts = ap is_some (puts cell ∙ ap (λ b. if b then Some state else written_state cell before) (test_self cell))

-- ---- an effect

pub effect_seen : (cell : ℕ) (effect : Effect) (state new : CellState) (view : List CellState) (before after : List (ℕ × CellState)) → Puts cell new before after →
    slice_get (overlaid view before) cell ≡ Some state → new ≡ applied state effect → overlaid view after ≡ emitted (overlaid view before) cell effect
effect_seen cell effect state new view before after puts there e =
    put_seen cell new view before after puts
    ∙ ap (slice_set (overlaid view before) cell) e
    ∙ sym (ap (emitted_on (overlaid view before) cell effect) there)

pub small_after : (cell : ℕ) (effect : Effect) (state : CellState) (cells : List CellState) → slice_get cells cell ≡ Some state → IsSmallOn (slice_get cells cell) effect → IsSmallState (applied state effect)
small_after cell effect state cells there h = subst (λ o. IsSmallOn o effect) there h
