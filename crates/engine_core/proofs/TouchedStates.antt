-- A file of lemmas: what it proves need not be read to trust a clause.
--
-- The states of touched cells, whose numbers rise.
use Rattle.std.proofs.Common.{◌≡◌, ℕ, zero, suc, ◌+◌, ◌-◌, ◌<◌, ◌≤◌, Bool, true, false, ◌||◌, if◌then◌else◌, List, [], ◌∷◌, ◌++◌, length, drop, get_or, slice_index, Option, Some, None, nat_eq, slice_get, refl, sym, ap, ◌∙◌, subst, arith}
use Rattle.std.proofs.lemmas.Bool.Decides.{nat_tests}
use Rattle.std.proofs.lemmas.Bool.{eqb-true, eqb-false}
use Rattle.std.proofs.lemmas.List.{append-nil, append_assoc, drop_more}
use Rattle.std.proofs.lemmas.Cmp.{nat_eq_equiv}
use Rattle.std.proofs.lemmas.Map.Views.{list_any-from_Contains, Contains-from_any}
use Rattle.std.specs.List.{list_any, Contains}
use Rattle.std.specs.List.Sorted.{IsStrictlyIncreasing}
use Rattle.effect_cells.specs.declared.effects.CellState.{CellState}
use Rattle.run_data.specs.Fresh.{states_from}
use Rattle.engine_core.specs.TouchedStates.{with_state, states_at}

-- ---- numbers that rise

abbrev Rise : ℕ → List ℕ → Type 0
Rise from [] = Unit {0}
Rise from (number ∷ rest) = (from ≤ number) × Rise (number + 1) rest

rise_on : (number : ℕ) (rest : List ℕ) → IsStrictlyIncreasing (number ∷ rest) → Rise (number + 1) rest
rise_on number [] up = tt
rise_on number (next ∷ rest) up = (omega (arith, up 0 (omega arith)), rise_on next rest (λ k less. let e : suc k + 1 ≡ suc (k + 1) = omega arith in subst (λ j. slice_index (number ∷ next ∷ rest) (suc k) < slice_index (number ∷ next ∷ rest) j) e (up (suc k) (omega (arith, less)))))

rise_all : (numbers : List ℕ) → IsStrictlyIncreasing numbers → Rise 0 numbers
rise_all [] up = tt
rise_all (number ∷ rest) up = (omega arith, rise_on number rest up)

rise_less : (from lower : ℕ) (numbers : List ℕ) → lower ≤ from → Rise from numbers → Rise lower numbers
rise_less from lower [] less rise = tt
rise_less from lower (number ∷ rest) less rise = (omega (arith, less, rise.0), rise.1)

none_below : (from : ℕ) (numbers : List ℕ) → Rise (from + 1) numbers → list_any (nat_eq from) numbers ≡ false
none_below from [] rise = refl
none_below from (number ∷ rest) rise =
    let less = rise.0 in
    let here : nat_eq from number ≡ false = grind (arith, nat_tests, less) in
    ap (λ b. b || list_any (nat_eq from) rest) here ∙ none_below from rest (rise_less (number + 1) (from + 1) rest (omega (arith, less)) rise.1)

-- ---- by membership

pub same_states : (from : ℕ) (cells : List CellState) (numbers others : List ℕ) →
    ((number : ℕ) → from ≤ number → list_any (nat_eq number) numbers ≡ list_any (nat_eq number) others) → states_from from numbers cells ≡ states_from from others cells
same_states from [] numbers others same = refl
same_states from (state ∷ rest) numbers others same =
    let further = same_states (from + 1) rest numbers others (λ number less. same number (omega (arith, less))) in
    (λ i. if same from (omega arith) i then (from, state) ∷ further i else further i)

-- ---- one after another

abbrev states_by : ℕ → List CellState → List ℕ → List (ℕ × CellState)
states_by from cells [] = []
states_by from cells (number ∷ rest) = with_state number (slice_get cells (number - from)) (states_by from cells rest)

by_first : (cells : List CellState) (numbers : List ℕ) → states_at cells numbers ≡ states_by 0 cells numbers
by_first cells [] = refl
by_first cells (number ∷ rest) = (let same : number - 0 ≡ number = omega arith in λ i. with_state number (slice_get cells (sym same i)) (by_first cells rest i))

of_none : (from : ℕ) (numbers : List ℕ) → states_by from [] numbers ≡ []
of_none from [] = refl
of_none from (number ∷ rest) = of_none from rest

skip : (from : ℕ) (state : CellState) (cells : List CellState) (numbers : List ℕ) → Rise (from + 1) numbers → states_by from (state ∷ cells) numbers ≡ states_by (from + 1) cells numbers
skip from state cells [] rise = refl
skip from state cells (number ∷ rest) rise =
    let less = rise.0 in
    let one : number - from ≡ suc (number - (from + 1)) = omega (arith, less) in
    let further = skip from state cells rest (rise_less (number + 1) (from + 1) rest (omega (arith, less)) rise.1) in
    (λ i. with_state number (slice_get (state ∷ cells) (one i)) (further i))

in_turn : (from : ℕ) (cells : List CellState) (numbers : List ℕ) → Rise from numbers → states_by from cells numbers ≡ states_from from numbers cells
in_turn from [] numbers rise = of_none from numbers
in_turn from (state ∷ cells) [] rise = in_turn (from + 1) cells [] tt
in_turn from (state ∷ cells) (number ∷ rest) rise = by (λ (ns : List ℕ) (up : Rise (from + 1) ns). in_turn (from + 1) cells ns up) (nat_eq from number) refl
  where
    by : ((ns : List ℕ) → Rise (from + 1) ns → states_by (from + 1) cells ns ≡ states_from (from + 1) ns cells) → (b : Bool) → nat_eq from number ≡ b → states_by from (state ∷ cells) (number ∷ rest) ≡ states_from from (number ∷ rest) (state ∷ cells)
    by further true e =
        let same : from ≡ number = eqb-true from number e in
        let none : number - from ≡ 0 = omega (arith, same) in
        let later : Rise (from + 1) rest = subst (λ n. Rise (n + 1) rest) (sym same) rise.1 in
        (λ i. with_state number (slice_get (state ∷ cells) (none i)) (skip from state cells rest later i))
        ∙ (λ i. (sym same i, state) ∷ further rest later i)
        ∙ ap (λ l. (from, state) ∷ l)
        (same_states (from + 1) cells rest (number ∷ rest)
        (λ other less. let apart : nat_eq other number ≡ false = grind (arith, nat_tests, less, same) in sym (ap (λ b. b || list_any (nat_eq other) rest) apart)))
        ∙ (λ i. if sym (ap (λ b. b || list_any (nat_eq from) rest) e) i then (from, state) ∷ states_from (from + 1) (number ∷ rest) cells else states_from (from + 1) (number ∷ rest) cells)
    by further false e =
        let apart : from ≡ number → ⊥ = eqb-false from number e in
        let most = rise.0 in
        let above : from + 1 ≤ number = omega (arith, most, apart) in
        skip from state cells (number ∷ rest) (above, rise.1) ∙ further (number ∷ rest) (above, rise.1)
        ∙ (λ i. if sym (none_below from (number ∷ rest) (above, rise.1)) i then (from, state) ∷ states_from (from + 1) (number ∷ rest) cells else states_from (from + 1) (number ∷ rest) cells)

pub changed_are : (cells : List CellState) (numbers touched : List ℕ) → IsStrictlyIncreasing numbers →
    ((number : ℕ) → list_any (nat_eq number) numbers ≡ list_any (nat_eq number) touched) → states_at cells numbers ≡ states_from 0 touched cells
changed_are cells numbers touched up same =
    by_first cells numbers ∙ in_turn 0 cells numbers (rise_all numbers up) ∙ same_states 0 cells numbers touched (λ number less. same number)

-- ---- a state more

pub with_one : (number : ℕ) (found : Option CellState) (states rest : List (ℕ × CellState)) → (states ++ with_state number found []) ++ rest ≡ states ++ with_state number found rest
with_one number None states rest = ap (λ l. l ++ rest) (append-nil states)
with_one number (Some state) states rest = append_assoc states ((number, state) ∷ []) rest

past_end : (cells : List CellState) (number : ℕ) → length cells ≤ number → slice_get cells number ≡ None
past_end [] number past = refl
past_end (state ∷ rest) zero past = absurd (omega (arith, past))
past_end (state ∷ rest) (suc number) past = past_end rest number (omega (arith, past))

pub put_none : (cells : List CellState) (states : List (ℕ × CellState)) (number : ℕ) → length cells ≤ number → states ≡ states ++ with_state number (slice_get cells number) []
put_none cells states number past =
    sym (append-nil states) ∙ ap (λ (o : Option CellState). states ++ with_state number o []) (sym (past_end cells number past))

pub state_iteration : (cells : List CellState) (numbers : List ℕ) (index other : ℕ) (states more : List (ℕ × CellState)) → index < length numbers →
    more ≡ states ++ with_state (get_or numbers index other) (slice_get cells (get_or numbers index other)) [] →
    more ++ states_at cells (drop (index + 1) numbers) ≡ states ++ states_at cells (drop index numbers)
state_iteration cells numbers index other states more below put =
    ap (λ l. l ++ states_at cells (drop (index + 1) numbers)) put
    ∙ with_one (get_or numbers index other) (slice_get cells (get_or numbers index other)) states (states_at cells (drop (index + 1) numbers))
    ∙ ap (λ l. states ++ states_at cells l) (sym (drop_more numbers index other below))

-- ---- the same numbers

pub same_numbers : (numbers others : List ℕ) → ((n : ℕ) → Contains numbers n → Contains others n) → ((n : ℕ) → Contains others n → Contains numbers n) → (n : ℕ) →
    list_any (nat_eq n) numbers ≡ list_any (nat_eq n) others
same_numbers numbers others there back n = by (list_any (nat_eq n) numbers) (list_any (nat_eq n) others) refl refl
  where
    on : (some more : List ℕ) → (Contains some n → Contains more n) → list_any (nat_eq n) some ≡ true → list_any (nat_eq n) more ≡ true
    on some more goes e = list_any-from_Contains nat_eq_equiv n more (goes (Contains-from_any eqb-true n some e))

    by : (a b : Bool) → list_any (nat_eq n) numbers ≡ a → list_any (nat_eq n) others ≡ b → a ≡ b
    by true true e f = refl
    by true false e f = sym (on numbers others (there n) e) ∙ f
    by false true e f = sym e ∙ on others numbers (back n) f
    by false false e f = refl
