-- What is pending on cells, in loops over them.
use Rattle.std.proofs.Common.{◌≡◌, ℕ, zero, suc, ◌<◌, ◌+◌, List, [], ◌∷◌, ◌++◌, take, drop, length, set, get_or, true, None, Option, refl, ap, sym, arith, ◌∙◌}
use Rattle.effect_cells.specs.Worth.{worth_of}
use Rattle.effect_cells.specs.Folded.{folded_worth, worth_is}
use Rattle.effect_cells.specs.States.{is_in_range, applied_if_any}
use Rattle.effect_cells.specs.Cells.{first_out_from, with_effects, committed_cells}
use Rattle.effect_cells.specs.Pending.{with_pending, ArePending}
use Rattle.effect_cells.specs.declared.trees.Tree.{Tree}
use Rattle.effect_cells.specs.declared.effects.Effect.{Effect}
use Rattle.effect_cells.specs.declared.effects.CellState.{CellState}
use Rattle.effect_cells.specs.declared.pending.Pending.{Pending}
use Rattle.effect_cells.proofs.InRange.{first_is, rest_is}

-- a cell that is not reached yet is in range
pub each_left_is : (from first : ℕ) (on : ℕ → Option Effect) (cells mixed : List CellState) (i : ℕ) (state : CellState) → first_out_from from cells ≡ None → i < length cells →
    mixed ≡ with_effects first on (take i cells) ++ drop i cells → state ≡ get_or mixed i state → is_in_range state ≡ true
each_left_is from first on [] mixed i state none within m e = absurd (omega arith)
each_left_is from first on (x ∷ xs) mixed zero state none within m e = rw (e, m) (first_is from x xs none)
each_left_is from first on (x ∷ xs) mixed (suc i) state none within m e =
    each_left_is (from + 1) (first + 1) on xs (with_effects (first + 1) on (take i xs) ++ drop i xs) i state (rest_is from x xs none) (omega arith) refl (rw m at e)

-- one more cell has the effect that is on it
over_next : (first : ℕ) (on : ℕ → Option Effect) (cells mixed : List CellState) (i at : ℕ) (state : CellState) → at ≡ first + i → i < length cells →
    mixed ≡ with_effects first on (take i cells) ++ drop i cells → state ≡ get_or mixed i state →
    set mixed i (applied_if_any state (on at)) ≡ with_effects first on (take (suc i) cells) ++ drop (suc i) cells
over_next first on [] mixed i at state k within m e = absurd (omega arith)
over_next first on (x ∷ xs) mixed zero at state k within m e = let here : at ≡ first = omega arith in rw (m, e, m, here) refl
over_next first on (x ∷ xs) mixed (suc i) at state k within m e =
    rw m (ap (λ (rest : List CellState). applied_if_any x (on first) ∷ rest)
    (over_next (first + 1) on xs (with_effects (first + 1) on (take i xs) ++ drop i xs) i at state (omega arith) (omega arith) refl (rw m at e)))

pub over_more : (on : ℕ → Option Effect) (cells mixed : List CellState) (i : ℕ) (state : CellState) → i < length cells →
    mixed ≡ with_effects 0 on (take i cells) ++ drop i cells → state ≡ get_or mixed i state →
    set mixed i (applied_if_any state (on i)) ≡ with_effects 0 on (take (i + 1) cells) ++ drop (i + 1) cells
over_more on cells mixed i state within m e = let next : i + 1 ≡ suc i = omega arith in rw next (over_next 0 on cells mixed i i state (omega arith) within m e)

-- where a function says what is pending, the cells come to what it makes of them
pub pending_is : (from : ℕ) (on : ℕ → Option Effect) (cells : List CellState) (pending : List Pending) → length pending ≡ length cells →
    ((cell : ℕ) (one : Pending) → cell < length pending → one ≡ get_or pending cell one → one.effect ≡ on (from + cell)) →
    with_pending cells pending ≡ with_effects from on cells
pending_is from on [] pending same each = refl
pending_is from on (x ∷ xs) [] same each = absurd (omega arith)
pending_is from on (x ∷ xs) (y ∷ ys) same each =
    let here : y.effect ≡ on (from + 0) = each 0 y (omega arith) refl in
    let start : from + 0 ≡ from = omega arith in
    let first : y.effect ≡ on from = here ∙ ap on start in
    let others : (cell : ℕ) (one : Pending) → cell < length ys → one ≡ get_or ys cell one → one.effect ≡ on (from + 1 + cell) =
    λ cell one within e. let next : from + suc cell ≡ from + 1 + cell = omega arith in each (suc cell) one (omega arith) e ∙ ap on next in
    rw first (ap (λ (rest : List CellState). applied_if_any x (on from) ∷ rest) (pending_is (from + 1) on xs ys (omega arith) others))

-- where the worth of a tree is pending, they come to be what the tree commits
pub becomes : (cells : List CellState) (pending : List Pending) (tree : Tree) → length pending ≡ length cells → ArePending (folded_worth tree) pending →
    with_pending cells pending ≡ committed_cells cells tree
becomes cells pending tree same each =
    pending_is 0 (worth_of tree) cells pending same
    (λ cell one within e. let zeroth : 0 + cell ≡ cell = omega arith in rw zeroth (each cell one within e ∙ sym (worth_is tree cell)))
