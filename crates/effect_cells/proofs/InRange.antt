-- Cells that are all in range.
use Rattle.std.proofs.Common.{◌≡◌, ℕ, zero, suc, ◌<◌, ◌+◌, List, [], ◌∷◌, ◌++◌, map, take, drop, length, get_or, Bool, true, false, Some, None, refl, arith}
use Rattle.effect_cells.specs.States.{is_in_range, state_after}
use Rattle.effect_cells.specs.Cells.{first_out_from}
use Rattle.effect_cells.specs.declared.effects.CellState.{CellState}

-- where none is out of range, the first is in range
pub first_is : (from : ℕ) (state : CellState) (rest : List CellState) → first_out_from from (state ∷ rest) ≡ None → is_in_range state ≡ true
first_is from state rest none = go (is_in_range state) refl
  where
    go : (v : Bool) → is_in_range state ≡ v → is_in_range state ≡ true
    go true e = e
    go false e = let some : first_out_from from (state ∷ rest) ≡ Some from = rw e refl in cc

-- and so are the others
pub rest_is : (from : ℕ) (state : CellState) (rest : List CellState) → first_out_from from (state ∷ rest) ≡ None → first_out_from (from + 1) rest ≡ None
rest_is from state rest none = let first : is_in_range state ≡ true = first_is from state rest none in rw first at none

-- each of them is
pub each_is : (from : ℕ) (cells : List CellState) (i : ℕ) (state : CellState) → first_out_from from cells ≡ None → i < length cells → state ≡ get_or cells i state → is_in_range state ≡ true
each_is from [] i state none within e = absurd (omega arith)
each_is from (x ∷ xs) zero state none within e = rw e (first_is from x xs none)
each_is from (x ∷ xs) (suc i) state none within e = each_is (from + 1) xs i state (rest_is from x xs none) (omega arith) e

-- also where those before it have moved on
pub each_left_is : (from dt : ℕ) (cells mixed : List CellState) (i : ℕ) (state : CellState) → first_out_from from cells ≡ None → i < length cells →
    mixed ≡ map (state_after dt) (take i cells) ++ drop i cells → state ≡ get_or mixed i state → is_in_range state ≡ true
each_left_is from dt [] mixed i state none within m e = absurd (omega arith)
each_left_is from dt (x ∷ xs) mixed zero state none within m e = rw (e, m) (first_is from x xs none)
each_left_is from dt (x ∷ xs) mixed (suc i) state none within m e =
    each_left_is (from + 1) dt xs (map (state_after dt) (take i xs) ++ drop i xs) i state (rest_is from x xs none) (omega arith) refl (rw m at e)

-- one cell more that is in range
pub one_more : (from : ℕ) (cells : List CellState) (state : CellState) → first_out_from from cells ≡ None → is_in_range state ≡ true → first_out_from from (cells ++ state ∷ []) ≡ None
one_more from [] state none good = rw good refl
one_more from (x ∷ xs) state none good =
    let first : is_in_range x ≡ true = first_is from x xs none in
    rw first (one_more (from + 1) xs state (rest_is from x xs none) good)
