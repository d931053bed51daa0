-- A permutation as exchanges of neighbours, one after another.
use Rattle.std.proofs.Common.{ℕ, zero, suc, ◌<◌, List, [], ◌∷◌, length, slice_set, slice_index_or, swap, IsPermutation, arith}
use Rattle.std.proofs.lemmas.List.Sorted.{IsPermutation-keeps}

-- the same list but for the order
pub data Reordered (A : Type 0) : List A → List A → Type 0 where
  same : (list : List A) → Reordered A list list
  behind : (first : A) {list other : List A} → Reordered A list other → Reordered A (first ∷ list) (first ∷ other)
  exchanged : (first second : A) (rest : List A) → Reordered A (first ∷ second ∷ rest) (second ∷ first ∷ rest)
  in_turn : {list other third : List A} → Reordered A list other → Reordered A other third → Reordered A list third

module _ {A : Type 0} where
  -- an element in front in the place of another, which comes to the front
  to_front : (first : A) (rest : List A) (at : ℕ) (other : A) → at < length rest → Reordered A (first ∷ rest) (slice_index_or rest at other ∷ slice_set rest at first)
  to_front first [] at other less = absurd (omega arith)
  to_front first (second ∷ rest) zero other less = exchanged first second rest
  to_front first (second ∷ rest) (suc at) other less =
      in_turn (exchanged first second rest)
      (in_turn (behind second (to_front first rest at other (omega arith))) (exchanged second (slice_index_or rest at other) (slice_set rest at first)))

  two_places : (list : List A) (one two : ℕ) (other : A) → one < length list → two < length list →
      Reordered A list (slice_set (slice_set list one (slice_index_or list two other)) two (slice_index_or list one other))
  two_places [] one two other less more = absurd (omega arith)
  two_places (first ∷ rest) zero zero other less more = same (first ∷ rest)
  two_places (first ∷ rest) zero (suc two) other less more = to_front first rest two other (omega arith)
  two_places (first ∷ rest) (suc one) zero other less more = to_front first rest one other (omega arith)
  two_places (first ∷ rest) (suc one) (suc two) other less more = behind first (two_places rest one two other (omega arith) (omega arith))

  swapped : (list : List A) (one two : ℕ) → one < length list → two < length list → Reordered A list (swap list one two)
  swapped [] one two less more = absurd (omega arith)
  swapped (first ∷ rest) one two less more = two_places (first ∷ rest) one two first less more

  pub reordered : (list other : List A) → IsPermutation list other → Reordered A list other
  reordered list other moves =
      IsPermutation-keeps list (λ l. Reordered A list l) (same list) (λ l one two less more h. in_turn h (swapped l one two less more)) other moves
