-- Sums over the items of a tree, from one item on.
use Rattle.std.proofs.Common.{◌≡◌, ℕ, zero, suc, ◌<◌, ◌≤◌, ◌+◌, ◌-◌, List, [], ◌∷◌, map, drop, length, get_or, arith}
use Rattle.std.proofs.lemmas.List.Sums.{sum_by-cons}
use Rattle.std.specs.List.{sum}
use Rattle.effect_cells.specs.Worth.{part_magnitude, tree_magnitude}
use Rattle.effect_cells.specs.Folded.{folded_magnitude, folded_part_magnitude}
use Rattle.effect_cells.specs.declared.trees.Part.{Part, size-Part}
use Rattle.effect_cells.specs.declared.trees.Tree.{Tree, fold_out-Tree, size-Tree, size_is-Tree}
use denote.Param.Weighed.{at_most}

at_next : (f : Part → ℕ) (parts : List Part) (i : ℕ) (p : Part) → i < length parts → p ≡ get_or parts i p →
    f p + sum (map f (drop (suc i) parts)) ≤ sum (map f parts)
at_next f [] i p h e = absurd (omega arith)
at_next f (x ∷ xs) zero p h e = rw e (omega (arith, sum_by-cons (λ n. n) (f x) (map f xs)))
at_next f (x ∷ xs) (suc i) p h e = omega (arith, sum_by-cons (λ n. n) (f x) (map f xs), at_next f xs i p (omega arith) e)

at_place : (f : Part → ℕ) (parts : List Part) (i j : ℕ) (p : Part) → i ≡ suc j → i ≤ length parts → p ≡ get_or parts j p →
    f p + sum (map f (drop i parts)) ≤ sum (map f parts)
at_place f parts i j p k h e = rw k (at_next f parts j p (omega arith) e)

-- an item and those behind it are together within the tree
pub part_fits : (t : Tree) (parts : List Part) (i : ℕ) (p : Part) → parts ≡ t.items → 0 < i → i ≤ length parts → p ≡ get_or parts (i - 1) p →
    folded_part_magnitude p + sum (map folded_part_magnitude (drop i parts)) ≤ folded_magnitude t
part_fits t parts i p k z h e =
    rw (fold_out-Tree ℕ ℕ part_magnitude tree_magnitude t, ← k)
    (at_place folded_part_magnitude parts i (i - 1) p (omega arith) h e)

-- an item is smaller than its tree
pub part_smaller : (t : Tree) (parts : List Part) (i : ℕ) (p : Part) → parts ≡ t.items → i < length parts → p ≡ get_or parts i p →
    size-Part p < size-Tree t
part_smaller t parts i p k h e = rw size_is-Tree (rw (← k, e) (omega (arith, at_most size-Part parts i p h)))
