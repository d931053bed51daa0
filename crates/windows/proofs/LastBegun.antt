-- The last one that begins no later stands directly before the place where the later ones begin.
use Rattle.std.proofs.Common.{◌≡◌, ℕ, zero, suc, ◌-◌, ◌<◌, ◌≤◌, Bool, true, false, List, [], ◌∷◌, length, get_or, map, nat_le, Option, Some, refl, arith}
use Rattle.std.proofs.lemmas.Grind.{common_steps}
use Rattle.std.specs.List.Sorted.{IsPartitionedBy, IsPartitionPoint}
use Rattle.windows.specs.Begun.{last_begun, StartsRise, HaveBegun}

module _ {A : Type 0} (from : A → ℕ) where
  -- what stands behind begins later
  later : (last : ℕ) (items : List A) (k : ℕ) (d : A) → StartsRise last (map from items) → k < length items → last < from (get_or items k d)
  later last [] k d rise within = absurd (omega arith)
  later last (first ∷ rest) zero d rise within = rise.0
  later last (first ∷ rest) (suc k) d rise within =
      let after : from first < from (get_or rest k d) = later (from first) rest k d rise.1 (omega arith) in
      omega (arith, after, rise.0)

  parted_behind : (last : ℕ) (items : List A) (t : ℕ) → StartsRise last (map from items) → IsPartitionedBy (λ one. nat_le (from one) t) items
  parted_behind last [] t rise i j d before within begun = absurd (omega arith)
  parted_behind last (first ∷ rest) t rise zero zero d before within begun = begun
  parted_behind last (first ∷ rest) t rise zero (suc j) d before within begun =
      let after : from first < from (get_or rest j d) = later (from first) rest j d rise.1 (omega arith) in
      grind (arith, common_steps)
  parted_behind last (first ∷ rest) t rise (suc i) zero d before within begun = absurd (omega arith)
  parted_behind last (first ∷ rest) t rise (suc i) (suc j) d before within begun = parted_behind (from first) rest t rise.1 i j d (omega arith) (omega arith) begun

  -- those that have begun stand before those that have not
  pub parted : (items : List A) (t : ℕ) → HaveBegun t (map from items) → IsPartitionedBy (λ one. nat_le (from one) t) items
  parted [] t starts i j d before within begun = absurd starts
  parted (first ∷ rest) t starts zero zero d before within begun = begun
  parted (first ∷ rest) t starts zero (suc j) d before within begun =
      let after : from first < from (get_or rest j d) = later (from first) rest j d starts.1 (omega arith) in
      grind (arith, common_steps)
  parted (first ∷ rest) t starts (suc i) zero d before within begun = absurd (omega arith)
  parted (first ∷ rest) t starts (suc i) (suc j) d before within begun = parted_behind (from first) rest t starts.1 i j d (omega arith) (omega arith) begun

  abbrev pub IsPoint : ℕ → List A → ℕ → Type 0
  IsPoint t items begun = IsPartitionPoint (λ one. nat_le (from one) t ≡ true) (λ one. nat_le (from one) t ≡ false) items begun

  pub one_has_begun : (items : List A) (t begun : ℕ) → HaveBegun t (map from items) → IsPoint t items begun → 1 ≤ begun
  one_has_begun [] t begun starts point = absurd starts
  one_has_begun (first ∷ rest) t zero starts point =
      let not_yet : nat_le (from first) t ≡ false = point.1 0 first (omega arith) (omega arith) in
      let has : from first ≤ t = starts.0 in
      absurd (grind (arith, common_steps))
  one_has_begun (first ∷ rest) t (suc begun) starts point = omega arith

  found : (items : List A) (t before : ℕ) (d : A) → before < length items → IsPoint t items (suc before) → Some (get_or items before d) ≡ last_begun from items t
  found [] t before d within point = absurd (omega arith)
  found (one ∷ []) t zero d within point = refl
  found (one ∷ []) t (suc before) d within point = absurd (omega arith)
  found (one ∷ next ∷ rest) t zero d within point =
      let not_yet : nat_le (from next) t ≡ false = point.1 1 d (omega arith) (omega arith) in
      rw not_yet refl
  found (one ∷ next ∷ rest) t (suc before) d within point =
      let begun : nat_le (from next) t ≡ true = point.0 1 d (omega arith) (omega arith) in
      rw begun (found (next ∷ rest) t before d (omega arith) ((λ k e a b. point.0 (suc k) e (omega arith) (omega arith)), (λ k e a b. point.1 (suc k) e (omega arith) (omega arith))))

  pub found_before : (items : List A) (t begun : ℕ) (d : A) → 1 ≤ begun → begun ≤ length items → IsPoint t items begun → Some (get_or items (begun - 1) d) ≡ last_begun from items t
  found_before items t zero d some within point = absurd (omega arith)
  found_before items t (suc before) d some within point =
      let same : suc before - 1 ≡ before = omega arith in
      rw same (found items t before d (omega arith) point)

  pub has_begun : (items : List A) (t begun : ℕ) (d : A) → 1 ≤ begun → IsPoint t items begun → from (get_or items (begun - 1) d) ≤ t
  has_begun items t begun d some point =
      let here : nat_le (from (get_or items (begun - 1) d)) t ≡ true = point.0 (begun - 1) d (omega arith) (omega arith) in
      grind (arith, common_steps)
