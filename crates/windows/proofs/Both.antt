-- The times that two lists of intervals have in common.
use Rattle.std.proofs.Common.{◌≡◌, ℕ, ◌+◌, ◌<◌, ◌≤◌, ◌⊎◌, inl, inr, min, max, Bool, true, false, ◌&&◌, ◌||◌, List, [], ◌∷◌, length, drop, get_or, refl, ap, ◌∙◌, arith, add-one, nat_le, nat_lt}
use Rattle.std.proofs.Math.Seq.{drop-cons}
use Rattle.std.proofs.lemmas.Grind.{common_steps}
use Rattle.windows.specs.Times.{Interval, covers, contains, InOrder, AreIntervals}
use Rattle.windows.specs.Joining.{last_start, Joins}
use Rattle.windows.specs.OrderLaws.{none_before, order_from, at_most, above}
use Rattle.windows.proofs.Builds.{Builds, builds_none, builds_more, builds_all}

abbrev pub first_start : ℕ → List Interval → ℕ
first_start reach [] = reach
first_start reach (first ∷ rest) = first.0

pub starts_from : (reach from : ℕ) (intervals : List Interval) → from ≤ reach → InOrder reach from intervals → from ≤ first_start reach intervals
starts_from reach from [] within order = within
starts_from reach from (first ∷ rest) within order = order.0

abbrev pub in_both : List Interval → List Interval → ℕ → Bool
in_both left right t = contains left t && contains right t

-- what the two first ones have in common, and the rest of the one that ends first with the other
both_split : (reach : ℕ) (x y : Interval) (xs ys : List Interval) (t : ℕ) → InOrder reach 0 (x ∷ xs) → InOrder reach 0 (y ∷ ys) → x.1 ≤ y.1 →
    in_both (x ∷ xs) (y ∷ ys) t ≡ (covers (max x.0 y.0, min x.1 y.1) t || in_both xs (y ∷ ys) t)
both_split reach x y xs ys t left right first = by_end (nat_lt t x.1) refl
  where
    by_end : (b : Bool) → nat_lt t x.1 ≡ b → in_both (x ∷ xs) (y ∷ ys) t ≡ (covers (max x.0 y.0, min x.1 y.1) t || in_both xs (y ∷ ys) t)
    by_end true e =
        let below : t < x.1 = grind arith in
        let none : contains xs t ≡ false = none_before reach (x.1 + 1) xs t left.3 (omega arith) in
        let none_either : contains ys t ≡ false = none_before reach (y.1 + 1) ys t right.3 (omega arith) in
        grind (arith, common_steps)
    by_end false e =
        let past : x.1 ≤ t = grind arith in
        grind (arith, common_steps)

and_swap : (a b : Bool) → (a && b) ≡ (b && a)
and_swap true true = refl
and_swap true false = refl
and_swap false true = refl
and_swap false false = refl

both_split_right : (reach : ℕ) (x y : Interval) (xs ys : List Interval) (t : ℕ) → InOrder reach 0 (x ∷ xs) → InOrder reach 0 (y ∷ ys) → y.1 ≤ x.1 →
    in_both (x ∷ xs) (y ∷ ys) t ≡ (covers (max x.0 y.0, min x.1 y.1) t || in_both (x ∷ xs) ys t)
both_split_right reach x y xs ys t left right first = by_end (nat_lt t y.1) refl
  where
    by_end : (b : Bool) → nat_lt t y.1 ≡ b → in_both (x ∷ xs) (y ∷ ys) t ≡ (covers (max x.0 y.0, min x.1 y.1) t || in_both (x ∷ xs) ys t)
    by_end true e =
        let below : t < y.1 = grind arith in
        let none : contains xs t ≡ false = none_before reach (x.1 + 1) xs t left.3 (omega arith) in
        let none_either : contains ys t ≡ false = none_before reach (y.1 + 1) ys t right.3 (omega arith) in
        grind (arith, common_steps)
    by_end false e =
        let past : y.1 ≤ t = grind arith in
        grind (arith, common_steps)

-- what a merge keeps
pub record Merges (reach : ℕ) (made left right : List Interval) (whole : ℕ → Bool) : Type 0 where
  pub builds : Builds reach made (in_both left right) whole
  pub left_order : InOrder reach 0 left
  pub right_order : InOrder reach 0 right
  pub start : last_start made ≤ max (first_start reach left) (first_start reach right)

pub merges_none : (reach : ℕ) (left right : List Interval) → InOrder reach 0 left → InOrder reach 0 right → Merges reach [] left right (in_both left right)
merges_none reach left right left_order right_order = record {
  builds = builds_none reach (in_both left right);
  left_order = left_order;
  right_order = right_order;
  start = omega arith;
}

-- the first of the rest begins behind the end of the one before it
begins_behind : (reach : ℕ) (x : Interval) (xs : List Interval) → InOrder reach 0 (x ∷ xs) → x.1 ≤ first_start reach xs
begins_behind reach x [] order = order.2
begins_behind reach x (next ∷ rest) order = omega (arith, order.3.0)

pub cut_at : (whole : List Interval) (i : ℕ) (first : Interval) → i < length whole → first ≡ get_or whole i first → drop i whole ≡ first ∷ drop (i + 1) whole
cut_at whole i first within is = rw (add-one, is) (drop-cons whole i first within)

pub merges_left : (reach : ℕ) (made new : List Interval) (x y : Interval) (xs ys : List Interval) (whole : ℕ → Bool) → x.1 ≤ y.1 →
    Merges reach made (x ∷ xs) (y ∷ ys) whole → Joins made (max x.0 y.0) (min x.1 y.1) new → Merges reach new xs (y ∷ ys) whole
merges_left reach made new x y xs ys whole first before joins =
    let left : InOrder reach 0 (x ∷ xs) = before.left_order in
    record {
      builds = builds_more reach made new (in_both (x ∷ xs) (y ∷ ys)) (in_both xs (y ∷ ys)) whole (max x.0 y.0) (min x.1 y.1) before.builds joins (omega (arith, left.2))
          (λ t below. both_split reach x y xs ys t left before.right_order first);
      left_order = order_from reach (x.1 + 1) 0 xs (omega arith) left.3;
      right_order = before.right_order;
      start = omega (arith, joins.start, begins_behind reach x xs left, left.1);
    }

pub merges_right : (reach : ℕ) (made new : List Interval) (x y : Interval) (xs ys : List Interval) (whole : ℕ → Bool) → y.1 ≤ x.1 →
    Merges reach made (x ∷ xs) (y ∷ ys) whole → Joins made (max x.0 y.0) (min x.1 y.1) new → Merges reach new (x ∷ xs) ys whole
merges_right reach made new x y xs ys whole first before joins =
    let right : InOrder reach 0 (y ∷ ys) = before.right_order in
    record {
      builds = builds_more reach made new (in_both (x ∷ xs) (y ∷ ys)) (in_both (x ∷ xs) ys) whole (max x.0 y.0) (min x.1 y.1) before.builds joins (omega (arith, right.2))
          (λ t below. both_split_right reach x y xs ys t before.left_order right first);
      left_order = before.left_order;
      right_order = order_from reach (y.1 + 1) 0 ys (omega arith) right.3;
      start = omega (arith, joins.start, begins_behind reach y ys right, right.1);
    }

-- at the end of one of the two nothing is left
pub merges_all : (reach : ℕ) (made left right : List Interval) (whole : ℕ → Bool) → Merges reach made left right whole → (left ≡ []) ⊎ (right ≡ []) → AreIntervals reach whole made
merges_all reach made left right whole before (inl none) =
    builds_all reach made (in_both left right) whole before.builds (λ t below. ap (λ (l : List Interval). in_both l right t) none)
merges_all reach made left right whole before (inr none) =
    builds_all reach made (in_both left right) whole before.builds (λ t below. ap (λ (l : List Interval). in_both left l t) none ∙ and_swap (contains left t) false)

-- one step of the merge, by places
pub merges_left_at : (reach i j : ℕ) (made new left right : List Interval) (x y : Interval) (whole : ℕ → Bool) → i < length left → x ≡ get_or left i x → j < length right → y ≡ get_or right j y →
    nat_le x.1 y.1 ≡ true → Merges reach made (drop i left) (drop j right) whole → Joins made (max x.0 y.0) (min x.1 y.1) new → Merges reach new (drop (i + 1) left) (drop j right) whole
merges_left_at reach i j made new left right x y whole left_within x_is right_within y_is first before joins =
    let left_cut = cut_at left i x left_within x_is in
    let right_cut = cut_at right j y right_within y_is in
    rw right_cut (merges_left reach made new x y (drop (i + 1) left) (drop (j + 1) right) whole (at_most _ _ first) (rw (left_cut, right_cut) at before) joins)

pub merges_right_at : (reach i j : ℕ) (made new left right : List Interval) (x y : Interval) (whole : ℕ → Bool) → i < length left → x ≡ get_or left i x → j < length right → y ≡ get_or right j y →
    nat_le x.1 y.1 ≡ false → Merges reach made (drop i left) (drop j right) whole → Joins made (max x.0 y.0) (min x.1 y.1) new → Merges reach new (drop i left) (drop (j + 1) right) whole
merges_right_at reach i j made new left right x y whole left_within x_is right_within y_is first before joins =
    let left_cut = cut_at left i x left_within x_is in
    let right_cut = cut_at right j y right_within y_is in
    let ends : y.1 < x.1 = above _ _ first in
    rw left_cut (merges_right reach made new x y (drop (i + 1) left) (drop (j + 1) right) whole (omega arith) (rw (left_cut, right_cut) at before) joins)
