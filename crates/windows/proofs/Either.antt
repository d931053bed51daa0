-- The times that at least one of two lists of intervals has.
use Rattle.std.proofs.Common.{◌≡◌, ℕ, suc, ◌+◌, ◌<◌, ◌≤◌, Bool, true, false, ◌||◌, List, [], ◌∷◌, length, drop, get_or, refl, arith}
use Rattle.std.proofs.Math.Seq.{drop-cons}
use Rattle.std.proofs.lemmas.Grind.{common_steps}
use Rattle.windows.specs.Times.{Interval, covers, contains, InOrder, AreIntervals}
use Rattle.windows.specs.Joining.{last_start, Joins, stands_first}
use Rattle.windows.specs.OrderLaws.{order_from, above, at_most}
use Rattle.windows.proofs.Both.{cut_at}
use Rattle.windows.proofs.Builds.{Builds, builds_none, builds_more, builds_all}

abbrev pub in_either : List Interval → List Interval → ℕ → Bool
in_either left right t = contains left t || contains right t

or_assoc : (a b c : Bool) → ((a || b) || c) ≡ (a || (b || c))
or_assoc true b c = refl
or_assoc false b c = refl

or_front : (a b c : Bool) → (a || (b || c)) ≡ (b || (a || c))
or_front true true c = refl
or_front true false c = refl
or_front false true c = refl
or_front false false c = refl

-- what a merge keeps
pub record Unites (reach : ℕ) (made left right : List Interval) (whole : ℕ → Bool) : Type 0 where
  pub builds : Builds reach made (in_either left right) whole
  pub left_order : InOrder reach (last_start made) left
  pub right_order : InOrder reach (last_start made) right

pub unites_none : (reach : ℕ) (left right : List Interval) → InOrder reach 0 left → InOrder reach 0 right → Unites reach [] left right (in_either left right)
unites_none reach left right left_order right_order = record {
  builds = builds_none reach (in_either left right);
  left_order = left_order;
  right_order = right_order;
}

-- the others begin no earlier than what stands first
right_later : (reach from new : ℕ) (x : Interval) (xs right : List Interval) → stands_first (x ∷ xs) right ≡ true → new ≤ x.0 → InOrder reach from right → InOrder reach new right
right_later reach from new x xs [] first start order = tt
right_later reach from new x xs (y ∷ ys) first start order = let later = at_most x.0 y.0 first in (omega arith, order.1, order.2, order.3)

left_later : (reach from new : ℕ) (y : Interval) (left ys : List Interval) → stands_first left (y ∷ ys) ≡ false → new ≤ y.0 → InOrder reach from left → InOrder reach new left
left_later reach from new y [] ys first start order = tt
left_later reach from new y (x ∷ xs) ys first start order = let later = above x.0 y.0 first in (omega arith, order.1, order.2, order.3)

unites_left : (reach : ℕ) (made new : List Interval) (x : Interval) (xs right : List Interval) (whole : ℕ → Bool) → stands_first (x ∷ xs) right ≡ true →
    Unites reach made (x ∷ xs) right whole → Joins made x.0 x.1 new → Unites reach new xs right whole
unites_left reach made new x xs right whole first before joins =
    let left : InOrder reach (last_start made) (x ∷ xs) = before.left_order in
    record {
      builds = builds_more reach made new (in_either (x ∷ xs) right) (in_either xs right) whole x.0 x.1 before.builds joins left.2
          (λ t below. or_assoc (covers x t) (contains xs t) (contains right t));
      left_order = order_from reach (x.1 + 1) (last_start new) xs (omega (arith, joins.start, left.1)) left.3;
      right_order = right_later reach (last_start made) (last_start new) x xs right first joins.start before.right_order;
    }

unites_right : (reach : ℕ) (made new : List Interval) (y : Interval) (left ys : List Interval) (whole : ℕ → Bool) → stands_first left (y ∷ ys) ≡ false →
    Unites reach made left (y ∷ ys) whole → Joins made y.0 y.1 new → Unites reach new left ys whole
unites_right reach made new y left ys whole first before joins =
    let right : InOrder reach (last_start made) (y ∷ ys) = before.right_order in
    record {
      builds = builds_more reach made new (in_either left (y ∷ ys)) (in_either left ys) whole y.0 y.1 before.builds joins right.2
          (λ t below. or_front (contains left t) (covers y t) (contains ys t));
      left_order = left_later reach (last_start made) (last_start new) y left ys first joins.start before.left_order;
      right_order = order_from reach (y.1 + 1) (last_start new) ys (omega (arith, joins.start, right.1)) right.3;
    }

pub unites_left_at : (reach i j : ℕ) (made new left right : List Interval) (x : Interval) (whole : ℕ → Bool) → i < length left → x ≡ get_or left i x → stands_first (drop i left) (drop j right) ≡ true →
    Unites reach made (drop i left) (drop j right) whole → Joins made x.0 x.1 new → Unites reach new (drop (i + 1) left) (drop j right) whole
unites_left_at reach i j made new left right x whole within is first before joins =
    let cut = cut_at left i x within is in
    unites_left reach made new x (drop (i + 1) left) (drop j right) whole (rw cut at first) (rw cut at before) joins

pub unites_right_at : (reach i j : ℕ) (made new left right : List Interval) (y : Interval) (whole : ℕ → Bool) → j < length right → y ≡ get_or right j y → stands_first (drop i left) (drop j right) ≡ false →
    Unites reach made (drop i left) (drop j right) whole → Joins made y.0 y.1 new → Unites reach new (drop i left) (drop (j + 1) right) whole
unites_right_at reach i j made new left right y whole within is first before joins =
    let cut = cut_at right j y within is in
    unites_right reach made new y (drop i left) (drop (j + 1) right) whole (rw cut at first) (rw cut at before) joins

-- with nothing on the right, and nothing that stands first on the left, nothing is left
pub unites_all : (reach : ℕ) (made left right : List Interval) (whole : ℕ → Bool) → Unites reach made left right whole → stands_first left right ≡ false → right ≡ [] → AreIntervals reach whole made
unites_all reach made [] [] whole before first none = builds_all reach made (in_either [] []) whole before.builds (λ t below. refl)
unites_all reach made (x ∷ xs) [] whole before first none = absurd (cc)
unites_all reach made left (y ∷ ys) whole before first none = absurd (cc)

-- with nothing on the right, what is on the left stands first
pub stands_alone : (i j : ℕ) (left right : List Interval) → i < length left → length right ≤ j → true ≡ stands_first (drop i left) (drop j right)
stands_alone i j left right within past =
    let cut : drop i left ≡ get_or left i (0, 0) ∷ drop (suc i) left = drop-cons left i (0, 0) within in
    let none : drop j right ≡ [] = grind (arith, common_steps) in
    rw (cut, none) refl
