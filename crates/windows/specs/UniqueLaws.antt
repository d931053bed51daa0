-- A file of lemmas: what it proves need not be read to trust a clause.
-- Two lists of maximal intervals with the same times are one list.
use Rattle.std.proofs.Common.{◌≡◌, ℕ, ◌+◌, ◌<◌, ◌≤◌, Bool, true, false, List, [], ◌∷◌, refl, sym, ◌∙◌, arith, nat_lt}
use Rattle.std.proofs.lemmas.Grind.{common_steps}
use Rattle.windows.specs.Times.{Interval, contains, InOrder, AreIntervals}
use Rattle.windows.specs.OrderLaws.{none_before, none_past}

abbrev Alike : List Interval → List Interval → Type 0
Alike left right = (t : ℕ) → contains left t ≡ contains right t

-- the first interval has its start and all times up to its end, and what lies past its end is in the rest
has_start : (x : Interval) (xs : List Interval) → x.0 < x.1 → contains (x ∷ xs) x.0 ≡ true
has_start x xs some_time = grind (arith, common_steps)

has_inner : (x : Interval) (xs : List Interval) (t : ℕ) → x.0 ≤ t → t < x.1 → contains (x ∷ xs) t ≡ true
has_inner x xs t after before = grind (arith, common_steps)

past : (x : Interval) (xs : List Interval) (t : ℕ) → x.1 ≤ t → contains (x ∷ xs) t ≡ contains xs t
past x xs t after = grind (arith, common_steps)

not_earlier : (reach from : ℕ) (x y : Interval) (xs ys : List Interval) → InOrder reach from (x ∷ xs) → InOrder reach from (y ∷ ys) → Alike (x ∷ xs) (y ∷ ys) → x.0 < y.0 → ⊥
not_earlier reach from x y xs ys left right alike earlier =
    let a = has_start x xs left.1 in
    let b = none_before reach y.0 (y ∷ ys) x.0 (omega arith, right.1, right.2, right.3) earlier in
    let c = alike x.0 in cc

not_shorter : (reach from : ℕ) (x y : Interval) (xs ys : List Interval) → InOrder reach from (x ∷ xs) → InOrder reach from (y ∷ ys) → Alike (x ∷ xs) (y ∷ ys) → x.0 ≡ y.0 → x.1 < y.1 → ⊥
not_shorter reach from x y xs ys left right alike starts shorter =
    let a = past x xs x.1 (omega arith) in
    let b = none_before reach (x.1 + 1) xs x.1 left.3 (omega arith) in
    let c = has_inner y ys x.1 (omega (arith, left.1)) shorter in
    let d = alike x.1 in cc

rest_alike : (reach : ℕ) (x y : Interval) (xs ys : List Interval) → InOrder reach (x.1 + 1) xs → InOrder reach (y.1 + 1) ys → x.1 ≡ y.1 → Alike (x ∷ xs) (y ∷ ys) → Alike xs ys
rest_alike reach x y xs ys left right ends alike t = go (nat_lt t x.1) refl
  where
    go : (b : Bool) → nat_lt t x.1 ≡ b → contains xs t ≡ contains ys t
    go true e = let below : t < x.1 = grind arith in none_before reach (x.1 + 1) xs t left (omega arith) ∙ sym (none_before reach (y.1 + 1) ys t right (omega arith))
    go false e = let after : x.1 ≤ t = grind arith in sym (past x xs t after) ∙ (alike t ∙ past y ys t (omega arith))

pub unique : (reach from : ℕ) (left right : List Interval) → InOrder reach from left → InOrder reach from right → ((t : ℕ) → contains left t ≡ contains right t) → left ≡ right
unique reach from [] [] left_order right_order alike = refl
unique reach from [] (y ∷ ys) left_order right_order alike = let a = has_start y ys right_order.1 in let b = alike y.0 in cc
unique reach from (x ∷ xs) [] left_order right_order alike = let a = has_start x xs left_order.1 in let b = alike x.0 in cc
unique reach from (x ∷ xs) (y ∷ ys) left_order right_order alike =
    let flip = λ (t : ℕ). sym (alike t) in
    let starts : x.0 ≡ y.0 = omega (arith, not_earlier reach from x y xs ys left_order right_order alike, not_earlier reach from y x ys xs right_order left_order flip) in
    let ends : x.1 ≡ y.1 = omega (arith, not_shorter reach from x y xs ys left_order right_order alike starts, not_shorter reach from y x ys xs right_order left_order flip (sym starts)) in
    let rest : xs ≡ ys = unique reach (x.1 + 1) xs ys left_order.3 (rw ends right_order.3) (rest_alike reach x y xs ys left_order.3 right_order.3 ends alike) in
    (λ i. (starts i, ends i) ∷ rest i)

-- intervals with these times below the reach have these times: from there on there are none
pub only_one : (reach : ℕ) (whole intervals : List Interval) → InOrder reach 0 whole → AreIntervals reach (λ t. contains whole t) intervals → intervals ≡ whole
only_one reach whole intervals order are = unique reach 0 intervals whole are.in_order order alike
  where
    alike : (t : ℕ) → contains intervals t ≡ contains whole t
    alike t = go (nat_lt t reach) refl
      where
        go : (b : Bool) → nat_lt t reach ≡ b → contains intervals t ≡ contains whole t
        go true e = are.times t (grind arith)
        go false e = let after : reach ≤ t = grind arith in none_past reach 0 intervals t are.in_order after ∙ sym (none_past reach 0 whole t order after)
