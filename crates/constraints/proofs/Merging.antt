-- One profile and so many times another one, put together piece by piece.
use Rattle.std.proofs.Common.{◌≡◌, ℕ, zero, suc, ◌+◌, ◌-◌, ◌<◌, ◌≤◌, ◌^◌, min, nat_lt, ℤ, pos, ◌+ℤ◌, ◌*ℤ◌, Bool, true, false, List, [], ◌∷◌, ◌++◌, length, drop, get_or, refl, sym, ap, subst, ◌∙◌, arith, nat_le, add-one, to_z, of_z, if◌then◌else◌}
use Rattle.std.specs.Int.RustNames.{unsigned_abs}
use Rattle.std.proofs.Math.Seq.{drop-cons}
use Rattle.std.specs.Int.{w64, w128}
use Rattle.std.proofs.lemmas.Int.{ints, to_z-of_z, fits_signed_from_abs}
use Rattle.std.proofs.lemmas.Grind.{common_steps}
use Rattle.std.proofs.Math.IntN.{*ℤ-zero}
use Rattle.aerie_base.specs.Products.{times_more, sum_times, times_sum, times_times}
use Rattle.windows.specs.declared.segments.Segment.{Segment}
use Rattle.windows.specs.Linear.{AreSegments, IsSum, first_start, segment_value, segments_value}
use Rattle.constraints.specs.Pieces.{IsPiece, CanBeAdded, IsAdded}
use Rattle.constraints.proofs.Runs.{Runs, next_within, on_to, are_segments, values_are}

pub cut_at : {A : Type 0} (whole : List A) (i : ℕ) (first : A) → i < length whole → first ≡ get_or whole i first → drop i whole ≡ first ∷ drop (i + 1) whole
cut_at whole i first within is = rw (add-one, is) (drop-cons whole i first within)

-- ---- one step

-- the rates add where there is more than one microsecond
pub rate_small : (piece : Segment) (from end : ℕ) → IsPiece piece from end → from + 1 < end → unsigned_abs piece.rate < 2 ^ 121
rate_small piece from end is long =
    let here = is.sums from is.begun (omega arith) in
    let next = is.sums (from + 1) (omega (arith, is.begun)) long in
    let more = times_more piece.rate (from - piece.from) in
    let count : suc (from - piece.from) ≡ (from + 1) - piece.from = omega (arith, is.begun) in
    let product : piece.rate *ℤ pos ((from + 1) - piece.from) ≡ piece.rate *ℤ pos (from - piece.from) +ℤ piece.rate = ap (λ n. piece.rate *ℤ pos n) (sym count) ∙ more in
    omega (arith, ints, here, next, product)

-- from one time to a later one
later_value : (piece : Segment) (from t : ℕ) → piece.from ≤ from → from ≤ t → segment_value piece t ≡ segment_value piece from +ℤ piece.rate *ℤ pos (t - from)
later_value piece from t begun after =
    let count : t - piece.from ≡ (from - piece.from) + (t - from) = omega (arith, begun, after) in
    let product = ap (λ n. piece.rate *ℤ pos n) count ∙ times_add piece.rate (from - piece.from) (t - from) in
    omega (arith, ints, product)
  where
    times_add : (a : ℤ) (m k : ℕ) → a *ℤ pos (m + k) ≡ a *ℤ pos m +ℤ a *ℤ pos k
    times_add a m zero =
        let none = *ℤ-zero a in
        let same : m + 0 ≡ m = omega arith in
        ap (λ n. a *ℤ pos n) same ∙ omega (arith, ints, none)
    times_add a m (suc k) =
        let before = times_add a m k in
        let left : a *ℤ pos (m + suc k) ≡ a *ℤ pos (m + k) +ℤ a = ap (λ n. a *ℤ pos n) (omega arith) ∙ times_more a (m + k) in
        let right = times_more a k in
        omega (arith, ints, before, left, right)

pub product_small : (c : ℤ) (piece : Segment) (from end : ℕ) → piece.from ≤ from → ((t : ℕ) → from ≤ t → t < end → IsSum (c *ℤ segment_value piece t)) → from + 1 < end →
    unsigned_abs (c *ℤ piece.rate) < 2 ^ 121
product_small c piece from end begun products long =
    let here = products from (omega arith) (omega arith) in
    let next = products (from + 1) (omega arith) long in
    let step : segment_value piece (from + 1) ≡ segment_value piece from +ℤ piece.rate *ℤ pos ((from + 1) - from) = later_value piece from (from + 1) begun (omega arith) in
    let one : piece.rate *ℤ pos ((from + 1) - from) ≡ piece.rate = ap (λ n. piece.rate *ℤ pos n) (omega arith) ∙ *ℤ-one piece.rate in
    let whole : c *ℤ segment_value piece (from + 1) ≡ c *ℤ segment_value piece from +ℤ c *ℤ piece.rate =
    ap (λ (z : ℤ). c *ℤ z) (step ∙ ap (λ (z : ℤ). segment_value piece from +ℤ z) one) ∙ times_sum c (segment_value piece from) piece.rate in
    omega (arith, ints, here, next, whole)
  where
    *ℤ-one : (a : ℤ) → a *ℤ pos 1 ≡ a
    *ℤ-one a =
        let more = times_more a 0 in
        let none = *ℤ-zero a in
        omega (arith, ints, more, none)

pub added_is : (sum more : Segment) (c : ℤ) (from end : ℕ) (value rate : ℤ) → CanBeAdded sum c more from end → value ≡ segment_value sum from +ℤ c *ℤ segment_value more from →
    (nat_lt (from + 1) end ≡ true → rate ≡ sum.rate +ℤ c *ℤ more.rate) → IsAdded sum c more from end (record { from = from; value = value; rate = rate })
added_is sum more c from end value rate can value_is rate_is = record { begin = refl; values = values }
  where
    values : (t : ℕ) → from ≤ t → t < end → value +ℤ rate *ℤ pos (t - from) ≡ segment_value sum t +ℤ c *ℤ segment_value more t
    values t after before = go (nat_lt (from + 1) end) refl
      where
        go : (b : Bool) → nat_lt (from + 1) end ≡ b → value +ℤ rate *ℤ pos (t - from) ≡ segment_value sum t +ℤ c *ℤ segment_value more t
        go true e =
            let rates = rate_is e in
            let one = later_value sum from t can.sum_is.begun after in
            let two = later_value more from t can.more_is.begun after in
            let times : c *ℤ segment_value more t ≡ c *ℤ segment_value more from +ℤ (c *ℤ more.rate) *ℤ pos (t - from) =
            ap (λ (z : ℤ). c *ℤ z) two ∙ times_sum c (segment_value more from) (more.rate *ℤ pos (t - from))
            ∙ ap (λ (z : ℤ). c *ℤ segment_value more from +ℤ z) (times_times c more.rate (t - from)) in
            let spread : rate *ℤ pos (t - from) ≡ sum.rate *ℤ pos (t - from) +ℤ (c *ℤ more.rate) *ℤ pos (t - from) =
            ap (λ (z : ℤ). z *ℤ pos (t - from)) rates ∙ sum_times sum.rate (c *ℤ more.rate) (t - from) in
            omega (arith, ints, value_is, one, times, spread)
        go false e =
            let same : t ≡ from = grind arith in
            let none : rate *ℤ pos (t - from) ≡ pos 0 = ap (λ n. rate *ℤ pos n) (omega (arith, same)) ∙ *ℤ-zero rate in
            let is : value +ℤ rate *ℤ pos (t - from) ≡ value = omega (arith, ints, none) in
            is ∙ value_is ∙ ap (λ n. segment_value sum n +ℤ c *ℤ segment_value more n) (sym same)

-- ---- all of them

-- what the loop keeps: pieces that go on from here make the whole, and both profiles go on from here
pub record Merging (reach : ℕ) (f g h : ℕ → ℤ) (made sum more : List Segment) (from : ℕ) : Type 0 where
  pub front : (rest : List Segment) → first_start reach rest ≡ from → Runs reach h from rest → Runs reach h 0 (made ++ rest)
  pub sums : Runs reach f from sum
  pub others : Runs reach g from more
  pub within : from ≤ reach

next_place : (reach from end i : ℕ) (f : ℕ → ℤ) (whole rest : List Segment) (first : Segment) → drop i whole ≡ first ∷ rest → drop (i + 1) whole ≡ rest → Runs reach f from (first ∷ rest) →
    from < end → end ≤ first_start reach rest → Runs reach f end (drop (if nat_le (first_start reach rest) end then i + 1 else i) whole)
next_place reach from end i f whole rest first cut cut_rest runs later before = go (nat_le (first_start reach rest) end) refl
  where
    go : (b : Bool) → nat_le (first_start reach rest) end ≡ b → Runs reach f end (drop (if b then i + 1 else i) whole)
    go true e =
        let same : first_start reach rest ≡ end = grind arith in
        subst (λ (l : List Segment). Runs reach f end l) (sym cut_rest) (subst (λ n. Runs reach f n rest) same runs.3)
    go false e = subst (λ (l : List Segment). Runs reach f end l) (sym cut) (on_to reach from end f first rest runs later (grind arith))

append_one : {A : Type 0} (made rest : List A) (x : A) → (made ++ x ∷ []) ++ rest ≡ made ++ x ∷ rest
append_one [] rest x = refl
append_one (y ∷ made) rest x = ap (λ l. y ∷ l) (append_one made rest x)

pub append_none : {A : Type 0} (made : List A) → made ++ [] ≡ made
append_none [] = refl
append_none (y ∷ made) = ap (λ l. y ∷ l) (append_none made)

pub merging_none : (reach : ℕ) (sum more : List Segment) (h : ℕ → ℤ) → Runs reach (λ t. segments_value sum t) 0 sum → Runs reach (λ t. segments_value more t) 0 more →
    Merging reach (λ t. segments_value sum t) (λ t. segments_value more t) h [] sum more 0
merging_none reach sum more h one other = record { front = λ rest first runs. runs; sums = one; others = other; within = omega arith }

module _ (reach : ℕ) (f g h : ℕ → ℤ) (made sum more : List Segment) (i j from end : ℕ) (first other : Segment) where
  -- both go on from here
  pub can_add : (c : ℤ) → i < length sum → first ≡ get_or sum i first → j < length more → other ≡ get_or more j other →
      end ≡ min (first_start reach (drop (i + 1) sum)) (first_start reach (drop (j + 1) more)) → Merging reach f g h made (drop i sum) (drop j more) from →
      ((t : ℕ) → t < reach → IsSum (f t)) → ((t : ℕ) → t < reach → IsSum (g t)) → ((t : ℕ) → t < reach → IsSum (c *ℤ g t)) → CanBeAdded first c other from end
  can_add c i_within first_is j_within other_is end_is before f_sums g_sums products = record {
    some_time = omega (arith, end_is, one.1, two.1);
    sum_is = record { begun = one.0; sums = λ t after below. subst IsSum (sym (one.2 t after (omega (arith, below, end_is)))) (f_sums t (omega (arith, below, end_is, one_end))) };
    more_is = record { begun = two.0; sums = λ t after below. subst IsSum (sym (two.2 t after (omega (arith, below, end_is)))) (g_sums t (omega (arith, below, end_is, two_end))) };
    products = λ t after below.
        subst (λ z. IsSum (c *ℤ z)) (sym (two.2 t (omega (arith, after, two.0)) (omega (arith, below, end_is)))) (products t (omega (arith, below, end_is, two_end)));
  }
    where
      one : Runs reach f from (first ∷ drop (i + 1) sum)
      one = subst (λ (l : List Segment). Runs reach f from l) (cut_at sum i first i_within first_is) before.sums

      two : Runs reach g from (other ∷ drop (j + 1) more)
      two = subst (λ (l : List Segment). Runs reach g from l) (cut_at more j other j_within other_is) before.others

      one_end : first_start reach (drop (i + 1) sum) ≤ reach
      one_end = next_within reach (first_start reach (drop (i + 1) sum)) f (drop (i + 1) sum) one.3

      two_end : first_start reach (drop (j + 1) more) ≤ reach
      two_end = next_within reach (first_start reach (drop (j + 1) more)) g (drop (j + 1) more) two.3

  pub merging_more : (piece : Segment) → i < length sum → first ≡ get_or sum i first → j < length more → other ≡ get_or more j other →
      end ≡ min (first_start reach (drop (i + 1) sum)) (first_start reach (drop (j + 1) more)) → Merging reach f g h made (drop i sum) (drop j more) from →
      piece.from ≡ from → ((t : ℕ) → from ≤ t → t < end → segment_value piece t ≡ h t) →
      Merging reach f g h (made ++ piece ∷ []) (drop (if nat_le (first_start reach (drop (i + 1) sum)) end then i + 1 else i) sum)
      (drop (if nat_le (first_start reach (drop (j + 1) more)) end then j + 1 else j) more) end
  merging_more piece i_within first_is j_within other_is end_is before begin values = record {
    front = λ rest first_is runs.
        subst (λ (l : List Segment). Runs reach h 0 l) (sym (append_one made rest piece))
        (before.front (piece ∷ rest) begin
        (omega (arith, begin), omega (arith, first_is, end_is, one.1, two.1), (λ t after below. values t (omega (arith, after, begin)) (omega (arith, below, first_is))), subst (λ n. Runs reach h n rest) (sym first_is) runs));
    sums = next_place reach from end i f sum (drop (i + 1) sum) first one_cut refl one (omega (arith, end_is, one.1, two.1)) (omega (arith, end_is));
    others = next_place reach from end j g more (drop (j + 1) more) other two_cut refl two (omega (arith, end_is, one.1, two.1)) (omega (arith, end_is));
    within = omega (arith, end_is, next_within reach (first_start reach (drop (i + 1) sum)) f (drop (i + 1) sum) one.3);
  }
    where
      one_cut : drop i sum ≡ first ∷ drop (i + 1) sum
      one_cut = cut_at sum i first i_within first_is

      two_cut : drop j more ≡ other ∷ drop (j + 1) more
      two_cut = cut_at more j other j_within other_is

      one : Runs reach f from (first ∷ drop (i + 1) sum)
      one = subst (λ (l : List Segment). Runs reach f from l) one_cut before.sums

      two : Runs reach g from (other ∷ drop (j + 1) more)
      two = subst (λ (l : List Segment). Runs reach g from l) two_cut before.others

-- where the one or the other is at its end, that is the reach
pub merged : (reach : ℕ) (f g h : ℕ → ℤ) (made sum more : List Segment) (from : ℕ) → reach ≤ from → Merging reach f g h made sum more from → Runs reach h 0 made
merged reach f g h made sum more from past before =
    subst (λ (l : List Segment). Runs reach h 0 l) (append_none made) (before.front [] (omega (arith, before.within, past)) past)

pub none_left : {A : Type 0} (whole : List A) (i : ℕ) → length whole ≤ i → drop i whole ≡ []
none_left [] zero past = refl
none_left [] (suc i) past = refl
none_left (x ∷ xs) zero past = absurd (omega arith)
none_left (x ∷ xs) (suc i) past = none_left xs i (omega arith)

pub sum_over : (reach : ℕ) (f g h : ℕ → ℤ) (made sum more : List Segment) (i from : ℕ) → length sum ≤ i → Merging reach f g h made (drop i sum) more from → reach ≤ from
sum_over reach f g h made sum more i from past before = subst (λ (l : List Segment). Runs reach f from l) (none_left sum i past) before.sums

pub more_over : (reach : ℕ) (f g h : ℕ → ℤ) (made sum more : List Segment) (i from : ℕ) → length more ≤ i → Merging reach f g h made sum (drop i more) from → reach ≤ from
more_over reach f g h made sum more i from past before = subst (λ (l : List Segment). Runs reach g from l) (none_left more i past) before.others

-- ---- for the code

value_at_start : (piece : Segment) → segment_value piece piece.from ≡ piece.value
value_at_start piece =
    let none : piece.rate *ℤ pos (piece.from - piece.from) ≡ pos 0 = ap (λ n. piece.rate *ℤ pos n) (omega arith) ∙ *ℤ-zero piece.rate in
    omega (arith, ints, none)

pub start_sum : (piece : Segment) (from end : ℕ) → IsPiece piece from end → from < end → IsSum piece.value
start_sum piece from end is some = subst IsSum (value_at_start piece) (is.sums piece.from (omega arith) (omega (arith, is.begun, some)))

pub rate_if_small : (b : Bool) (piece : Segment) (from end : ℕ) → b ≡ nat_lt (from + 1) end → IsPiece piece from end → unsigned_abs (if b then piece.rate else pos 0) < 2 ^ 121
rate_if_small true piece from end is piece_is = rate_small piece from end piece_is (grind arith)
rate_if_small false piece from end is piece_is = omega arith

pub product_if_small : (b : Bool) (c : ℤ) (piece : Segment) (from end : ℕ) → b ≡ nat_lt (from + 1) end → piece.from ≤ from → ((t : ℕ) → from ≤ t → t < end → IsSum (c *ℤ segment_value piece t)) →
    unsigned_abs (c *ℤ (if b then piece.rate else pos 0)) < 2 ^ 121
product_if_small true c piece from end is begun products = product_small c piece from end begun products (grind arith)
product_if_small false c piece from end is begun products = let none = *ℤ-zero c in omega (arith, ints, none)

-- numbers that are handed on
pub handed : (x : ℤ) → unsigned_abs x < 2 ^ 121 → to_z w128 (of_z w128 x) ≡ x
handed x small = to_z-of_z w128 x (fits_signed_from_abs w128 x (omega (arith, small)))

pub handed_sum : (x v : ℤ) → x ≡ v → IsSum v → to_z w128 (of_z w128 x) ≡ v
handed_sum x v is small = handed x (omega (arith, ap unsigned_abs is, small)) ∙ is

pub handed_rate : (x : ℤ) (b : Bool) (piece : Segment) (from end : ℕ) → x ≡ (if b then piece.rate else pos 0) → b ≡ nat_lt (from + 1) end → IsPiece piece from end →
    to_z w128 (of_z w128 x) ≡ (if b then piece.rate else pos 0)
handed_rate x b piece from end is counts piece_is = handed x (subst (λ (z : ℤ). unsigned_abs z < 2 ^ 121) (sym is) (rate_if_small b piece from end counts piece_is)) ∙ is

pub rate_handed_small : (x : ℤ) (b : Bool) (piece : Segment) (from end : ℕ) → x ≡ (if b then piece.rate else pos 0) → b ≡ nat_lt (from + 1) end → IsPiece piece from end →
    unsigned_abs (to_z w128 (of_z w128 x)) < 2 ^ 121
rate_handed_small x b piece from end is counts piece_is =
    subst (λ (z : ℤ). unsigned_abs z < 2 ^ 121) (sym (handed_rate x b piece from end is counts piece_is)) (rate_if_small b piece from end counts piece_is)

pub product_handed_small : (d c x : ℤ) (b : Bool) (piece : Segment) (from end : ℕ) → d ≡ c → x ≡ (if b then piece.rate else pos 0) → b ≡ nat_lt (from + 1) end → IsPiece piece from end →
    ((t : ℕ) → from ≤ t → t < end → IsSum (c *ℤ segment_value piece t)) → unsigned_abs (d *ℤ to_z w128 (of_z w128 x)) < 2 ^ 121
product_handed_small d c x b piece from end same is counts piece_is products =
    subst (λ (z : ℤ). unsigned_abs z < 2 ^ 121) (sym (λ i. same i *ℤ handed_rate x b piece from end is counts piece_is i)) (product_if_small b c piece from end counts piece_is.begun products)

pub rates_added : (rate c : ℤ) (b : Bool) (sum more : Segment) (from end : ℕ) → rate ≡ (if b then sum.rate else pos 0) +ℤ c *ℤ (if b then more.rate else pos 0) → b ≡ nat_lt (from + 1) end →
    nat_lt (from + 1) end ≡ true → rate ≡ sum.rate +ℤ c *ℤ more.rate
rates_added rate c true sum more from end is counts long = is
rates_added rate c false sum more from end is counts long = absurd (grind (arith, common_steps))

pub merged_form : (reach : ℕ) (f g h : ℕ → ℤ) (made sum more : List Segment) (from : ℕ) → ((t : ℕ) → t < reach → IsSum (h t)) → reach ≤ from → Merging reach f g h made sum more from → AreSegments reach made
merged_form reach f g h made sum more from sums past before = are_segments reach h made sums (merged reach f g h made sum more from past before)

pub merged_values : (reach : ℕ) (f g h : ℕ → ℤ) (made sum more : List Segment) (from : ℕ) → reach ≤ from → Merging reach f g h made sum more from → (t : ℕ) → t < reach → segments_value made t ≡ h t
merged_values reach f g h made sum more from past before t below = values_are reach 0 h made t (merged reach f g h made sum more from past before) (omega arith) below

-- one piece more, as the code has it
pub merging_step : (reach : ℕ) (f g : ℕ → ℤ) (c d : ℤ) (made new sum more : List Segment) (i j next_i next_j from end end_one end_more : ℕ) (over_one over_more : Bool) (first other piece : Segment) →
    i < length sum → first ≡ get_or sum i first → j < length more → other ≡ get_or more j other → end_one ≡ first_start reach (drop (i + 1) sum) → end_more ≡ first_start reach (drop (j + 1) more) →
    end ≡ min end_one end_more → over_one ≡ nat_le end_one end → over_more ≡ nat_le end_more end → next_i ≡ (if over_one then i + 1 else i) → next_j ≡ (if over_more then j + 1 else j) → d ≡ c → new ≡ made ++ piece ∷ [] →
    IsAdded first d other from end piece → Merging reach f g (λ t. f t +ℤ c *ℤ g t) made (drop i sum) (drop j more) from → Merging reach f g (λ t. f t +ℤ c *ℤ g t) new (drop next_i sum) (drop next_j more) end
merging_step reach f g c d made new sum more i j next_i next_j from end end_one end_more over_one over_more first other piece i_within first_is j_within other_is one_is more_is end_is over_one_is over_more_is next_i_is next_j_is same pushed added before =
    subst (λ (l : List Segment). Merging reach f g (λ t. f t +ℤ c *ℤ g t) l (drop next_i sum) (drop next_j more) end) (sym pushed)
    (subst (λ n. Merging reach f g (λ t. f t +ℤ c *ℤ g t) (made ++ piece ∷ []) (drop n sum) (drop next_j more) end) (sym place_one)
    (subst (λ n. Merging reach f g (λ t. f t +ℤ c *ℤ g t) (made ++ piece ∷ []) (drop (if nat_le (first_start reach (drop (i + 1) sum)) end then i + 1 else i) sum) (drop n more) end) (sym place_more)
    (merging_more reach f g (λ t. f t +ℤ c *ℤ g t) made sum more i j from end first other piece i_within first_is j_within other_is ends before added.begin values)))
  where
    ends : end ≡ min (first_start reach (drop (i + 1) sum)) (first_start reach (drop (j + 1) more))
    ends = end_is ∙ (λ k. min (one_is k) (more_is k))

    place_one : next_i ≡ (if nat_le (first_start reach (drop (i + 1) sum)) end then i + 1 else i)
    place_one = next_i_is ∙ ap (λ b. if b then i + 1 else i) (over_one_is ∙ ap (λ n. nat_le n end) one_is)

    place_more : next_j ≡ (if nat_le (first_start reach (drop (j + 1) more)) end then j + 1 else j)
    place_more = next_j_is ∙ ap (λ b. if b then j + 1 else j) (over_more_is ∙ ap (λ n. nat_le n end) more_is)

    one : Runs reach f from (first ∷ drop (i + 1) sum)
    one = subst (λ (l : List Segment). Runs reach f from l) (cut_at sum i first i_within first_is) before.sums

    two : Runs reach g from (other ∷ drop (j + 1) more)
    two = subst (λ (l : List Segment). Runs reach g from l) (cut_at more j other j_within other_is) before.others

    values : (t : ℕ) → from ≤ t → t < end → segment_value piece t ≡ f t +ℤ c *ℤ g t
    values t after below =
        added.values t after below
        ∙ (λ k. one.2 t (omega (arith, one.0, after)) (omega (arith, below, ends)) k +ℤ same k *ℤ two.2 t (omega (arith, two.0, after)) (omega (arith, below, ends)) k)

-- a piece with numbers that were handed on
pub added_handed : (sum more : Segment) (c : ℤ) (from end : ℕ) (value rate x y : ℤ) → x ≡ value → y ≡ rate → IsAdded sum c more from end (record { from = from; value = value; rate = rate }) →
    IsAdded sum c more from end (record { from = from; value = x; rate = y })
added_handed sum more c from end value rate x y value_is rate_is is = subst (λ (p : Segment). IsAdded sum c more from end p) (sym (λ i. record { from = from; value = value_is i; rate = rate_is i })) is

both_small : (x y : ℤ) → unsigned_abs x < 2 ^ 121 → unsigned_abs y < 2 ^ 121 → unsigned_abs (x +ℤ y) < 2 ^ 122
both_small x y one other = omega (arith, ints, one, other)

-- a sum that is handed on
pub handed_added : (z x y : ℤ) → z ≡ x +ℤ y → unsigned_abs x < 2 ^ 121 → unsigned_abs y < 2 ^ 121 → to_z w128 (of_z w128 z) ≡ z
handed_added z x y is one other =
    to_z-of_z w128 z (fits_signed_from_abs w128 z (let small = subst (λ (z : ℤ). unsigned_abs z < 2 ^ 122) (sym is) (both_small x y one other) in omega (arith, small)))

pub sum_small : (x : ℤ) → IsSum x → unsigned_abs x < 2 ^ 121
sum_small x small = omega (arith, small)

-- the piece that the code makes, of numbers that were handed on
pub added_made : (sum more : Segment) (c : ℤ) (from end : ℕ) (counts : Bool) (here there value rate_here rate_there rate : ℤ) → to_z w64 (of_z w64 c) ≡ c → CanBeAdded sum c more from end →
    here ≡ segment_value sum from → there ≡ segment_value more from → value ≡ to_z w128 (of_z w128 here) +ℤ to_z w64 (of_z w64 c) *ℤ to_z w128 (of_z w128 there) →
    counts ≡ nat_lt (from + 1) end → rate_here ≡ (if counts then sum.rate else pos 0) → rate_there ≡ (if counts then more.rate else pos 0) →
    rate ≡ to_z w128 (of_z w128 rate_here) +ℤ to_z w64 (of_z w64 c) *ℤ to_z w128 (of_z w128 rate_there) →
    IsAdded sum c more from end (record { from = from; value = to_z w128 (of_z w128 value); rate = to_z w128 (of_z w128 rate) })
added_made sum more c from end counts here there value rate_here rate_there rate same can here_is there_is value_is counts_is rate_here_is rate_there_is rate_is =
    added_handed sum more c from end value rate (to_z w128 (of_z w128 value)) (to_z w128 (of_z w128 rate))
    (handed_added value (segment_value sum from) (c *ℤ segment_value more from) values (sum_small (segment_value sum from) one) (sum_small (c *ℤ segment_value more from) (can.products from (omega arith) can.some_time)))
    (handed_added rate (if counts then sum.rate else pos 0) (c *ℤ (if counts then more.rate else pos 0)) rates (rate_if_small counts sum from end counts_is can.sum_is)
    (product_if_small counts c more from end counts_is can.more_is.begun can.products))
    (added_is sum more c from end value rate can values (rates_added rate c counts sum more from end rates counts_is))
  where
    one : IsSum (segment_value sum from)
    one = can.sum_is.sums from can.sum_is.begun can.some_time

    other : IsSum (segment_value more from)
    other = can.more_is.sums from can.more_is.begun can.some_time

    values : value ≡ segment_value sum from +ℤ c *ℤ segment_value more from
    values = value_is ∙ (λ i. handed_sum here (segment_value sum from) here_is one i +ℤ same i *ℤ handed_sum there (segment_value more from) there_is other i)

    rates : rate ≡ (if counts then sum.rate else pos 0) +ℤ c *ℤ (if counts then more.rate else pos 0)
    rates = rate_is ∙ (λ i. handed_rate rate_here counts sum from end rate_here_is counts_is can.sum_is i +ℤ same i *ℤ handed_rate rate_there counts more from end rate_there_is counts_is can.more_is i)
