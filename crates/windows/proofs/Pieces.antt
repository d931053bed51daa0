-- Pieces of one span, each put in or left out.
use Rattle.std.proofs.Common.{◌≡◌, ℕ, ◌-◌, ◌<◌, ◌≤◌, Bool, true, false, not, ◌&&◌, ◌||◌, ℤ, pos, ◌+ℤ◌, ◌-ℤ◌, ◌*ℤ◌, ◌≤ℤ◌, ◌<ℤ◌, List, refl, sym, ap, ◌∙◌, arith, nat_le, nat_lt}
use Rattle.std.specs.Int.RustNames.{int_lt}
use Rattle.std.specs.declared.cmp.Ordering.{Ordering}
use Rattle.std.specs.Ordering.{int_cmp, is_eq, is_ne}
use Rattle.std.specs.Ordering.{MatchOrdering}
use Rattle.std.specs.declared.cmp.Ordering.TheVariants as order
use Rattle.std.proofs.Math.IntN.{*ℤ-zero}
use Rattle.std.specs.Cmp.{int_ranks, int_cmp_is}
use Rattle.std.proofs.lemmas.Int.{ints}
use Rattle.std.proofs.lemmas.Grind.{common_steps}
use Rattle.aerie_base.specs.declared.expressions.Comparison.{Comparison}
use Rattle.aerie_base.specs.declared.expressions.Comparison.TheVariants.{Equal, Unequal, Less, AtMost, More, AtLeast}
use Rattle.windows.specs.Ends.{clipped}
use Rattle.windows.specs.Times.{Interval, covers, contains}
use Rattle.windows.specs.Joining.{last_start, Joins}
use Rattle.aerie_base.specs.expressions.Arithmetic.{compared}
use Rattle.windows.specs.Linear.{segment_value, IsSum}
use Rattle.windows.specs.declared.segments.Segment.{Segment}
use Rattle.windows.specs.Crossing.{order_at, meets, JoinsWhere}
use Rattle.windows.specs.declared.crossing.Crossing.{Crossing}
use Rattle.windows.proofs.Clips.{clipped_to}

and_true : (b : Bool) → b ≡ (b && true)
and_true true = refl
and_true false = refl

or_none : (a b : Bool) → a ≡ (a || (b && false))
or_none true b = refl
or_none false true = refl
or_none false false = refl

pub joined_where : (old new : List Interval) (from to : ℕ) → from ≤ to → Joins old from to new → JoinsWhere old from to (λ t. true) new
joined_where old new from to span joins = record {
  times = λ t. joins.times t ∙ ap (λ b. contains old t || b) (and_true (covers (from, to) t));
  in_order = joins.in_order;
  start = omega (arith, joins.start);
}

pub joined_nowhere : (old : List Interval) (from to : ℕ) → last_start old ≤ from → from ≤ to → JoinsWhere old from to (λ t. false) old
joined_nowhere old from to order span = record {
  times = λ t. or_none (contains old t) (covers (from, to) t);
  in_order = λ reach before within. before;
  start = omega arith;
}

-- two pieces that follow on each other are one
pub joined_on : (old between new : List Interval) (from mid to : ℕ) (one two whole : ℕ → Bool) → from ≤ mid → mid ≤ to → JoinsWhere old from mid one between → JoinsWhere between mid to two new →
    ((t : ℕ) → from ≤ t → t < mid → one t ≡ whole t) → ((t : ℕ) → mid ≤ t → t < to → two t ≡ whole t) → JoinsWhere old from to whole new
joined_on old between new from mid to one two whole first second front back same_front same_back = record {
  times = λ t. back.times t ∙ (ap (λ b. b || (covers (mid, to) t && two t)) (front.times t) ∙ by_place t (nat_lt t mid) refl);
  in_order = λ reach before within. back.in_order reach (front.in_order reach before (omega arith)) within;
  start = back.start;
}
  where
    alike : (t : ℕ) → (nat_le from t && nat_lt t mid) ≡ true → one t ≡ whole t
    alike t e = same_front t (grind (arith, common_steps)) (grind (arith, common_steps))

    front_case : (t : ℕ) (a b c : Bool) → t < mid → nat_le from t ≡ c → ((contains old t || (covers (from, mid) t && one t)) || (covers (mid, to) t && two t)) ≡ (contains old t || (covers (from, to) t && whole t))
    front_case t a b true below e =
        let after : from ≤ t = grind arith in
        let same = same_front t after below in
        grind (arith, common_steps)
    front_case t a b false below e = grind (arith, common_steps)

    back_case : (t : ℕ) (c : Bool) → mid ≤ t → nat_lt t to ≡ c → ((contains old t || (covers (from, mid) t && one t)) || (covers (mid, to) t && two t)) ≡ (contains old t || (covers (from, to) t && whole t))
    back_case t true after e =
        let below : t < to = grind arith in
        let same = same_back t after below in
        grind (arith, common_steps)
    back_case t false after e = grind (arith, common_steps)

    by_place : (t : ℕ) (b : Bool) → nat_lt t mid ≡ b → ((contains old t || (covers (from, mid) t && one t)) || (covers (mid, to) t && two t)) ≡ (contains old t || (covers (from, to) t && whole t))
    by_place t true e = front_case t true true (nat_le from t) (grind arith) refl
    by_place t false e = back_case t (nat_lt t to) (grind arith) refl

-- a comparison asks for an order
not_eq : (o : Ordering) → not (is_eq o) ≡ is_ne o
not_eq order.Less = refl
not_eq order.Equal = refl
not_eq order.Greater = refl

pub compared_meets : (how : Comparison) (left right : ℤ) → compared how left right ≡ meets how (int_cmp left right)
compared_meets Equal left right = refl
compared_meets Unequal left right = not_eq (int_cmp left right)
compared_meets Less left right = grind (arith, ints)
compared_meets AtMost left right = grind (arith, ints)
compared_meets More left right = grind (arith, ints)
compared_meets AtLeast left right = grind (arith, ints)

-- taken away on both sides
pub cmp_moved : (value line with : ℤ) → int_cmp (value +ℤ line) with ≡ int_cmp line (with -ℤ value)
cmp_moved value line with = sym (int_cmp_is (value +ℤ line) with (int_cmp line (with -ℤ value)) (moved (int_cmp line (with -ℤ value)) (int_ranks line (with -ℤ value))))
  where
    moved : (o : Ordering) → MatchOrdering o (line <ℤ (with -ℤ value)) (line ≡ with -ℤ value) ((with -ℤ value) <ℤ line) → MatchOrdering o ((value +ℤ line) <ℤ with) (value +ℤ line ≡ with) (with <ℤ (value +ℤ line))
    moved order.Less below = omega (arith, ints)
    moved order.Equal same = omega (arith, ints)
    moved order.Greater above = omega (arith, ints)

-- a segment's value compares so exactly where its line stands in such an order to the number without the value
value_order : (how : Comparison) (segment : Segment) (with : ℤ) (crossing : Crossing) (t : ℕ) → ((step : ℤ) → int_cmp (segment.rate *ℤ step) (with -ℤ segment.value) ≡ order_at crossing step) →
    compared how (segment_value segment t) with ≡ meets how (order_at crossing (pos (t - segment.from)))
value_order how segment with crossing t order =
    compared_meets how (segment_value segment t) with
    ∙ ap (meets how) (cmp_moved segment.value (segment.rate *ℤ pos (t - segment.from)) with ∙ order (pos (t - segment.from)))

at_before : (crossing : Crossing) (step : ℤ) → int_lt step crossing.at ≡ true → order_at crossing step ≡ crossing.before
at_before crossing step first = rw first refl

at_there : (crossing : Crossing) (step : ℤ) → int_lt step crossing.at ≡ false → int_lt crossing.at step ≡ false → order_at crossing step ≡ crossing.there
at_there crossing step first second = rw (first, second) refl

at_after : (crossing : Crossing) (step : ℤ) → int_lt step crossing.at ≡ false → int_lt crossing.at step ≡ true → order_at crossing step ≡ crossing.after
at_after crossing step first second = rw (first, second) refl

-- a time before the clipped one is before the number of steps, and one from there on is not
step_before : (from end t : ℕ) (at : ℤ) → from ≤ t → t < end → t < clipped from end (pos from +ℤ at) → int_lt (pos (t - from)) at ≡ true
step_before from end t at after below first =
    let same = clipped_to from end (pos from +ℤ at) t after below in
    let early : nat_lt t (clipped from end (pos from +ℤ at)) ≡ true = grind (arith, common_steps) in
    let lower : int_lt (pos t) (pos from +ℤ at) ≡ true = sym same ∙ early in
    let order : (pos t) <ℤ (pos from +ℤ at) = grind (arith, ints) in
    let step : (pos (t - from)) <ℤ at = omega (arith, ints) in
    grind (arith, ints)

step_from : (from end t : ℕ) (at : ℤ) → from ≤ t → t < end → clipped from end (pos from +ℤ at) ≤ t → int_lt (pos (t - from)) at ≡ false
step_from from end t at after below first =
    let same = clipped_to from end (pos from +ℤ at) t after below in
    let late : nat_lt t (clipped from end (pos from +ℤ at)) ≡ false = grind (arith, common_steps) in
    let not_lower : int_lt (pos t) (pos from +ℤ at) ≡ false = sym same ∙ late in
    let order : (pos from +ℤ at) ≤ℤ (pos t) = grind (arith, ints) in
    let step : at ≤ℤ (pos (t - from)) = omega (arith, ints) in
    grind (arith, ints)

not_past : (at step : ℤ) → int_lt step (at +ℤ pos 1) ≡ true → int_lt at step ≡ false
not_past at step first =
    let order : step <ℤ (at +ℤ pos 1) = grind (arith, ints) in
    let within : step ≤ℤ at = omega (arith, ints) in
    grind (arith, ints)

is_past : (at step : ℤ) → int_lt step (at +ℤ pos 1) ≡ false → int_lt at step ≡ true
is_past at step first =
    let order : (at +ℤ pos 1) ≤ℤ step = grind (arith, ints) in
    let past : at <ℤ step = omega (arith, ints) in
    grind (arith, ints)

not_before : (at step : ℤ) → int_lt at step ≡ true → int_lt step at ≡ false
not_before at step past =
    let order : at <ℤ step = grind (arith, ints) in
    let within : at ≤ℤ step = omega (arith, ints) in
    grind (arith, ints)

-- the value at its start is the segment's own, so it is in range
pub start_in_range : (segment : Segment) (end : ℕ) → segment.from < end → ((t : ℕ) → segment.from ≤ t → t < end → IsSum (segment_value segment t)) → IsSum segment.value
start_in_range segment end some_time values =
    let small = values segment.from (omega arith) some_time in
    let none : segment.from - segment.from ≡ 0 = omega arith in
    let still : segment.rate *ℤ pos (segment.from - segment.from) ≡ pos 0 = ap (λ n. segment.rate *ℤ pos n) none ∙ *ℤ-zero segment.rate in
    let same : segment_value segment segment.from ≡ segment.value = ap (λ z. segment.value +ℤ z) still ∙ omega (arith, ints) in
    rw same at small

pub segment_pieces : (how : Comparison) (segment : Segment) (with : ℤ) (crossing : Crossing) (end there after : ℕ) (old one two new : List Interval) → segment.from < end →
    ((step : ℤ) → int_cmp (segment.rate *ℤ step) (with -ℤ segment.value) ≡ order_at crossing step) →
    there ≡ clipped segment.from end (pos segment.from +ℤ crossing.at) → after ≡ clipped segment.from end (pos segment.from +ℤ (crossing.at +ℤ pos 1)) →
    segment.from ≤ there → there ≤ after → after ≤ end →
    JoinsWhere old segment.from there (λ t. meets how crossing.before) one → JoinsWhere one there after (λ t. meets how crossing.there) two → JoinsWhere two after end (λ t. meets how crossing.after) new →
    JoinsWhere old segment.from end (λ t. compared how (segment_value segment t) with) new
segment_pieces how segment with crossing end there after old one two new some_time order there_is after_is first second third joins_one joins_two joins_three =
    joined_on old one new segment.from there end (λ t. meets how crossing.before) (λ t. compared how (segment_value segment t) with) (λ t. compared how (segment_value segment t) with) first (omega arith) joins_one
    (joined_on one two new there after end (λ t. meets how crossing.there) (λ t. meets how crossing.after) (λ t. compared how (segment_value segment t) with) second third joins_two joins_three at_meeting past_it)
    before_it (λ t from below. refl)
  where
    before_it : (t : ℕ) → segment.from ≤ t → t < there → meets how crossing.before ≡ compared how (segment_value segment t) with
    before_it t from below =
        let step = step_before segment.from end t crossing.at from (omega arith) (rw (← there_is) below) in
        sym (value_order how segment with crossing t order ∙ ap (meets how) (at_before crossing (pos (t - segment.from)) step))

    at_meeting : (t : ℕ) → there ≤ t → t < after → meets how crossing.there ≡ compared how (segment_value segment t) with
    at_meeting t from below =
        let step = step_from segment.from end t crossing.at (omega arith) (omega arith) (rw (← there_is) from) in
        let next = step_before segment.from end t (crossing.at +ℤ pos 1) (omega arith) (omega arith) (rw (← after_is) below) in
        sym (value_order how segment with crossing t order ∙ ap (meets how) (at_there crossing (pos (t - segment.from)) step (not_past crossing.at (pos (t - segment.from)) next)))

    past_it : (t : ℕ) → after ≤ t → t < end → meets how crossing.after ≡ compared how (segment_value segment t) with
    past_it t from below =
        let next = step_from segment.from end t (crossing.at +ℤ pos 1) (omega arith) below (rw (← after_is) from) in
        let past = is_past crossing.at (pos (t - segment.from)) next in
        sym (value_order how segment with crossing t order ∙ ap (meets how) (at_after crossing (pos (t - segment.from)) (not_before crossing.at (pos (t - segment.from)) past) past))
