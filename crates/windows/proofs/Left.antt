-- The times that intervals in order leave out.
use Rattle.std.proofs.Common.{◌≡◌, ℕ, ◌+◌, ◌<◌, ◌≤◌, Bool, true, false, not, ◌&&◌, ◌||◌, List, [], ◌∷◌, length, drop, get_or, refl, ap, ◌∙◌, arith, add-one, nat_le, nat_lt}
use Rattle.std.proofs.Math.Seq.{drop-cons}
use Rattle.std.proofs.lemmas.Grind.{common_steps}
use Rattle.windows.specs.Times.{Interval, covers, contains, InOrder, AreIntervals}
use Rattle.windows.specs.Joining.{last_start, Joins}
use Rattle.windows.specs.OrderLaws.{none_before, order_from}
use Rattle.windows.proofs.Builds.{Builds, builds_more, builds_all}

-- the times from `from` on that the intervals leave out
abbrev pub left_out : ℕ → List Interval → ℕ → Bool
left_out from intervals t = nat_le from t && not (contains intervals t)

-- up to the first interval, and past it
left_out_split : (reach from : ℕ) (first : Interval) (rest : List Interval) (t : ℕ) → InOrder reach from (first ∷ rest) →
    left_out from (first ∷ rest) t ≡ (covers (from, first.0) t || left_out first.1 rest t)
left_out_split reach from first rest t order = by_end (nat_lt t (first.1 + 1)) refl
  where
    by_end : (b : Bool) → nat_lt t (first.1 + 1) ≡ b → left_out from (first ∷ rest) t ≡ (covers (from, first.0) t || left_out first.1 rest t)
    by_end true e =
        let below : t < first.1 + 1 = grind arith in
        let none : contains rest t ≡ false = none_before reach (first.1 + 1) rest t order.3 below in
        let a : from ≤ first.0 = order.0 in
        let b : first.0 < first.1 = order.1 in
        grind (arith, common_steps)
    by_end false e =
        let past : first.1 + 1 ≤ t = grind arith in
        let a : from ≤ first.0 = order.0 in
        let b : first.0 < first.1 = order.1 in
        grind (arith, common_steps)

-- what a loop that passes the intervals keeps
pub record Passes (reach from : ℕ) (made rest whole : List Interval) : Type 0 where
  pub builds : Builds reach made (left_out from rest) (λ t. not (contains whole t))
  pub order : InOrder reach from rest
  pub start : last_start made ≤ from

pub passes_none : (reach : ℕ) (whole : List Interval) → InOrder reach 0 whole → Passes reach 0 [] whole whole
passes_none reach whole order = record {
  builds = record { in_order = tt; times = λ t below. grind (arith, common_steps) };
  order = order;
  start = omega arith;
}

pub passes_more : (reach from i : ℕ) (made new whole : List Interval) (first : Interval) → i < length whole → first ≡ get_or whole i first →
    Passes reach from made (drop i whole) whole → Joins made from first.0 new → Passes reach first.1 new (drop (i + 1) whole) whole
passes_more reach from i made new whole first within is before joins =
    let cut : drop i whole ≡ first ∷ drop (i + 1) whole = rw (add-one, is) (drop-cons whole i first within) in
    let order : InOrder reach from (first ∷ drop (i + 1) whole) = rw cut at before.order in
    record {
      builds = builds_more reach made new (left_out from (drop i whole)) (left_out first.1 (drop (i + 1) whole)) (λ t. not (contains whole t)) from first.0 before.builds joins (omega (arith, order.1, order.2))
          (λ t below. ap (λ (l : List Interval). left_out from l t) cut ∙ left_out_split reach from first (drop (i + 1) whole) t order);
      order = order_from reach (first.1 + 1) first.1 (drop (i + 1) whole) (omega arith) order.3;
      start = omega (arith, joins.start, order.0, order.1);
    }

pub passes_all : (reach from i : ℕ) (made new whole : List Interval) → drop i whole ≡ [] → Passes reach from made (drop i whole) whole → Joins made from reach new → AreIntervals reach (λ t. not (contains whole t)) new
passes_all reach from i made new whole none before joins =
    builds_all reach new (λ t. false) (λ t. not (contains whole t))
    (builds_more reach made new (left_out from (drop i whole)) (λ t. false) (λ t. not (contains whole t)) from reach before.builds joins (omega arith)
    (λ t below. ap (λ (l : List Interval). left_out from l t) none ∙ last t below))
    (λ t below. refl)
  where
    last : (t : ℕ) → t < reach → left_out from [] t ≡ (covers (from, reach) t || false)
    last t below = grind (arith, common_steps)
