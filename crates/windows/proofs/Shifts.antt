-- Intervals moved one after another.
use Rattle.std.proofs.Common.{◌≡◌, ℕ, ◌+◌, ◌<◌, ◌≤◌, Bool, ◌||◌, ℤ, pos, ◌+ℤ◌, List, [], ◌∷◌, length, drop, get_or, refl, ap, ◌∙◌, arith}
use Rattle.std.proofs.lemmas.Int.{ints}
use Rattle.windows.specs.Ends.{clipped}
use Rattle.windows.specs.Times.{Interval, covers, shifted_contains, InOrder}
use Rattle.windows.specs.Joining.{last_start, Joins}
use Rattle.windows.specs.OrderLaws.{order_from}
use Rattle.windows.proofs.Both.{cut_at}
use Rattle.windows.proofs.Builds.{Builds, builds_none, builds_more}
use Rattle.windows.proofs.Clips.{clipped_from, clipped_to, clipped_within, clipped_order}

-- where the start of an interval comes to lie
abbrev pub moved_to : ℕ → ℤ → ℕ → ℕ
moved_to reach by time = clipped 0 reach (pos time +ℤ by)

-- the first of them, moved, begins no earlier than the last one that was put in
abbrev pub BeginsBehind : ℕ → ℤ → List Interval → List Interval → Type 0
BeginsBehind reach start made [] = Unit {0}
BeginsBehind reach start made (first ∷ rest) = last_start made ≤ moved_to reach start first.0

pub record Shifts (reach : ℕ) (start end : ℤ) (made rest : List Interval) (whole : ℕ → Bool) : Type 0 where
  pub builds : Builds reach made (shifted_contains start end rest) whole
  pub order : InOrder reach 0 rest
  pub behind : BeginsBehind reach start made rest

none_behind : (reach : ℕ) (start : ℤ) (rest : List Interval) → BeginsBehind reach start [] rest
none_behind reach start [] = tt
none_behind reach start (first ∷ rest) = omega arith

pub shifts_none : (reach : ℕ) (start end : ℤ) (whole : List Interval) → InOrder reach 0 whole → Shifts reach start end [] whole (λ t. shifted_contains start end whole t)
shifts_none reach start end whole order = record {
  builds = builds_none reach (shifted_contains start end whole);
  order = order;
  behind = none_behind reach start whole;
}

split : (reach : ℕ) (start end : ℤ) (first : Interval) (rest : List Interval) (t : ℕ) → t < reach →
    shifted_contains start end (first ∷ rest) t ≡ (covers (moved_to reach start first.0, moved_to reach end first.1) t || shifted_contains start end rest t)
split reach start end first rest t below =
    rw (clipped_from 0 reach (pos first.0 +ℤ start) t (omega arith) below, clipped_to 0 reach (pos first.1 +ℤ end) t (omega arith) below) refl

more_behind : (reach : ℕ) (start : ℤ) (first : Interval) (rest new : List Interval) → InOrder reach 0 (first ∷ rest) → last_start new ≤ moved_to reach start first.0 → BeginsBehind reach start new rest
more_behind reach start first [] new order begins = tt
more_behind reach start first (next ∷ rest) new order begins =
    let later = clipped_order 0 reach (pos first.0 +ℤ start) (pos next.0 +ℤ start) (omega arith) (let a = order.1 in let b = order.3.0 in omega (arith, ints)) in
    omega arith

pub shifts_more : (reach i : ℕ) (start end : ℤ) (made new whole : List Interval) (first : Interval) (times : ℕ → Bool) → i < length whole → first ≡ get_or whole i first →
    Shifts reach start end made (drop i whole) times → Joins made (moved_to reach start first.0) (moved_to reach end first.1) new → Shifts reach start end new (drop (i + 1) whole) times
shifts_more reach i start end made new whole first times within is before joins =
    let cut = cut_at whole i first within is in
    let order : InOrder reach 0 (first ∷ drop (i + 1) whole) = rw cut at before.order in
    record {
      builds = builds_more reach made new (shifted_contains start end (drop i whole)) (shifted_contains start end (drop (i + 1) whole)) times (moved_to reach start first.0) (moved_to reach end first.1) before.builds joins
          (clipped_within 0 reach (pos first.1 +ℤ end) (omega arith))
          (λ t below. ap (λ (l : List Interval). shifted_contains start end l t) cut ∙ split reach start end first (drop (i + 1) whole) t below);
      order = order_from reach (first.1 + 1) 0 (drop (i + 1) whole) (omega arith) order.3;
      behind = more_behind reach start first (drop (i + 1) whole) new order joins.start;
    }

-- the next one may be put in
pub shifts_next : (reach i : ℕ) (start end : ℤ) (made whole : List Interval) (first : Interval) (times : ℕ → Bool) → i < length whole → first ≡ get_or whole i first →
    Shifts reach start end made (drop i whole) times → last_start made ≤ moved_to reach start first.0
shifts_next reach i start end made whole first times within is before =
    let behind : BeginsBehind reach start made (first ∷ drop (i + 1) whole) = rw (cut_at whole i first within is) at before.behind in behind
