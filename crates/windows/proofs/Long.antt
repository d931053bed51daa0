-- Intervals that are kept where they are long.
use Rattle.std.proofs.Common.{◌≡◌, ℕ, ◌+◌, ◌-◌, ◌<◌, ◌≤◌, Bool, true, false, ◌&&◌, ◌||◌, List, [], ◌∷◌, length, drop, get_or, ap, ◌∙◌, arith, nat_le}
use Rattle.windows.specs.Times.{Interval, covers, long_contains, InOrder}
use Rattle.windows.specs.Joining.{last_start, Joins}
use Rattle.windows.specs.OrderLaws.{order_from}
use Rattle.windows.proofs.Both.{cut_at}
use Rattle.windows.proofs.Builds.{Builds, builds_none, builds_more, builds_same}

pub record Keeps (reach least : ℕ) (made rest : List Interval) (whole : ℕ → Bool) : Type 0 where
  pub builds : Builds reach made (long_contains least rest) whole
  pub order : InOrder reach (last_start made) rest

pub keeps_none : (reach least : ℕ) (whole : List Interval) → InOrder reach 0 whole → Keeps reach least [] whole (λ t. long_contains least whole t)
keeps_none reach least whole order = record { builds = builds_none reach (long_contains least whole); order = order }

-- the next one may be put in
pub keeps_next : (reach least i : ℕ) (made whole : List Interval) (first : Interval) (times : ℕ → Bool) → i < length whole → first ≡ get_or whole i first →
    Keeps reach least made (drop i whole) times → (last_start made ≤ first.0) × (first.0 ≤ first.1)
keeps_next reach least i made whole first times within is before =
    let order : InOrder reach (last_start made) (first ∷ drop (i + 1) whole) = rw (cut_at whole i first within is) at before.order in
    (order.0, omega (arith, order.1))

pub keeps_more : (reach least i : ℕ) (made new whole : List Interval) (first : Interval) (times : ℕ → Bool) → i < length whole → first ≡ get_or whole i first → nat_le least (first.1 - first.0) ≡ true →
    Keeps reach least made (drop i whole) times → Joins made first.0 first.1 new → Keeps reach least new (drop (i + 1) whole) times
keeps_more reach least i made new whole first times within is long before joins =
    let cut = cut_at whole i first within is in
    let order : InOrder reach (last_start made) (first ∷ drop (i + 1) whole) = rw cut at before.order in
    record {
      builds = builds_more reach made new (long_contains least (drop i whole)) (long_contains least (drop (i + 1) whole)) times first.0 first.1 before.builds joins order.2
          (λ t below. ap (λ (l : List Interval). long_contains least l t) cut ∙ ap (λ b. (b && covers first t) || long_contains least (drop (i + 1) whole) t) long);
      order = order_from reach (first.1 + 1) (last_start new) (drop (i + 1) whole) (omega (arith, joins.start, order.1)) order.3;
    }

pub keeps_passed : (reach least i : ℕ) (made whole : List Interval) (first : Interval) (times : ℕ → Bool) → i < length whole → first ≡ get_or whole i first → nat_le least (first.1 - first.0) ≡ false →
    Keeps reach least made (drop i whole) times → Keeps reach least made (drop (i + 1) whole) times
keeps_passed reach least i made whole first times within is short before =
    let cut = cut_at whole i first within is in
    let order : InOrder reach (last_start made) (first ∷ drop (i + 1) whole) = rw cut at before.order in
    record {
      builds = builds_same reach made (long_contains least (drop i whole)) (long_contains least (drop (i + 1) whole)) times before.builds
          (λ t below. ap (λ (l : List Interval). long_contains least l t) cut ∙ ap (λ b. (b && covers first t) || long_contains least (drop (i + 1) whole) t) short);
      order = order_from reach (first.1 + 1) (last_start made) (drop (i + 1) whole) (omega (arith, order.0, order.1)) order.3;
    }
