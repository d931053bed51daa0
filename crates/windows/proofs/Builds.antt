-- Intervals that are put together, and the times that are still to come.
use Rattle.std.proofs.Common.{◌≡◌, ℕ, ◌<◌, ◌≤◌, Bool, true, false, ◌||◌, List, [], refl, sym, ap, ◌∙◌}
use Rattle.windows.specs.Times.{Interval, covers, contains, InOrder, AreIntervals}
use Rattle.windows.specs.Joining.{Joins}

-- with the times that are still to come they have just the times of the whole
pub record Builds (reach : ℕ) (made : List Interval) (rest whole : ℕ → Bool) : Type 0 where
  pub in_order : InOrder reach 0 made
  pub times : (t : ℕ) → t < reach → (contains made t || rest t) ≡ whole t

or_assoc : (a b c : Bool) → ((a || b) || c) ≡ (a || (b || c))
or_assoc true b c = refl
or_assoc false b c = refl

or_none : (a b : Bool) → b ≡ false → a ≡ (a || b)
or_none true b none = refl
or_none false b none = sym none

pub builds_none : (reach : ℕ) (rest : ℕ → Bool) → Builds reach [] rest rest
builds_none reach rest = record { in_order = tt; times = λ t below. refl }

pub builds_more : (reach : ℕ) (made new : List Interval) (rest others whole : ℕ → Bool) (from to : ℕ) → Builds reach made rest whole → Joins made from to new → to ≤ reach →
    ((t : ℕ) → t < reach → rest t ≡ (covers (from, to) t || others t)) → Builds reach new others whole
builds_more reach made new rest others whole from to before joins within split = record {
  in_order = joins.in_order reach before.in_order within;
  times = λ t below.
      ap (λ b. b || others t) (joins.times t)
      ∙ (or_assoc (contains made t) (covers (from, to) t) (others t)
      ∙ (ap (λ b. contains made t || b) (sym (split t below)) ∙ before.times t below));
}

pub builds_same : (reach : ℕ) (made : List Interval) (rest others whole : ℕ → Bool) → Builds reach made rest whole → ((t : ℕ) → t < reach → rest t ≡ others t) → Builds reach made others whole
builds_same reach made rest others whole before same = record {
  in_order = before.in_order;
  times = λ t below. ap (λ b. contains made t || b) (sym (same t below)) ∙ before.times t below;
}

pub builds_all : (reach : ℕ) (made : List Interval) (rest whole : ℕ → Bool) → Builds reach made rest whole → ((t : ℕ) → t < reach → rest t ≡ false) → AreIntervals reach whole made
builds_all reach made rest whole before none = record {
  in_order = before.in_order;
  times = λ t below. or_none (contains made t) (rest t) (none t below) ∙ before.times t below;
}
