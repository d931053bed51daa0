-- Long and moved intervals of a list that has a test's times are those of the test.
use Rattle.std.proofs.Common.{◌≡◌, ℕ, ℤ, Bool, List, subst}
use Rattle.windows.specs.Times.{Interval, AreIntervals, shifted_contains, long_contains}
use Rattle.windows.specs.Intervals.{intervals_of}
use Rattle.windows.specs.IntervalLaws.{is_the_list}

pub long_kept : (reach made_reach least : ℕ) (inner made : List Interval) → AreIntervals made_reach (λ t. long_contains least inner t) made →
    (test : ℕ → Bool) → AreIntervals reach test inner → AreIntervals made_reach (λ t. long_contains least (intervals_of reach test) t) made
long_kept reach made_reach least inner made long test are =
    subst (λ (l : List Interval). AreIntervals made_reach (λ t. long_contains least l t) made) (is_the_list reach test inner are) long

pub shift_kept : (reach made_reach : ℕ) (start end s e : ℤ) (inner made : List Interval) → s ≡ start → e ≡ end → AreIntervals made_reach (λ t. shifted_contains s e inner t) made →
    (test : ℕ → Bool) → AreIntervals reach test inner → AreIntervals made_reach (λ t. shifted_contains start end (intervals_of reach test) t) made
shift_kept reach made_reach start end s e inner made start_is end_is shifted test are =
    subst (λ (f : ℕ → Bool). AreIntervals made_reach f made) (λ i t. shifted_contains (start_is i) (end_is i) (is_the_list reach test inner are i) t) shifted
