-- Sets of times, by what tells for each time below the reach whether it is one of them.
use Rattle.std.specs.Prelude.{ℕ, ℤ, Bool}
use Rattle.windows.specs.Times.{TimeSet, AreIntervals, long_contains, shifted_contains}
use Rattle.windows.specs.Intervals.{intervals_of}

-- these are the times below its reach for which the test is true, as maximal intervals
abbrev pub HasTimes : (ℕ → Bool) → TimeSet → Type 0
HasTimes test made = AreIntervals made.reach test made.intervals

-- those maximal intervals of a part that last at least so long
abbrev pub HasLonger : ℕ → TimeSet → TimeSet → Type 0
HasLonger least part made =
    (test : ℕ → Bool) → AreIntervals part.reach test part.intervals → HasTimes (λ t. long_contains least (intervals_of part.reach test) t) made

-- the maximal intervals of a part, their starts and their ends moved
abbrev pub HasShifted : ℤ → ℤ → TimeSet → TimeSet → Type 0
HasShifted start end part made =
    (test : ℕ → Bool) → AreIntervals part.reach test part.intervals → HasTimes (λ t. shifted_contains start end (intervals_of part.reach test) t) made
