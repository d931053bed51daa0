-- Waits by number: who waits, since when, and when it wakes.
use Rattle.std.specs.Prelude.{◌≡◌, ◌≢◌, ◌⊎◌, ℕ, ◌&&◌, ◌||◌, Bool, true, false, not, nat_eq, List, ◌∷◌, Option, Some, None, option_map, slice_index_or, if◌then◌else◌}
use Rattle.std.specs.Ordering.{nat_cmp, ordering_then}
use Rattle.std.specs.declared.cmp.Ordering.{Ordering}
use Rattle.std.specs.BTreeSet as set
use Rattle.std.specs.BTreeSet.{BTreeSet}
use Rattle.live_tasks.specs.declared.wake_times.Wake.{Wake}
use Rattle.live_tasks.specs.declared.wake_times.Wake.TheVariants.{Stale, Never, At}
use Rattle.live_tasks.specs.declared.wake_times.Wait.{Wait}
use Rattle.live_tasks.specs.declared.wake_times.Watcher.{Watcher}
use Rattle.live_tasks.specs.declared.wake_times.WakeTimes.{WakeTimes}
use Rattle.live_tasks.specs.Endings.{IsNumberAmong}
use Rattle.live_tasks.specs.Listing.{ends_at}

-- ---- one wait

abbrev pub numbered_wait : List (Option Wait) → ℕ → Option Wait
numbered_wait waits number = slice_index_or waits number None

abbrev pub time_of_wake : Wake → Option ℕ
time_of_wake Stale = None
time_of_wake Never = None
time_of_wake (At time) = Some time

-- the wake time that is kept
abbrev pub kept_time : Option Wait → Option ℕ
kept_time None = None
kept_time (Some wait) = time_of_wake wait.wake

abbrev pub is_stale_wake : Wake → Bool
is_stale_wake Stale = true
is_stale_wake Never = false
is_stale_wake (At time) = false

-- whether a wake time is to be found anew
abbrev pub is_stale : Option Wait → Bool
is_stale None = false
is_stale (Some wait) = is_stale_wake wait.wake

-- a wake time that was found
abbrev pub found_wake : Option ℕ → Wake
found_wake None = Never
found_wake (Some time) = At time

abbrev pub with_wake : Wake → Wait → Wait
with_wake wake wait = record wait { wake = wake }

-- the wait with the wake time that was found, where it was to be found
abbrev pub found_if : Option ℕ → Wait → Wait
found_if time wait = if is_stale_wake wait.wake then with_wake (found_wake time) wait else wait

-- ---- the set of wake times

-- by time, and by number where the times are the same
abbrev pub wake_cmp : ℕ × ℕ → ℕ × ℕ → Ordering
wake_cmp x y = ordering_then (nat_cmp x.0 y.0) (nat_cmp x.1 y.1)

-- whether a wake time stands there with a number
abbrev pub has_wake : BTreeSet (ℕ × ℕ) → ℕ → ℕ → Bool
has_wake wakes time number = set.contains wake_cmp wakes (time, number)

-- a change leaves it in order
abbrev pub KeepsSorted : BTreeSet (ℕ × ℕ) → BTreeSet (ℕ × ℕ) → Type 0
KeepsSorted before after = set.IsOrdered wake_cmp before → set.IsOrdered wake_cmp after

-- with the wake time of a number, if it has one
abbrev pub HasWakeToo : ℕ → Option ℕ → BTreeSet (ℕ × ℕ) → BTreeSet (ℕ × ℕ) → Type 0
HasWakeToo number time before after =
    (t n : ℕ) → has_wake after t n ≡ (has_wake before t n || (nat_eq number n && ends_at t time))

-- without it
abbrev pub HasWakeNoMore : ℕ → Option ℕ → BTreeSet (ℕ × ℕ) → BTreeSet (ℕ × ℕ) → Type 0
HasWakeNoMore number time before after =
    (t n : ℕ) → has_wake after t n ≡ (has_wake before t n && not (nat_eq number n && ends_at t time))

-- ---- all of them

-- a wait stands at a number now, and at the others what stood there
pub record WaitBecomes (old new : List (Option Wait)) (number : ℕ) (found : Option Wait) : Type 0 where
  pub is_there : numbered_wait new number ≡ found
  pub others : (other : ℕ) → other ≢ number → numbered_wait new other ≡ numbered_wait old other

-- each kept wake time stands in the set with its number, and nothing else does; whose wake time is stale is among these numbers
pub record AreWakes (waits : List (Option Wait)) (wakes : BTreeSet (ℕ × ℕ)) (stale : List ℕ) : Type 0 where
  pub sorted : set.IsOrdered wake_cmp wakes
  pub exact : (time number : ℕ) → has_wake wakes time number ≡ ends_at time (kept_time (numbered_wait waits number))
  pub stale_ : (number : ℕ) → is_stale (numbered_wait waits number) ≡ true → IsNumberAmong number stale

abbrev pub AreWakesOf : WakeTimes → Type 0
AreWakesOf times = AreWakes times.by_number.items times.wakes times.stale.items

-- the same while one more number is to be found anew
abbrev pub AreWakesBut : ℕ → WakeTimes → Type 0
AreWakesBut number times = AreWakes times.by_number.items times.wakes (number ∷ times.stale.items)

-- ---- who waits since when

abbrev pub began_at : ℕ → Option Wait → Bool
began_at since None = false
began_at since (Some wait) = nat_eq wait.since since

-- whether a watcher still waits as it did when it began to watch
abbrev pub is_current : List (Option Wait) → Watcher → Bool
is_current waits watcher = began_at watcher.since (numbered_wait waits watcher.number)

-- each waits as it did, but its wake time may be stale now
abbrev pub MayGoStale : List (Option Wait) → List (Option Wait) → Type 0
MayGoStale old new =
    (number : ℕ) → (numbered_wait new number ≡ numbered_wait old number) ⊎ (numbered_wait new number ≡ option_map (with_wake Stale) (numbered_wait old number))
