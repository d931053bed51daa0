-- Worked cases: of three numbers one waits until a time, one does not wait, and one waits for a time that is to be found.
use Rattle.std.specs.Prelude.{◌≡◌, true, List, [], ◌∷◌, Option, Some, None, refl}
use Rattle.std.specs.List.{filter}
use Rattle.aerie_base.specs.conditions.Holding.{holds}
use Rattle.effect_cells.specs.WakeTimes.{filling, ten_are_there}
use Rattle.live_tasks.specs.declared.wake_times.Wake.TheVariants.{Stale, At}
use Rattle.live_tasks.specs.declared.wake_times.Wait.{Wait}
use Rattle.live_tasks.specs.declared.wake_times.Watcher.{Watcher}
use Rattle.live_tasks.specs.Conditions.{wake_for}
use Rattle.live_tasks.specs.WakeTimes.{numbered_wait, kept_time, is_stale, found_if, is_current}

-- ---- when a task wakes

pub four_microseconds_later : wake_for 100 200 filling (Some ten_are_there) ≡ Some 104
unfolding holds
four_microseconds_later = refl

pub not_before_a_nearer_horizon : wake_for 100 104 filling (Some ten_are_there) ≡ None
unfolding holds
not_before_a_nearer_horizon = refl

-- ---- what is kept of it

abbrev pub three_waits : List (Option Wait)
three_waits = Some (record { since = 3; wake = At 104 }) ∷ None ∷ Some (record { since = 5; wake = Stale }) ∷ []

pub a_time_is_kept : kept_time (numbered_wait three_waits 0) ≡ Some 104
a_time_is_kept = refl

pub the_third_is_to_be_found : is_stale (numbered_wait three_waits 2) ≡ true
the_third_is_to_be_found = refl

pub once_found_it_is_kept : found_if (Some 110) (record { since = 5; wake = Stale }) ≡ record { since = 5; wake = At 110 }
once_found_it_is_kept = refl

pub what_is_kept_is_left : found_if (Some 110) (record { since = 3; wake = At 104 }) ≡ record { since = 3; wake = At 104 }
what_is_kept_is_left = refl

-- ---- who watches a cell

abbrev pub since_three : Watcher
since_three = record { number = 0; since = 3 }

-- of an earlier task with the same number
abbrev pub since_two : Watcher
since_two = record { number = 0; since = 2 }

-- of a number that waits no more
abbrev pub since_one : Watcher
since_one = record { number = 1; since = 1 }

pub who_waits_still_is_left : filter (is_current three_waits) (since_one ∷ since_two ∷ since_three ∷ []) ≡ since_three ∷ []
who_waits_still_is_left = refl
