use Rattle.std.proofs.Common.{take}
use Rattle.std.proofs.lemmas.List.Filters.{FiltersInPlace}
use Rattle.live_tasks.specs.WakeTimes.{is_current, MayGoStale, AreWakesOf}
use Rattle.live_tasks.proofs.Watching.{GoneStale}
use Rattle.live_tasks.proofs.watchers.touch_all.Given as goal

abbrev pub invariant-loop-at : goal.invariant-loop-at
invariant-loop-at l =
    FiltersInPlace (is_current l.initial.times.by_number.items) l.initial.watchers-inside.items.items l.watchers-inside.items.items l.kept l.at
    × MayGoStale l.initial.times.by_number.items l.times.by_number.items
    × GoneStale l.initial.times.by_number.items l.times.by_number.items (take l.at l.initial.watchers-inside.items.items)
    × (AreWakesOf l.initial.times → AreWakesOf l.times)
