-- What is kept of waiting tasks: their wake times, and who watches which cell.
use Rattle.std.specs.Prelude.{◌≡◌, ℕ, true, false, List, [], length, Option, Some, None, is_some}
use Rattle.aerie_base.specs.declared.conditions.Cond.{Cond}
use Rattle.effect_cells.specs.declared.effects.CellState.{CellState}
use Rattle.effect_cells.specs.ReadCells.{reads_cell}
use Rattle.effect_cells.specs.TouchedCells.{is_cell_among}
use Rattle.live_tasks.specs.declared.wake_times.Wait.{Wait}
use Rattle.live_tasks.specs.declared.wake_times.Wake.TheVariants.{Stale}
use Rattle.live_tasks.specs.declared.wake_times.Watcher.{Watcher}
use Rattle.live_tasks.specs.declared.waits.Waits.{Waits}
use Rattle.live_tasks.specs.Conditions.{wake_for}
use Rattle.live_tasks.specs.WakeTimes.{numbered_wait, kept_time, is_stale, WaitBecomes, AreWakesOf, is_current, MayGoStale}
use Rattle.live_tasks.specs.Watchers.{IsWatcherAmong, watchers_of, Watches, WatchesToo}

-- the wait of a number
abbrev pub wait_of : Waits → ℕ → Option Wait
wait_of waits number = numbered_wait waits.times.by_number.items number

abbrev pub watcher_of : ℕ → Wait → Watcher
watcher_of number wait = record { number = number; since = wait.since }

-- Of tasks by number that wait for these conditions: who waits has a wait here, and nobody else. The wake time of each is right,
-- unless it is to be found anew, and each watches the cells that its condition reads.
pub record IsKept (now horizon : ℕ) (cells : List CellState) (conditions : ℕ → Option Cond) (waits : Waits) : Type 0 where
  pub times : AreWakesOf waits.times
  pub who : (number : ℕ) → is_some (wait_of waits number) ≡ is_some (conditions number)
  pub right : (number : ℕ) → is_stale (wait_of waits number) ≡ false → kept_time (wait_of waits number) ≡ wake_for now horizon cells (conditions number)
  pub watched : (number : ℕ) (wait : Wait) (condition : Cond) → wait_of waits number ≡ Some wait → conditions number ≡ Some condition →
      Watches (reads_cell condition) (watcher_of number wait) waits.watchers
  pub by_cell : length waits.watchers ≡ length cells

-- and none is to be found anew
pub record IsFound (now horizon : ℕ) (cells : List CellState) (conditions : ℕ → Option Cond) (waits : Waits) : Type 0 where
  pub kept : IsKept now horizon cells conditions waits
  pub none : waits.times.stale.items ≡ []

-- ---- changes

-- a number begins to wait for a condition
pub record BeginsWait (number : ℕ) (condition : Cond) (old new : Waits) : Type 0 where
  pub since : ℕ
  pub wait : WaitBecomes old.times.by_number.items new.times.by_number.items number (Some (record { since = since; wake = Stale }))
  pub times : wait_of old number ≡ None → AreWakesOf old.times → AreWakesOf new.times
  pub watches : WatchesToo (reads_cell condition) (record { number = number; since = since }) old.watchers new.watchers

-- it does, if there is a condition
abbrev pub BeginsWaitIfAny : ℕ → Option Cond → Waits → Waits → Type 0
BeginsWaitIfAny number None old new = new ≡ old
BeginsWaitIfAny number (Some condition) old new = BeginsWait number condition old new

-- a number, whose wake time is now, waits no more
pub record EndsWait (number : ℕ) (old new : Waits) : Type 0 where
  pub wait : WaitBecomes old.times.by_number.items new.times.by_number.items number None
  pub times : AreWakesOf old.times → AreWakesOf new.times
  pub stale : new.times.stale.items ≡ old.times.stale.items
  pub watchers : new.watchers ≡ old.watchers

-- some cells are touched: the wake times of those that watch one of them are to be found anew
pub record IsTouched (touched : List ℕ) (old new : Waits) : Type 0 where
  pub may : MayGoStale old.times.by_number.items new.times.by_number.items
  pub times : AreWakesOf old.times → AreWakesOf new.times
  pub long : length new.watchers ≡ length old.watchers
  pub stays : (cell : ℕ) (watcher : Watcher) → is_current old.times.by_number.items watcher ≡ true →
      IsWatcherAmong watcher (watchers_of old.watchers cell) → IsWatcherAmong watcher (watchers_of new.watchers cell)
  pub stale : (cell : ℕ) (watcher : Watcher) → is_cell_among cell touched ≡ true → is_current old.times.by_number.items watcher ≡ true →
      IsWatcherAmong watcher (watchers_of old.watchers cell) → is_stale (wait_of new watcher.number) ≡ true

-- wherever one is right, whatever the tasks, the other is
abbrev pub KeepsRight : Waits → Waits → Type 0
KeepsRight old new =
    (now horizon : ℕ) (cells : List CellState) (conditions : ℕ → Option Cond) → IsKept now horizon cells conditions old → IsKept now horizon cells conditions new
