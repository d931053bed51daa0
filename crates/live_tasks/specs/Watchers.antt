-- Who watches which cell.
use Rattle.std.specs.Prelude.{◌≡◌, ◌⊎◌, ℕ, ◌<◌, Bool, true, List, [], ◌∷◌, length, slice_index_or}
use Rattle.live_tasks.specs.declared.wake_times.Watcher.{Watcher}

abbrev pub IsWatcherAmong : Watcher → List Watcher → Type 0
IsWatcherAmong watcher [] = ⊥
IsWatcherAmong watcher (first ∷ rest) = (watcher ≡ first) ⊎ IsWatcherAmong watcher rest

-- those who watch a cell
abbrev pub watchers_of : List (List Watcher) → ℕ → List Watcher
watchers_of watchers cell = slice_index_or watchers cell []

-- a watcher stands among those of each cell that passes a test
abbrev pub Watches : (ℕ → Bool) → Watcher → List (List Watcher) → Type 0
Watches test watcher watchers = (cell : ℕ) → test cell ≡ true → cell < length watchers → IsWatcherAmong watcher (watchers_of watchers cell)

-- it does from now on, and all others that did do
pub record WatchesToo (test : ℕ → Bool) (watcher : Watcher) (old new : List (List Watcher)) : Type 0 where
  pub long : length new ≡ length old
  pub stays : (cell : ℕ) (other : Watcher) → IsWatcherAmong other (watchers_of old cell) → IsWatcherAmong other (watchers_of new cell)
  pub watches : Watches test watcher new
