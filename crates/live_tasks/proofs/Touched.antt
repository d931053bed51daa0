-- The watchers of some cells are touched, one cell after another.
use Rattle.std.proofs.Common.{◌≡◌, ◌≢◌, ◌⊎◌, inl, inr, ℕ, ◌+◌, ◌<◌, ◌≤◌, nat_eq, Bool, true, false, ◌||◌, List, [], ◌∷◌, ◌++◌, length, take, get_or, slice_set, refl, sym, ap, ◌∙◌, subst, arith}
use Rattle.std.proofs.lemmas.Bool.{false≢true}
use Rattle.std.proofs.lemmas.Bool.Decides.{nat_tests}
use Rattle.std.proofs.lemmas.List.{take_more, take_all, get_or_past}
use Rattle.std.specs.List.{filter}
use Rattle.effect_cells.specs.TouchedCells.{is_cell_among}
use Rattle.live_tasks.specs.declared.wake_times.Watcher.{Watcher}
use Rattle.live_tasks.specs.declared.waits.Waits.{Waits}
use Rattle.live_tasks.specs.WakeTimes.{is_stale, AreWakesOf, is_current, MayGoStale}
use Rattle.live_tasks.specs.Watchers.{IsWatcherAmong, watchers_of}
use Rattle.live_tasks.specs.Waits.{wait_of, IsTouched}
use Rattle.live_tasks.proofs.Forests.{same_or_not}
use Rattle.live_tasks.proofs.KeptTimes.{may_stay, may_then, current_same, stays_stale}
use Rattle.live_tasks.proofs.Watching.{any_default, left_among, at_cell, apart_cell, same_long}

among_push : (cell one : ℕ) (cells : List ℕ) → is_cell_among cell (cells ++ one ∷ []) ≡ (is_cell_among cell cells || nat_eq one cell)
among_push cell one [] = or_false (nat_eq one cell)
  where
    or_false : (b : Bool) → (b || false) ≡ b
    or_false true = refl
    or_false false = refl
among_push cell one (first ∷ rest) = ap (λ b. nat_eq first cell || b) (among_push cell one rest) ∙ associates (nat_eq first cell) (is_cell_among cell rest) (nat_eq one cell)
  where
    associates : (a b c : Bool) → (a || (b || c)) ≡ ((a || b) || c)
    associates true b c = refl
    associates false b c = refl

among_one : (cell one : ℕ) → is_cell_among cell (one ∷ []) ≡ nat_eq one cell
among_one cell one = by (nat_eq one cell)
  where
    by : (b : Bool) → (b || false) ≡ b
    by true = refl
    by false = refl

pub touched_none : (waits : Waits) → IsTouched [] waits waits
touched_none waits = record {
  may = may_stay waits.times.by_number.items;
  times = λ are. are;
  long = refl;
  stays = λ cell watcher current among. among;
  stale = λ cell watcher touched current among. absurd (false≢true touched);
}

-- a cell that is none of the cells
pub touched_past : (waits : Waits) (at : ℕ) → length waits.watchers ≤ at → IsTouched (at ∷ []) waits waits
touched_past waits at past = record {
  may = may_stay waits.times.by_number.items;
  times = λ are. are;
  long = refl;
  stays = λ cell watcher current among. among;
  stale = λ cell watcher touched current among.
      let k : nat_eq at cell ≡ true = sym (among_one cell at) ∙ touched in
      let e : at ≡ cell = grind (arith, nat_tests) in
      absurd (subst (IsWatcherAmong watcher) (nobody waits.watchers cell (omega (arith, past, e))) among);
}
  where
    nobody : (watchers : List (List Watcher)) (cell : ℕ) → length watchers ≤ cell → watchers_of watchers cell ≡ []
    nobody watchers cell less = get_or_past watchers cell [] less

-- one cell, whose watchers that wait no more are left out
pub touched_one : (old new : Waits) (at : ℕ) (here : List Watcher) → at < length old.watchers → new.watchers ≡ slice_set old.watchers at here →
    here ≡ filter (is_current old.times.by_number.items) (watchers_of old.watchers at) → MayGoStale old.times.by_number.items new.times.by_number.items →
    ((watcher : Watcher) → IsWatcherAmong watcher (watchers_of old.watchers at) → is_current old.times.by_number.items watcher ≡ true → is_stale (wait_of new watcher.number) ≡ true) →
    (AreWakesOf old.times → AreWakesOf new.times) → IsTouched (at ∷ []) old new
touched_one old new at here below is left may stale times = record {
  may = may;
  times = times;
  long = same_long old.watchers new.watchers at here below is;
  stays = stays;
  stale = λ cell watcher touched current among.
      let k : nat_eq at cell ≡ true = sym (among_one cell at) ∙ touched in
      let e : at ≡ cell = grind (arith, nat_tests) in
      stale watcher (subst (λ c. IsWatcherAmong watcher (watchers_of old.watchers c)) (sym e) among) current;
}
  where
    stays : (cell : ℕ) (watcher : Watcher) → is_current old.times.by_number.items watcher ≡ true → IsWatcherAmong watcher (watchers_of old.watchers cell) → IsWatcherAmong watcher (watchers_of new.watchers cell)
    stays cell watcher current among = by (same_or_not cell at)
      where
        by : (cell ≡ at) ⊎ (cell ≢ at) → IsWatcherAmong watcher (watchers_of new.watchers cell)
        by (inl e) =
            subst (IsWatcherAmong watcher) (sym left ∙ sym (at_cell old.watchers new.watchers at here below is) ∙ ap (watchers_of new.watchers) (sym e))
            (left_among (is_current old.times.by_number.items) (watchers_of old.watchers at) watcher current (subst (λ c. IsWatcherAmong watcher (watchers_of old.watchers c)) e among))
        by (inr apart) = subst (IsWatcherAmong watcher) (sym (apart_cell old.watchers new.watchers at here below is cell apart)) among

-- the same, as the code has the cell's place and its watchers
touched_at : (old new : Waits) (cell at : ℕ) (inside : List (List Watcher)) (was here : List Watcher) → inside ≡ old.watchers → at ≡ cell → at < length inside → was ≡ get_or inside at was →
    new.watchers ≡ slice_set inside at here → here ≡ filter (is_current old.times.by_number.items) was → MayGoStale old.times.by_number.items new.times.by_number.items →
    ((watcher : Watcher) → IsWatcherAmong watcher was → is_current old.times.by_number.items watcher ≡ true → is_stale (wait_of new watcher.number) ≡ true) →
    (AreWakesOf old.times → AreWakesOf new.times) → IsTouched (cell ∷ []) old new
touched_at old new cell at inside was here inside_is at_is below was_is is left may stale times =
    touched_one old new cell here (subst (λ (ws : List (List Watcher)). cell < length ws) inside_is (subst (λ n. n < length inside) at_is below)) (is ∙ (λ i. slice_set (inside_is i) (at_is i) here))
    (left ∙ ap (filter (is_current old.times.by_number.items)) same) may (λ watcher among. stale watcher (subst (IsWatcherAmong watcher) (sym same) among)) times
  where
    same : was ≡ watchers_of old.watchers cell
    same = was_is ∙ any_default inside at was [] below ∙ (λ i. watchers_of (inside_is i) (at_is i))

-- the same, as what is inside was before
pub touched_in : (old new inside : Waits) (cell at : ℕ) (was here : List Watcher) → inside ≡ old → at ≡ cell → at < length inside.watchers → was ≡ get_or inside.watchers at was →
    new.watchers ≡ slice_set inside.watchers at here → here ≡ filter (is_current inside.times.by_number.items) was → MayGoStale inside.times.by_number.items new.times.by_number.items →
    ((watcher : Watcher) → IsWatcherAmong watcher was → is_current inside.times.by_number.items watcher ≡ true → is_stale (wait_of new watcher.number) ≡ true) →
    (AreWakesOf inside.times → AreWakesOf new.times) → IsTouched (cell ∷ []) old new
touched_in old new inside cell at was here inside_is at_is below was_is is left may stale times =
    subst (λ (w : Waits). IsTouched (cell ∷ []) w new) inside_is (touched_at inside new cell at inside.watchers was here refl at_is below was_is is left may stale times)

-- one cell more
pub touched_more : (touched : List ℕ) (i d : ℕ) (old middle new : Waits) → i < length touched → IsTouched (take i touched) old middle → IsTouched (get_or touched i d ∷ []) middle new →
    IsTouched (take (i + 1) touched) old new
touched_more touched i d old middle new below one two = record {
  may = may_then old.times.by_number.items middle.times.by_number.items new.times.by_number.items one.may two.may;
  times = λ are. two.times (one.times are);
  long = two.long ∙ one.long;
  stays = λ cell watcher current among. two.stays cell watcher (current_same old.times.by_number.items middle.times.by_number.items watcher one.may ∙ current) (one.stays cell watcher current among);
  stale = stale;
}
  where
    stale : (cell : ℕ) (watcher : Watcher) → is_cell_among cell (take (i + 1) touched) ≡ true → is_current old.times.by_number.items watcher ≡ true →
        IsWatcherAmong watcher (watchers_of old.watchers cell) → is_stale (wait_of new watcher.number) ≡ true
    stale cell watcher among current there = by (is_cell_among cell (take i touched)) refl
      where
        parts : is_cell_among cell (take (i + 1) touched) ≡ (is_cell_among cell (take i touched) || nat_eq (get_or touched i d) cell)
        parts = ap (is_cell_among cell) (take_more touched i d below) ∙ among_push cell (get_or touched i d) (take i touched)

        by : (b : Bool) → is_cell_among cell (take i touched) ≡ b → is_stale (wait_of new watcher.number) ≡ true
        by true e = stays_stale middle.times.by_number.items new.times.by_number.items watcher.number two.may (one.stale cell watcher e current there)
        by false e =
            two.stale cell watcher (among_one cell (get_or touched i d) ∙ sym (ap (λ b. b || nat_eq (get_or touched i d) cell) e) ∙ sym parts ∙ among)
            (current_same old.times.by_number.items middle.times.by_number.items watcher one.may ∙ current) (one.stays cell watcher current there)

pub touched_all : (touched : List ℕ) (i : ℕ) (old new : Waits) → length touched ≤ i → IsTouched (take i touched) old new → IsTouched touched old new
touched_all touched i old new past = subst (λ (ts : List ℕ). IsTouched ts old new) (take_all i touched past)
