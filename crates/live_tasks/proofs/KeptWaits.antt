-- What is kept of waiting tasks stays right: as one begins to wait, as cells are touched, as wake times are found, as one waits no
-- more, and as time passes.
use Rattle.std.proofs.Common.{◌≡◌, ◌≢◌, ◌⊎◌, inl, inr, ℕ, zero, suc, ◌+◌, ◌-◌, ◌<◌, ◌≤◌, nat_eq, Bool, true, false, List, [], ◌∷◌, ◌++◌, length, Option, Some, None, is_some, option_map, refl, sym, ap, ◌∙◌, subst, arith, if◌then◌else◌}
use Rattle.std.proofs.lemmas.Bool.{false≢true}
use Rattle.std.proofs.lemmas.Bool.Decides.{nat_tests}
use Rattle.std.specs.List.{slice_get}
use Rattle.std.specs.BTreeSet.{BTreeSet}
use Rattle.aerie_base.specs.declared.conditions.Cond.{Cond}
use Rattle.effect_cells.specs.declared.effects.CellState.{CellState}
use Rattle.effect_cells.specs.Cells.{passed}
use Rattle.effect_cells.specs.KeptWakes.{WakesByCellsRead, StaysWhileTimePasses, IsNotBefore, counted_before}
use Rattle.effect_cells.specs.ReadCells.{reads_cell}
use Rattle.effect_cells.specs.TouchedCells.{is_cell_among}
use Rattle.effect_cells.specs.WakeTimes.{wake_time}
use Rattle.run_data.specs.Fresh.{from_now}
use Rattle.live_tasks.specs.declared.wake_times.Wait.{Wait}
use Rattle.live_tasks.specs.declared.wake_times.Wake.TheVariants.{Stale}
use Rattle.live_tasks.specs.declared.waits.Waits.{Waits}
use Rattle.live_tasks.specs.Conditions.{wake_for}
use Rattle.live_tasks.specs.Endings.{IsNumberAmong}
use Rattle.live_tasks.specs.LeastTimes.{IsUpToTime}
use Rattle.live_tasks.specs.Listing.{ends_at}
use Rattle.live_tasks.specs.WakeTimes.{numbered_wait, kept_time, is_stale, is_stale_wake, with_wake, found_if, found_wake, WaitBecomes, has_wake, AreWakes, AreWakesOf, began_at, is_current, MayGoStale}
use Rattle.live_tasks.specs.Watchers.{IsWatcherAmong, watchers_of, Watches}
use Rattle.live_tasks.specs.Waits.{wait_of, watcher_of, IsKept, IsFound, BeginsWait, BeginsWaitIfAny, EndsWait, IsTouched}
use Rattle.live_tasks.specs.Waking.{AgreeBut}
use Rattle.live_tasks.proofs.Forests.{same_or_not}
use Rattle.live_tasks.proofs.KeptTimes.{found_time}
use Rattle.live_tasks.proofs.ListedNumbers.{among_push}

abbrev Conditions : Type 0
Conditions = ℕ → Option Cond

none_if : {X : Type 0} (o : Option X) → is_some o ≡ false → o ≡ None
none_if None e = refl
none_if (Some x) e = absurd (false≢true (sym e))

some_if : {X : Type 0} (o : Option X) → is_some o ≡ true → (x : X) × (o ≡ Some x)
some_if None e = absurd (false≢true e)
some_if (Some x) e = (x, refl)

-- ---- nobody waits

pub kept_none : (now horizon : ℕ) (cells : List CellState) (conditions : Conditions) (waits : Waits) → ((n : ℕ) → conditions n ≡ None) → ((n : ℕ) → wait_of waits n ≡ None) → AreWakesOf waits.times →
    length waits.watchers ≡ length cells → IsKept now horizon cells conditions waits
kept_none now horizon cells conditions waits none nobody times by_cell = record {
  times = times;
  who = λ n. ap is_some (nobody n) ∙ sym (ap is_some (none n));
  right = λ n fresh. ap kept_time (nobody n) ∙ sym (ap (wake_for now horizon cells) (none n));
  watched = λ n wait condition at waits_for. let k : None ≡ Some condition = sym (none n) ∙ waits_for in absurd (cc);
  by_cell = by_cell;
}

-- ---- each waits for what it waited for

pub kept_alike : (now horizon : ℕ) (cells : List CellState) (before after : Conditions) (waits : Waits) → ((n : ℕ) → after n ≡ before n) → IsKept now horizon cells before waits →
    IsKept now horizon cells after waits
kept_alike now horizon cells before after waits alike kept = record {
  times = kept.times;
  who = λ n. kept.who n ∙ ap is_some (sym (alike n));
  right = λ n fresh. kept.right n fresh ∙ ap (wake_for now horizon cells) (sym (alike n));
  watched = λ n wait condition at waits_for. kept.watched n wait condition at (sym (alike n) ∙ waits_for);
  by_cell = kept.by_cell;
}

-- ---- one begins to wait

module _ (now horizon : ℕ) (cells : List CellState) (before after : Conditions) (number : ℕ) (condition : Cond) (old new : Waits) (begins : BeginsWait number condition old new)
    (none : before number ≡ None) (is : after number ≡ Some condition) (others : (n : ℕ) → n ≢ number → after n ≡ before n) (kept : IsKept now horizon cells before old) where
  none_old : wait_of old number ≡ None
  none_old = none_if (wait_of old number) (kept.who number ∙ ap is_some none)

  begun_at : (n : ℕ) → n ≡ number → wait_of new n ≡ Some (record { since = begins.since; wake = Stale })
  begun_at n e = ap (wait_of new) e ∙ begins.wait.is_there

  begun_who : (n : ℕ) → is_some (wait_of new n) ≡ is_some (after n)
  begun_who n = by (same_or_not n number)
    where
      by : (n ≡ number) ⊎ (n ≢ number) → is_some (wait_of new n) ≡ is_some (after n)
      by (inl e) = ap is_some (begun_at n e) ∙ sym (ap is_some (ap after e ∙ is))
      by (inr apart) = ap is_some (begins.wait.others n apart) ∙ kept.who n ∙ ap is_some (sym (others n apart))

  begun_right : (n : ℕ) → is_stale (wait_of new n) ≡ false → kept_time (wait_of new n) ≡ wake_for now horizon cells (after n)
  begun_right n fresh = by (same_or_not n number)
    where
      by : (n ≡ number) ⊎ (n ≢ number) → kept_time (wait_of new n) ≡ wake_for now horizon cells (after n)
      by (inl e) = absurd (false≢true (sym fresh ∙ ap is_stale (begun_at n e)))
      by (inr apart) =
          ap kept_time (begins.wait.others n apart) ∙ kept.right n (ap is_stale (sym (begins.wait.others n apart)) ∙ fresh) ∙ ap (wake_for now horizon cells) (sym (others n apart))

  begun_watched : (n : ℕ) (wait : Wait) (other : Cond) → wait_of new n ≡ Some wait → after n ≡ Some other → Watches (reads_cell other) (watcher_of n wait) new.watchers
  begun_watched n wait other at waits_for = by (same_or_not n number)
    where
      by : (n ≡ number) ⊎ (n ≢ number) → Watches (reads_cell other) (watcher_of n wait) new.watchers
      by (inl e) =
          let f : Some condition ≡ Some other = sym is ∙ ap after (sym e) ∙ waits_for in
          let g : condition ≡ other = cc in
          let h : Some (record { since = begins.since; wake = Stale }) ≡ Some wait = sym (begun_at n e) ∙ at in
          let k : begins.since ≡ wait.since = ap (λ (o : Option Wait). since_of o) h in
          subst (λ (c : Cond). Watches (reads_cell c) (watcher_of n wait) new.watchers) g
          (subst (λ (s : ℕ). Watches (reads_cell condition) (record { number = n; since = s }) new.watchers) k
          (subst (λ (m : ℕ). Watches (reads_cell condition) (record { number = m; since = begins.since }) new.watchers) (sym e) begins.watches.watches))
        where
          since_of : Option Wait → ℕ
          since_of None = 0
          since_of (Some w) = w.since
      by (inr apart) = λ cell reads less.
          begins.watches.stays cell (watcher_of n wait)
          (kept.watched n wait other (sym (begins.wait.others n apart) ∙ at) (sym (others n apart) ∙ waits_for) cell reads (subst (λ m. cell < m) begins.watches.long less))

  begun : IsKept now horizon cells after new
  begun = record { times = begins.times none_old kept.times; who = begun_who; right = begun_right; watched = begun_watched; by_cell = begins.watches.long ∙ kept.by_cell }

pub kept_begun : (now horizon : ℕ) (cells : List CellState) (before after : Conditions) (number : ℕ) (old new : Waits) → BeginsWaitIfAny number (after number) old new → before number ≡ None →
    ((n : ℕ) → n ≢ number → after n ≡ before n) → IsKept now horizon cells before old → IsKept now horizon cells after new
kept_begun now horizon cells before after number old new begins none others kept = by (after number) refl begins
  where
    by : (found : Option Cond) → after number ≡ found → BeginsWaitIfAny number found old new → IsKept now horizon cells after new
    by None e same = subst (IsKept now horizon cells after) (sym same) (kept_alike now horizon cells before after old alike kept)
      where
        alike : (n : ℕ) → after n ≡ before n
        alike n = go (same_or_not n number)
          where
            go : (n ≡ number) ⊎ (n ≢ number) → after n ≡ before n
            go (inl f) = ap after f ∙ e ∙ sym none ∙ ap before (sym f)
            go (inr apart) = others n apart
    by (Some condition) e begun_ = begun now horizon cells before after number condition old new begun_ none e others kept

-- ---- cells are touched

past : {X : Type 0} (xs : List X) (n : ℕ) → (n < length xs → ⊥) → slice_get xs n ≡ None
past [] n out = refl
past (x ∷ xs) zero out = absurd (out (omega arith))
past (x ∷ xs) (suc n) out = past xs n (λ below. out (omega (arith, below)))

itself : (n : ℕ) → nat_eq n n ≡ true
itself n = grind (arith, nat_tests)

-- a wait is the same but for its wake time
record SameWait (found : Option Wait) (wait : Wait) : Type 0 where
  was : Wait
  there : found ≡ Some was
  since : was.since ≡ wait.since

module _ (old new : List (Option Wait)) (may : MayGoStale old new) where
  same_some : (n : ℕ) → is_some (numbered_wait new n) ≡ is_some (numbered_wait old n)
  same_some n = by (may n)
    where
      mapped : (o : Option Wait) → is_some (option_map (with_wake Stale) o) ≡ is_some o
      mapped None = refl
      mapped (Some wait) = refl

      by : (numbered_wait new n ≡ numbered_wait old n) ⊎ (numbered_wait new n ≡ option_map (with_wake Stale) (numbered_wait old n)) → is_some (numbered_wait new n) ≡ is_some (numbered_wait old n)
      by (inl e) = ap is_some e
      by (inr e) = ap is_some e ∙ mapped (numbered_wait old n)

  fresh_same : (n : ℕ) → is_stale (numbered_wait new n) ≡ false → numbered_wait new n ≡ numbered_wait old n
  fresh_same n fresh = by (may n)
    where
      none : (o : Option Wait) → is_stale (option_map (with_wake Stale) o) ≡ false → option_map (with_wake Stale) o ≡ o
      none None e = refl
      none (Some wait) e = absurd (false≢true (sym e))

      by : (numbered_wait new n ≡ numbered_wait old n) ⊎ (numbered_wait new n ≡ option_map (with_wake Stale) (numbered_wait old n)) → numbered_wait new n ≡ numbered_wait old n
      by (inl e) = e
      by (inr e) = e ∙ none (numbered_wait old n) (ap is_stale (sym e) ∙ fresh)

  same_wait : (n : ℕ) (wait : Wait) → numbered_wait new n ≡ Some wait → SameWait (numbered_wait old n) wait
  same_wait n wait at = by (may n)
    where
      mapped : (o : Option Wait) → option_map (with_wake Stale) o ≡ Some wait → SameWait o wait
      mapped None e = absurd (cc)
      mapped (Some w) e = let k : with_wake Stale w ≡ wait = cc in record { was = w; there = refl; since = ap (λ (v : Wait). v.since) k }

      by : (numbered_wait new n ≡ numbered_wait old n) ⊎ (numbered_wait new n ≡ option_map (with_wake Stale) (numbered_wait old n)) → SameWait (numbered_wait old n) wait
      by (inl e) = record { was = wait; there = sym e ∙ at; since = refl }
      by (inr e) = mapped (numbered_wait old n) (sym e ∙ at)

module _ (now horizon : ℕ) (cells others : List CellState) (conditions : Conditions) (touched : List ℕ) (old new : Waits) (by_read : WakesByCellsRead) (is : IsTouched touched old new)
    (agree : AgreeBut touched cells others) (kept : IsKept now horizon cells conditions old) where
  abbrev before : List (Option Wait)
  before = old.times.by_number.items

  current_itself : (n : ℕ) (wait : Wait) → numbered_wait before n ≡ Some wait → is_current before (watcher_of n wait) ≡ true
  current_itself n wait at = ap (began_at wait.since) at ∙ itself wait.since

  -- a cell that the condition of a number reads which is not stale has the same state
  same_cell : (n : ℕ) (wait : Wait) (condition : Cond) → numbered_wait before n ≡ Some wait → conditions n ≡ Some condition → is_stale (wait_of new n) ≡ false → (cell : ℕ) → reads_cell condition cell ≡ true →
      slice_get cells cell ≡ slice_get others cell
  same_cell n wait condition at waits_for fresh cell reads = by (is_cell_among cell touched) refl
    where
      out : is_cell_among cell touched ≡ true → cell < length old.watchers → ⊥
      out among below =
          false≢true (sym fresh ∙ is.stale cell (watcher_of n wait) among (current_itself n wait at) (kept.watched n wait condition at waits_for cell reads below))

      by : (b : Bool) → is_cell_among cell touched ≡ b → slice_get cells cell ≡ slice_get others cell
      by false e = agree.same cell e
      by true e =
          let none = past cells cell (λ below. out e (let l = kept.by_cell in omega (arith, below, l))) in
          let none_too = past others cell (λ below. out e (let l = kept.by_cell in let m = agree.long in omega (arith, below, l, m))) in
          none ∙ sym none_too

  same_wake : (n : ℕ) (found : Option Cond) → conditions n ≡ found → is_stale (wait_of new n) ≡ false → wake_for now horizon others found ≡ wake_for now horizon cells found
  same_wake n None e fresh = refl
  same_wake n (Some condition) e fresh =
      let there = some_if (numbered_wait before n) (kept.who n ∙ ap is_some e) in
      sym (ap (from_now now) (by_read condition cells others (horizon - now) (λ cell reads. same_cell n there.0 condition there.1 e fresh cell reads)))

  touched_right : (n : ℕ) → is_stale (wait_of new n) ≡ false → kept_time (wait_of new n) ≡ wake_for now horizon others (conditions n)
  touched_right n fresh =
      let same = fresh_same before new.times.by_number.items is.may n fresh in
      ap kept_time same ∙ kept.right n (ap is_stale (sym same) ∙ fresh) ∙ sym (same_wake n (conditions n) refl fresh)

  touched_watched : (n : ℕ) (wait : Wait) (condition : Cond) → wait_of new n ≡ Some wait → conditions n ≡ Some condition → Watches (reads_cell condition) (watcher_of n wait) new.watchers
  touched_watched n wait condition at waits_for cell reads less =
      let same = same_wait before new.times.by_number.items is.may n wait at in
      subst (λ (s : ℕ). IsWatcherAmong (record { number = n; since = s }) (watchers_of new.watchers cell)) same.since
      (is.stays cell (watcher_of n same.was) (current_itself n same.was same.there)
      (kept.watched n same.was condition same.there waits_for cell reads (subst (λ m. cell < m) is.long less)))

  pub kept_touched : IsKept now horizon others conditions new
  kept_touched = record {
    times = is.times kept.times;
    who = λ n. same_some before new.times.by_number.items is.may n ∙ kept.who n;
    right = touched_right;
    watched = touched_watched;
    by_cell = is.long ∙ kept.by_cell ∙ sym agree.long;
  }

-- ---- a wake time is found

pub popped_wakes : (waits : List (Option Wait)) (wakes : BTreeSet (ℕ × ℕ)) (stale rest : List ℕ) (number : ℕ) → stale ≡ rest ++ number ∷ [] → AreWakes waits wakes stale → AreWakes waits wakes (number ∷ rest)
popped_wakes waits wakes stale rest number is are = record {
  sorted = are.sorted;
  exact = are.exact;
  stale_ = λ n e. by n (among_push rest number n (subst (IsNumberAmong n) is (are.stale_ n e)));
}
  where
    by : (n : ℕ) → IsNumberAmong n rest ⊎ (n ≡ number) → IsNumberAmong n (number ∷ rest)
    by n (inl among) = inr among
    by n (inr e) = inl e

module _ (now horizon : ℕ) (cells : List CellState) (conditions : Conditions) (number : ℕ) (time : Option ℕ) (old new : Waits)
    (becomes : WaitBecomes old.times.by_number.items new.times.by_number.items number (option_map (found_if time) (wait_of old number)))
    (times : AreWakesOf new.times) (is : time ≡ wake_for now horizon cells (conditions number)) (watchers : new.watchers ≡ old.watchers) (kept : IsKept now horizon cells conditions old) where
  found_there : (n : ℕ) → n ≡ number → wait_of new n ≡ option_map (found_if time) (wait_of old n)
  found_there n e = ap (wait_of new) e ∙ becomes.is_there ∙ ap (λ m. option_map (found_if time) (wait_of old m)) (sym e)

  found_who : (n : ℕ) → is_some (wait_of new n) ≡ is_some (conditions n)
  found_who n = by (same_or_not n number)
    where
      mapped : (o : Option Wait) → is_some (option_map (found_if time) o) ≡ is_some o
      mapped None = refl
      mapped (Some wait) = refl

      by : (n ≡ number) ⊎ (n ≢ number) → is_some (wait_of new n) ≡ is_some (conditions n)
      by (inl e) = ap is_some (found_there n e) ∙ mapped (wait_of old n) ∙ kept.who n
      by (inr apart) = ap is_some (becomes.others n apart) ∙ kept.who n

  time_right : (n : ℕ) (o : Option Wait) → wait_of old n ≡ o → time ≡ wake_for now horizon cells (conditions n) → kept_time (option_map (found_if time) o) ≡ wake_for now horizon cells (conditions n)
  time_right n None e right = ap kept_time (sym e) ∙ kept.right n (ap is_stale e)
  time_right n (Some wait) e right = by (is_stale_wake wait.wake) refl
    where
      by : (b : Bool) → is_stale_wake wait.wake ≡ b → kept_time (Some (if b then with_wake (found_wake time) wait else wait)) ≡ wake_for now horizon cells (conditions n)
      by true f = found_time wait time ∙ right
      by false f = ap kept_time (sym e) ∙ kept.right n (ap is_stale e ∙ f)

  found_right : (n : ℕ) → is_stale (wait_of new n) ≡ false → kept_time (wait_of new n) ≡ wake_for now horizon cells (conditions n)
  found_right n fresh = by (same_or_not n number)
    where
      by : (n ≡ number) ⊎ (n ≢ number) → kept_time (wait_of new n) ≡ wake_for now horizon cells (conditions n)
      by (inl e) = ap kept_time (found_there n e) ∙ time_right n (wait_of old n) refl (is ∙ ap (λ m. wake_for now horizon cells (conditions m)) (sym e))
      by (inr apart) = ap kept_time (becomes.others n apart) ∙ kept.right n (ap is_stale (sym (becomes.others n apart)) ∙ fresh)

  found_since : (o : Option Wait) (wait : Wait) → option_map (found_if time) o ≡ Some wait → SameWait o wait
  found_since None wait e = absurd (cc)
  found_since (Some w) wait e = let k : found_if time w ≡ wait = cc in record { was = w; there = refl; since = sym (by (is_stale_wake w.wake)) ∙ ap (λ (v : Wait). v.since) k }
    where
      by : (b : Bool) → (if b then with_wake (found_wake time) w else w).since ≡ w.since
      by true = refl
      by false = refl

  found_watched : (n : ℕ) (wait : Wait) (condition : Cond) → wait_of new n ≡ Some wait → conditions n ≡ Some condition → Watches (reads_cell condition) (watcher_of n wait) new.watchers
  found_watched n wait condition at waits_for = subst (Watches (reads_cell condition) (watcher_of n wait)) (sym watchers) (by (same_or_not n number))
    where
      by : (n ≡ number) ⊎ (n ≢ number) → Watches (reads_cell condition) (watcher_of n wait) old.watchers
      by (inl e) =
          let same = found_since (wait_of old n) wait (sym (found_there n e) ∙ at) in
          subst (λ (s : ℕ). Watches (reads_cell condition) (record { number = n; since = s }) old.watchers) same.since (kept.watched n same.was condition same.there waits_for)
      by (inr apart) = kept.watched n wait condition (sym (becomes.others n apart) ∙ at) waits_for

  pub kept_solved : IsKept now horizon cells conditions new
  kept_solved = record { times = times; who = found_who; right = found_right; watched = found_watched; by_cell = ap length watchers ∙ kept.by_cell }

-- ---- where all are found

fresh_all : (now horizon : ℕ) (cells : List CellState) (conditions : Conditions) (waits : Waits) → IsFound now horizon cells conditions waits → (n : ℕ) → is_stale (wait_of waits n) ≡ false
fresh_all now horizon cells conditions waits found n = by (is_stale (wait_of waits n)) refl
  where
    by : (b : Bool) → is_stale (wait_of waits n) ≡ b → b ≡ false
    by false e = refl
    by true e = absurd (subst (IsNumberAmong n) found.none (found.kept.times.stale_ n e))

pub found_exact : (now horizon : ℕ) (cells : List CellState) (conditions : Conditions) (waits : Waits) → IsFound now horizon cells conditions waits → (time n : ℕ) →
    has_wake waits.times.wakes time n ≡ ends_at time (wake_for now horizon cells (conditions n))
found_exact now horizon cells conditions waits found time n =
    found.kept.times.exact time n ∙ ap (ends_at time) (found.kept.right n (fresh_all now horizon cells conditions waits found n))

-- one waits no more
pub found_ended : (now horizon : ℕ) (cells : List CellState) (before after : Conditions) (number : ℕ) (old new : Waits) → EndsWait number old new → after number ≡ None →
    ((n : ℕ) → n ≢ number → after n ≡ before n) → IsFound now horizon cells before old → IsFound now horizon cells after new
found_ended now horizon cells before after number old new ends none others found = record {
  kept = record {
    times = ends.times found.kept.times;
    who = who;
    right = right;
    watched = watched;
    by_cell = ap length ends.watchers ∙ found.kept.by_cell;
  };
  none = ends.stale ∙ found.none;
}
  where
    nobody : (n : ℕ) → n ≡ number → wait_of new n ≡ None
    nobody n e = ap (wait_of new) e ∙ ends.wait.is_there

    who : (n : ℕ) → is_some (wait_of new n) ≡ is_some (after n)
    who n = by (same_or_not n number)
      where
        by : (n ≡ number) ⊎ (n ≢ number) → is_some (wait_of new n) ≡ is_some (after n)
        by (inl e) = ap is_some (nobody n e) ∙ sym (ap is_some (ap after e ∙ none))
        by (inr apart) = ap is_some (ends.wait.others n apart) ∙ found.kept.who n ∙ ap is_some (sym (others n apart))

    right : (n : ℕ) → is_stale (wait_of new n) ≡ false → kept_time (wait_of new n) ≡ wake_for now horizon cells (after n)
    right n fresh = by (same_or_not n number)
      where
        by : (n ≡ number) ⊎ (n ≢ number) → kept_time (wait_of new n) ≡ wake_for now horizon cells (after n)
        by (inl e) = ap kept_time (nobody n e) ∙ sym (ap (wake_for now horizon cells) (ap after e ∙ none))
        by (inr apart) =
            ap kept_time (ends.wait.others n apart) ∙ found.kept.right n (ap is_stale (sym (ends.wait.others n apart)) ∙ fresh) ∙ ap (wake_for now horizon cells) (sym (others n apart))

    watched : (n : ℕ) (wait : Wait) (condition : Cond) → wait_of new n ≡ Some wait → after n ≡ Some condition → Watches (reads_cell condition) (watcher_of n wait) new.watchers
    watched n wait condition at waits_for = subst (Watches (reads_cell condition) (watcher_of n wait)) (sym ends.watchers) (by (same_or_not n number))
      where
        by : (n ≡ number) ⊎ (n ≢ number) → Watches (reads_cell condition) (watcher_of n wait) old.watchers
        by (inl e) = let k : None ≡ Some wait = sym (nobody n e) ∙ at in absurd (cc)
        by (inr apart) = found.kept.watched n wait condition (sym (ends.wait.others n apart) ∙ at) (sym (others n apart) ∙ waits_for)

-- ---- time passes

long_passed : (dt : ℕ) (cells : List CellState) → length (passed cells dt) ≡ length cells
long_passed dt [] = refl
long_passed dt (state ∷ rest) = ap suc (long_passed dt rest)

passes : StaysWhileTimePasses → (now dt horizon : ℕ) (cells : List CellState) (found : Option Cond) → IsUpToTime (now + dt) (wake_for now horizon cells found) → now + dt ≤ horizon →
    wake_for now horizon cells found ≡ wake_for (now + dt) horizon (passed cells dt) found
passes law now dt horizon cells None up most = refl
passes law now dt horizon cells (Some condition) up most =
    ap (λ (l : ℕ). from_now now (wake_time cells condition l)) limit_is
    ∙ ap (from_now now) (law condition cells dt (horizon - (now + dt)) (not_before (wake_time cells condition (dt + (horizon - (now + dt)))) (subst (λ (l : ℕ). IsUpToTime (now + dt) (from_now now (wake_time cells condition l))) limit_is up)))
    ∙ counted (wake_time (passed cells dt) condition (horizon - (now + dt)))
  where
    limit_is : horizon - now ≡ dt + (horizon - (now + dt))
    limit_is = omega (arith, most)

    not_before : (o : Option ℕ) → IsUpToTime (now + dt) (from_now now o) → IsNotBefore dt o
    not_before None u = tt
    not_before (Some found) u = omega (arith, u)

    counted : (o : Option ℕ) → from_now now (counted_before dt o) ≡ from_now (now + dt) o
    counted None = refl
    counted (Some found) = let k : now + (dt + found) ≡ now + dt + found = omega arith in ap Some k

pub kept_passed : StaysWhileTimePasses → (now dt horizon : ℕ) (cells : List CellState) (conditions : Conditions) (waits : Waits) → IsFound now horizon cells conditions waits →
    ((n : ℕ) → IsUpToTime (now + dt) (wake_for now horizon cells (conditions n))) → now + dt ≤ horizon → IsKept (now + dt) horizon (passed cells dt) conditions waits
kept_passed law now dt horizon cells conditions waits found up most = record {
  times = found.kept.times;
  who = found.kept.who;
  right = λ n fresh. found.kept.right n fresh ∙ passes law now dt horizon cells (conditions n) (up n) most;
  watched = found.kept.watched;
  by_cell = found.kept.by_cell ∙ sym (long_passed dt cells);
}
