-- Who watches which cell, as one more does, and as those are left out who wait no more.
use Rattle.std.proofs.Common.{◌≡◌, ◌≢◌, ◌⊎◌, inl, inr, ℕ, zero, suc, ◌+◌, ◌<◌, ◌≤◌, nat_eq, Bool, true, false, cond, ◌||◌, List, [], ◌∷◌, ◌++◌, Option, length, take, drop, get_or, slice_set, refl, sym, ap, ◌∙◌, subst, arith}
use Rattle.std.proofs.lemmas.Bool.{false≢true}
use Rattle.std.proofs.lemmas.Bool.Decides.{nat_tests}
use Rattle.std.proofs.lemmas.List.{take_more, take_all, get_or-set_same, get_or-set_other}
use Rattle.std.specs.List.{filter}
use Rattle.aerie_base.specs.declared.conditions.Cond.{Cond, Not, And, Or}
use Rattle.aerie_base.specs.declared.linear.Term.{Term}
use Rattle.effect_cells.specs.ReadCells.{reads_operand, reads_terms, reads_cell}
use Rattle.effect_cells.specs.ReadCellLaws.{reads-Not, reads-And, reads-Or}
use Rattle.live_tasks.specs.declared.wake_times.Wait.{Wait}
use Rattle.live_tasks.specs.declared.wake_times.Watcher.{Watcher}
use Rattle.live_tasks.specs.WakeTimes.{numbered_wait, is_stale, is_current, MayGoStale}
use Rattle.live_tasks.specs.Watchers.{IsWatcherAmong, watchers_of, Watches, WatchesToo}
use Rattle.live_tasks.proofs.Forests.{same_or_not}
use Rattle.live_tasks.proofs.KeptTimes.{current_same, stays_stale}

-- ---- among some

pub old_among : (watchers : List Watcher) (watcher other : Watcher) → IsWatcherAmong other watchers → IsWatcherAmong other (watchers ++ watcher ∷ [])
old_among [] watcher other never = absurd never
old_among (first ∷ rest) watcher other (inl e) = inl e
old_among (first ∷ rest) watcher other (inr among) = inr (old_among rest watcher other among)

pub new_among : (watchers : List Watcher) (watcher : Watcher) → IsWatcherAmong watcher (watchers ++ watcher ∷ [])
new_among [] watcher = inl refl
new_among (first ∷ rest) watcher = inr (new_among rest watcher)

pub old_or_new : (watchers : List Watcher) (watcher other : Watcher) → IsWatcherAmong other (watchers ++ watcher ∷ []) → IsWatcherAmong other watchers ⊎ (other ≡ watcher)
old_or_new [] watcher other (inl e) = inr e
old_or_new [] watcher other (inr never) = absurd never
old_or_new (first ∷ rest) watcher other (inl e) = inl (inl e)
old_or_new (first ∷ rest) watcher other (inr among) = by (old_or_new rest watcher other among)
  where
    by : IsWatcherAmong other rest ⊎ (other ≡ watcher) → IsWatcherAmong other (first ∷ rest) ⊎ (other ≡ watcher)
    by (inl a) = inl (inr a)
    by (inr e) = inr e

-- who passes a test stays
pub left_among : (test : Watcher → Bool) (watchers : List Watcher) (watcher : Watcher) → test watcher ≡ true → IsWatcherAmong watcher watchers → IsWatcherAmong watcher (filter test watchers)
left_among test [] watcher passes never = absurd never
left_among test (first ∷ rest) watcher passes among = by (test first) refl among (λ further. left_among test rest watcher passes further)
  where
    by : (b : Bool) → test first ≡ b → IsWatcherAmong watcher (first ∷ rest) → (IsWatcherAmong watcher rest → IsWatcherAmong watcher (filter test rest)) →
        IsWatcherAmong watcher (cond b (first ∷ filter test rest) (filter test rest))
    by true e (inl same) left = inl same
    by true e (inr further) left = inr (left further)
    by false e (inl same) left = absurd (false≢true (sym e ∙ ap test (sym same) ∙ passes))
    by false e (inr further) left = left further

-- ---- one more watches

pub any_default : {X : Type 0} (xs : List X) (i : ℕ) (d e : X) → i < length xs → get_or xs i d ≡ get_or xs i e
any_default [] i d e below = absurd (omega (arith, below))
any_default (x ∷ xs) zero d e below = refl
any_default (x ∷ xs) (suc i) d e below = any_default xs i d e (omega (arith, below))

pub long_set : {X : Type 0} (xs : List X) (n : ℕ) (x : X) → length (slice_set xs n x) ≡ length xs
long_set [] n x = refl
long_set (y ∷ ys) zero x = refl
long_set (y ∷ ys) (suc n) x = ap suc (long_set ys n x)

-- another list for a cell
module _ (old new : List (List Watcher)) (at : ℕ) (here : List Watcher) (below : at < length old) (is : new ≡ slice_set old at here) where
  pub at_cell : watchers_of new at ≡ here
  at_cell = ap (λ (ws : List (List Watcher)). watchers_of ws at) is ∙ get_or-set_same old at here [] below

  pub apart_cell : (cell : ℕ) → cell ≢ at → watchers_of new cell ≡ watchers_of old cell
  apart_cell cell apart = ap (λ (ws : List (List Watcher)). watchers_of ws cell) is ∙ get_or-set_other old at cell here [] apart

  pub same_long : length new ≡ length old
  same_long = ap length is ∙ long_set old at here

pub watched_one : (old new : List (List Watcher)) (at : ℕ) (watcher : Watcher) → at < length old → new ≡ slice_set old at (watchers_of old at ++ watcher ∷ []) → WatchesToo (nat_eq at) watcher old new
watched_one old new at watcher below is = record { long = same_long old new at here below is; stays = stays; watches = watches }
  where
    here : List Watcher
    here = watchers_of old at ++ watcher ∷ []

    stays : (cell : ℕ) (other : Watcher) → IsWatcherAmong other (watchers_of old cell) → IsWatcherAmong other (watchers_of new cell)
    stays cell other among = by (same_or_not cell at)
      where
        by : (cell ≡ at) ⊎ (cell ≢ at) → IsWatcherAmong other (watchers_of new cell)
        by (inl e) =
            subst (IsWatcherAmong other) (sym (at_cell old new at here below is) ∙ ap (watchers_of new) (sym e))
            (old_among (watchers_of old at) watcher other (subst (λ c. IsWatcherAmong other (watchers_of old c)) e among))
        by (inr apart) = subst (IsWatcherAmong other) (sym (apart_cell old new at here below is cell apart)) among

    watches : Watches (nat_eq at) watcher new
    watches cell e less =
        let k : at ≡ cell = grind (arith, nat_tests) in
        subst (λ c. IsWatcherAmong watcher (watchers_of new c)) k (subst (IsWatcherAmong watcher) (sym (at_cell old new at here below is)) (new_among (watchers_of old at) watcher))

-- the list of a cell with one more behind the others
pub watched_pushed : (watchers inside : List (List Watcher)) (at place : ℕ) (watcher : Watcher) (here pushed : List Watcher) → inside ≡ watchers → place ≡ at → place < length inside → here ≡ get_or inside place here →
    pushed ≡ here ++ watcher ∷ [] → WatchesToo (nat_eq at) watcher watchers (slice_set inside place pushed)
watched_pushed watchers inside at place watcher here pushed inside_is place_is below here_is pushed_is =
    watched_one watchers (slice_set inside place pushed) at watcher (subst (λ (ws : List (List Watcher)). at < length ws) inside_is (subst (λ n. n < length inside) place_is below))
    (λ i. slice_set (inside_is i) (place_is i) (same i))
  where
    same : pushed ≡ watchers_of watchers at ++ watcher ∷ []
    same =
        pushed_is ∙ ap (λ (l : List Watcher). l ++ watcher ∷ [])
        (here_is ∙ any_default inside place here [] below ∙ (λ i. watchers_of (inside_is i) (place_is i)))

pub watched_none : (test : ℕ → Bool) (watcher : Watcher) (watchers : List (List Watcher)) → ((cell : ℕ) → test cell ≡ true → cell < length watchers → ⊥) → WatchesToo test watcher watchers watchers
watched_none test watcher watchers none = record { long = refl; stays = λ cell other among. among; watches = λ cell e less. absurd (none cell e less) }

pub watched_past : (at : ℕ) (watcher : Watcher) (watchers : List (List Watcher)) → length watchers ≤ at → WatchesToo (nat_eq at) watcher watchers watchers
watched_past at watcher watchers past = watched_none (nat_eq at) watcher watchers (λ cell e less. let k : at ≡ cell = grind (arith, nat_tests) in absurd (omega (arith, past, k, less)))

-- the same by another test
pub watched_by : (test whole : ℕ → Bool) (watcher : Watcher) (old new : List (List Watcher)) → whole ≡ test → WatchesToo test watcher old new → WatchesToo whole watcher old new
watched_by test whole watcher old new is watched = subst (λ (f : ℕ → Bool). WatchesToo f watcher old new) (sym is) watched

pub watched_both : (f g whole : ℕ → Bool) (watcher : Watcher) (old middle new : List (List Watcher)) → ◌≡◌ {A = ℕ → Bool} whole (λ cell. f cell || g cell) →
    WatchesToo f watcher old middle → WatchesToo g watcher middle new → WatchesToo whole watcher old new
watched_both f g whole watcher old middle new is one two = watched_by (λ cell. f cell || g cell) whole watcher old new is (record {
  long = two.long ∙ one.long;
  stays = λ cell other among. two.stays cell other (one.stays cell other among);
  watches = watches;
})
  where
    watches : Watches (λ cell. f cell || g cell) watcher new
    watches cell e less = by (f cell) refl e
      where
        by : (b : Bool) → f cell ≡ b → (b || g cell) ≡ true → IsWatcherAmong watcher (watchers_of new cell)
        by true reads h = two.stays cell watcher (one.watches cell reads (subst (λ n. cell < n) two.long less))
        by false reads h = two.watches cell h less

pub watched_not : (condition part got : Cond) (watcher : Watcher) (old new : List (List Watcher)) → condition ≡ Not part → got ≡ part → WatchesToo (reads_cell got) watcher old new →
    WatchesToo (reads_cell condition) watcher old new
watched_not condition part got watcher old new is same = watched_by (reads_cell got) (reads_cell condition) watcher old new (ap reads_cell is ∙ reads-Not part ∙ sym (ap reads_cell same))

either : (left right l r : Cond) → l ≡ left → r ≡ right → ◌≡◌ {A = ℕ → Bool} (λ cell. reads_cell left cell || reads_cell right cell) (λ cell. reads_cell l cell || reads_cell r cell)
either left right l r p q = λ i cell. reads_cell (sym p i) cell || reads_cell (sym q i) cell

pub watched_and : (condition left right l r : Cond) (watcher : Watcher) (old middle new : List (List Watcher)) → condition ≡ And left right → l ≡ left → r ≡ right →
    WatchesToo (reads_cell l) watcher old middle → WatchesToo (reads_cell r) watcher middle new → WatchesToo (reads_cell condition) watcher old new
watched_and condition left right l r watcher old middle new is p q =
    watched_both (reads_cell l) (reads_cell r) (reads_cell condition) watcher old middle new (ap reads_cell is ∙ reads-And left right ∙ either left right l r p q)

pub watched_or : (condition left right l r : Cond) (watcher : Watcher) (old middle new : List (List Watcher)) → condition ≡ Or left right → l ≡ left → r ≡ right →
    WatchesToo (reads_cell l) watcher old middle → WatchesToo (reads_cell r) watcher middle new → WatchesToo (reads_cell condition) watcher old new
watched_or condition left right l r watcher old middle new is p q =
    watched_both (reads_cell l) (reads_cell r) (reads_cell condition) watcher old middle new (ap reads_cell is ∙ reads-Or left right ∙ either left right l r p q)

-- ---- terms

terms_push : (terms : List Term) (term : Term) (cell : ℕ) → reads_terms (terms ++ term ∷ []) cell ≡ (reads_terms terms cell || reads_operand term.operand cell)
terms_push [] term cell = or_false (reads_operand term.operand cell)
  where
    or_false : (b : Bool) → (b || false) ≡ b
    or_false true = refl
    or_false false = refl
terms_push (first ∷ rest) term cell =
    ap (λ b. reads_operand first.operand cell || b) (terms_push rest term cell) ∙ associates (reads_operand first.operand cell) (reads_terms rest cell) (reads_operand term.operand cell)
  where
    associates : (a b c : Bool) → (a || (b || c)) ≡ ((a || b) || c)
    associates true b c = refl
    associates false b c = refl

pub watched_term : (terms : List Term) (i : ℕ) (d : Term) (watcher : Watcher) (old middle new : List (List Watcher)) → i < length terms → WatchesToo (reads_terms (take i terms)) watcher old middle →
    WatchesToo (reads_operand (get_or terms i d).operand) watcher middle new → WatchesToo (reads_terms (take (i + 1) terms)) watcher old new
watched_term terms i d watcher old middle new below =
    watched_both (reads_terms (take i terms)) (reads_operand (get_or terms i d).operand) (reads_terms (take (i + 1) terms)) watcher old middle new
    (ap reads_terms (take_more terms i d below) ∙ (λ j cell. terms_push (take i terms) (get_or terms i d) cell j))

pub watched_terms : (terms : List Term) (i : ℕ) (watcher : Watcher) (old new : List (List Watcher)) → length terms ≤ i → WatchesToo (reads_terms (take i terms)) watcher old new →
    WatchesToo (reads_terms terms) watcher old new
watched_terms terms i watcher old new past = subst (λ (ts : List Term). WatchesToo (reads_terms ts) watcher old new) (take_all i terms past)

-- ---- touched

-- of these watchers those who wait still are stale
abbrev pub GoneStale : List (Option Wait) → List (Option Wait) → List Watcher → Type 0
GoneStale first waits watchers = (watcher : Watcher) → IsWatcherAmong watcher watchers → is_current first watcher ≡ true → is_stale (numbered_wait waits watcher.number) ≡ true

get_drop : {X : Type 0} (xs : List X) (i : ℕ) (d : X) → get_or (drop i xs) 0 d ≡ get_or xs i d
get_drop [] zero d = refl
get_drop [] (suc i) d = refl
get_drop (x ∷ xs) zero d = refl
get_drop (x ∷ xs) (suc i) d = get_drop xs i d

-- what is not filtered yet is as it was
pub still_there : (xs ys : List Watcher) (i : ℕ) (watcher : Watcher) → drop i ys ≡ drop i xs → watcher ≡ get_or ys i watcher → watcher ≡ get_or xs i watcher
still_there xs ys i watcher rest is = is ∙ sym (get_drop ys i watcher) ∙ ap (λ (ws : List Watcher). get_or ws 0 watcher) rest ∙ get_drop xs i watcher

pub stale_more : (first waits later : List (Option Wait)) (watchers : List Watcher) (watcher : Watcher) (i : ℕ) → i < length watchers → watcher ≡ get_or watchers i watcher → MayGoStale first waits →
    MayGoStale waits later → (is_current waits watcher ≡ true → is_stale (numbered_wait later watcher.number) ≡ true) → GoneStale first waits (take i watchers) → GoneStale first later (take (i + 1) watchers)
stale_more first waits later watchers watcher i below is before may touched gone other among current = by (old_or_new (take i watchers) watcher other (subst (IsWatcherAmong other) parts among))
  where
    parts : take (i + 1) watchers ≡ take i watchers ++ watcher ∷ []
    parts = take_more watchers i watcher below ∙ ap (λ (w : Watcher). take i watchers ++ w ∷ []) (sym is)

    by : IsWatcherAmong other (take i watchers) ⊎ (other ≡ watcher) → is_stale (numbered_wait later other.number) ≡ true
    by (inl earlier) = stays_stale waits later other.number may (gone other earlier current)
    by (inr same) =
        ap (λ (w : Watcher). is_stale (numbered_wait later w.number)) same
        ∙ touched (current_same first waits watcher before ∙ ap (is_current first) (sym same) ∙ current)
