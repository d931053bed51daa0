-- The set of the wake times that are kept, and the numbers of those that are stale, as one number waits in another way.
use Rattle.std.proofs.Common.{◌≡◌, ◌≢◌, ◌⊎◌, inl, inr, ℕ, zero, suc, nat_eq, Bool, true, false, not, ◌&&◌, ◌||◌, List, [], ◌∷◌, ◌++◌, Option, Some, None, option_map, refl, sym, ap, ◌∙◌, subst, arith}
use Rattle.std.proofs.lemmas.Bool.{false≢true}
use Rattle.std.proofs.lemmas.Bool.Decides.{nat_tests}
use Rattle.std.specs.BTreeSet as set
use Rattle.std.specs.BTreeSet.{BTreeSet}
use Rattle.live_tasks.specs.declared.wake_times.Wake.{Wake}
use Rattle.live_tasks.specs.declared.wake_times.Wake.TheVariants.{Stale, Never, At}
use Rattle.live_tasks.specs.declared.wake_times.Wait.{Wait}
use Rattle.live_tasks.specs.declared.wake_times.Watcher.{Watcher}
use Rattle.live_tasks.specs.Endings.{IsNumberAmong}
use Rattle.live_tasks.specs.Listing.{ends_at}
use Rattle.live_tasks.specs.WakeTimes.{numbered_wait, time_of_wake, kept_time, is_stale_wake, is_stale, found_wake, with_wake, WaitBecomes, wake_cmp, has_wake, AreWakes, HasWakeToo, HasWakeNoMore, began_at, is_current, MayGoStale}
use Rattle.live_tasks.proofs.Forests.{same_or_not}
use Rattle.live_tasks.proofs.ListedNumbers.{push_old, push_new}

-- ---- the set without a time, or with one more

itself : (n : ℕ) → nat_eq n n ≡ true
itself n = grind (arith, nat_tests)

apart_test : (number n : ℕ) → n ≢ number → nat_eq number n ≡ false
apart_test number n apart = grind (arith, nat_tests)

and_true : (b : Bool) → (b && true) ≡ b
and_true true = refl
and_true false = refl

or_false : (b : Bool) → (b || false) ≡ b
or_false true = refl
or_false false = refl

and_not_itself : (b : Bool) → (b && not b) ≡ false
and_not_itself true = refl
and_not_itself false = refl

module _ (before after : BTreeSet (ℕ × ℕ)) (number : ℕ) (time : Option ℕ) where
  less_apart : HasWakeNoMore number time before after → (t n : ℕ) → n ≢ number → has_wake after t n ≡ has_wake before t n
  less_apart less t n apart = less t n ∙ ap (λ b. has_wake before t n && not (b && ends_at t time)) (apart_test number n apart) ∙ and_true (has_wake before t n)

  less_here : HasWakeNoMore number time before after → (t : ℕ) → has_wake before t number ≡ ends_at t time → has_wake after t number ≡ false
  less_here less t has =
      less t number ∙ ap (λ b. has_wake before t number && not (b && ends_at t time)) (itself number)
      ∙ ap (λ b. b && not (ends_at t time)) has ∙ and_not_itself (ends_at t time)

  more_apart : HasWakeToo number time before after → (t n : ℕ) → n ≢ number → has_wake after t n ≡ has_wake before t n
  more_apart more t n apart = more t n ∙ ap (λ b. has_wake before t n || (b && ends_at t time)) (apart_test number n apart) ∙ or_false (has_wake before t n)

  more_here : HasWakeToo number time before after → (t : ℕ) → has_wake before t number ≡ false → has_wake after t number ≡ ends_at t time
  more_here more t none = more t number ∙ ap (λ b. has_wake before t number || (b && ends_at t time)) (itself number) ∙ ap (λ b. b || ends_at t time) none

pub taken_out_if : (before after : BTreeSet (ℕ × ℕ)) (number time : ℕ) (found : Option ℕ) → found ≡ Some time →
    ((t n : ℕ) → has_wake after t n ≡ (has_wake before t n && not (nat_eq number n && nat_eq time t))) → HasWakeNoMore number found before after
taken_out_if before after number time found e less t n = less t n ∙ ap (λ f. has_wake before t n && not (nat_eq number n && ends_at t f)) (sym e)

pub none_out : (before : BTreeSet (ℕ × ℕ)) (number : ℕ) (found : Option ℕ) → found ≡ None → HasWakeNoMore number found before before
none_out before number found e t n =
    sym (and_true (has_wake before t n)) ∙ ap (λ b. has_wake before t n && not b) (sym (and_false (nat_eq number n)))
    ∙ ap (λ f. has_wake before t n && not (nat_eq number n && ends_at t f)) (sym e)
  where
    and_false : (b : Bool) → (b && false) ≡ false
    and_false true = refl
    and_false false = refl

-- ---- one number waits in another way

module _ (old new : List (Option Wait)) (number : ℕ) (found : Option Wait) (becomes : WaitBecomes old new number found) where
  exact_becomes : (wakes after : BTreeSet (ℕ × ℕ)) → ((t n : ℕ) → has_wake wakes t n ≡ ends_at t (kept_time (numbered_wait old n))) →
      ((t n : ℕ) → n ≢ number → has_wake after t n ≡ has_wake wakes t n) → ((t : ℕ) → has_wake after t number ≡ ends_at t (kept_time found)) →
      (t n : ℕ) → has_wake after t n ≡ ends_at t (kept_time (numbered_wait new n))
  exact_becomes wakes after exact others here t n = by (same_or_not n number)
    where
      by : (n ≡ number) ⊎ (n ≢ number) → has_wake after t n ≡ ends_at t (kept_time (numbered_wait new n))
      by (inl e) = ap (has_wake after t) e ∙ here t ∙ ap (λ w. ends_at t (kept_time w)) (sym becomes.is_there ∙ ap (numbered_wait new) (sym e))
      by (inr apart) = others t n apart ∙ exact t n ∙ ap (λ w. ends_at t (kept_time w)) (sym (becomes.others n apart))

  stale_becomes : (stale later : List ℕ) → ((n : ℕ) → is_stale (numbered_wait old n) ≡ true → IsNumberAmong n stale) → ((n : ℕ) → n ≢ number → IsNumberAmong n stale → IsNumberAmong n later) →
      (is_stale found ≡ true → IsNumberAmong number later) → (n : ℕ) → is_stale (numbered_wait new n) ≡ true → IsNumberAmong n later
  stale_becomes stale later was others here n e = by (same_or_not n number)
    where
      by : (n ≡ number) ⊎ (n ≢ number) → IsNumberAmong n later
      by (inl same) = subst_among (sym same) (here (ap is_stale (sym becomes.is_there ∙ ap (numbered_wait new) (sym same)) ∙ e))
        where
          subst_among : number ≡ n → IsNumberAmong number later → IsNumberAmong n later
          subst_among k among = subst (λ m. IsNumberAmong m later) k among
      by (inr apart) = others n apart (was n (ap is_stale (sym (becomes.others n apart)) ∙ e))

  module _ (wakes : BTreeSet (ℕ × ℕ)) (stale : List ℕ) (are : AreWakes old wakes stale) where
    here_is : (t : ℕ) → has_wake wakes t number ≡ ends_at t (kept_time (numbered_wait old number))
    here_is t = are.exact t number

    -- it begins to wait
    pub wakes_begun : numbered_wait old number ≡ None → kept_time found ≡ None → AreWakes new wakes (stale ++ number ∷ [])
    wakes_begun none stale_now = record {
      sorted = are.sorted;
      exact = exact_becomes wakes wakes are.exact (λ t n apart. refl) (λ t. here_is t ∙ ap (λ w. ends_at t (kept_time w)) none ∙ ap (ends_at t) (sym stale_now));
      stale_ = stale_becomes stale (stale ++ number ∷ []) are.stale_ (λ n apart among. push_old stale number n among) (λ e. push_new stale number);
    }

    -- its wake time, if it has one, is left out, and it is stale
    pub wakes_stale : (after : BTreeSet (ℕ × ℕ)) (time : Option ℕ) → kept_time (numbered_wait old number) ≡ time → kept_time found ≡ None → HasWakeNoMore number time wakes after →
        (set.IsOrdered wake_cmp wakes → set.IsOrdered wake_cmp after) → AreWakes new after (stale ++ number ∷ [])
    wakes_stale after time was none less sorted = record {
      sorted = sorted are.sorted;
      exact = exact_becomes wakes after are.exact (less_apart wakes after number time less)
          (λ t. less_here wakes after number time less t (here_is t ∙ ap (ends_at t) was) ∙ ap (ends_at t) (sym none));
      stale_ = stale_becomes stale (stale ++ number ∷ []) are.stale_ (λ n apart among. push_old stale number n among) (λ e. push_new stale number);
    }

    -- it waits no more
    pub wakes_ended : (after : BTreeSet (ℕ × ℕ)) (time : ℕ) → has_wake wakes time number ≡ true → found ≡ None → HasWakeNoMore number (Some time) wakes after →
        (set.IsOrdered wake_cmp wakes → set.IsOrdered wake_cmp after) → AreWakes new after stale
    wakes_ended after time has none less sorted = record {
      sorted = sorted are.sorted;
      exact = exact_becomes wakes after are.exact (less_apart wakes after number (Some time) less)
          (λ t. less_here wakes after number (Some time) less t (here_is t ∙ ap (ends_at t) was) ∙ ap (λ w. ends_at t (kept_time w)) (sym none));
      stale_ = stale_becomes stale stale are.stale_ (λ n apart among. among) (λ e. absurd (false≢true (ap is_stale (sym none) ∙ e)));
    }
      where
        ends : (o : Option ℕ) → ends_at time o ≡ true → o ≡ Some time
        ends None e = absurd (false≢true e)
        ends (Some other) e = let k : other ≡ time = grind (arith, nat_tests) in ap Some k

        was : kept_time (numbered_wait old number) ≡ Some time
        was = ends (kept_time (numbered_wait old number)) (sym (here_is time) ∙ has)

-- its wake time is found
module _ (old new : List (Option Wait)) (number : ℕ) (found : Option Wait) (becomes : WaitBecomes old new number found) (wakes after : BTreeSet (ℕ × ℕ)) (stale : List ℕ)
    (are : AreWakes old wakes (number ∷ stale)) where
  pub wakes_kept : (time : Option ℕ) → kept_time (numbered_wait old number) ≡ None → kept_time found ≡ time → is_stale found ≡ false → HasWakeToo number time wakes after →
      (set.IsOrdered wake_cmp wakes → set.IsOrdered wake_cmp after) → AreWakes new after stale
  wakes_kept time none is fresh more sorted = record {
    sorted = sorted are.sorted;
    exact = exact_becomes old new number found becomes wakes after are.exact (more_apart wakes after number time more)
        (λ t. more_here wakes after number time more t (are.exact t number ∙ ap (ends_at t) none) ∙ ap (ends_at t) (sym is));
    stale_ = stale_becomes old new number found becomes (number ∷ stale) stale are.stale_ (λ n apart among. other n apart among) (λ e. absurd (false≢true (sym fresh ∙ e)));
  }
    where
      other : (n : ℕ) → n ≢ number → IsNumberAmong n (number ∷ stale) → IsNumberAmong n stale
      other n apart (inl e) = absurd (apart e)
      other n apart (inr among) = among

-- it was kept before
pub wakes_left : (waits : List (Option Wait)) (number : ℕ) (wakes : BTreeSet (ℕ × ℕ)) (stale : List ℕ) → is_stale (numbered_wait waits number) ≡ false → AreWakes waits wakes (number ∷ stale) → AreWakes waits wakes stale
wakes_left waits number wakes stale fresh are = record { sorted = are.sorted; exact = are.exact; stale_ = λ n e. other n e (are.stale_ n e) }
  where
    other : (n : ℕ) → is_stale (numbered_wait waits n) ≡ true → IsNumberAmong n (number ∷ stale) → IsNumberAmong n stale
    other n e (inl same) = absurd (false≢true (sym fresh ∙ ap (λ m. is_stale (numbered_wait waits m)) (sym same) ∙ e))
    other n e (inr among) = among

-- ---- what is stale

pub found_time : (wait : Wait) (time : Option ℕ) → time_of_wake (with_wake (found_wake time) wait).wake ≡ time
found_time wait None = refl
found_time wait (Some time) = refl

pub found_fresh : (wait : Wait) (time : Option ℕ) → is_stale_wake (with_wake (found_wake time) wait).wake ≡ false
found_fresh wait None = refl
found_fresh wait (Some time) = refl

pub stale_no_time : (wake : Wake) → is_stale_wake wake ≡ true → time_of_wake wake ≡ None
stale_no_time Stale e = refl
stale_no_time Never e = refl
stale_no_time (At time) e = absurd (false≢true e)

pub stale_already : (wake : Wake) → is_stale_wake wake ≡ true → wake ≡ Stale
stale_already Stale e = refl
stale_already Never e = absurd (false≢true e)
stale_already (At time) e = absurd (false≢true e)

-- ---- each waits as it did

pub may_stay : (waits : List (Option Wait)) → MayGoStale waits waits
may_stay waits number = inl refl

-- one number has another wake time, that is stale
pub may_one : (old new : List (Option Wait)) (number : ℕ) (wait : Wait) → numbered_wait old number ≡ Some wait → WaitBecomes old new number (Some (with_wake Stale wait)) → MayGoStale old new
may_one old new number wait was becomes n = by (same_or_not n number)
  where
    by : (n ≡ number) ⊎ (n ≢ number) → (numbered_wait new n ≡ numbered_wait old n) ⊎ (numbered_wait new n ≡ option_map (with_wake Stale) (numbered_wait old n))
    by (inl e) = inr (ap (numbered_wait new) e ∙ becomes.is_there ∙ ap (option_map (with_wake Stale)) (sym was ∙ ap (numbered_wait old) (sym e)))
    by (inr apart) = inl (becomes.others n apart)

stale_twice : (found : Option Wait) → option_map (with_wake Stale) (option_map (with_wake Stale) found) ≡ option_map (with_wake Stale) found
stale_twice None = refl
stale_twice (Some wait) = refl

pub may_then : (first second third : List (Option Wait)) → MayGoStale first second → MayGoStale second third → MayGoStale first third
may_then first second third one two n = by (one n) (two n)
  where
    by : (numbered_wait second n ≡ numbered_wait first n) ⊎ (numbered_wait second n ≡ option_map (with_wake Stale) (numbered_wait first n)) →
        (numbered_wait third n ≡ numbered_wait second n) ⊎ (numbered_wait third n ≡ option_map (with_wake Stale) (numbered_wait second n)) →
        (numbered_wait third n ≡ numbered_wait first n) ⊎ (numbered_wait third n ≡ option_map (with_wake Stale) (numbered_wait first n))
    by (inl e) (inl f) = inl (f ∙ e)
    by (inl e) (inr f) = inr (f ∙ ap (option_map (with_wake Stale)) e)
    by (inr e) (inl f) = inr (f ∙ e)
    by (inr e) (inr f) = inr (f ∙ ap (option_map (with_wake Stale)) e ∙ stale_twice (numbered_wait first n))

began_stale : (since : ℕ) (found : Option Wait) → began_at since (option_map (with_wake Stale) found) ≡ began_at since found
began_stale since None = refl
began_stale since (Some wait) = refl

pub current_same : (old new : List (Option Wait)) (watcher : Watcher) → MayGoStale old new → is_current new watcher ≡ is_current old watcher
current_same old new watcher may = by (may watcher.number)
  where
    by : (numbered_wait new watcher.number ≡ numbered_wait old watcher.number) ⊎ (numbered_wait new watcher.number ≡ option_map (with_wake Stale) (numbered_wait old watcher.number)) → is_current new watcher ≡ is_current old watcher
    by (inl e) = ap (began_at watcher.since) e
    by (inr e) = ap (began_at watcher.since) e ∙ began_stale watcher.since (numbered_wait old watcher.number)

stale_still : (found : Option Wait) → is_stale found ≡ true → is_stale (option_map (with_wake Stale) found) ≡ true
stale_still None e = e
stale_still (Some wait) e = refl

pub stays_stale : (old new : List (Option Wait)) (number : ℕ) → MayGoStale old new → is_stale (numbered_wait old number) ≡ true → is_stale (numbered_wait new number) ≡ true
stays_stale old new number may was = by (may number)
  where
    by : (numbered_wait new number ≡ numbered_wait old number) ⊎ (numbered_wait new number ≡ option_map (with_wake Stale) (numbered_wait old number)) → is_stale (numbered_wait new number) ≡ true
    by (inl e) = ap is_stale e ∙ was
    by (inr e) = ap is_stale e ∙ stale_still (numbered_wait old number) was

-- ---- room

pub pushed_none : (waits : List (Option Wait)) (other : ℕ) → numbered_wait (waits ++ None ∷ []) other ≡ numbered_wait waits other
pushed_none [] zero = refl
pushed_none [] (suc other) = refl
pushed_none (wait ∷ rest) zero = refl
pushed_none (wait ∷ rest) (suc other) = pushed_none rest other
