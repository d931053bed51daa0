-- The instant of an old run at a time is the only one of that time.
use Rattle.std.proofs.Common.{◌≡◌, ◌⊎◌, inl, inr, ℕ, zero, suc, ◌+◌, ◌<◌, ◌≤◌, Bool, true, false, if◌then◌else◌, List, [], ◌∷◌, ◌++◌, length, get_or, Option, Some, None, slice_get, refl, sym, ap, ◌∙◌, subst, arith}
use Rattle.std.proofs.lemmas.Bool.{eq-eqb, ne_eqb, ltb-true, ltb-false, lt-ltb, cases_lt}
use Rattle.std.specs.List.Sorted.{IsPartitionedBy}
use Rattle.std.specs.List.{Contains}
use Rattle.std.specs.Option.{option_and_then}
use Rattle.run_data.specs.TaskFrames.{Frame}
use Rattle.run_data.specs.declared.runs.Instant.{Instant}
use Rattle.run_data.specs.laws.Rising.{RiseAbove, RiseFromStart}
use Rattle.resimulate.specs.OldBatches.{AreEarly, IsFirstFrom, instant_at_time, batch_at, is_earlier}

get_or_any : {A : Type 0} (all : List A) (k : ℕ) (d e : A) → k < length all → get_or all k d ≡ get_or all k e
get_or_any [] k d e less = absurd (omega (arith, less))
get_or_any (first ∷ rest) zero d e less = refl
get_or_any (first ∷ rest) (suc k) d e less = get_or_any rest k d e (omega (arith, less))

later_than : (time : ℕ) (instants : List Instant) → RiseAbove time instants → (k : ℕ) (instant : Instant) → k < length instants → get_or instants k instant ≡ instant → time < instant.time
later_than time [] rise k instant less is = absurd (omega (arith, less))
later_than time (first ∷ rest) rise zero instant less is = subst (λ (i : Instant). time < i.time) is rise.0
later_than time (first ∷ rest) rise (suc k) instant less is =
    let further = later_than first.time rest rise.1 k instant (omega (arith, less)) is in
    let here = rise.0 in omega (arith, further, here)

here : (first : Instant) (rest : List Instant) (time : ℕ) → first.time ≡ time → instant_at_time time (first ∷ rest) ≡ Some first
here first rest time e = ap (λ (b : Bool). if b then Some first else instant_at_time time rest) (eq-eqb first.time time e)

past : (first : Instant) (rest : List Instant) (time : ℕ) → (first.time ≡ time → ⊥) → instant_at_time time (first ∷ rest) ≡ instant_at_time time rest
past first rest time e = ap (λ (b : Bool). if b then Some first else instant_at_time time rest) (ne_eqb first.time time e)

found_above : (start : ℕ) (instants : List Instant) → RiseAbove start instants → (k : ℕ) (instant : Instant) → k < length instants → get_or instants k instant ≡ instant →
    instant_at_time instant.time instants ≡ Some instant
found_above start [] rise k instant less is = absurd (omega (arith, less))
found_above start (first ∷ rest) rise zero instant less is = here first rest instant.time (ap (λ (i : Instant). i.time) is) ∙ ap Some is
found_above start (first ∷ rest) rise (suc k) instant less is =
    let behind = later_than first.time rest rise.1 k instant (omega (arith, less)) is in
    past first rest instant.time (λ e. absurd (omega (arith, behind, e))) ∙ found_above first.time rest rise.1 k instant (omega (arith, less)) is

-- an instant of a run that rises is that at its time
pub instant_found : (instants : List Instant) → RiseFromStart instants → (instant : Instant) → Contains instants instant → instant_at_time instant.time instants ≡ Some instant
instant_found [] rise instant has = let less = has.1 in absurd (omega (arith, less))
instant_found (first ∷ rest) rise instant has = by has.0 has.1 has.2
  where
    by : (k : ℕ) → k < length (first ∷ rest) → get_or (first ∷ rest) k instant ≡ instant → instant_at_time instant.time (first ∷ rest) ≡ Some instant
    by zero less is = here first rest instant.time (ap (λ (i : Instant). i.time) is) ∙ ap Some is
    by (suc k) less is =
        let behind = later_than first.time rest rise.1 k instant (omega (arith, less)) is in
        past first rest instant.time (λ e. absurd (omega (arith, behind, e))) ∙ found_above first.time rest rise.1 k instant (omega (arith, less)) is

in_the_middle : (batches : List (List Frame)) (frames : List Frame) (rest : List (List Frame)) → slice_get ((batches ++ frames ∷ []) ++ rest) (length batches) ≡ Some frames
in_the_middle [] frames rest = refl
in_the_middle (first ∷ others) frames rest = in_the_middle others frames rest

-- so a batch of it is that at its time and place
pub batch_found : (instants : List Instant) → RiseFromStart instants → (instant : Instant) → Contains instants instant → (time : ℕ) → instant.time ≡ time →
    (batches : List (List Frame)) (frames : List Frame) (rest : List (List Frame)) → instant.batches ≡ (batches ++ frames ∷ []) ++ rest → batch_at time (length batches) instants ≡ Some frames
batch_found instants rise instant has time at_time batches frames rest is =
    ap (λ (o : Option Instant). option_and_then (λ one. slice_get one.batches (length batches)) o)
    (ap (λ t. instant_at_time t instants) (sym at_time) ∙ instant_found instants rise instant has)
    ∙ ap (λ (l : List (List Frame)). slice_get l (length batches)) is
    ∙ in_the_middle batches frames rest

-- ---- times by index

above : (time : ℕ) (instants : List Instant) → RiseAbove time instants → (k : ℕ) (d : Instant) → k < length instants → time < (get_or instants k d).time
above time [] rise k d within = absurd (omega (arith, within))
above time (one ∷ rest) rise zero d within = rise.0
above time (one ∷ rest) rise (suc k) d within =
    let further = above one.time rest rise.1 k d (omega (arith, within)) in
    let first = rise.0 in omega (arith, further, first)

rise_above : (start : ℕ) (instants : List Instant) → RiseAbove start instants → (i j : ℕ) (d : Instant) → i < j → j < length instants → (get_or instants i d).time < (get_or instants j d).time
rise_above start [] rise i j d less within = absurd (omega (arith, within))
rise_above start (first ∷ rest) rise i zero d less within = absurd (omega (arith, less))
rise_above start (first ∷ rest) rise zero (suc j) d less within = above first.time rest rise.1 j d (omega (arith, within))
rise_above start (first ∷ rest) rise (suc i) (suc j) d less within = rise_above first.time rest rise.1 i j d (omega (arith, less)) (omega (arith, within))

times_rise : (instants : List Instant) → RiseFromStart instants → (i j : ℕ) (d : Instant) → i < j → j < length instants → (get_or instants i d).time < (get_or instants j d).time
times_rise [] rise i j d less within = absurd (omega (arith, within))
times_rise (first ∷ rest) rise i zero d less within = absurd (omega (arith, less))
times_rise (first ∷ rest) rise zero (suc j) d less within = above first.time rest rise.1 j d (omega (arith, within))
times_rise (first ∷ rest) rise (suc i) (suc j) d less within = rise_above first.time rest rise.1 i j d (omega (arith, less)) (omega (arith, within))

none_at : (time : ℕ) (instants : List Instant) → ((k : ℕ) (d : Instant) → k < length instants → (get_or instants k d).time ≡ time → ⊥) → instant_at_time time instants ≡ None
none_at time [] none = refl
none_at time (first ∷ rest) none = past first rest time (none 0 first (omega arith)) ∙ none_at time rest (λ k d less. none (suc k) d (omega (arith, less)))

-- ---- what stands at an index

within_there : (instants : List Instant) (k : ℕ) (one : Instant) → slice_get instants k ≡ Some one → k < length instants
within_there [] k one e = absurd (cc)
within_there (first ∷ rest) zero one e = omega arith
within_there (first ∷ rest) (suc k) one e = (let further = within_there rest k one e in omega (arith, further))

there_at : (instants : List Instant) (k : ℕ) (d : Instant) → k < length instants → slice_get instants k ≡ Some (get_or instants k d)
there_at [] k d less = absurd (omega (arith, less))
there_at (first ∷ rest) zero d less = refl
there_at (first ∷ rest) (suc k) d less = there_at rest k d (omega (arith, less))

same_there : (instants : List Instant) (k : ℕ) (one other : Instant) → k < length instants → one ≡ get_or instants k one → slice_get instants k ≡ Some other → one ≡ other
same_there instants k one other less is e = (let there : slice_get instants k ≡ Some (get_or instants k one) = there_at instants k one less in cc)

-- ---- on to a time

-- the first index of all
pub early_none : (time : ℕ) (instants : List Instant) → AreEarly time 0 instants
early_none time instants k one there less = absurd (omega (arith, less))

-- past an instant that is earlier
pub early_more : (time at : ℕ) (instants : List Instant) (one : Instant) → at < length instants → one ≡ get_or instants at one → is_earlier time one ≡ true → AreEarly time at instants → AreEarly time (at + 1) instants
early_more time at instants one within is earlier early k other there less = by (cases_lt k at)
  where
    by : (k < at) ⊎ (at ≤ k) → other.time < time
    by (inl before) = early k other there before
    by (inr behind) =
        let k_is : k ≡ at = omega (arith, less, behind) in
        let same = same_there instants at one other within is (ap (slice_get instants) (sym k_is) ∙ there) in
        subst (λ (i : Instant). i.time < time) same (ltb-true one.time time earlier)

-- to the first that is not
pub first_here : (time at : ℕ) (instants : List Instant) (one : Instant) → at < length instants → one ≡ get_or instants at one → is_earlier time one ≡ false → AreEarly time at instants → IsFirstFrom time at instants
first_here time at instants one within is later early = record {
  early = early;
  late = λ other there. subst (λ (i : Instant). time ≤ i.time) (same_there instants at one other within is there) (ltb-false one.time time later);
}

-- or behind all
pub first_past : (time at : ℕ) (instants : List Instant) → length instants ≤ at → AreEarly time at instants → IsFirstFrom time (length instants) instants
first_past time at instants most early = record {
  early = λ k one there less. early k one there (omega (arith, less, most));
  late = λ one there. (let within = within_there instants (length instants) one there in absurd (omega (arith, within)));
}

module _ (time : ℕ) (instants : List Instant) (rise : RiseFromStart instants) where
  pub parted : IsPartitionedBy (is_earlier time) instants
  parted i j d most within earlier = by (cases_lt i j)
    where
      by : (i < j) ⊎ (j ≤ i) → is_earlier time (get_or instants i d) ≡ true
      by (inl less) =
          let before = times_rise instants rise i j d less within in
          let last = ltb-true (get_or instants j d).time time earlier in
          lt-ltb (get_or instants i d).time time (omega (arith, before, last))
      by (inr more_) = ap (λ k. is_earlier time (get_or instants k d)) (let same : i ≡ j = omega (arith, most, more_) in same) ∙ earlier

  -- where one instant is earlier, all before it are
  pub early_through : (at : ℕ) (one : Instant) → at < length instants → one ≡ get_or instants at one → is_earlier time one ≡ true → AreEarly time (at + 1) instants
  early_through at one within is earlier k other there less =
      let here : is_earlier time (get_or instants at other) ≡ true = ap (is_earlier time) (get_or_any instants at other one within ∙ sym is) ∙ earlier in
      let before = parted k at other (omega (arith, less)) within here in
      let is_there : slice_get instants k ≡ Some (get_or instants k other) = there_at instants k other (within_there instants k other there) in
      let same : get_or instants k other ≡ other = cc in
      ltb-true other.time time (subst (λ (i : Instant). is_earlier time i ≡ true) same before)

  module _ (at : ℕ) (first : IsFirstFrom time at instants) where
    pub past_all : length instants ≤ at → instant_at_time time instants ≡ None
    past_all most =
        none_at time instants
        (λ k d less same. (let early = first.early k (get_or instants k d) (there_at instants k d less) (omega (arith, less, most)) in absurd (omega (arith, early, same))))

    module _ (one : Instant) (within : at < length instants) (is : one ≡ get_or instants at one) where
      pub found_at : one.time ≡ time → instant_at_time time instants ≡ Some one
      found_at same = ap (λ t. instant_at_time t instants) (sym same) ∙ instant_found instants rise one (at, within, sym is)

      pub found_later : (one.time ≡ time → ⊥) → instant_at_time time instants ≡ None
      found_later differs = none_at time instants (λ k d less same. by k d less same (cases_lt k at) (cases_lt at k))
        where
          here_late : time ≤ one.time
          here_late = first.late one (there_at instants at one within ∙ ap Some (sym is))

          by : (k : ℕ) (d : Instant) → k < length instants → (get_or instants k d).time ≡ time → (k < at) ⊎ (at ≤ k) → (at < k) ⊎ (k ≤ at) → ⊥
          by k d less same (inl before) other = (let e = first.early k (get_or instants k d) (there_at instants k d less) before in absurd (omega (arith, e, same)))
          by k d less same (inr behind) (inl later) =
              let rises = times_rise instants rise at k one later less in
              let here : (get_or instants at one).time ≡ one.time = ap (λ (i : Instant). i.time) (sym is) in
              let same_d : (get_or instants k one).time ≡ (get_or instants k d).time = ap (λ (i : Instant). i.time) (get_or_any instants k one d less) in
              let late_here = here_late in
              absurd (omega (arith, rises, here, same_d, late_here, same))
          by k d less same (inr behind) (inr before) =
              let k_is : k ≡ at = omega (arith, behind, before) in
              differs (ap (λ (i : Instant). i.time) (is ∙ get_or_any instants at one d within ∙ ap (λ n. get_or instants n d) (sym k_is)) ∙ same)
