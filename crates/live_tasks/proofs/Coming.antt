-- An edge comes: the followers fall due one after another.
use Rattle.std.proofs.Common.{◌≡◌, ◌≢◌, ◌⊎◌, inl, inr, ℕ, zero, suc, ◌+◌, ◌-◌, ◌<◌, ◌≤◌, Bool, true, false, ◌&&◌, nat_eq, List, [], ◌∷◌, length, drop, Option, Some, None, option_map, refl, sym, ap, ◌∙◌, arith, if◌then◌else◌, slice_get, get_or}
use Rattle.std.proofs.lemmas.List.{length-drop, get_or-drop, get_or_default}
use Rattle.std.proofs.lemmas.List.Sorted.{IsNonDecreasingBy-drop}
use Rattle.std.specs.List.{AllWithin}
use Rattle.aerie_base.specs.declared.plans.Edge.{Edge}
use Rattle.run_data.specs.declared.tasks.TaskState.{TaskState}
use Rattle.run_data.specs.Tasks.{TaskPhase, anchored, ready, delayed, waiting, calling, over, after_delay}
use Rattle.live_tasks.specs.declared.slots.Slot.{Slot}
use Rattle.live_tasks.specs.Phases.{phase_when_due, is_same_edge}
use Rattle.live_tasks.specs.Slots.{Slots, slot_at, Becomes}
use Rattle.live_tasks.specs.Endings.{slot_when_due, FallDue}
use Rattle.live_tasks.specs.Followers.{Follows, AreById, AreFollowers, AreFollowersOf}
use Rattle.live_tasks.specs.declared.followers.Follower.{Follower}
use Rattle.live_tasks.proofs.Forests.{same_or_not}
use Rattle.run_data.specs.laws.PathsUnder.{same_number}

module _ (now to : ℕ) (edge : Edge) where
  delay_stays : (n : ℕ) (state : TaskState) → phase_when_due now to edge (after_delay now n state) ≡ after_delay now n state
  delay_stays zero state = refl
  delay_stays (suc n) state = refl

  fallen_twice : (phase : TaskPhase) → phase_when_due now to edge (phase_when_due now to edge phase) ≡ phase_when_due now to edge phase
  fallen_twice (anchored id at start state) = by (nat_eq id to && is_same_edge at edge) refl
    where
      by : (b : Bool) → (nat_eq id to && is_same_edge at edge) ≡ b →
          phase_when_due now to edge (if b then after_delay now start state else anchored id at start state) ≡ (if b then after_delay now start state else anchored id at start state)
      by true e = delay_stays start state
      by false e = rw e refl
  fallen_twice (ready state) = refl
  fallen_twice (delayed until state) = refl
  fallen_twice (waiting condition state) = refl
  fallen_twice (calling child into state) = refl
  fallen_twice (over result) = refl

  -- who is anchored to no edge of it stays
  fallen_free : (phase : TaskPhase) → ((at : Edge) (start : ℕ) (state : TaskState) → phase ≡ anchored to at start state → ⊥) → phase_when_due now to edge phase ≡ phase
  fallen_free (anchored id at start state) free = by (nat_eq id to) refl
    where
      by : (b : Bool) → nat_eq id to ≡ b → phase_when_due now to edge (anchored id at start state) ≡ anchored id at start state
      by true e = absurd (free at start state (ap (λ n. anchored n at start state) (same_number id to e)))
      by false e = rw e refl
  fallen_free (ready state) free = refl
  fallen_free (delayed until state) free = refl
  fallen_free (waiting condition state) free = refl
  fallen_free (calling child into state) free = refl
  fallen_free (over result) free = refl

  data Anchored (phase : TaskPhase) : Type 0 where
    is_anchored : (at : Edge) (start : ℕ) (state : TaskState) → phase ≡ anchored to at start state → Anchored phase
    is_free : ((at : Edge) (start : ℕ) (state : TaskState) → phase ≡ anchored to at start state → ⊥) → Anchored phase

  anchored_or_not : (phase : TaskPhase) → Anchored phase
  anchored_or_not (anchored id at start state) = by (same_or_not id to)
    where
      other : (id ≢ to) → (at_ : Edge) (start_ : ℕ) (state_ : TaskState) → anchored id at start state ≡ anchored to at_ start_ state_ → ⊥
      other apart at_ start_ state_ e = apart (let k : id ≡ to = cc in k)

      by : (id ≡ to) ⊎ (id ≢ to) → Anchored (anchored id at start state)
      by (inl e) = is_anchored at start state (ap (λ n. anchored n at start state) e)
      by (inr apart) = is_free (other apart)
  anchored_or_not (ready state) = is_free (λ a b c e. absurd (cc))
  anchored_or_not (delayed until state) = is_free (λ a b c e. absurd (cc))
  anchored_or_not (waiting condition state) = is_free (λ a b c e. absurd (cc))
  anchored_or_not (calling child into state) = is_free (λ a b c e. absurd (cc))
  anchored_or_not (over result) = is_free (λ a b c e. absurd (cc))

  abbrev fall : Option Slot → Option Slot
  fall found = option_map (slot_when_due now to edge) found

  slot_twice : (slot : Slot) → slot_when_due now to edge (slot_when_due now to edge slot) ≡ slot_when_due now to edge slot
  slot_twice slot = ap (λ (phase : TaskPhase). record slot { task = record slot.task { phase = phase } }) (fallen_twice slot.task.phase)

  fall_twice : (found : Option Slot) → fall (fall found) ≡ fall found
  fall_twice None = refl
  fall_twice (Some slot) = ap Some (slot_twice slot)

  fall_free : (slot : Slot) → ((at : Edge) (start : ℕ) (state : TaskState) → slot.task.phase ≡ anchored to at start state → ⊥) → slot_when_due now to edge slot ≡ slot
  fall_free slot free = ap (λ (phase : TaskPhase). record slot { task = record slot.task { phase = phase } }) (fallen_free slot.task.phase free)

  -- each has its due time, or is among those that are left
  abbrev pub IsComing : Slots → Slots → List Follower → Type 0
  IsComing old new left = (number : ℕ) → (slot_at new number ≡ option_map (slot_when_due now to edge) (slot_at old number)) ⊎ ((slot_at new number ≡ slot_at old number) × Follows number to left)

  pub all_coming : (old : Slots) (followers : List Follower) → AreFollowersOf to old followers → IsComing old old followers
  all_coming old followers are number = by (slot_at old number) refl
    where
      by : (o : Option Slot) → slot_at old number ≡ o → (slot_at old number ≡ fall (slot_at old number)) ⊎ ((slot_at old number ≡ slot_at old number) × Follows number to followers)
      by None e = inl (e ∙ ap fall (sym e))
      by (Some slot) e = go (anchored_or_not slot.task.phase)
        where
          go : Anchored slot.task.phase → (slot_at old number ≡ fall (slot_at old number)) ⊎ ((slot_at old number ≡ slot_at old number) × Follows number to followers)
          go (is_anchored at start state f) = inr (refl, are.all number slot e at start state f)
          go (is_free free) = inl (e ∙ ap Some (sym (fall_free slot free)) ∙ ap fall (sym e))

  pub next_coming : (old new later : Slots) (first : Follower) (rest : List Follower) → IsComing old new (first ∷ rest) →
      Becomes new later first.number (option_map (slot_when_due now to edge) (slot_at new first.number)) → IsComing old later rest
  next_coming old new later first rest coming is number = by (same_or_not number first.number) (coming number)
    where
      by : (number ≡ first.number) ⊎ (number ≢ first.number) → (slot_at new number ≡ fall (slot_at old number)) ⊎ ((slot_at new number ≡ slot_at old number) × Follows number to (first ∷ rest)) →
          (slot_at later number ≡ fall (slot_at old number)) ⊎ ((slot_at later number ≡ slot_at old number) × Follows number to rest)
      by (inl e) (inl f) = inl (ap (slot_at later) e ∙ is.is_there ∙ ap fall (ap (slot_at new) (sym e) ∙ f) ∙ fall_twice (slot_at old number))
      by (inl e) (inr f) = inl (ap (slot_at later) e ∙ is.is_there ∙ ap fall (ap (slot_at new) (sym e) ∙ f.0))
      by (inr apart) (inl f) = inl (is.others number apart ∙ f)
      by (inr apart) (inr f) = go f.1
        where
          go : Follows number to (first ∷ rest) → (slot_at later number ≡ fall (slot_at old number)) ⊎ ((slot_at later number ≡ slot_at old number) × Follows number to rest)
          go (inl e) = absurd (apart (sym e.1))
          go (inr among) = inr (is.others number apart ∙ f.0, among)

  -- those who are left follow other directives
  pub none_coming : (old new : Slots) (left : List Follower) → ((number : ℕ) → Follows number to left → ⊥) → IsComing old new left → FallDue now to edge old new
  none_coming old new left none coming number = by (coming number)
    where
      by : (slot_at new number ≡ fall (slot_at old number)) ⊎ ((slot_at new number ≡ slot_at old number) × Follows number to left) → slot_at new number ≡ fall (slot_at old number)
      by (inl e) = e
      by (inr f) = absurd (none number f.1)

-- ---- followers in order of id

follows_above : (to number : ℕ) (followers : List Follower) → AllWithin (λ (f : Follower). to < f.to) followers 0 (length followers) → Follows number to followers → ⊥
follows_above to number [] above never = never
follows_above to number (first ∷ rest) above (inl e) = let k : to < first.to = above 0 first (omega arith) (omega arith) in let m = e.0 in omega (arith, k, m)
follows_above to number (first ∷ rest) above (inr among) =
    follows_above to number rest (λ k d low high. above (suc k) d (omega arith) (omega (arith, high))) among

-- behind one who follows another directive, none of which has an id below, nobody follows this one
pub past_last : (to : ℕ) (followers : List Follower) (place : ℕ) (here : Follower) → AreById followers → AllWithin (λ (f : Follower). to ≤ f.to) followers 0 (length followers) →
    place < length followers → here ≡ get_or followers place here → here.to ≢ to → (number : ℕ) → Follows number to (drop place followers) → ⊥
past_last to followers place here rise from less is other number among = follows_above to number (drop place followers) above among
  where
    above : AllWithin (λ (f : Follower). to < f.to) (drop place followers) 0 (length (drop place followers))
    above k d low high =
        let long : length (drop place followers) ≡ length followers - place = length-drop place followers in
        let inside : place + k < length followers = omega (arith, long, high, less) in
        let a : to ≤ (get_or followers place here).to = from place here (omega arith) less in
        let b : (get_or followers place here).to ≢ to = λ e. other (ap (λ (f : Follower). f.to) is ∙ e) in
        let c : (get_or followers place here).to ≤ (get_or followers (place + k) here).to = rise place (place + k) here (omega arith) inside in
        let e : (get_or followers (place + k) d).to ≡ (get_or followers (place + k) here).to = ap (λ (f : Follower). f.to) (get_or_default followers (place + k) d here inside) in
        let f : (get_or (drop place followers) k d).to ≡ (get_or followers (place + k) d).to = ap (λ (g : Follower). g.to) (get_or-drop place followers k d) in
        grind arith

-- those before the first that has the id do not follow the directive
pub dropped_follows : (to number : ℕ) (followers : List Follower) (count : ℕ) → AllWithin (λ (f : Follower). f.to < to) followers 0 count → Follows number to followers → Follows number to (drop count followers)
dropped_follows to number followers zero before among = among
dropped_follows to number [] (suc count) before never = absurd never
dropped_follows to number (first ∷ rest) (suc count) before (inl e) = let k : first.to < to = before 0 first (omega arith) (omega arith) in let m = e.0 in absurd (omega (arith, k, m))
dropped_follows to number (first ∷ rest) (suc count) before (inr among) =
    dropped_follows to number rest count (λ k d low high. before (suc k) d (omega arith) (omega (arith, high))) among

pub followers_from : (to : ℕ) (slots : Slots) (followers : List Follower) (count : ℕ) → count ≤ length followers → AreFollowers slots followers → AllWithin (λ (f : Follower). f.to < to) followers 0 count →
    AllWithin (λ (f : Follower). to ≤ f.to) followers count (length followers) → AreFollowersOf to slots (drop count followers)
followers_from to slots followers count within are before from = record {
  by_id = IsNonDecreasingBy-drop (λ (f : Follower). f.to) count followers are.by_id;
  from = later;
  all = λ number slot at edge start state e. dropped_follows to number followers count before (are.all number slot at to edge start state e);
}
  where
    later : AllWithin (λ (f : Follower). to ≤ f.to) (drop count followers) 0 (length (drop count followers))
    later k d low high =
        let long : length (drop count followers) ≡ length followers - count = length-drop count followers in
        let inside : count + k < length followers = omega (arith, long, high) in
        let a : to ≤ (get_or followers (count + k) d).to = from (count + k) d (omega arith) inside in
        let f : (get_or (drop count followers) k d).to ≡ (get_or followers (count + k) d).to = ap (λ (g : Follower). g.to) (get_or-drop count followers k d) in
        omega (arith, a, f)

-- ---- along a list

pub all_dropped : {X : Type 0} (xs : List X) → drop (length xs) xs ≡ []
all_dropped [] = refl
all_dropped (x ∷ xs) = all_dropped xs

pub beyond : {X : Type 0} (xs : List X) (n : ℕ) → length xs ≤ n → drop n xs ≡ []
beyond [] zero e = refl
beyond [] (suc n) e = refl
beyond (x ∷ xs) zero e = absurd (omega (arith, e))
beyond (x ∷ xs) (suc n) e = beyond xs n (omega (arith, e))

pub get_is : {X : Type 0} (xs : List X) (place : ℕ) (d : X) → place < length xs → slice_get xs place ≡ Some (get_or xs place d)
get_is [] place d less = absurd (omega (arith, less))
get_is (x ∷ xs) zero d less = refl
get_is (x ∷ xs) (suc place) d less = get_is xs place d (omega (arith, less))

pub or_is : {X : Type 0} (xs : List X) (place : ℕ) (d x : X) → slice_get xs place ≡ Some x → get_or xs place d ≡ x
or_is [] place d x e = absurd (cc)
or_is (y ∷ ys) zero d x e = cc
or_is (y ∷ ys) (suc place) d x e = or_is ys place d x e
