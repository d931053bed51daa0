-- One task after another ends, upwards.
use Rattle.std.proofs.Common.{◌≡◌, ◌≢◌, ◌⊎◌, inl, inr, ℕ, zero, suc, Bool, true, false, ◌&&◌, nat_eq, List, ◌∷◌, Option, Some, None, Result, Ok, Err, OnOk, option_map, refl, sym, ap, ◌∙◌, subst, if◌then◌else◌}
use Rattle.aerie_base.specs.declared.values.Value.{Value}
use Rattle.aerie_base.specs.declared.plans.Edge.{Edge}
use Rattle.run_data.specs.TaskFrames.{Frame}
use Rattle.run_data.specs.Endings.{with_result}
use Rattle.run_data.specs.declared.tasks.TaskState.{TaskState}
use Rattle.run_data.specs.Tasks.{TaskPhase, anchored, ready, delayed, waiting, calling, over, after_delay, Table}
use Rattle.live_tasks.specs.declared.slots.Slot.{Slot}
use Rattle.live_tasks.specs.declared.followers.Follower.{Follower}
use Rattle.live_tasks.specs.Followers.{Follows, AreFollowers}
use Rattle.live_tasks.specs.Phases.{phase_with_return, phase_when_due, is_same_edge}
use Rattle.live_tasks.specs.Slots.{Slots, slot_at, Becomes, StandsUnder}
use Rattle.live_tasks.specs.Endings.{slot_has_ended, slot_after_child_end, slot_when_due, FallDue, LeavesBehind, OneEnds, IsNumberAmong, with_next, IsEnding}
use Rattle.live_tasks.proofs.Forests.{same_or_not}
use Rattle.live_tasks.proofs.Upwards.{above_there, goes_up}
use Rattle.live_tasks.proofs.Falling.{root_ends}

-- ---- one

not_done : (now : ℕ) (whole : Table) (frames : List Frame) (todo : List ℕ) (old : Slots) (number : ℕ) → slot_has_ended (slot_at old number) ≡ false → IsEnding now whole frames (number ∷ todo) old → IsEnding now whole frames todo old
not_done now whole frames todo old number e is = record {
  order = is.order;
  forest = is.forest;
  tasks = is.tasks;
  kept = is.kept;
  calls = is.calls;
  follows = is.follows;
  starts = is.starts;
  settled = settled;
}
  where
    settled : (n : ℕ) (s : Slot) → slot_at old n ≡ Some s → (slot_has_ended (Some s) ≡ false) ⊎ IsNumberAmong n todo
    settled n s at = go (is.settled n s at)
      where
        go : (slot_has_ended (Some s) ≡ false) ⊎ IsNumberAmong n (number ∷ todo) → (slot_has_ended (Some s) ≡ false) ⊎ IsNumberAmong n todo
        go (inl f) = inl f
        go (inr (inl f)) = inl (ap slot_has_ended (sym at ∙ ap (slot_at old) f) ∙ e)
        go (inr (inr among)) = inr among

module _ (now : ℕ) (whole : Table) (frames : List Frame) (todo : List ℕ) (old new : Slots) (number : ℕ) (next : Option ℕ) (ends : OneEnds now old number new next)
    (is : IsEnding now whole frames (number ∷ todo) old) where
  stays_here : slot_has_ended (slot_at old number) ≡ false → IsEnding now whole frames (with_next next todo) new
  stays_here e =
      let s = ends.stays e in
      subst (λ o. IsEnding now whole frames (with_next o todo) new) (sym s.1) (subst (IsEnding now whole frames todo) (sym s.0) (not_done now whole frames todo old number e is))

  leaves : (slot : Slot) → slot_at old number ≡ Some slot → slot_has_ended (Some slot) ≡ true → IsEnding now whole frames (with_next next todo) new
  leaves slot here done = go (ends.ends slot here done)
    where
      go : (out : Slots) × Becomes old out number None × (next ≡ slot.parent) × LeavesBehind now slot slot.parent out new → IsEnding now whole frames (with_next next todo) new
      go left = subst (λ o. IsEnding now whole frames (with_next o todo) new) (sym left.2) (by slot.parent refl (is.forest.stands number slot here) left.3)
        where
          by : (parent : Option ℕ) → slot.parent ≡ parent → StandsUnder old slot.path slot.own parent → LeavesBehind now slot parent left.0 new → IsEnding now whole frames (with_next slot.parent todo) new
          by None e root_ behind =
              subst (λ o. IsEnding now whole frames (with_next o todo) new) (sym e) (root_ends now whole frames todo old left.0 new number slot here done is left.1 e behind)
          by (Some parent) e below behind =
              subst (λ o. IsEnding now whole frames (with_next o todo) new) (sym e)
              (goes_up now whole frames todo old left.0 new number parent slot here done is left.1 e below
              (behind below.above (above_there now whole frames todo old left.0 new number parent slot here done is left.1 e below)))

  pub one_ended : IsEnding now whole frames (with_next next todo) new
  one_ended = by (slot_at old number) refl
    where
      at : (slot : Slot) → slot_at old number ≡ Some slot → (b : Bool) → slot_has_ended (Some slot) ≡ b → IsEnding now whole frames (with_next next todo) new
      at slot e true f = leaves slot e f
      at slot e false f = stays_here (ap slot_has_ended e ∙ f)

      by : (o : Option Slot) → slot_at old number ≡ o → IsEnding now whole frames (with_next next todo) new
      by None e = stays_here (ap slot_has_ended e)
      by (Some slot) e = at slot e (slot_has_ended (Some slot)) refl

-- ---- followers

given_anchor : (own : ℕ) (result : Option Value) (phase : TaskPhase) (to : ℕ) (edge : Edge) (start : ℕ) (state : TaskState) →
    phase_with_return own result phase ≡ anchored to edge start state → phase ≡ anchored to edge start state
given_anchor own result (calling child into other) to edge start state e = by (nat_eq child own) e
  where
    by : (b : Bool) → (if b then ready (with_result into result other) else calling child into other) ≡ anchored to edge start state → calling child into other ≡ anchored to edge start state
    by true f = absurd (cc)
    by false f = f
given_anchor own result (anchored id at long other) to edge start state e = e
given_anchor own result (ready other) to edge start state e = e
given_anchor own result (delayed until other) to edge start state e = e
given_anchor own result (waiting condition other) to edge start state e = e
given_anchor own result (over value) to edge start state e = e

delay_no_anchor : (now by : ℕ) (other : TaskState) (to : ℕ) (edge : Edge) (start : ℕ) (state : TaskState) → after_delay now by other ≡ anchored to edge start state → ⊥
delay_no_anchor now zero other to edge start state e = cc
delay_no_anchor now (suc by) other to edge start state e = cc

fallen_anchor : (now id : ℕ) (at : Edge) (phase : TaskPhase) (to : ℕ) (edge : Edge) (start : ℕ) (state : TaskState) →
    phase_when_due now id at phase ≡ anchored to edge start state → phase ≡ anchored to edge start state
fallen_anchor now id at (anchored its point long other) to edge start state e = by (nat_eq its id && is_same_edge point at) e
  where
    by : (b : Bool) → (if b then after_delay now long other else anchored its point long other) ≡ anchored to edge start state → anchored its point long other ≡ anchored to edge start state
    by true f = absurd (delay_no_anchor now long other to edge start state f)
    by false f = f
fallen_anchor now id at (ready other) to edge start state e = e
fallen_anchor now id at (delayed until other) to edge start state e = e
fallen_anchor now id at (waiting condition other) to edge start state e = e
fallen_anchor now id at (calling child into other) to edge start state e = e
fallen_anchor now id at (over value) to edge start state e = e

pub fall_followers : (now to : ℕ) (edge : Edge) (old new : Slots) (followers : List Follower) → FallDue now to edge old new → AreFollowers old followers → AreFollowers new followers
fall_followers now to edge old new followers falls are = record { by_id = are.by_id; all = all }
  where
    all : (number : ℕ) (slot : Slot) → slot_at new number ≡ Some slot → (id : ℕ) (at : Edge) (start : ℕ) (state : TaskState) → slot.task.phase ≡ anchored id at start state → Follows number id followers
    all number slot there id at start state e = by (slot_at old number) refl
      where
        by : (o : Option Slot) → slot_at old number ≡ o → Follows number id followers
        by None f = let g : Some slot ≡ None = sym there ∙ falls number ∙ ap (option_map (slot_when_due now to edge)) f in absurd (cc)
        by (Some before) f =
            let g : Some slot ≡ Some (slot_when_due now to edge before) = sym there ∙ falls number ∙ ap (option_map (slot_when_due now to edge)) f in
            let h : slot ≡ slot_when_due now to edge before = cc in
            are.all number before f id at start state (fallen_anchor now to edge before.task.phase id at start state (ap (λ (s : Slot). s.task.phase) (sym h) ∙ e))

becomes_followers : (old new : Slots) (number : ℕ) (followers : List Follower) (found : Option Slot) → Becomes old new number found →
    ((slot : Slot) → found ≡ Some slot → (to : ℕ) (edge : Edge) (start : ℕ) (state : TaskState) → slot.task.phase ≡ anchored to edge start state → Follows number to followers) →
    AreFollowers old followers → AreFollowers new followers
becomes_followers old new number followers found is has are = record { by_id = are.by_id; all = all }
  where
    all : (n : ℕ) (s : Slot) → slot_at new n ≡ Some s → (to : ℕ) (edge : Edge) (start : ℕ) (state : TaskState) → s.task.phase ≡ anchored to edge start state → Follows n to followers
    all n s at to edge start state e = by (same_or_not n number)
      where
        by : (n ≡ number) ⊎ (n ≢ number) → Follows n to followers
        by (inl f) = subst (λ m. Follows m to followers) (sym f) (has s (sym is.is_there ∙ ap (slot_at new) (sym f) ∙ at) to edge start state e)
        by (inr apart) = are.all n s (sym (is.others n apart) ∙ at) to edge start state e

pub out_followers : (old new : Slots) (number : ℕ) (followers : List Follower) → Becomes old new number None → AreFollowers old followers → AreFollowers new followers
out_followers old new number followers is are = becomes_followers old new number followers None is (λ s e to edge start state f. absurd (cc)) are

pub told_followers : (old new : Slots) (number own : ℕ) (result : Option Value) (followers : List Follower) →
    Becomes old new number (option_map (slot_after_child_end own result) (slot_at old number)) → AreFollowers old followers → AreFollowers new followers
told_followers old new number own result followers is are = becomes_followers old new number followers (option_map (slot_after_child_end own result) (slot_at old number)) is has are
  where
    has : (s : Slot) → option_map (slot_after_child_end own result) (slot_at old number) ≡ Some s → (to : ℕ) (edge : Edge) (start : ℕ) (state : TaskState) →
        s.task.phase ≡ anchored to edge start state → Follows number to followers
    has s e to edge start state f = by (slot_at old number) refl
      where
        by : (o : Option Slot) → slot_at old number ≡ o → Follows number to followers
        by None g = let h : None ≡ Some s = sym (ap (option_map (slot_after_child_end own result)) g) ∙ e in absurd (cc)
        by (Some above) g =
            let h : Some (slot_after_child_end own result above) ≡ Some s = sym (ap (option_map (slot_after_child_end own result)) g) ∙ e in
            let k : slot_after_child_end own result above ≡ s = cc in
            are.all number above g to edge start state (given_anchor own result above.task.phase to edge start state (ap (λ (s : Slot). s.task.phase) k ∙ f))

-- what holds whatever a call answers
pub on_ok : {X Y P : Type 0} (result : Result X Y) → P → OnOk result P
on_ok (Ok x) h = h
on_ok (Err e) h = tt

-- ---- the walk ends

abbrev pub next_rank : Option ℕ → ℕ
next_rank None = 0
next_rank (Some number) = 1

pub next_none : (next : Option ℕ) → ((number : ℕ) → next ≡ Some number → ⊥) → next ≡ None
next_none None never = refl
next_none (Some number) never = absurd (never number refl)
