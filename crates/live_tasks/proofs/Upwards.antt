-- A task that has ended is taken out and its parent is told.
use Rattle.std.proofs.Common.{◌≡◌, ◌≢◌, ◌⊎◌, inl, inr, ℕ, ◌+◌, ◌-◌, true, false, List, ◌∷◌, length, Option, Some, None, refl, sym, ap, ◌∙◌, subst, arith}
use Rattle.aerie_base.specs.declared.values.Value.{Value}
use Rattle.aerie_base.specs.Paths.{root, child_path}
use Rattle.run_data.specs.declared.tasks.TaskState.{TaskState}
use Rattle.run_data.specs.TaskFrames.{Frame}
use Rattle.run_data.specs.Endings.{has_ended, result_of, result_of_phase, gone_on}
use Rattle.run_data.specs.Tasks.{TaskPhase, calling, Table, task_at}
use Rattle.live_tasks.specs.declared.slots.Slot.{Slot}
use Rattle.live_tasks.specs.Slots.{Slots, slot_at, Becomes, under, child_in, IsBelow, live_children_of, HasSlot}
use Rattle.live_tasks.specs.Endings.{slot_has_ended, slot_after_child_end, IsNumberAmong, HasCalledChild, IsEnding}
use Rattle.live_tasks.proofs.Counts.{count_becomes, under_itself, under_other}
use Rattle.live_tasks.proofs.Forests.{same_or_not, below_length, long_path}
use Rattle.live_tasks.proofs.Going.{free_no_call, twice, Came, came, stayed, comes_back}
use Rattle.live_tasks.proofs.Ended.{no_child, not_live, has_done, result_is}
use Rattle.live_tasks.proofs.Moves.{Kept, kept_itself, Forward, Backward, moved}

module _ (now : ℕ) (whole : Table) (frames : List Frame) (todo : List ℕ) (old out new : Slots) (number parent : ℕ) (slot : Slot) (here : slot_at old number ≡ Some slot) (done : slot_has_ended (Some slot) ≡ true)
    (is : IsEnding now whole frames (number ∷ todo) old) (taken : Becomes old out number None) (parent_is : slot.parent ≡ Some parent) (below : IsBelow old slot.path slot.own parent) where
  result : Option Value
  result = result_of_phase slot.task.phase

  abbrev above : Slot
  above = below.above

  longer : length slot.path ≡ length above.path + 1
  longer = below_length slot.path above.path slot.own below.is

  apart : parent ≢ number
  apart e =
      let f : Some above ≡ Some slot = sym below.there ∙ ap (slot_at old) e ∙ here in
      let s : above ≡ slot = cc in
      let l : length above.path ≡ length slot.path = ap (λ (s : Slot). length s.path) s in
      omega (arith, longer, l)

  pub above_there : slot_at out parent ≡ Some above
  above_there = taken.others parent apart ∙ below.there

  abbrev after : Slot
  after = slot_after_child_end slot.own (result_of_phase slot.task.phase) above

  ended : has_ended whole (child_path above.path slot.own) ≡ true
  ended = ap (has_ended whole) (sym below.is) ∙ has_done now whole frames (number ∷ todo) old number slot here done is

  came_how : Came whole now above.path slot.own above.task.phase after.task.phase
  came_how =
      comes_back whole now above.path slot.own (result_of_phase slot.task.phase) ended
      (ap (λ p. result_of (task_at whole p)) (sym below.is) ∙ result_is now whole frames (number ∷ todo) old number slot here done is) above.task.phase

  kept_told : Kept now whole above after
  kept_told = by came_how
    where
      by : Came whole now above.path slot.own above.task.phase after.task.phase → Kept now whole above after
      by (came e free) = record {
        path = refl;
        own = refl;
        parent = refl;
        goes = ap (λ (phase : TaskPhase). gone_on whole now above.path (record above.task { phase = phase })) e ∙ twice whole now above.path above.task;
        still = inr free;
      }
      by (stayed e other) = record {
        path = refl;
        own = refl;
        parent = refl;
        goes = ap (λ (phase : TaskPhase). gone_on whole now above.path (record above.task { phase = phase })) e;
        still = inl e;
      }

  module _ (tells : Becomes out new parent (Some after)) where
    elsewhere : (n : ℕ) → n ≢ number → n ≢ parent → slot_at new n ≡ slot_at old n
    elsewhere n not_here not_above = tells.others n not_above ∙ taken.others n not_here

    none_here : slot_at new number ≡ None
    none_here = tells.others number (λ e. apart (sym e)) ∙ taken.is_there

    forward : (n : ℕ) (s : Slot) → slot_at old n ≡ Some s → (n ≡ number → ⊥) → Forward now whole new n s
    forward n s at stays = by (same_or_not n parent)
      where
        by : (n ≡ parent) ⊎ (n ≢ parent) → Forward now whole new n s
        by (inl e) =
            let f : Some above ≡ Some s = sym below.there ∙ ap (slot_at old) (sym e) ∙ at in
            let g : above ≡ s = cc in
            record { next = after; there = ap (slot_at new) e ∙ tells.is_there; kept = subst (λ (b : Slot). Kept now whole b after) g kept_told }
        by (inr other) = record { next = s; there = elsewhere n stays other ∙ at; kept = kept_itself now whole s }

    -- what stands there now
    data Now (n : ℕ) (s : Slot) : Type 0 where
      at_parent : n ≡ parent → s ≡ after → Now n s
      as_before : n ≢ number → n ≢ parent → slot_at old n ≡ Some s → Now n s

    now_at : (n : ℕ) (s : Slot) → slot_at new n ≡ Some s → Now n s
    now_at n s at = by (same_or_not n parent) (same_or_not n number)
      where
        by : (n ≡ parent) ⊎ (n ≢ parent) → (n ≡ number) ⊎ (n ≢ number) → Now n s
        by (inl e) any = let f : Some s ≡ Some after = sym at ∙ ap (slot_at new) e ∙ tells.is_there in at_parent e (cc)
        by (inr other) (inl e) = let f : None ≡ Some s = sym none_here ∙ ap (slot_at new) (sym e) ∙ at in absurd (cc)
        by (inr other) (inr stays) = as_before stays other (sym (elsewhere n stays other) ∙ at)

    backward : (n : ℕ) (s : Slot) → slot_at new n ≡ Some s → Backward now whole old n s
    backward n s at = by (now_at n s at)
      where
        by : Now n s → Backward now whole old n s
        by (at_parent e same) = record { before = above; there = ap (slot_at old) e ∙ below.there; kept = subst (λ (b : Slot). Kept now whole above b) (sym same) kept_told }
        by (as_before stays other before) = record { before = s; there = before; kept = kept_itself now whole s }

    same_slot : (n : ℕ) (s : Slot) → slot_at old n ≡ Some s → n ≡ number → s ≡ slot
    same_slot n s at e = let f : Some s ≡ Some slot = sym at ∙ ap (slot_at old) e ∙ here in cc

    uncalled : (n : ℕ) (s : Slot) → slot_at new n ≡ Some s → (child : ℕ) (into : Option ℕ) (state : TaskState) → s.task.phase ≡ calling child into state →
        (callee : HasCalledChild old n child) → callee.number ≡ number → ⊥
    uncalled n s at child into state e callee gone = by (now_at n s at) came_how
      where
        it : callee.slot ≡ slot
        it = same_slot callee.number callee.slot callee.there gone

        its : Some n ≡ Some parent
        its = sym callee.parent_is ∙ ap (λ (s : Slot). s.parent) it ∙ parent_is

        own : slot.own ≡ child
        own = ap (λ (s : Slot). s.own) (sym it) ∙ callee.own_is

        by : Now n s → Came whole now above.path slot.own above.task.phase after.task.phase → ⊥
        by (at_parent f same) (came g free) = free_no_call after.task.phase free child into state (ap (λ (s : Slot). s.task.phase) (sym same) ∙ e)
        by (at_parent f same) (stayed g other) = other child into state (sym g ∙ ap (λ (s : Slot). s.task.phase) (sym same) ∙ e) (sym own)
        by (as_before stays other before) how = let k : n ≡ parent = cc in other k

    unfollowed : (to : ℕ) (followed : HasSlot old (root to)) → followed.number ≡ number → ⊥
    unfollowed to followed gone =
        let it = same_slot followed.number followed.slot followed.there gone in
        let l : length slot.path ≡ 2 = ap (λ (s : Slot). length s.path) (sym it) ∙ ap length followed.is in
        let m = long_path old is.forest parent above below.there in
        omega (arith, l, m, longer)

    counts : (n : ℕ) (s : Slot) → slot_at new n ≡ Some s → s.live_below ≡ live_children_of n new
    counts n s at = by (now_at n s at)
      where
        first : live_children_of n out + child_in n (slot_at old number) ≡ live_children_of n old + 0
        first = count_becomes n number old out None taken

        second : live_children_of n new + child_in n (slot_at out parent) ≡ live_children_of n out + under n above.parent
        second = count_becomes n parent out new (Some after) tells

        a : child_in n (slot_at old number) ≡ under n (Some parent)
        a = ap (child_in n) here ∙ ap (under n) parent_is

        b : child_in n (slot_at out parent) ≡ under n above.parent
        b = ap (child_in n) above_there

        by : Now n s → s.live_below ≡ live_children_of n new
        by (at_parent e same) =
            let c : under n (Some parent) ≡ 1 = under_itself n (Some parent) (ap Some (sym e)) in
            let d : above.live_below ≡ live_children_of n old = is.forest.counts parent above below.there ∙ ap (λ m. live_children_of m old) (sym e) in
            let f : s.live_below ≡ above.live_below - 1 = ap (λ (s : Slot). s.live_below) same in
            omega (arith, first, second, a, b, c, d, f)
        by (as_before stays other before) =
            let c : under n (Some parent) ≡ 0 = under_other n (Some parent) (λ e. other (let k : parent ≡ n = cc in sym k)) in
            let d = is.forest.counts n s before in
            omega (arith, first, second, a, b, c, d)

    settled : (n : ℕ) (s : Slot) → slot_at new n ≡ Some s → (slot_has_ended (Some s) ≡ false) ⊎ IsNumberAmong n (parent ∷ todo)
    settled n s at = by (now_at n s at)
      where
        by : Now n s → (slot_has_ended (Some s) ≡ false) ⊎ IsNumberAmong n (parent ∷ todo)
        by (at_parent e same) = inr (inl e)
        by (as_before stays other before) = go (is.settled n s before)
          where
            go : (slot_has_ended (Some s) ≡ false) ⊎ IsNumberAmong n (number ∷ todo) → (slot_has_ended (Some s) ≡ false) ⊎ IsNumberAmong n (parent ∷ todo)
            go (inl e) = inl e
            go (inr (inl e)) = absurd (stays e)
            go (inr (inr among)) = inr (inr among)

    pub goes_up : IsEnding now whole frames (parent ∷ todo) new
    goes_up = moved now whole (λ n. n ≡ number) frames frames (number ∷ todo) (parent ∷ todo) old new is (record {
      forward = forward;
      backward = backward;
      childless = λ n s at p e gone. no_child now whole frames (number ∷ todo) old number slot here done is n s at (e ∙ ap Some gone);
      ended = λ n s at gone live. not_live now whole frames (number ∷ todo) old number slot here done is (ap (λ (s : Slot). has_ended whole s.path) (sym (same_slot n s at gone)) ∙ live);
      uncalled = uncalled;
      unfollowed = λ n s at to start state e followed gone. unfollowed to followed gone;
      starts = λ n s at to start state e before. before;
      counts = counts;
      settled = settled;
    })
