-- Those who are anchored to an edge that has come fall due.
use Rattle.std.proofs.Common.{◌≡◌, ◌≢◌, ◌⊎◌, inl, inr, ℕ, ◌+◌, true, false, not, ◌&&◌, nat_eq, List, ◌∷◌, Option, Some, None, option_map, refl, sym, ap, ◌∙◌, subst, arith}
use Rattle.aerie_base.specs.declared.plans.Edge.{Edge}
use Rattle.aerie_base.specs.declared.plans.Edge.TheVariants.{Start, End}
use Rattle.aerie_base.specs.Paths.{root, daemon_root, comes_from_daemon, id_of}
use Rattle.run_data.specs.declared.tasks.TaskState.{TaskState}
use Rattle.run_data.specs.TaskFrames.{Frame}
use Rattle.run_data.specs.Endings.{has_ended, has_come, has_begun, gone_on}
use Rattle.run_data.specs.Tasks.{TaskPhase, anchored, Table, task_at}
use Rattle.run_data.specs.laws.BatchFrames.{HasPath}
use Rattle.live_tasks.specs.declared.slots.Slot.{Slot}
use Rattle.live_tasks.specs.Phases.{phase_when_due}
use Rattle.live_tasks.specs.Slots.{Slots, slot_at, Becomes, under, child_in, IsRoot, StandsUnder, live_children_of}
use Rattle.live_tasks.specs.Endings.{slot_has_ended, slot_when_due, FallDue, RootEnds, IsNumberAmong, HasCalledChild, IsEnding}
use Rattle.live_tasks.proofs.Counts.{count_becomes, same_count}
use Rattle.live_tasks.proofs.Forests.{same_or_not}
use Rattle.live_tasks.proofs.Going.{free_no_anchor, same_open, twice, Fell, fell, held, falls_due}
use Rattle.live_tasks.proofs.Ended.{no_child, not_live, has_done}
use Rattle.live_tasks.proofs.Moves.{Kept, kept_itself, moved}

-- ---- each stays where it is, and may have gone on

pub record Stayed (now : ℕ) (whole : Table) (new : Slots) (number : ℕ) (slot : Slot) : Type 0 where
  pub next : Slot
  pub there : slot_at new number ≡ Some next
  pub kept : Kept now whole slot next
  pub below : next.live_below ≡ slot.live_below

pub record InPlace (now : ℕ) (whole : Table) (old new : Slots) : Type 0 where
  pub none : (number : ℕ) → slot_at old number ≡ None → slot_at new number ≡ None
  pub some : (number : ℕ) (slot : Slot) → slot_at old number ≡ Some slot → Stayed now whole new number slot

module _ (now : ℕ) (whole : Table) where
  pub same_place : (old new : Slots) → new ≡ old → InPlace now whole old new
  same_place old new same = record {
    none = λ n e. ap (λ s. slot_at s n) same ∙ e;
    some = λ n s at. record { next = s; there = ap (λ t. slot_at t n) same ∙ at; kept = kept_itself now whole s; below = refl };
  }

  kept_fallen : (to : ℕ) (edge : Edge) (slot : Slot) → has_come whole to edge ≡ true → Kept now whole slot (slot_when_due now to edge slot)
  kept_fallen to edge slot come = by (falls_due whole now slot.path to edge come slot.task.phase)
    where
      by : Fell whole now slot.path to edge slot.task.phase (phase_when_due now to edge slot.task.phase) → Kept now whole slot (slot_when_due now to edge slot)
      by (fell e free) = record {
        path = refl;
        own = refl;
        parent = refl;
        goes = ap (λ (phase : TaskPhase). gone_on whole now slot.path (record slot.task { phase = phase })) e ∙ twice whole now slot.path slot.task;
        still = inr free;
      }
      by (held e other) = record {
        path = refl;
        own = refl;
        parent = refl;
        goes = ap (λ (phase : TaskPhase). gone_on whole now slot.path (record slot.task { phase = phase })) e;
        still = inl e;
      }

  pub fall_place : (to : ℕ) (edge : Edge) (old new : Slots) → has_come whole to edge ≡ true → FallDue now to edge old new → InPlace now whole old new
  fall_place to edge old new come falls = record {
    none = λ n e. falls n ∙ ap (option_map (slot_when_due now to edge)) e;
    some = λ n s at. record { next = slot_when_due now to edge s; there = falls n ∙ ap (option_map (slot_when_due now to edge)) at; kept = kept_fallen to edge s come; below = refl };
  }

  -- nobody is anchored to it any more
  pub none_anchored : (to : ℕ) (edge : Edge) (old new : Slots) → has_come whole to edge ≡ true → FallDue now to edge old new →
      (number : ℕ) (slot : Slot) → slot_at new number ≡ Some slot → (start : ℕ) (state : TaskState) → slot.task.phase ≡ anchored to edge start state → ⊥
  none_anchored to edge old new come falls number slot at start state e = by (slot_at old number) refl
    where
      by : (o : Option Slot) → slot_at old number ≡ o → ⊥
      by None f = let g : Some slot ≡ None = sym at ∙ falls number ∙ ap (option_map (slot_when_due now to edge)) f in cc
      by (Some before) f = go (falls_due whole now before.path to edge come before.task.phase)
        where
          g : Some slot ≡ Some (slot_when_due now to edge before)
          g = sym at ∙ falls number ∙ ap (option_map (slot_when_due now to edge)) f

          same : slot ≡ slot_when_due now to edge before
          same = let h : Some slot ≡ Some (slot_when_due now to edge before) = g in cc

          its : phase_when_due now to edge before.task.phase ≡ anchored to edge start state
          its = ap (λ (s : Slot). s.task.phase) (sym same) ∙ e

          go : Fell whole now before.path to edge before.task.phase (phase_when_due now to edge before.task.phase) → ⊥
          go (fell h free) = free_no_anchor (phase_when_due now to edge before.task.phase) free to edge start state its
          go (held h other) = other start state (sym h ∙ its)

module _ (now : ℕ) (whole : Table) (old new : Slots) (place : InPlace now whole old new) where
  pub place_back : (number : ℕ) (slot : Slot) → slot_at new number ≡ Some slot → (before : Slot) × (slot_at old number ≡ Some before) × Kept now whole before slot × (slot.live_below ≡ before.live_below)
  place_back number slot at = by (slot_at old number) refl
    where
      by : (o : Option Slot) → slot_at old number ≡ o → (before : Slot) × (slot_at old number ≡ Some before) × Kept now whole before slot × (slot.live_below ≡ before.live_below)
      by None f = let g : Some slot ≡ None = sym at ∙ place.none number f in absurd (cc)
      by (Some before) f =
          let stayed = place.some number before f in
          let g : Some stayed.next ≡ Some slot = sym stayed.there ∙ at in
          let same : stayed.next ≡ slot = cc in
          (before, f, subst (λ (s : Slot). Kept now whole before s) same stayed.kept, ap (λ (s : Slot). s.live_below) (sym same) ∙ stayed.below)

  child_same : (parent number : ℕ) → child_in parent (slot_at new number) ≡ child_in parent (slot_at old number)
  child_same parent number = by (slot_at old number) refl
    where
      by : (o : Option Slot) → slot_at old number ≡ o → child_in parent (slot_at new number) ≡ child_in parent (slot_at old number)
      by None f = ap (child_in parent) (place.none number f ∙ sym f)
      by (Some before) f =
          let stayed = place.some number before f in
          ap (child_in parent) stayed.there ∙ ap (under parent) stayed.kept.parent ∙ ap (child_in parent) (sym f)

  pub count_place : (parent : ℕ) → live_children_of parent new ≡ live_children_of parent old
  count_place parent = same_count parent new old (child_same parent)

  pub done_place : (before slot : Slot) → Kept now whole before slot → slot.live_below ≡ before.live_below → slot_has_ended (Some slot) ≡ slot_has_ended (Some before)
  done_place before slot kept below = λ i. not (same_open whole now before.path slot.task before.task kept.goes i) && nat_eq (below i) 0

-- ---- an edge comes while nobody ends

module _ (now : ℕ) (whole : Table) (frames later : List Frame) (todo : List ℕ) (old new : Slots) (is : IsEnding now whole frames todo old) (place : InPlace now whole old new)
    (starts : (number : ℕ) (slot : Slot) → slot_at new number ≡ Some slot → (to start : ℕ) (state : TaskState) → slot.task.phase ≡ anchored to Start start state →
    (has_begun (task_at whole (root to)) ≡ false) ⊎ HasPath (root to) frames → (has_begun (task_at whole (root to)) ≡ false) ⊎ HasPath (root to) later) where
  settled : (number : ℕ) (slot : Slot) → slot_at new number ≡ Some slot → (slot_has_ended (Some slot) ≡ false) ⊎ IsNumberAmong number todo
  settled number slot at =
      let b = place_back now whole old new place number slot at in
      subst (λ d. (d ≡ false) ⊎ IsNumberAmong number todo) (sym (done_place now whole old new place b.0 slot b.2 b.3)) (is.settled number b.0 b.1)

  pub stays_in_place : IsEnding now whole later todo new
  stays_in_place = moved now whole (λ n. ⊥) frames later todo todo old new is (record {
    forward = λ n s at stays. let f = place.some n s at in record { next = f.next; there = f.there; kept = f.kept };
    backward = λ n s at. let b = place_back now whole old new place n s at in record { before = b.0; there = b.1; kept = b.2 };
    childless = λ n s at p e gone. gone;
    ended = λ n s at gone live. gone;
    uncalled = λ n s at child into state e callee gone. gone;
    unfollowed = λ n s at to start state e followed gone. gone;
    starts = starts;
    counts = λ n s at. (let b = place_back now whole old new place n s at in b.3 ∙ is.forest.counts n b.0 b.1 ∙ sym (count_place now whole old new place n));
    settled = settled;
  })

-- ---- a root ends

module _ (now : ℕ) (whole : Table) (frames : List Frame) (todo : List ℕ) (old out new : Slots) (number : ℕ) (slot : Slot) (here : slot_at old number ≡ Some slot) (done : slot_has_ended (Some slot) ≡ true)
    (is : IsEnding now whole frames (number ∷ todo) old) (taken : Becomes old out number None) (parent_is : slot.parent ≡ None) where
  out_back : (n : ℕ) (s : Slot) → slot_at out n ≡ Some s → (n ≢ number) × (slot_at old n ≡ Some s)
  out_back n s at = by (same_or_not n number)
    where
      by : (n ≡ number) ⊎ (n ≢ number) → (n ≢ number) × (slot_at old n ≡ Some s)
      by (inl e) = let f : None ≡ Some s = sym taken.is_there ∙ ap (slot_at out) (sym e) ∙ at in absurd (cc)
      by (inr stays) = (stays, sym (taken.others n stays) ∙ at)

  same_slot : (n : ℕ) (s : Slot) → slot_at old n ≡ Some s → n ≡ number → s ≡ slot
  same_slot n s at e = let f : Some s ≡ Some slot = sym at ∙ ap (slot_at old) e ∙ here in cc

  module _ (place : InPlace now whole out new) (none : (number : ℕ) (other : Slot) → slot_at new number ≡ Some other → (to start : ℕ) (state : TaskState) → other.task.phase ≡ anchored to End start state →
      slot.path ≡ root to → ⊥) where
    count_out : (n : ℕ) → live_children_of n out ≡ live_children_of n old
    count_out n =
        let a : live_children_of n out + child_in n (slot_at old number) ≡ live_children_of n old + 0 = count_becomes n number old out None taken in
        let b : child_in n (slot_at old number) ≡ 0 = ap (child_in n) here ∙ ap (under n) parent_is in
        omega (arith, a, b)

    uncalled : (n child : ℕ) (callee : HasCalledChild old n child) → callee.number ≡ number → ⊥
    uncalled n child callee gone =
        let it = same_slot callee.number callee.slot callee.there gone in
        let its : Some n ≡ None = sym callee.parent_is ∙ ap (λ (s : Slot). s.parent) it ∙ parent_is in
        cc

    settled_out : (n : ℕ) (s : Slot) → slot_at new n ≡ Some s → (slot_has_ended (Some s) ≡ false) ⊎ IsNumberAmong n todo
    settled_out n s at = by (out_back n b.0 b.1)
      where
        b : (before : Slot) × (slot_at out n ≡ Some before) × Kept now whole before s × (s.live_below ≡ before.live_below)
        b = place_back now whole out new place n s at

        by : (n ≢ number) × (slot_at old n ≡ Some b.0) → (slot_has_ended (Some s) ≡ false) ⊎ IsNumberAmong n todo
        by before = go (is.settled n b.0 before.1)
          where
            go : (slot_has_ended (Some b.0) ≡ false) ⊎ IsNumberAmong n (number ∷ todo) → (slot_has_ended (Some s) ≡ false) ⊎ IsNumberAmong n todo
            go (inl e) = inl (done_place now whole out new place b.0 s b.2 b.3 ∙ e)
            go (inr (inl e)) = absurd (before.0 e)
            go (inr (inr among)) = inr among

    pub root_goes : IsEnding now whole frames todo new
    root_goes = moved now whole (λ n. n ≡ number) frames frames (number ∷ todo) todo old new is (record {
      forward = λ n s at stays. let f = place.some n s (taken.others n stays ∙ at) in record { next = f.next; there = f.there; kept = f.kept };
      backward = λ n s at. let b = place_back now whole out new place n s at in record { before = b.0; there = (out_back n b.0 b.1).1; kept = b.2 };
      childless = λ n s at p e gone. no_child now whole frames (number ∷ todo) old number slot here done is n s at (e ∙ ap Some gone);
      ended = λ n s at gone live. not_live now whole frames (number ∷ todo) old number slot here done is (ap (λ (s : Slot). has_ended whole s.path) (sym (same_slot n s at gone)) ∙ live);
      uncalled = λ n s at child into state e callee gone. uncalled n child callee gone;
      unfollowed = λ n s at to start state e followed gone. none n s at to start state e (ap (λ (s : Slot). s.path) (sym (same_slot followed.number followed.slot followed.there gone)) ∙ followed.is);
      starts = λ n s at to start state e before. before;
      counts = λ n s at. (let b = place_back now whole out new place n s at in b.3 ∙ is.forest.counts n b.0 (out_back n b.0 b.1).1 ∙ sym (count_place now whole out new place n ∙ count_out n));
      settled = settled_out;
    })

  by_root : IsRoot slot.path → RootEnds now slot.path out new → IsEnding now whole frames todo new
  by_root (inr daemon) ends =
      let same : new ≡ out = ends.0 (ap comes_from_daemon daemon.1) in
      root_goes (same_place now whole out new same) (λ n s at to start state e f. clash to (sym daemon.1 ∙ f))
    where
      clash : (to : ℕ) → daemon_root daemon.0 ≡ root to → ⊥
      clash to e = let k : true ≡ false = ap comes_from_daemon e in cc
  by_root (inl directive) ends =
      let falls : FallDue now directive.0 End out new = subst (λ n. FallDue now n End out new) (ap id_of directive.1) (ends.1 (ap comes_from_daemon directive.1)) in
      let come : has_come whole directive.0 End ≡ true = ap (has_ended whole) (sym directive.1) ∙ has_done now whole frames (number ∷ todo) old number slot here done is in
      root_goes (fall_place now whole directive.0 End out new come falls)
      (λ n s at to start state e f. none_anchored now whole directive.0 End out new come falls n s at start state
      (e ∙ ap (λ id. anchored id End start state) (ap id_of (sym f ∙ directive.1))))

  pub root_ends : RootEnds now slot.path out new → IsEnding now whole frames todo new
  root_ends ends = by_root (root_is slot.parent parent_is (is.forest.stands number slot here)) ends
    where
      root_is : (parent : Option ℕ) → parent ≡ None → StandsUnder old slot.path slot.own parent → IsRoot slot.path
      root_is None e stands = stands
      root_is (Some p) e stands = absurd (cc)
