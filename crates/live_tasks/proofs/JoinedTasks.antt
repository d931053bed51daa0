-- A directive that has not begun joins tasks of which some have.
use Rattle.std.proofs.Common.{◌≡◌, ◌≢◌, ◌⊎◌, inl, inr, ℕ, nat_eq, true, not, ◌&&◌, false, List, Option, Some, None, refl, sym, ap, ◌∙◌, subst, arith}
use Rattle.aerie_base.specs.declared.plans.Anchor.{Anchor}
use Rattle.aerie_base.specs.declared.plans.Edge.{Edge}
use Rattle.run_data.specs.declared.tasks.TaskState.{TaskState}
use Rattle.run_data.specs.Endings.{is_open}
use Rattle.run_data.specs.TableLaws.{order_with}
use Rattle.run_data.specs.Tasks.{TaskPhase, anchored, calling, delayed, planned, Task, Table, task_at, with_task}
use Rattle.live_tasks.specs.declared.followers.Follower.{Follower}
use Rattle.live_tasks.specs.declared.slots.Slot.{Slot}
use Rattle.live_tasks.specs.declared.tasks.LiveTasks.{LiveTasks}
use Rattle.live_tasks.specs.Endings.{slot_has_ended, HasCalledChild, StaysThere}
use Rattle.live_tasks.specs.Followers.{Follows, AreFollowers}
use Rattle.live_tasks.specs.Joining.{AreUnderWay, IsJoinedBy}
use Rattle.live_tasks.specs.ListedSlots.{KeepsAll}
use Rattle.live_tasks.specs.PlannedTasks.{IsPlannedBy, HasNoTask, HasPathToo}
use Rattle.live_tasks.specs.Slots.{Slots, slot_at, Becomes, under, child_in, live_children_of, IsRoot, StandsUnder, IsForest, HasSlot}
use Rattle.live_tasks.proofs.Counts.{count_becomes}
use Rattle.live_tasks.proofs.Forests.{same_or_not}
use Rattle.live_tasks.proofs.Settled.{HasChild, some_child}
use Rattle.live_tasks.proofs.Taking.{put_here, put_there, path_or_not, stands_through}

-- a directive without an anchor is delayed
pub alone_by : (anchor : Option Anchor) (start : ℕ) (state : TaskState) → anchor ≡ None → IsPlannedBy None (planned anchor start state)
alone_by anchor start state e = subst (λ (a : Option Anchor). IsPlannedBy None (planned a start state)) (sym e) (start, state, refl)

-- where none stands, none has that as its parent
no_child : (slots : Slots) (number : ℕ) → IsForest slots → slot_at slots number ≡ None → live_children_of number slots ≡ 0
no_child slots number forest vacant = by (some_child number slots)
  where
    never : (parent : Option ℕ) (path : List ℕ) (own : ℕ) → parent ≡ Some number → StandsUnder slots path own parent → ⊥
    never None path own e stands = let k : None ≡ Some number = e in cc
    never (Some parent) path own e below =
        let k : parent ≡ number = cc in
        let f : Some below.above ≡ None = sym below.there ∙ ap (slot_at slots) k ∙ vacant in cc

    by : (live_children_of number slots ≡ 0) ⊎ HasChild slots number → live_children_of number slots ≡ 0
    by (inl e) = e
    by (inr has) = absurd (never has.slot.parent has.slot.path has.slot.own has.is (forest.stands has.number has.slot has.there))

module _ (before after : LiveTasks) (number : ℕ) (slot : Slot) (root_ : IsRoot slot.path) (orphan : slot.parent ≡ None) (below : slot.live_below ≡ 0) (phase : IsPlannedBy None slot.task.phase)
    (is : Becomes before.tables.slots.slots after.tables.slots.slots number (Some slot)) (vacant : slot_at before.tables.slots.slots number ≡ None)
    (followers : after.followers.items ≡ before.followers.items) (keeps : KeepsAll before.tables after.tables) where
  abbrev old : Slots
  old = before.tables.slots.slots

  abbrev new : Slots
  new = after.tables.slots.slots

  data Now (n : ℕ) (s : Slot) : Type 0 where
    at_number : n ≡ number → s ≡ slot → Now n s
    as_before : n ≢ number → slot_at before.tables.slots.slots n ≡ Some s → Now n s

  now_at : (n : ℕ) (s : Slot) → slot_at new n ≡ Some s → Now n s
  now_at n s at = by (same_or_not n number)
    where
      by : (n ≡ number) ⊎ (n ≢ number) → Now n s
      by (inl e) = let f : Some s ≡ Some slot = sym at ∙ ap (slot_at new) e ∙ is.is_there in at_number e (cc)
      by (inr apart) = as_before apart (sym (is.others n apart) ∙ at)

  apart_from : (n : ℕ) (s : Slot) → slot_at old n ≡ Some s → n ≢ number
  apart_from n s at e = let f : Some s ≡ None = sym at ∙ ap (slot_at old) e ∙ vacant in cc

  still : (n : ℕ) (s : Slot) → slot_at old n ≡ Some s → slot_at new n ≡ Some s
  still n s at = is.others n (apart_from n s at) ∙ at

  stays : (n : ℕ) (s : Slot) → slot_at old n ≡ Some s → StaysThere new n s
  stays n s at = record { next = s; there = still n s at; path = refl; own = refl; parent = refl }

  one_more : HasPathToo slot.path before after
  one_more other has = by (now_at has.number has.slot has.there)
    where
      by : Now has.number has.slot → (other ≡ slot.path) ⊎ HasSlot before.tables.slots.slots other
      by (at_number e same) = inl (sym has.is ∙ ap (λ (s : Slot). s.path) same)
      by (as_before apart at) = inr (record { number = has.number; slot = has.slot; there = at; is = has.is })

  never_calls : (p : TaskPhase) → IsPlannedBy None p → (child : ℕ) (into : Option ℕ) (state : TaskState) → p ≡ calling child into state → ⊥
  never_calls p its child into state e = let f : delayed its.0 its.1 ≡ calling child into state = sym its.2 ∙ e in cc

  never_anchored : (p : TaskPhase) → IsPlannedBy None p → (to : ℕ) (edge : Edge) (start : ℕ) (state : TaskState) → p ≡ anchored to edge start state → ⊥
  never_anchored p its to edge start state e = let f : delayed its.0 its.1 ≡ anchored to edge start state = sym its.2 ∙ e in cc

  is_open_ : is_open slot.task.phase ≡ true
  is_open_ = ap is_open phase.2

  module _ (table : Table) (way : AreUnderWay table before) (none : HasNoTask before slot.path) where
    other_path : (n : ℕ) (s : Slot) → slot_at old n ≡ Some s → s.path ≢ slot.path
    other_path n s at e = none (record { number = n; slot = s; there = at; is = e })

    distinct : (n m : ℕ) (s t : Slot) → slot_at new n ≡ Some s → slot_at new m ≡ Some t → s.path ≡ t.path → n ≡ m
    distinct n m s t at again same = by (now_at n s at) (now_at m t again)
      where
        by : Now n s → Now m t → n ≡ m
        by (at_number e f) (at_number g h) = e ∙ sym g
        by (at_number e f) (as_before apart there) = absurd (other_path m t there (sym same ∙ ap (λ (s : Slot). s.path) f))
        by (as_before apart there) (at_number g h) = absurd (other_path n s there (same ∙ ap (λ (s : Slot). s.path) h))
        by (as_before apart there) (as_before other_ again_) = way.forest.distinct n m s t there again_ same

    stands : (n : ℕ) (s : Slot) → slot_at new n ≡ Some s → StandsUnder new s.path s.own s.parent
    stands n s at = by (now_at n s at)
      where
        by : Now n s → StandsUnder new s.path s.own s.parent
        by (at_number e same) =
            subst (λ (x : Slot). StandsUnder new x.path x.own x.parent) (sym same) (subst (λ (parent : Option ℕ). StandsUnder new slot.path slot.own parent) (sym orphan) root_)
        by (as_before apart there) = stands_through old new s.path s.own s.parent stays (way.forest.stands n s there)

    same_children : (n : ℕ) → live_children_of n new ≡ live_children_of n old
    same_children n =
        let a = count_becomes n number old new (Some slot) is in
        let b : child_in n (slot_at old number) ≡ 0 = ap (child_in n) vacant in
        let c : child_in n (Some slot) ≡ 0 = ap (under n) orphan in
        omega (arith, a, b, c)

    counts : (n : ℕ) (s : Slot) → slot_at new n ≡ Some s → s.live_below ≡ live_children_of n new
    counts n s at = by (now_at n s at)
      where
        by : Now n s → s.live_below ≡ live_children_of n new
        by (at_number e same) =
            ap (λ (x : Slot). x.live_below) same ∙ below ∙ sym (no_child old number way.forest vacant) ∙ ap (λ m. live_children_of m old) (sym e) ∙ sym (same_children n)
        by (as_before apart there) = way.forest.counts n s there ∙ sym (same_children n)

    tasks : (n : ℕ) (s : Slot) → slot_at new n ≡ Some s → task_at (with_task table slot.path slot.task) s.path ≡ Some s.task
    tasks n s at = by (now_at n s at)
      where
        by : Now n s → task_at (with_task table slot.path slot.task) s.path ≡ Some s.task
        by (at_number e same) =
            subst (λ (x : Slot). task_at (with_task table slot.path slot.task) x.path ≡ Some x.task) (sym same) (put_here table slot.path slot.task)
        by (as_before apart there) = put_there table slot.path s.path slot.task (other_path n s there) ∙ way.are.tasks n s there

    each : (path : List ℕ) (task : Task) → task_at (with_task table slot.path slot.task) path ≡ Some task → HasSlot new path
    each path task at = by (path_or_not path slot.path)
      where
        by : (path ≡ slot.path) ⊎ (path ≢ slot.path) → HasSlot new path
        by (inl e) = record { number = number; slot = slot; there = is.is_there; is = sym e }
        by (inr apart) =
            let has = way.are.each path task (sym (put_there table slot.path path slot.task apart) ∙ at) in
            record { number = has.number; slot = has.slot; there = still has.number has.slot has.there; is = has.is }

    calls : (n : ℕ) (s : Slot) → slot_at new n ≡ Some s → (child : ℕ) (into : Option ℕ) (state : TaskState) → s.task.phase ≡ calling child into state → HasCalledChild new n child
    calls n s at child into state e = by (now_at n s at)
      where
        by : Now n s → HasCalledChild new n child
        by (at_number f same) = absurd (never_calls slot.task.phase phase child into state (ap (λ (x : Slot). x.task.phase) (sym same) ∙ e))
        by (as_before apart there) =
            let callee = way.calls n s there child into state e in
            record { number = callee.number; slot = callee.slot; there = still callee.number callee.slot callee.there; parent_is = callee.parent_is; own_is = callee.own_is }

    settled : (n : ℕ) (s : Slot) → slot_at new n ≡ Some s → slot_has_ended (Some s) ≡ false
    settled n s at = by (now_at n s at)
      where
        by : Now n s → slot_has_ended (Some s) ≡ false
        by (at_number e same) = ap (λ (x : Slot). slot_has_ended (Some x)) same ∙ ap (λ b. not b && nat_eq slot.live_below 0) is_open_
        by (as_before apart there) = way.settled n s there

    follow : (n : ℕ) (s : Slot) → slot_at new n ≡ Some s → (to : ℕ) (edge : Edge) (start : ℕ) (state : TaskState) → s.task.phase ≡ anchored to edge start state →
        Follows n to before.followers.items
    follow n s at to edge start state e = by (now_at n s at)
      where
        by : Now n s → Follows n to before.followers.items
        by (at_number f same) = absurd (never_anchored slot.task.phase phase to edge start state (ap (λ (x : Slot). x.task.phase) (sym same) ∙ e))
        by (as_before apart there) = way.followers_.all n s there to edge start state e

    one_joined : AreUnderWay (with_task table slot.path slot.task) after
    one_joined = record {
      forest = record { distinct = distinct; stands = stands; counts = counts };
      are = record { order = order_with table slot.path slot.task way.are.order; tasks = tasks; each = each };
      calls = calls;
      settled = settled;
      followers_ = subst (λ (f : List Follower). AreFollowers new f) (sym followers) (record { by_id = way.followers_.by_id; all = follow });
      listed = keeps way.listed;
    }

  pub joins_one : IsJoinedBy slot.path slot.task before after
  joins_one = record { more = one_more; joined = one_joined }
