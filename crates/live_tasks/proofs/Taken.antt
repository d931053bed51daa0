-- Once all frames of a batch are taken, the tasks are before its end.
use Rattle.std.proofs.Common.{◌≡◌, ◌⊎◌, inl, inr, ℕ, ◌+◌, ◌-◌, false, List, [], ◌∷◌, ◌++◌, Option, Some, None, refl, sym, ap, ◌∙◌, arith}
use Rattle.aerie_base.specs.declared.plans.Edge.{Edge}
use Rattle.aerie_base.specs.declared.plans.Edge.TheVariants.{Start, End}
use Rattle.aerie_base.specs.Paths.{root, child_path}
use Rattle.run_data.specs.declared.tasks.TaskState.{TaskState}
use Rattle.run_data.specs.TaskFrames.{Frame}
use Rattle.run_data.specs.Endings.{has_begun}
use Rattle.run_data.specs.Tasks.{anchored, calling, Task, Table, task_at, after_frames, children_made, children_in}
use Rattle.run_data.specs.laws.BatchFrames.{Among, HasPath, AreFramesOf}
use Rattle.run_data.specs.laws.OpenTasks.{order_frames}
use Rattle.run_data.specs.laws.FramesByPath.{either_path, frame_of_path, new_at, at_no_frame, at_one_frame}
use Rattle.run_data.specs.laws.LiveAfterFrames.{calls_by, anchors_never}
use Rattle.live_tasks.specs.declared.slots.Slot.{Slot}
use Rattle.live_tasks.specs.declared.followers.Follower.{Follower}
use Rattle.live_tasks.specs.Followers.{AreFollowers}
use Rattle.live_tasks.specs.Slots.{Slots, slot_at, StandsUnder, HasSlot}
use Rattle.live_tasks.specs.Endings.{HasCalledChild, IsEnding, AreLive, IsTaking}
use Rattle.live_tasks.proofs.Forests.{root_length, below_length, long_path}
use Rattle.live_tasks.proofs.Taking.{has_through}

long_not_empty : (path : List ℕ) (number : ℕ) → [] ≡ path ++ number ∷ [] → ⊥
long_not_empty [] number e = cc
long_not_empty (first ∷ path) number e = cc

pub child_is : (path other : List ℕ) (number count : ℕ) → child_path path number ≡ child_path other count → (path ≡ other) × (number ≡ count)
child_is [] [] number count e = (refl, cc)
child_is [] (first ∷ other) number count e = let k : [] ≡ other ++ count ∷ [] = cc in absurd (long_not_empty other count k)
child_is (first ∷ path) [] number count e = let k : [] ≡ path ++ number ∷ [] = cc in absurd (long_not_empty path number k)
child_is (first ∷ path) (again ∷ other) number count e =
    let k : first ≡ again = cc in
    let l : path ++ number ∷ [] ≡ other ++ count ∷ [] = cc in
    let both = child_is path other number count l in
    ((λ i. k i ∷ both.0 i), both.1)

module _ (now : ℕ) (table : Table) (frames : List Frame) (numbers : List ℕ) (first slots : Slots) (live : AreLive table first) (are : AreFramesOf table frames)
    (is : IsTaking first numbers (after_frames now frames table) slots) where
  abbrev whole : Table
  whole = after_frames now frames table

  -- a task with a frame is as that leaves it
  record Framed (slot : Slot) : Type 0 where
    frame : Frame
    among : Among frame frames
    path : frame.path ≡ slot.path
    task : slot.task ≡ new_at now table frame

  -- a task without is as it was
  record Unframed (number : ℕ) (slot : Slot) : Type 0 where
    was : Slot
    there : slot_at first number ≡ Some was
    path : was.path ≡ slot.path
    task : slot.task ≡ was.task

  same_number_by : (number : ℕ) (slot : Slot) → slot_at slots number ≡ Some slot → (found : HasSlot first slot.path) → found.number ≡ number
  same_number_by number slot at found =
      let f = is.grown found.number found.slot found.there in is.forest.distinct found.number number f.next slot f.there at (f.path ∙ found.is)

  framed_or_not : (number : ℕ) (slot : Slot) → slot_at slots number ≡ Some slot → Framed slot ⊎ Unframed number slot
  framed_or_not number slot at = by (either_path slot.path frames)
    where
      by : HasPath slot.path frames ⊎ (HasPath slot.path frames → ⊥) → Framed slot ⊎ Unframed number slot
      by (inl has) =
          let found = frame_of_path slot.path frames has in
          let e : Some slot.task ≡ Some (new_at now table found.0) = sym (is.are.tasks number slot at) ∙ ap (task_at whole) (sym found.2) ∙ at_one_frame now frames table found.0 are.differ found.1 in
          inl (record { frame = found.0; among = found.1; path = found.2; task = cc })
      by (inr none) =
          let e : task_at table slot.path ≡ Some slot.task = sym (at_no_frame now frames table slot.path none) ∙ is.are.tasks number slot at in
          let found = live.are.each slot.path slot.task e in
          let f : Some found.slot.task ≡ Some slot.task = sym (live.are.tasks found.number found.slot found.there) ∙ ap (task_at table) found.is ∙ e in
          inr (record {
            was = found.slot;
            there = ap (slot_at first) (sym (same_number_by number slot at found)) ∙ found.there;
            path = found.is;
            task = (let g : slot.task ≡ found.slot.task = cc in g);
          })

  -- ---- callers

  callee_by : (number : ℕ) (slot : Slot) → slot_at slots number ≡ Some slot → (child : ℕ) → HasSlot slots (child_path slot.path child) → HasCalledChild slots number child
  callee_by number slot at child found = by found.slot.parent refl (is.forest.stands found.number found.slot found.there)
    where
      by : (parent : Option ℕ) → found.slot.parent ≡ parent → StandsUnder slots found.slot.path found.slot.own parent → HasCalledChild slots number child
      by None e root_ =
          let l = root_length found.slot.path root_ in
          let m = below_length found.slot.path slot.path child found.is in
          let k = long_path slots is.forest number slot at in
          absurd (omega (arith, l, m, k))
      by (Some parent) e below =
          let both = child_is below.above.path slot.path found.slot.own child (sym below.is ∙ found.is) in
          record {
            number = found.number;
            slot = found.slot;
            there = found.there;
            parent_is = e ∙ ap Some (is.forest.distinct parent number below.above slot below.there at both.0);
            own_is = both.1;
          }

  calls : (number : ℕ) (slot : Slot) → slot_at slots number ≡ Some slot → (child : ℕ) (into : Option ℕ) (state : TaskState) → slot.task.phase ≡ calling child into state → HasCalledChild slots number child
  calls number slot at child into state e = by (framed_or_not number slot at)
    where
      by : Framed slot ⊎ Unframed number slot → HasCalledChild slots number child
      by (inl framed) =
          let made = children_made (task_at table framed.frame.path) + children_in framed.frame.items in
          let how = calls_by now made framed.frame.status child into state (ap (λ (t : Task). t.phase) (sym framed.task) ∙ e) in
          let has : HasPath (child_path framed.frame.path (made - 1)) frames = are.calls framed.frame framed.among into state how.0 in
          let found = frame_of_path (child_path framed.frame.path (made - 1)) frames has in
          let path_is : found.0.path ≡ child_path slot.path child = found.2 ∙ λ i. child_path (framed.path i) (sym how.1 i) in
          callee_by number slot at child
          (is.are.each (child_path slot.path child) (new_at now table found.0) (ap (task_at whole) (sym path_is) ∙ at_one_frame now frames table found.0 are.differ found.1))
      by (inr unframed) =
          let callee = live.calls number unframed.was unframed.there child into state (ap (λ (t : Task). t.phase) (sym unframed.task) ∙ e) in
          let f = is.grown callee.number callee.slot callee.there in
          record { number = callee.number; slot = f.next; there = f.there; parent_is = f.parent ∙ callee.parent_is; own_is = f.own ∙ callee.own_is }

  -- ---- anchors

  unframed_where_anchored : (number : ℕ) (slot : Slot) → slot_at slots number ≡ Some slot → (to : ℕ) (edge : Edge) (start : ℕ) (state : TaskState) → slot.task.phase ≡ anchored to edge start state →
      Unframed number slot
  unframed_where_anchored number slot at to edge start state e = by (framed_or_not number slot at)
    where
      by : Framed slot ⊎ Unframed number slot → Unframed number slot
      by (inl framed) =
          absurd (anchors_never now (children_made (task_at table framed.frame.path) + children_in framed.frame.items) framed.frame.status to edge start state
          (ap (λ (t : Task). t.phase) (sym framed.task) ∙ e))
      by (inr unframed) = unframed

  follows : (number : ℕ) (slot : Slot) → slot_at slots number ≡ Some slot → (to start : ℕ) (state : TaskState) → slot.task.phase ≡ anchored to End start state → HasSlot slots (root to)
  follows number slot at to start state e =
      let unframed = unframed_where_anchored number slot at to End start state e in
      has_through first slots (root to) (live.follows number unframed.was unframed.there to start state (ap (λ (t : Task). t.phase) (sym unframed.task) ∙ e)) is.grown

  starts : (number : ℕ) (slot : Slot) → slot_at slots number ≡ Some slot → (to start : ℕ) (state : TaskState) → slot.task.phase ≡ anchored to Start start state →
      (has_begun (task_at whole (root to)) ≡ false) ⊎ HasPath (root to) frames
  starts number slot at to start state e = by (either_path (root to) frames)
    where
      unframed : Unframed number slot
      unframed = unframed_where_anchored number slot at to Start start state e

      by : HasPath (root to) frames ⊎ (HasPath (root to) frames → ⊥) → (has_begun (task_at whole (root to)) ≡ false) ⊎ HasPath (root to) frames
      by (inl has) = inr has
      by (inr none) =
          inl (ap has_begun (at_no_frame now frames table (root to) none) ∙ live.starts number unframed.was unframed.there to start state (ap (λ (t : Task). t.phase) (sym unframed.task) ∙ e))

  pub all_taken : IsEnding now (after_frames now frames table) frames numbers slots
  all_taken = record {
    order = order_frames now frames table live.are.order;
    forest = is.forest;
    tasks = λ n s at. record { first = s.task; there = is.are.tasks n s at; same = refl };
    kept = λ path task there live_. is.are.each path task there;
    calls = calls;
    follows = follows;
    starts = starts;
    settled = is.settled;
  }

  -- who is anchored was so before
  pub taken_followers : (followers : List Follower) → AreFollowers first followers → AreFollowers slots followers
  taken_followers followers are = record {
    by_id = are.by_id;
    all = λ number slot at to edge start state e.
        let u = unframed_where_anchored number slot at to edge start state e in
        are.all number u.was u.there to edge start state (ap (λ (t : Task). t.phase) (sym u.task) ∙ e);
  }

-- before any frame
pub none_taken : (table : Table) (slots : Slots) → AreLive table slots → IsTaking slots [] table slots
none_taken table slots live = record {
  forest = live.forest;
  are = live.are;
  grown = λ n s at. record { next = s; there = at; path = refl; own = refl; parent = refl };
  settled = λ n s at. inl (live.settled n s at);
}
