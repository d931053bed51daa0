-- The end of a batch.
use Rattle.std.proofs.Common.{◌≡◌, ◌⊎◌, inl, inr, ℕ, zero, suc, true, false, List, [], ◌∷◌, Option, Some, None, refl, sym, ap, ◌∙◌, subst}
use Rattle.aerie_base.specs.declared.plans.Edge.TheVariants.{Start}
use Rattle.aerie_base.specs.Paths.{root}
use Rattle.run_data.specs.declared.tasks.TaskState.{TaskState}
use Rattle.run_data.specs.TaskFrames.{Frame}
use Rattle.run_data.specs.Endings.{has_begun, gone_on}
use Rattle.run_data.specs.Tasks.{anchored, Task, Table, task_at, on_each, after_frames}
use Rattle.run_data.specs.laws.BatchFrames.{HasPath, AreFramesOf}
use Rattle.run_data.specs.laws.LiveParts.{live}
use Rattle.live_tasks.specs.declared.slots.Slot.{Slot}
use Rattle.live_tasks.specs.Slots.{Slots, slot_at, table_of}
use Rattle.live_tasks.specs.declared.followers.Follower.{Follower}
use Rattle.live_tasks.specs.Followers.{AreFollowers}
use Rattle.live_tasks.specs.Endings.{FallDue, IsEnding, AreLive, IsTaking}
use Rattle.live_tasks.proofs.Falling.{same_place, fall_place, none_anchored, stays_in_place}
use Rattle.live_tasks.proofs.Settled.{undone, is_live_part}
use Rattle.live_tasks.proofs.Tabled.{are_table}
use Rattle.run_data.specs.laws.FramesByPath.{frame_of_path, at_one_frame}
use Rattle.live_tasks.proofs.Settling.{fall_followers}
use Rattle.live_tasks.proofs.Taken.{all_taken}

-- ---- all are live again

module _ (now : ℕ) (whole : Table) (slots : Slots) (is : IsEnding now whole [] [] slots) where
  pub table_is : table_of slots ≡ live (on_each (gone_on whole now) whole)
  table_is = is_live_part now whole slots is (table_of slots) (are_table slots is.forest)

  -- what stands in the table has begun where it has with all frames
  begun_same : (path : List ℕ) → has_begun (task_at whole path) ≡ false → has_begun (task_at (table_of slots) path) ≡ false
  begun_same path e = by (task_at (table_of slots) path) refl
    where
      by : (found : Option Task) → task_at (table_of slots) path ≡ found → has_begun (task_at (table_of slots) path) ≡ false
      by None f = ap has_begun f
      by (Some task) f =
          let found = (are_table slots is.forest).each path task f in
          let of = is.tasks found.number found.slot found.there in
          let g : Some found.slot.task ≡ Some task = sym ((are_table slots is.forest).tasks found.number found.slot found.there) ∙ ap (task_at (table_of slots)) found.is ∙ f in
          let h : found.slot.task ≡ task = cc in
          let k : task_at whole path ≡ Some of.first = ap (task_at whole) (sym found.is) ∙ of.there in
          let l : found.slot.task.begun ≡ of.first.begun = ap (λ (t : Task). t.begun) of.same in
          ap has_begun f ∙ ap (λ (t : Task). t.begun) (sym h) ∙ l ∙ ap has_begun (sym k) ∙ e

  pub are_live : AreLive (table_of slots) slots
  are_live = record {
    forest = is.forest;
    are = are_table slots is.forest;
    calls = is.calls;
    follows = is.follows;
    starts = λ n s at to start state e. begun_same (root to) (no_more (root to) (is.starts n s at to start state e));
    settled = undone now whole slots is;
  }
    where
      no_more : (path : List ℕ) → (has_begun (task_at whole path) ≡ false) ⊎ HasPath path [] → has_begun (task_at whole path) ≡ false
      no_more path (inl e) = e
      no_more path (inr never) = absurd never

-- ---- a directive's start

root_once : (one other : ℕ) → root one ≡ root other → one ≡ other
root_once one other e = cc

module _ (now : ℕ) (whole : Table) (frame : Frame) (rest : List Frame) (todo : List ℕ) (old new : Slots) (is : IsEnding now whole (frame ∷ rest) todo old) where
  by_root : (to : ℕ) → frame.path ≡ root to → FallDue now to Start old new → has_begun (task_at whole (root to)) ≡ true → IsEnding now whole rest todo new
  by_root to e falls begun = stays_in_place now whole (frame ∷ rest) rest todo old new is (fall_place now whole to Start old new begun falls) starts
    where
      starts : (number : ℕ) (slot : Slot) → slot_at new number ≡ Some slot → (other start : ℕ) (state : TaskState) → slot.task.phase ≡ anchored other Start start state →
          (has_begun (task_at whole (root other)) ≡ false) ⊎ HasPath (root other) (frame ∷ rest) → (has_begun (task_at whole (root other)) ≡ false) ⊎ HasPath (root other) rest
      starts n s at other start state f (inl g) = inl g
      starts n s at other start state f (inr (inr has)) = inr has
      starts n s at other start state f (inr (inl same)) =
          let k : to ≡ other = root_once to other (sym e ∙ same) in
          absurd (none_anchored now whole to Start old new begun falls n s at start state (f ∙ ap (λ id. anchored id Start start state) (sym k)))

  -- where it has not begun with all frames, nobody waits for it
  pub by_other : ((to : ℕ) → frame.path ≡ root to → ⊥) → new ≡ old → IsEnding now whole rest todo new
  by_other none same = stays_in_place now whole (frame ∷ rest) rest todo old new is (same_place now whole old new same) starts
    where
      starts : (number : ℕ) (slot : Slot) → slot_at new number ≡ Some slot → (other start : ℕ) (state : TaskState) → slot.task.phase ≡ anchored other Start start state →
          (has_begun (task_at whole (root other)) ≡ false) ⊎ HasPath (root other) (frame ∷ rest) → (has_begun (task_at whole (root other)) ≡ false) ⊎ HasPath (root other) rest
      starts n s at other start state f (inl g) = inl g
      starts n s at other start state f (inr (inr has)) = inr has
      starts n s at other start state f (inr (inl same_)) = absurd (none other same_)

-- ---- the frames one after another

-- with all frames the tasks of these have begun
abbrev pub HaveBegun : Table → List Frame → Type 0
HaveBegun whole frames = (path : List ℕ) → HasPath path frames → has_begun (task_at whole path) ≡ true

abbrev pub IsStarting : ℕ → Table → List Frame → List ℕ → Slots → Type 0
IsStarting now whole frames todo slots = IsEnding now whole frames todo slots × HaveBegun whole frames

root_or_not : (path : List ℕ) → ((to : ℕ) × (path ≡ root to)) ⊎ ((to : ℕ) → path ≡ root to → ⊥)
root_or_not [] = inr (λ to e. cc)
root_or_not (kind ∷ []) = inr (λ to e. cc)
root_or_not (zero ∷ id ∷ []) = inl (id, refl)
root_or_not (suc kind ∷ id ∷ []) = inr (λ to e. let k : suc kind ≡ zero = cc in cc)
root_or_not (kind ∷ id ∷ first ∷ rest) = inr (λ to e. let k : first ∷ rest ≡ [] = cc in cc)

pub start_next : (now : ℕ) (whole : Table) (frame : Frame) (rest : List Frame) (todo : List ℕ) (old new : Slots) → IsStarting now whole (frame ∷ rest) todo old →
    ((to : ℕ) → frame.path ≡ root to → FallDue now to Start old new) → (((to : ℕ) → frame.path ≡ root to → ⊥) → new ≡ old) → IsStarting now whole rest todo new
start_next now whole frame rest todo old new is falls same = (by (root_or_not frame.path), λ path has. is.1 path (inr has))
  where
    by : ((to : ℕ) × (frame.path ≡ root to)) ⊎ ((to : ℕ) → frame.path ≡ root to → ⊥) → IsEnding now whole rest todo new
    by (inl root_) = by_root now whole frame rest todo old new is.0 root_.0 root_.1 (falls root_.0 root_.1) (is.1 (root root_.0) (inl root_.1))
    by (inr none) = by_other now whole frame rest todo old new is.0 none (same none)

pub starts_all : (now : ℕ) (table : Table) (frames : List Frame) (numbers : List ℕ) (first slots : Slots) → AreLive table first → AreFramesOf table frames →
    IsTaking first numbers (after_frames now frames table) slots → IsStarting now (after_frames now frames table) frames numbers slots
starts_all now table frames numbers first slots live_ are is = (all_taken now table frames numbers first slots live_ are is, begun)
  where
    begun : HaveBegun (after_frames now frames table) frames
    begun path has =
        let found = frame_of_path path frames has in
        ap has_begun (ap (task_at (after_frames now frames table)) (sym found.2) ∙ at_one_frame now frames table found.0 are.differ found.1)

pub start_followers : (now : ℕ) (frame : Frame) (old new : Slots) (followers : List Follower) → ((to : ℕ) → frame.path ≡ root to → FallDue now to Start old new) → (((to : ℕ) → frame.path ≡ root to → ⊥) → new ≡ old) →
    AreFollowers old followers → AreFollowers new followers
start_followers now frame old new followers falls same are = by (root_or_not frame.path)
  where
    by : ((to : ℕ) × (frame.path ≡ root to)) ⊎ ((to : ℕ) → frame.path ≡ root to → ⊥) → AreFollowers new followers
    by (inl root_) = fall_followers now root_.0 Start old new followers (falls root_.0 root_.1) are
    by (inr none) = subst (λ s. AreFollowers s followers) (sym (same none)) are
