-- Tasks some of which are taken out while others go on.
use Rattle.std.proofs.Common.{◌≡◌, ◌⊎◌, inl, inr, ℕ, false, List, Option, Some, None, refl, sym, ap, ◌∙◌, subst}
use Rattle.aerie_base.specs.declared.plans.Edge.TheVariants.{Start, End}
use Rattle.aerie_base.specs.Paths.{root, child_path}
use Rattle.run_data.specs.declared.tasks.TaskState.{TaskState}
use Rattle.run_data.specs.TaskFrames.{Frame}
use Rattle.run_data.specs.Endings.{has_ended, has_begun, gone_on}
use Rattle.run_data.specs.Tasks.{anchored, calling, Task, Table, task_at}
use Rattle.run_data.specs.laws.BatchFrames.{HasPath}
use Rattle.live_tasks.specs.declared.slots.Slot.{Slot}
use Rattle.live_tasks.specs.Slots.{Slots, slot_at, StandsUnder, live_children_of, IsForest, HasSlot}
use Rattle.live_tasks.specs.Endings.{slot_has_ended, IsNumberAmong, IsOf, HasCalledChild, IsEnding}
use Rattle.live_tasks.proofs.Going.{IsFree, free_no_call, free_no_anchor}

-- a task that stays, or has gone on
pub record Kept (now : ℕ) (whole : Table) (old new : Slot) : Type 0 where
  pub path : new.path ≡ old.path
  pub own : new.own ≡ old.own
  pub parent : new.parent ≡ old.parent
  pub goes : gone_on whole now old.path new.task ≡ gone_on whole now old.path old.task
  pub still : (new.task.phase ≡ old.task.phase) ⊎ IsFree new.task.phase

pub kept_itself : (now : ℕ) (whole : Table) (slot : Slot) → Kept now whole slot slot
kept_itself now whole slot = record { path = refl; own = refl; parent = refl; goes = refl; still = inl refl }

pub record Forward (now : ℕ) (whole : Table) (new : Slots) (number : ℕ) (slot : Slot) : Type 0 where
  pub next : Slot
  pub there : slot_at new number ≡ Some next
  pub kept : Kept now whole slot next

pub record Backward (now : ℕ) (whole : Table) (old : Slots) (number : ℕ) (slot : Slot) : Type 0 where
  pub before : Slot
  pub there : slot_at old number ≡ Some before
  pub kept : Kept now whole before slot

pub record Moves (now : ℕ) (whole : Table) (Gone : ℕ → Type 0) (frames later : List Frame) (rest : List ℕ) (old new : Slots) : Type 0 where
  pub forward : (number : ℕ) (slot : Slot) → slot_at old number ≡ Some slot → (Gone number → ⊥) → Forward now whole new number slot
  pub backward : (number : ℕ) (slot : Slot) → slot_at new number ≡ Some slot → Backward now whole old number slot
  -- none of those taken out has a child, is live, is called, or is the end that somebody follows
  pub childless : (number : ℕ) (slot : Slot) → slot_at old number ≡ Some slot → (parent : ℕ) → slot.parent ≡ Some parent → Gone parent → ⊥
  pub ended : (number : ℕ) (slot : Slot) → slot_at old number ≡ Some slot → Gone number → has_ended whole slot.path ≡ false → ⊥
  pub uncalled : (number : ℕ) (slot : Slot) → slot_at new number ≡ Some slot → (child : ℕ) (into : Option ℕ) (state : TaskState) → slot.task.phase ≡ calling child into state →
      (callee : HasCalledChild old number child) → Gone callee.number → ⊥
  pub unfollowed : (number : ℕ) (slot : Slot) → slot_at new number ≡ Some slot → (to start : ℕ) (state : TaskState) → slot.task.phase ≡ anchored to End start state →
      (followed : HasSlot old (root to)) → Gone followed.number → ⊥
  pub starts : (number : ℕ) (slot : Slot) → slot_at new number ≡ Some slot → (to start : ℕ) (state : TaskState) → slot.task.phase ≡ anchored to Start start state →
      (has_begun (task_at whole (root to)) ≡ false) ⊎ HasPath (root to) frames → (has_begun (task_at whole (root to)) ≡ false) ⊎ HasPath (root to) later
  pub counts : (number : ℕ) (slot : Slot) → slot_at new number ≡ Some slot → slot.live_below ≡ live_children_of number new
  pub settled : (number : ℕ) (slot : Slot) → slot_at new number ≡ Some slot → (slot_has_ended (Some slot) ≡ false) ⊎ IsNumberAmong number rest

module _ (now : ℕ) (whole : Table) (Gone : ℕ → Type 0) (frames later : List Frame) (todo rest : List ℕ) (old new : Slots)
    (is : IsEnding now whole frames todo old) (moves : Moves now whole Gone frames later rest old new) where
  stands_by : (number : ℕ) (before slot : Slot) → slot_at old number ≡ Some before → Kept now whole before slot → (parent : Option ℕ) → before.parent ≡ parent →
      StandsUnder old before.path before.own parent → StandsUnder new slot.path slot.own parent
  stands_by number before slot at kept None e root_ = subst (λ p. StandsUnder new p slot.own None) (sym kept.path) root_
  stands_by number before slot at kept (Some parent) e below =
      let f = moves.forward parent below.above below.there (moves.childless number before at parent e) in
      record {
        above = f.next;
        there = f.there;
        is = kept.path ∙ below.is ∙ λ i. child_path (sym f.kept.path i) (sym kept.own i);
      }

  forest : IsForest new
  forest = record {
    distinct = λ number other slot second at again same.
        let a = moves.backward number slot at in
        let b = moves.backward other second again in
        is.forest.distinct number other a.before b.before a.there b.there (sym a.kept.path ∙ same ∙ b.kept.path);
    stands = λ number slot at.
        let a = moves.backward number slot at in
        subst (StandsUnder new slot.path slot.own) (sym a.kept.parent)
        (stands_by number a.before slot a.there a.kept a.before.parent refl (is.forest.stands number a.before a.there));
    counts = moves.counts;
  }

  tasks : (number : ℕ) (slot : Slot) → slot_at new number ≡ Some slot → IsOf now whole slot
  tasks number slot at =
      let a = moves.backward number slot at in
      let of = is.tasks number a.before a.there in
      record {
        first = of.first;
        there = ap (task_at whole) a.kept.path ∙ of.there;
        same = subst (λ p. gone_on whole now p slot.task ≡ gone_on whole now p of.first) (sym a.kept.path) (a.kept.goes ∙ of.same);
      }

  slot_there : (path : List ℕ) (found : HasSlot old path) → (Gone found.number → ⊥) → HasSlot new path
  slot_there path found stays =
      let f = moves.forward found.number found.slot found.there stays in
      record { number = found.number; slot = f.next; there = f.there; is = f.kept.path ∙ found.is }

  kept : (path : List ℕ) (task : Task) → task_at whole path ≡ Some task → has_ended whole path ≡ false → HasSlot new path
  kept path task there live =
      let found = is.kept path task there live in
      slot_there path found (λ gone. moves.ended found.number found.slot found.there gone (ap (has_ended whole) found.is ∙ live))

  calls : (number : ℕ) (slot : Slot) → slot_at new number ≡ Some slot → (child : ℕ) (into : Option ℕ) (state : TaskState) → slot.task.phase ≡ calling child into state → HasCalledChild new number child
  calls number slot at child into state e = by (moves.backward number slot at)
    where
      by : Backward now whole old number slot → HasCalledChild new number child
      by a = go a.kept.still
        where
          go : (slot.task.phase ≡ a.before.task.phase) ⊎ IsFree slot.task.phase → HasCalledChild new number child
          go (inr free) = absurd (free_no_call slot.task.phase free child into state e)
          go (inl same) =
              let callee = is.calls number a.before a.there child into state (sym same ∙ e) in
              let f = moves.forward callee.number callee.slot callee.there (moves.uncalled number slot at child into state e callee) in
              record { number = callee.number; slot = f.next; there = f.there; parent_is = f.kept.parent ∙ callee.parent_is; own_is = f.kept.own ∙ callee.own_is }

  follows : (number : ℕ) (slot : Slot) → slot_at new number ≡ Some slot → (to start : ℕ) (state : TaskState) → slot.task.phase ≡ anchored to End start state → HasSlot new (root to)
  follows number slot at to start state e = by (moves.backward number slot at)
    where
      by : Backward now whole old number slot → HasSlot new (root to)
      by a = go a.kept.still
        where
          go : (slot.task.phase ≡ a.before.task.phase) ⊎ IsFree slot.task.phase → HasSlot new (root to)
          go (inr free) = absurd (free_no_anchor slot.task.phase free to End start state e)
          go (inl same) =
              let found = is.follows number a.before a.there to start state (sym same ∙ e) in
              slot_there (root to) found (moves.unfollowed number slot at to start state e found)

  starts : (number : ℕ) (slot : Slot) → slot_at new number ≡ Some slot → (to start : ℕ) (state : TaskState) → slot.task.phase ≡ anchored to Start start state →
      (has_begun (task_at whole (root to)) ≡ false) ⊎ HasPath (root to) later
  starts number slot at to start state e = by (moves.backward number slot at)
    where
      by : Backward now whole old number slot → (has_begun (task_at whole (root to)) ≡ false) ⊎ HasPath (root to) later
      by a = go a.kept.still
        where
          go : (slot.task.phase ≡ a.before.task.phase) ⊎ IsFree slot.task.phase → (has_begun (task_at whole (root to)) ≡ false) ⊎ HasPath (root to) later
          go (inr free) = absurd (free_no_anchor slot.task.phase free to Start start state e)
          go (inl same) = moves.starts number slot at to start state e (is.starts number a.before a.there to start state (sym same ∙ e))

  pub moved : IsEnding now whole later rest new
  moved = record {
    order = is.order;
    forest = forest;
    tasks = tasks;
    kept = kept;
    calls = calls;
    follows = follows;
    starts = starts;
    settled = moves.settled;
  }
