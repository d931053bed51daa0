-- One planned task more.
use Rattle.std.proofs.Common.{◌≡◌, ◌≢◌, ◌⊎◌, inl, inr, ℕ, List, [], ◌∷◌, ◌++◌, Option, Some, None, refl, sym, ap, ◌∙◌, subst}
use Rattle.aerie_base.specs.declared.plans.Anchor.{Anchor}
use Rattle.aerie_base.specs.declared.plans.Edge.{Edge}
use Rattle.run_data.specs.declared.tasks.TaskState.{TaskState}
use Rattle.run_data.specs.TableLaws.{order_with}
use Rattle.run_data.specs.Tasks.{TaskPhase, anchored, delayed, Task, Table, planned, task_at, with_task}
use Rattle.live_tasks.specs.declared.followers.Follower.{Follower}
use Rattle.live_tasks.specs.declared.slots.Slot.{Slot}
use Rattle.live_tasks.specs.declared.tasks.LiveTasks.{LiveTasks}
use Rattle.live_tasks.specs.Followers.{Follows}
use Rattle.live_tasks.specs.ListedSlots.{KeepsAll}
use Rattle.live_tasks.specs.PlannedTasks.{IsPlannedBy, follower_of, IsUnbegun, ArePlanned, HasNoTask, HasPathToo, Plans}
use Rattle.live_tasks.specs.Slots.{slot_at, Becomes, HasSlot}
use Rattle.live_tasks.proofs.Forests.{same_or_not}
use Rattle.live_tasks.proofs.Taking.{put_here, put_there, path_or_not}

-- ---- followers

pub follows_still : (number to : ℕ) (followers more : List Follower) → Follows number to followers → Follows number to (followers ++ more)
follows_still number to [] more never = absurd never
follows_still number to (first ∷ rest) more (inl e) = inl e
follows_still number to (first ∷ rest) more (inr among) = inr (follows_still number to rest more among)

follows_behind : (number to : ℕ) (followers : List Follower) → Follows number to (followers ++ record { to = to; number = number } ∷ [])
follows_behind number to [] = inl (refl, refl)
follows_behind number to (first ∷ rest) = inr (follows_behind number to rest)

follows_mine : (anchor : Option Anchor) (number : ℕ) (followers : List Follower) (phase : TaskPhase) → IsPlannedBy anchor phase → (to : ℕ) (edge : Edge) (start : ℕ) (state : TaskState) →
    phase ≡ anchored to edge start state → Follows number to (followers ++ follower_of anchor number)
follows_mine None number followers phase is to edge start state e =
    let f : delayed is.0 is.1 ≡ anchored to edge start state = sym is.2 ∙ e in absurd (cc)
follows_mine (Some anchor) number followers phase is to edge start state e =
    let f : anchored anchor.to anchor.edge is.0 is.1 ≡ anchored to edge start state = sym is.2 ∙ e in
    let k : anchor.to ≡ to = cc in
    subst (λ n. Follows number n (followers ++ record { to = anchor.to; number = number } ∷ [])) k (follows_behind number anchor.to followers)

-- ---- one task more

module _ (before after : LiveTasks) (number : ℕ) (slot : Slot) (anchor : Option Anchor) (unbegun : IsUnbegun slot) (by_anchor : IsPlannedBy anchor slot.task.phase)
    (is : Becomes before.tables.slots.slots after.tables.slots.slots number (Some slot)) (vacant : slot_at before.tables.slots.slots number ≡ None)
    (followers : after.followers.items ≡ before.followers.items ++ follower_of anchor number) (keeps : KeepsAll before.tables after.tables) where
  data Now (n : ℕ) (s : Slot) : Type 0 where
    at_number : n ≡ number → s ≡ slot → Now n s
    as_before : n ≢ number → slot_at before.tables.slots.slots n ≡ Some s → Now n s

  now_at : (n : ℕ) (s : Slot) → slot_at after.tables.slots.slots n ≡ Some s → Now n s
  now_at n s at = by (same_or_not n number)
    where
      by : (n ≡ number) ⊎ (n ≢ number) → Now n s
      by (inl e) = let f : Some s ≡ Some slot = sym at ∙ ap (slot_at after.tables.slots.slots) e ∙ is.is_there in at_number e (cc)
      by (inr apart) = as_before apart (sym (is.others n apart) ∙ at)

  apart_from : (n : ℕ) (s : Slot) → slot_at before.tables.slots.slots n ≡ Some s → n ≢ number
  apart_from n s at e = let f : Some s ≡ None = sym at ∙ ap (slot_at before.tables.slots.slots) e ∙ vacant in cc

  still : (n : ℕ) (s : Slot) → slot_at before.tables.slots.slots n ≡ Some s → slot_at after.tables.slots.slots n ≡ Some s
  still n s at = is.others n (apart_from n s at) ∙ at

  one_more : HasPathToo slot.path before after
  one_more other has = by (now_at has.number has.slot has.there)
    where
      by : Now has.number has.slot → (other ≡ slot.path) ⊎ HasSlot before.tables.slots.slots other
      by (at_number e same) = inl (sym has.is ∙ ap (λ (s : Slot). s.path) same)
      by (as_before apart at) = inr (record { number = has.number; slot = has.slot; there = at; is = has.is })

  module _ (table : Table) (planned_ : ArePlanned table before) (none : HasNoTask before slot.path) where
    other_path : (n : ℕ) (s : Slot) → slot_at before.tables.slots.slots n ≡ Some s → s.path ≢ slot.path
    other_path n s at e = none (record { number = n; slot = s; there = at; is = e })

    distinct : (n m : ℕ) (s t : Slot) → slot_at after.tables.slots.slots n ≡ Some s → slot_at after.tables.slots.slots m ≡ Some t → s.path ≡ t.path → n ≡ m
    distinct n m s t at again same = by (now_at n s at) (now_at m t again)
      where
        by : Now n s → Now m t → n ≡ m
        by (at_number e f) (at_number g h) = e ∙ sym g
        by (at_number e f) (as_before apart there) = absurd (other_path m t there (sym same ∙ ap (λ (s : Slot). s.path) f))
        by (as_before apart there) (at_number g h) = absurd (other_path n s there (same ∙ ap (λ (s : Slot). s.path) h))
        by (as_before apart there) (as_before other_ again_) = planned_.distinct n m s t there again_ same

    tasks : (n : ℕ) (s : Slot) → slot_at after.tables.slots.slots n ≡ Some s → task_at (with_task table slot.path slot.task) s.path ≡ Some s.task
    tasks n s at = by (now_at n s at)
      where
        by : Now n s → task_at (with_task table slot.path slot.task) s.path ≡ Some s.task
        by (at_number e same) =
            subst (λ (x : Slot). task_at (with_task table slot.path slot.task) x.path ≡ Some x.task) (sym same) (put_here table slot.path slot.task)
        by (as_before apart there) = put_there table slot.path s.path slot.task (other_path n s there) ∙ planned_.are.tasks n s there

    each : (path : List ℕ) (task : Task) → task_at (with_task table slot.path slot.task) path ≡ Some task → HasSlot after.tables.slots.slots path
    each path task at = by (path_or_not path slot.path)
      where
        by : (path ≡ slot.path) ⊎ (path ≢ slot.path) → HasSlot after.tables.slots.slots path
        by (inl e) = record { number = number; slot = slot; there = is.is_there; is = sym e }
        by (inr apart) =
            let has = planned_.are.each path task (sym (put_there table slot.path path slot.task apart) ∙ at) in
            record { number = has.number; slot = has.slot; there = still has.number has.slot has.there; is = has.is }

    all_unbegun : (n : ℕ) (s : Slot) → slot_at after.tables.slots.slots n ≡ Some s → IsUnbegun s
    all_unbegun n s at = by (now_at n s at)
      where
        by : Now n s → IsUnbegun s
        by (at_number e same) = subst IsUnbegun (sym same) unbegun
        by (as_before apart there) = planned_.unbegun n s there

    follow : (n : ℕ) (s : Slot) → slot_at after.tables.slots.slots n ≡ Some s → (to : ℕ) (edge : Edge) (start : ℕ) (state : TaskState) → s.task.phase ≡ anchored to edge start state →
        Follows n to after.followers.items
    follow n s at to edge start state e = subst (Follows n to) (sym followers) (by (now_at n s at))
      where
        by : Now n s → Follows n to (before.followers.items ++ follower_of anchor number)
        by (at_number f same) =
            subst (λ m. Follows m to (before.followers.items ++ follower_of anchor number)) (sym f)
            (follows_mine anchor number before.followers.items slot.task.phase by_anchor to edge start state (ap (λ (s : Slot). s.task.phase) (sym same) ∙ e))
        by (as_before apart there) = follows_still n to before.followers.items (follower_of anchor number) (planned_.follow n s there to edge start state e)

    one_planned : ArePlanned (with_task table slot.path slot.task) after
    one_planned = record {
      distinct = distinct;
      are = record { order = order_with table slot.path slot.task planned_.are.order; tasks = tasks; each = each };
      unbegun = all_unbegun;
      follow = follow;
      listed = keeps planned_.listed;
    }

  pub plans_one : Plans slot.path slot.task before after
  plans_one = record { more = one_more; planned_ = one_planned }

-- ---- which anchor

pub planned_by : (anchor : Option Anchor) (start : ℕ) (state : TaskState) → IsPlannedBy anchor (planned anchor start state)
planned_by None start state = (start, state, refl)
planned_by (Some anchor) start state = (start, state, refl)
