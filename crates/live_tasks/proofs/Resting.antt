-- All live tasks changed, each by itself: rested, woken.
use Rattle.std.proofs.Common.{◌≡◌, ℕ, nat_eq, Bool, true, false, List, Option, Some, None, option_map, refl, sym, ap, ◌∙◌, subst, if◌then◌else◌}
use Rattle.aerie_base.specs.declared.plans.Edge.{Edge}
use Rattle.run_data.specs.declared.tasks.TaskState.{TaskState}
use Rattle.run_data.specs.Tasks.{TaskPhase, anchored, ready, delayed, waiting, calling, over, Task, Table, task_at, on_each, rested, rested_phase}
use Rattle.run_data.specs.laws.OpenTasks.{rested_open}
use Rattle.run_data.specs.laws.TableParts.{same_tables}
use Rattle.live_tasks.specs.declared.slots.Slot.{Slot}
use Rattle.live_tasks.specs.declared.followers.Follower.{Follower}
use Rattle.live_tasks.specs.Followers.{Follows, AreFollowers}
use Rattle.live_tasks.specs.Slots.{Slots, slot_at, AreTable, table_of}
use Rattle.live_tasks.specs.Endings.{AreLive}
use Rattle.live_tasks.specs.Changes.{slot_changed, KeepsKinds, AreChanged}
use Rattle.live_tasks.proofs.Changes.{mild_keeps_live}
use Rattle.live_tasks.proofs.Tabled.{are_table}

-- ---- the table of some tasks is one

same_at : (slots : Slots) (table other : Table) → AreTable slots table → AreTable slots other → (path : List ℕ) → task_at table path ≡ task_at other path
same_at slots table other one two path = by (task_at table path) (task_at other path) refl refl
  where
    found : (first second : Table) → AreTable slots first → AreTable slots second → (task : Task) → task_at first path ≡ Some task → task_at second path ≡ Some task
    found first second of_first of_second task e =
        let has = of_first.each path task e in
        ap (task_at second) (sym has.is) ∙ of_second.tasks has.number has.slot has.there ∙ sym (of_first.tasks has.number has.slot has.there) ∙ ap (task_at first) has.is ∙ e

    by : (a b : Option Task) → task_at table path ≡ a → task_at other path ≡ b → task_at table path ≡ task_at other path
    by (Some task) b e f = e ∙ sym (found table other one two task e)
    by None (Some task) e f = found other table two one task f ∙ sym f
    by None None e f = e ∙ sym f

pub one_table : (slots : Slots) (table : Table) → AreLive table slots → table_of slots ≡ table
one_table slots table live =
    let are = are_table slots live.forest in
    same_tables (table_of slots) table are.order live.are.order (same_at slots (table_of slots) table are live.are)

-- ---- a change that makes nobody wait

module _ (change : List ℕ → Task → Task) (mild : KeepsKinds change) (old new : Slots) (changed : AreChanged change old new) (live : AreLive (table_of old) old) where
  are : AreLive (on_each change (table_of old)) new
  are = mild_keeps_live change (table_of old) old new mild live changed

  pub changed_table : table_of new ≡ on_each change (table_of old)
  changed_table = one_table new (on_each change (table_of old)) are

  pub changed_live : AreLive (table_of new) new
  changed_live = subst (λ t. AreLive t new) (sym changed_table) are

-- ---- who is anchored was

pub changed_followers : (change : List ℕ → Task → Task) → KeepsKinds change → (old new : Slots) (followers : List Follower) → AreChanged change old new → AreFollowers old followers → AreFollowers new followers
changed_followers change mild old new followers changed are = record { by_id = are.by_id; all = all }
  where
    all : (number : ℕ) (slot : Slot) → slot_at new number ≡ Some slot → (to : ℕ) (edge : Edge) (start : ℕ) (state : TaskState) → slot.task.phase ≡ anchored to edge start state → Follows number to followers
    all number slot at to edge start state anchor = by (slot_at old number) refl
      where
        by : (o : Option Slot) → slot_at old number ≡ o → Follows number to followers
        by None e = let f : Some slot ≡ None = sym at ∙ changed number ∙ ap (option_map (slot_changed change)) e in absurd (cc)
        by (Some before) e =
            let f : Some slot ≡ Some (slot_changed change before) = sym at ∙ changed number ∙ ap (option_map (slot_changed change)) e in
            let g : slot ≡ slot_changed change before = cc in
            are.all number before e to edge start state (mild.anchor before.path before.task to edge start state (ap (λ (s : Slot). s.task.phase) (sym g) ∙ anchor))

-- ---- delays that end

pub rested_mild : (now : ℕ) → KeepsKinds (rested now)
rested_mild now = record {
  open_ = λ path task. rested_open now task.phase;
  begun_ = λ path task. refl;
  call = λ path task child into state e. call task.phase child into state e;
  anchor = λ path task to edge start state e. anchor task.phase to edge start state e;
}
  where
    call : (phase : TaskPhase) (child : ℕ) (into : Option ℕ) (state : TaskState) → rested_phase now phase ≡ calling child into state → phase ≡ calling child into state
    call (delayed until other) child into state e = by (nat_eq until now) e
      where
        by : (b : Bool) → (if b then ready other else delayed until other) ≡ calling child into state → delayed until other ≡ calling child into state
        by true f = absurd (cc)
        by false f = f
    call (anchored to edge start other) child into state e = e
    call (ready other) child into state e = e
    call (waiting condition other) child into state e = e
    call (calling own slot other) child into state e = e
    call (over result) child into state e = e

    anchor : (phase : TaskPhase) (to : ℕ) (edge : Edge) (start : ℕ) (state : TaskState) → rested_phase now phase ≡ anchored to edge start state → phase ≡ anchored to edge start state
    anchor (delayed until other) to edge start state e = by (nat_eq until now) e
      where
        by : (b : Bool) → (if b then ready other else delayed until other) ≡ anchored to edge start state → delayed until other ≡ anchored to edge start state
        by true f = absurd (cc)
        by false f = f
    anchor (anchored id at so_long other) to edge start state e = e
    anchor (ready other) to edge start state e = e
    anchor (waiting condition other) to edge start state e = e
    anchor (calling own slot other) to edge start state e = e
    anchor (over result) to edge start state e = e
