-- What stays of the tasks where the directives that differ, none of which has begun, are left out.
use Rattle.std.proofs.Common.{◌≡◌, ℕ, ◌+◌, ◌≤◌, Bool, true, false, not, List, [], ◌∷◌, length, Option, Some, None, refl, sym, ap, ◌∙◌, subst, arith}
use Rattle.std.proofs.lemmas.Bool.{false≢true}
use Rattle.aerie_base.specs.Paths.{root, child_path}
use Rattle.aerie_base.specs.declared.plans.Anchor.{Anchor}
use Rattle.run_data.specs.declared.tasks.TaskState.{TaskState}
use Rattle.run_data.specs.Tasks.{TaskPhase, calling, Task, Table, task_at}
use Rattle.run_data.specs.laws.LateDifferences.{is_of_differing, is_common, common_tasks}
use Rattle.run_data.specs.laws.ReadyTasks.{is_ready_phase}
use Rattle.run_data.specs.laws.TableParts.{order_part, part_at, part_none}
use Rattle.live_tasks.specs.declared.slots.Slot.{Slot}
use Rattle.live_tasks.specs.declared.tasks.LiveTasks.{LiveTasks}
use Rattle.live_tasks.specs.Conditions.{condition_of_slot}
use Rattle.live_tasks.specs.Endings.{AreLive, HasCalledChild}
use Rattle.live_tasks.specs.Exchanging.{IsYetToBegin, HaveNotBegun}
use Rattle.live_tasks.specs.Followers.{AreFollowers}
use Rattle.live_tasks.specs.Joining.{AreUnderWay}
use Rattle.live_tasks.specs.LeftOut.{is_slot_of, AreCommon, AreIdle}
use Rattle.live_tasks.specs.ListedSlots.{ListsAll}
use Rattle.live_tasks.specs.Listing.{is_ready_slot}
use Rattle.live_tasks.specs.Phases.{condition_of_wait}
use Rattle.live_tasks.specs.PlannedTasks.{IsPlannedBy, HasNoTask}
use Rattle.live_tasks.specs.Slots.{Slots, slot_at, under, child_in, StandsUnder, IsForest, HasSlot, AreTable}
use Rattle.live_tasks.proofs.Counts.{same_count}
use Rattle.live_tasks.proofs.Forests.{below_length, long_path}
use Rattle.live_tasks.proofs.LeftOut.{kept, gone}

longer_of : (differs : ℕ → Bool) (path : List ℕ) (number : ℕ) → 2 ≤ length path → is_of_differing differs (child_path path number) ≡ is_of_differing differs path
longer_of differs [] number long = absurd (omega arith)
longer_of differs (kind ∷ []) number long = absurd (omega arith)
longer_of differs (kind ∷ id ∷ children) number long = refl

-- ---- a directive that has not begun

planned_idle : (anchor : Option Anchor) (phase : TaskPhase) → IsPlannedBy anchor phase → (is_ready_phase phase ≡ false) × (condition_of_wait phase ≡ None)
planned_idle None phase its = (ap is_ready_phase its.2, ap condition_of_wait its.2)
planned_idle (Some anchor) phase its = (ap is_ready_phase its.2, ap condition_of_wait its.2)

module _ (differs : ℕ → Bool) (table : Table) (old : Slots) (live_ : AreLive table old) (unbegun : HaveNotBegun differs table) where
  yet : (n : ℕ) (s : Slot) → slot_at old n ≡ Some s → is_of_differing differs s.path ≡ true → IsYetToBegin s.path s.task
  yet n s at e = unbegun s.path s.task e (live_.are.tasks n s at)

  pub left_idle : AreIdle differs old
  left_idle n e = by (slot_at old n) refl e
    where
      by : (found : Option Slot) → slot_at old n ≡ found → is_slot_of differs found ≡ true → (is_ready_slot (slot_at old n) ≡ false) × (condition_of_slot (slot_at old n) ≡ None)
      by None at f = absurd (false≢true f)
      by (Some s) at f =
          let its = yet n s at f in
          let both = planned_idle its.anchor s.task.phase its.phase in
          (ap is_ready_slot at ∙ both.0, ap condition_of_slot at ∙ both.1)

  orphan_by : (s : Slot) → IsYetToBegin s.path s.task → (parent : Option ℕ) → StandsUnder old s.path s.own parent → parent ≡ None
  orphan_by s its None stands = refl
  orphan_by s its (Some parent) below =
      let a : length s.path ≡ length below.above.path + 1 = below_length s.path below.above.path s.own below.is in
      let b : 2 ≤ length below.above.path = long_path old live_.forest parent below.above below.there in
      let c : length s.path ≡ 2 = ap length its.path_is in
      absurd (omega (arith, a, b, c))

  orphan : (n : ℕ) (s : Slot) → slot_at old n ≡ Some s → is_of_differing differs s.path ≡ true → s.parent ≡ None
  orphan n s at e = orphan_by s (yet n s at e) s.parent (live_.forest.stands n s at)

  module _ (new : Slots) (are : AreCommon differs old new) where
    record Stays (n : ℕ) (s : Slot) : Type 0 where
      there : slot_at old n ≡ Some s
      common : is_of_differing differs s.path ≡ false

    stays : (n : ℕ) (s : Slot) → slot_at new n ≡ Some s → Stays n s
    stays n s at = by (is_slot_of differs (slot_at old n)) refl
      where
        by : (b : Bool) → is_slot_of differs (slot_at old n) ≡ b → Stays n s
        by true e = let f : Some s ≡ None = sym at ∙ gone differs old new are n e in absurd (cc)
        by false e =
            let there : slot_at old n ≡ Some s = sym (kept differs old new are n e) ∙ at in
            record { there = there; common = ap (is_slot_of differs) (sym there) ∙ e }

    still : (n : ℕ) (s : Slot) → slot_at old n ≡ Some s → is_of_differing differs s.path ≡ false → slot_at new n ≡ Some s
    still n s at e = kept differs old new are n (ap (is_slot_of differs) at ∙ e) ∙ at

    stands_by : (s : Slot) → is_of_differing differs s.path ≡ false → (parent : Option ℕ) → StandsUnder old s.path s.own parent → StandsUnder new s.path s.own parent
    stands_by s e None stands = stands
    stands_by s e (Some parent) below =
        let same : is_of_differing differs (child_path below.above.path s.own) ≡ is_of_differing differs below.above.path =
        longer_of differs below.above.path s.own (long_path old live_.forest parent below.above below.there) in
        record { above = below.above; there = still parent below.above below.there (sym same ∙ ap (is_of_differing differs) (sym below.is) ∙ e); is = below.is }

    no_less : (parent n : ℕ) → child_in parent (slot_at new n) ≡ child_in parent (slot_at old n)
    no_less parent n = by (slot_at old n) refl
      where
        by : (found : Option Slot) → slot_at old n ≡ found → child_in parent (slot_at new n) ≡ child_in parent (slot_at old n)
        by None e = ap (child_in parent) (kept differs old new are n (ap (is_slot_of differs) e))
        by (Some s) e = go (is_of_differing differs s.path) refl
          where
            go : (b : Bool) → is_of_differing differs s.path ≡ b → child_in parent (slot_at new n) ≡ child_in parent (slot_at old n)
            go true f =
                ap (child_in parent) (gone differs old new are n (ap (is_slot_of differs) e ∙ f)) ∙ sym (ap (child_in parent) e ∙ ap (under parent) (orphan n s e f))
            go false f = ap (child_in parent) (kept differs old new are n (ap (is_slot_of differs) e ∙ f))

    forest : IsForest new
    forest = record {
      distinct = λ n m s t at again same. live_.forest.distinct n m s t (stays n s at).there (stays m t again).there same;
      stands = λ n s at. let st = stays n s at in stands_by s st.common s.parent (live_.forest.stands n s st.there);
      counts = λ n s at. live_.forest.counts n s (stays n s at).there ∙ sym (same_count n new old (no_less n));
    }

    tabled : AreTable new (common_tasks differs table)
    tabled = record {
      order = order_part (is_common differs) table live_.are.order;
      tasks = λ n s at. let st = stays n s at in part_at (is_common differs) table s.path (ap not st.common) ∙ live_.are.tasks n s st.there;
      each = λ path task at. each path task at (is_of_differing differs path) refl;
    }
      where
        each : (path : List ℕ) (task : Task) → task_at (common_tasks differs table) path ≡ Some task → (b : Bool) → is_of_differing differs path ≡ b → HasSlot new path
        each path task at true e = let f : Some task ≡ None = sym at ∙ part_none (is_common differs) table path (ap not e) in absurd (cc)
        each path task at false e =
            let has = live_.are.each path task (sym (part_at (is_common differs) table path (ap not e)) ∙ at) in
            record { number = has.number; slot = has.slot; there = still has.number has.slot has.there (ap (is_of_differing differs) has.is ∙ e); is = has.is }

    calls : (n : ℕ) (s : Slot) → slot_at new n ≡ Some s → (child : ℕ) (into : Option ℕ) (state : TaskState) → s.task.phase ≡ calling child into state → HasCalledChild new n child
    calls n s at child into state e =
        let callee = live_.calls n s (stays n s at).there child into state e in
        record {
          number = callee.number;
          slot = callee.slot;
          there = still callee.number callee.slot callee.there (by callee.number callee.slot callee.there callee.parent_is (is_of_differing differs callee.slot.path) refl);
          parent_is = callee.parent_is;
          own_is = callee.own_is;
        }
      where
        by : (m : ℕ) (t : Slot) → slot_at old m ≡ Some t → t.parent ≡ Some n → (b : Bool) → is_of_differing differs t.path ≡ b → is_of_differing differs t.path ≡ false
        by m t there parent true f = let g : Some n ≡ None = sym parent ∙ orphan m t there f in absurd (cc)
        by m t there parent false f = f

    pub left_under_way : (tasks : LiveTasks) → tasks.tables.slots.slots ≡ new → AreFollowers old tasks.followers.items → ListsAll tasks.tables → AreUnderWay (common_tasks differs table) tasks
    left_under_way tasks same followers listed = record {
      forest = subst IsForest (sym same) forest;
      are = subst (λ (s : Slots). AreTable s (common_tasks differs table)) (sym same) tabled;
      calls = subst Calls (sym same) calls;
      settled = λ n s at. live_.settled n s (stays n s (back n s at)).there;
      followers_ = record { by_id = followers.by_id; all = λ n s at to edge start state e. followers.all n s (stays n s (back n s at)).there to edge start state e };
      listed = listed;
    }
      where
        back : (n : ℕ) (s : Slot) → slot_at tasks.tables.slots.slots n ≡ Some s → slot_at new n ≡ Some s
        back n s at = sym (ap (λ (x : Slots). slot_at x n) same) ∙ at

        Calls : Slots → Type 0
        Calls slots = (n : ℕ) (s : Slot) → slot_at slots n ≡ Some s → (child : ℕ) (into : Option ℕ) (state : TaskState) → s.task.phase ≡ calling child into state → HasCalledChild slots n child

-- none of the directives that differ is there
pub none_left : (differs : ℕ → Bool) (table : Table) (tasks : LiveTasks) → AreUnderWay (common_tasks differs table) tasks → (id : ℕ) → differs id ≡ true → HasNoTask tasks (root id)
none_left differs table tasks way id e has =
    let f : Some has.slot.task ≡ None =
    sym (way.are.tasks has.number has.slot has.there) ∙ ap (task_at (common_tasks differs table)) has.is ∙ part_none (is_common differs) table (root id) (ap not e) in cc
