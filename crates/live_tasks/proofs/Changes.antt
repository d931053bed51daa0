-- Live tasks stay live where each is changed mildly.
use Rattle.std.proofs.Common.{◌≡◌, ℕ, not, ◌&&◌, nat_eq, List, Option, Some, None, option_map, refl, sym, ap, ◌∙◌, subst}
use Rattle.aerie_base.specs.declared.plans.Edge.TheVariants.{Start, End}
use Rattle.aerie_base.specs.Paths.{root}
use Rattle.run_data.specs.Tasks.{Task, Table, task_at, on_each}
use Rattle.run_data.specs.TableLaws.{order_each}
use Rattle.run_data.specs.laws.QuietTasks.{begun_each}
use Rattle.run_data.specs.laws.TableParts.{each_at, changed_at}
use Rattle.live_tasks.specs.declared.slots.Slot.{Slot}
use Rattle.live_tasks.specs.Slots.{Slots, slot_at, StandsUnder, child_in, HasSlot}
use Rattle.live_tasks.specs.Endings.{slot_has_ended, AreLive, StaysThere}
use Rattle.live_tasks.specs.Changes.{slot_changed, KeepsKinds, ChangesKeepLive}
use Rattle.live_tasks.proofs.Counts.{same_count}
use Rattle.live_tasks.proofs.Taking.{has_through, stands_through}

module _ (change : List ℕ → Task → Task) (table : Table) (old new : Slots) (mild : KeepsKinds change) (live : AreLive table old)
    (is : (number : ℕ) → slot_at new number ≡ option_map (slot_changed change) (slot_at old number)) where
  forward : (n : ℕ) (s : Slot) → slot_at old n ≡ Some s → StaysThere new n s
  forward n s at = record { next = slot_changed change s; there = is n ∙ ap (option_map (slot_changed change)) at; path = refl; own = refl; parent = refl }

  backward : (n : ℕ) (s : Slot) → slot_at new n ≡ Some s → (b : Slot) × (slot_at old n ≡ Some b) × (s ≡ slot_changed change b)
  backward n s at = by (slot_at old n) refl
    where
      by : (o : Option Slot) → slot_at old n ≡ o → (b : Slot) × (slot_at old n ≡ Some b) × (s ≡ slot_changed change b)
      by None e = let f : Some s ≡ None = sym at ∙ is n ∙ ap (option_map (slot_changed change)) e in absurd (cc)
      by (Some b) e =
          let f : Some s ≡ Some (slot_changed change b) = sym at ∙ is n ∙ ap (option_map (slot_changed change)) e in
          (b, e, (let g : s ≡ slot_changed change b = cc in g))

  child_same : (parent n : ℕ) → child_in parent (slot_at new n) ≡ child_in parent (slot_at old n)
  child_same parent n = ap (child_in parent) (is n) ∙ by (slot_at old n)
    where
      by : (o : Option Slot) → child_in parent (option_map (slot_changed change) o) ≡ child_in parent o
      by None = refl
      by (Some s) = refl

  each : (path : List ℕ) (task : Task) → task_at (on_each change table) path ≡ Some task → HasSlot new path
  each path task at = by (task_at table path) refl (sym (each_at change table path) ∙ at)
    where
      by : (o : Option Task) → task_at table path ≡ o → changed_at change path (task_at table path) ≡ Some task → HasSlot new path
      by None e f = let g : None ≡ Some task = ap (changed_at change path) (sym e) ∙ f in absurd (cc)
      by (Some before) e f = has_through old new path (live.are.each path before e) forward

  pub mild_keeps : AreLive (on_each change table) new
  mild_keeps = record {
    forest = record {
      distinct = λ n m s t at again same.
          let a = backward n s at in
          let b = backward m t again in
          live.forest.distinct n m a.0 b.0 a.1 b.1 (ap (λ (s : Slot). s.path) (sym a.2) ∙ same ∙ ap (λ (s : Slot). s.path) b.2);
      stands = λ n s at.
          let a = backward n s at in
          subst (λ (s : Slot). StandsUnder new s.path s.own s.parent) (sym a.2) (stands_through old new a.0.path a.0.own a.0.parent forward (live.forest.stands n a.0 a.1));
      counts = λ n s at.
          let a = backward n s at in
          ap (λ (s : Slot). s.live_below) a.2 ∙ live.forest.counts n a.0 a.1 ∙ sym (same_count n new old (child_same n));
    };
    are = record {
      order = order_each change table live.are.order;
      tasks = λ n s at.
          let a = backward n s at in
          subst (λ (s : Slot). task_at (on_each change table) s.path ≡ Some s.task) (sym a.2)
          (each_at change table a.0.path ∙ ap (changed_at change a.0.path) (live.are.tasks n a.0 a.1));
      each = each;
    };
    calls = λ n s at child into state e.
        let a = backward n s at in
        let callee = live.calls n a.0 a.1 child into state (mild.call a.0.path a.0.task child into state (ap (λ (s : Slot). s.task.phase) (sym a.2) ∙ e)) in
        let f = forward callee.number callee.slot callee.there in
        record { number = callee.number; slot = f.next; there = f.there; parent_is = f.parent ∙ callee.parent_is; own_is = f.own ∙ callee.own_is };
    follows = λ n s at to start state e.
        let a = backward n s at in
        has_through old new (root to) (live.follows n a.0 a.1 to start state (mild.anchor a.0.path a.0.task to End start state (ap (λ (s : Slot). s.task.phase) (sym a.2) ∙ e))) forward;
    starts = λ n s at to start state e.
        let a = backward n s at in
        begun_each change mild.open_ mild.begun_ table (root to)
        ∙ live.starts n a.0 a.1 to start state (mild.anchor a.0.path a.0.task to Start start state (ap (λ (s : Slot). s.task.phase) (sym a.2) ∙ e));
    settled = λ n s at.
        let a = backward n s at in
        ap (λ (s : Slot). slot_has_ended (Some s)) a.2 ∙ ap (λ b. not b && nat_eq a.0.live_below 0) (mild.open_ a.0.path a.0.task) ∙ live.settled n a.0 a.1;
  }

pub mild_keeps_live : ChangesKeepLive
mild_keeps_live change table old new mild live is = mild_keeps change table old new mild live is
