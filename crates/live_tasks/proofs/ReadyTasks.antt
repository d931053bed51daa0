-- Ready tasks by number in order of path are those of the table.
use Rattle.std.proofs.Common.{◌≡◌, inl, inr, ℕ, suc, Bool, true, false, cond, List, [], ◌∷◌, Option, Some, None, refl, sym, ap, ◌∙◌, slice_get}
use Rattle.std.proofs.lemmas.Bool.{false≢true}
use Rattle.std.specs.BTreeMap.{is_at}
use Rattle.aerie_base.specs.Paths.{path_cmp}
use Rattle.run_data.specs.Tasks.{Task, Table, task_at, ready_jobs}
use Rattle.run_data.specs.laws.ReadyTasks.{is_ready_phase, is_ready}
use Rattle.run_data.specs.laws.EndedTaskLaws.{stands_at}
use Rattle.run_data.specs.TableLaws.{is_same}
use Rattle.run_data.specs.laws.LiveParts.{part}
use Rattle.run_data.specs.laws.TableParts.{order_part, part_at, part_none, ready_part, same_tables}
use Rattle.live_tasks.specs.declared.slots.Slot.{Slot}
use Rattle.live_tasks.specs.Slots.{Slots, slot_at}
use Rattle.live_tasks.specs.Endings.{IsNumberAmong}
use Rattle.live_tasks.specs.Readies.{slot_entry, entries_at, ReadyInOrder}

module _ (slots : Slots) where
  -- where a number is among some, its task is among theirs
  pub in_at : (numbers : List ℕ) (number : ℕ) (slot : Slot) → IsNumberAmong number numbers → slot_at slots number ≡ Some slot → (place : ℕ) × (slice_get (entries_at slots numbers) place ≡ Some (slot.path, slot.task))
  in_at [] number slot never at = absurd never
  in_at (first ∷ rest) number slot (inl e) at =
      (0, ap (λ o. slice_get (slot_entry o (entries_at slots rest)) 0) (ap (slot_at slots) (sym e) ∙ at))
  in_at (first ∷ rest) number slot (inr among) at = by (slot_at slots first) refl (in_at rest number slot among at)
    where
      by : (o : Option Slot) → slot_at slots first ≡ o → (place : ℕ) × (slice_get (entries_at slots rest) place ≡ Some (slot.path, slot.task)) →
          (place : ℕ) × (slice_get (slot_entry (slot_at slots first) (entries_at slots rest)) place ≡ Some (slot.path, slot.task))
      by None e found = (found.0, ap (λ o. slice_get (slot_entry o (entries_at slots rest)) found.0) e ∙ found.1)
      by (Some one) e found = (suc found.0, ap (λ o. slice_get (slot_entry o (entries_at slots rest)) (suc found.0)) e ∙ found.1)

  pub record OfNumber (numbers : List ℕ) (path : List ℕ) (task : Task) : Type 0 where
    pub number : ℕ
    pub slot : Slot
    pub among : IsNumberAmong number numbers
    pub there : slot_at slots number ≡ Some slot
    pub path_is : slot.path ≡ path
    pub task_is : slot.task ≡ task

  at_in : (numbers : List ℕ) (path : List ℕ) (task : Task) → task_at (entries_at slots numbers) path ≡ Some task → OfNumber numbers path task
  at_in [] path task at = absurd (cc)
  at_in (first ∷ rest) path task at = by (slot_at slots first) refl (λ e. at_in rest path task e)
    where
      later : OfNumber rest path task → OfNumber (first ∷ rest) path task
      later found = record { number = found.number; slot = found.slot; among = inr found.among; there = found.there; path_is = found.path_is; task_is = found.task_is }

      by : (o : Option Slot) → slot_at slots first ≡ o → (task_at (entries_at slots rest) path ≡ Some task → OfNumber rest path task) → OfNumber (first ∷ rest) path task
      by None e further = later (further (ap (λ o. task_at (slot_entry o (entries_at slots rest)) path) (sym e) ∙ at))
      by (Some one) e further = go (is_at (path_cmp path) one.path) refl (ap (λ o. task_at (slot_entry o (entries_at slots rest)) path) (sym e) ∙ at)
        where
          go : (b : Bool) → is_at (path_cmp path) one.path ≡ b → cond (is_at (path_cmp path) one.path) (Some one.task) (task_at (entries_at slots rest) path) ≡ Some task → OfNumber (first ∷ rest) path task
          go true f g =
              let h : Some one.task ≡ Some task = ap (λ b. cond b (Some one.task) (task_at (entries_at slots rest) path)) (sym f) ∙ g in
              record { number = first; slot = one; among = inl refl; there = e; path_is = sym (is_same path one.path f); task_is = (let k : one.task ≡ task = cc in k) }
          go false f g = later (further (ap (λ b. cond b (Some one.task) (task_at (entries_at slots rest) path)) (sym f) ∙ g))

abbrev stays_in : Table → List ℕ → Bool
stays_in table path = is_ready (task_at table path)

pub ready_in_order : ReadyInOrder
ready_in_order cells table slots numbers are ready = sym (ready_part (stays_in table) cells table out) ∙ ap (ready_jobs cells) same
  where
    out : (place : ℕ) (path : List ℕ) (task : Task) → slice_get table place ≡ Some (path, task) → stays_in table path ≡ false → is_ready_phase task.phase ≡ false
    out place path task at none = ap is_ready (sym (stands_at table place path task are.order at)) ∙ none

    there : (path : List ℕ) (found : Option Task) → task_at table path ≡ found → is_ready found ≡ true → task_at table path ≡ task_at (entries_at slots numbers) path
    there path None e f = absurd (cc)
    there path (Some task) e f =
        let has = are.each path task e in
        let g : Some has.slot.task ≡ Some task = sym (are.tasks has.number has.slot has.there) ∙ ap (task_at table) has.is ∙ e in
        let h : has.slot.task ≡ task = cc in
        let among = ready.all has.number has.slot has.there (ap (λ (t : Task). is_ready_phase t.phase) h ∙ f) in
        let found = in_at slots numbers has.number has.slot among has.there in
        let k = stands_at (entries_at slots numbers) found.0 has.slot.path has.slot.task ready.sorted found.1 in
        e ∙ sym (ap (task_at (entries_at slots numbers)) (sym has.is) ∙ k ∙ g)

    not_there : (path : List ℕ) → is_ready (task_at table path) ≡ false → (found : Option Task) → task_at (entries_at slots numbers) path ≡ found → found ≡ None
    not_there path e None f = refl
    not_there path e (Some task) f =
        let of = at_in slots numbers path task f in
        let is = ready.each of.number of.among in
        let g : Some is.0 ≡ Some of.slot = sym is.1 ∙ of.there in
        let h : is.0 ≡ of.slot = cc in
        let k : is_ready (task_at table path) ≡ true = ap is_ready (ap (task_at table) (sym of.path_is) ∙ are.tasks of.number of.slot of.there) ∙ ap (λ (s : Slot). is_ready_phase s.task.phase) (sym h) ∙ is.2 in
        absurd (false≢true (sym e ∙ k))

    at : (path : List ℕ) → task_at (part (stays_in table) table) path ≡ task_at (entries_at slots numbers) path
    at path = by (is_ready (task_at table path)) refl
      where
        by : (b : Bool) → is_ready (task_at table path) ≡ b → task_at (part (stays_in table) table) path ≡ task_at (entries_at slots numbers) path
        by true e =
            part_at (stays_in table) table path e ∙ there path (task_at table path) refl e
        by false e =
            part_none (stays_in table) table path e ∙ sym (not_there path e (task_at (entries_at slots numbers) path) refl)

    same : part (stays_in table) table ≡ entries_at slots numbers
    same = same_tables (part (stays_in table) table) (entries_at slots numbers) (order_part (stays_in table) table are.order) ready.sorted at
