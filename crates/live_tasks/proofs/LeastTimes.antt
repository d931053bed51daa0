-- The least of the times of live tasks, by where they are listed.
use Rattle.std.proofs.Common.{◌≡◌, ℕ, suc, ◌≤◌, nat_eq, Bool, true, false, cond, List, [], ◌∷◌, min, Option, Some, None, refl, sym, ap, ◌∙◌, subst, arith, slice_get}
use Rattle.std.proofs.lemmas.Bool.{false≢true}
use Rattle.std.proofs.lemmas.Bool.Decides.{nat_tests}
use Rattle.std.specs.BTreeMap.{is_at}
use Rattle.aerie_base.specs.Paths.{path_cmp}
use Rattle.aerie_base.specs.TimeOrder.{earlier}
use Rattle.effect_cells.specs.declared.effects.CellState.{CellState}
use Rattle.run_data.specs.Tasks.{TaskPhase, Task, Table, task_at}
use Rattle.run_data.specs.laws.EndedTaskLaws.{stands_at}
use Rattle.run_data.specs.laws.NextTimes.{delay_in, least_delay, wake_in, least_wake}
use Rattle.live_tasks.specs.declared.slots.Slot.{Slot}
use Rattle.live_tasks.specs.LeastTimes.{IsUpToTime, least_of, time_of_slot, IsNoneBefore, IsLeastTime}
use Rattle.live_tasks.specs.Listing.{delay_of_slot, DelayEnd, has_delay, ends_at, AreDelays}
use Rattle.live_tasks.specs.Slots.{Slots, slot_at, AreTable}

-- ---- which times these are

pub least_delay_is : (table : Table) → least_delay table ≡ least_of delay_in table
least_delay_is [] = refl
least_delay_is (entry ∷ rest) = ap (earlier (delay_in entry.1.phase)) (least_delay_is rest)

pub least_wake_is : (now horizon : ℕ) (cells : List CellState) (table : Table) → least_wake now horizon cells table ≡ least_of (wake_in now horizon cells) table
least_wake_is now horizon cells [] = refl
least_wake_is now horizon cells (entry ∷ rest) = ap (earlier (wake_in now horizon cells entry.1.phase)) (least_wake_is now horizon cells rest)

-- ---- in a table

-- a time, and one that is not after another
abbrev AtMost : Option ℕ → ℕ → Type 0
AtMost found time = (least : ℕ) × (found ≡ Some least) × (least ≤ time)

first_most : (time : ℕ) (other : Option ℕ) → AtMost (earlier (Some time) other) time
first_most time None = (time, refl, omega arith)
first_most time (Some other) = (min time other, refl, omega arith)

rest_most : (time : Option ℕ) (other : Option ℕ) (bound : ℕ) → AtMost other bound → AtMost (earlier time other) bound
rest_most None other bound most = most
rest_most (Some time) None bound most = absurd (let e : None ≡ Some most.0 = most.1 in cc)
rest_most (Some time) (Some other) bound most =
    let e : Some other ≡ Some most.0 = most.1 in
    let f : other ≡ most.0 = cc in
    let l = most.2 in
    (min time other, refl, omega (arith, f, l))

itself : (n : ℕ) → nat_eq n n ≡ true
itself n = grind (arith, nat_tests)

module _ (time_of : TaskPhase → Option ℕ) where
  least_most : (table : Table) (path : List ℕ) (task : Task) (time : ℕ) → task_at table path ≡ Some task → time_of task.phase ≡ Some time → AtMost (least_of time_of table) time
  least_most [] path task time at e = absurd (cc)
  least_most (entry ∷ rest) path task time at e = by (is_at (path_cmp path) entry.0) at (λ f. least_most rest path task time f e)
    where
      by : (b : Bool) → cond b (Some entry.1) (task_at rest path) ≡ Some task → (task_at rest path ≡ Some task → AtMost (least_of time_of rest) time) → AtMost (least_of time_of (entry ∷ rest)) time
      by true f further =
          let k : entry.1 ≡ task = cc in
          subst (λ d. AtMost (earlier d (least_of time_of rest)) time) (sym (ap (λ (t : Task). time_of t.phase) k ∙ e)) (first_most time (least_of time_of rest))
      by false f further = rest_most (time_of entry.1.phase) (least_of time_of rest) time (further f)

  record IsThere (table : Table) (time : ℕ) : Type 0 where
    place : ℕ
    path : List ℕ
    task : Task
    there : slice_get table place ≡ Some (path, task)
    is : time_of task.phase ≡ Some time

  least_there : (table : Table) (time : ℕ) → least_of time_of table ≡ Some time → IsThere table time
  least_there [] time e = absurd (cc)
  least_there (entry ∷ rest) time e = by (time_of entry.1.phase) (least_of time_of rest) refl refl (λ f. later (least_there rest time f))
    where
      here : time_of entry.1.phase ≡ Some time → IsThere (entry ∷ rest) time
      here f = record { place = 0; path = entry.0; task = entry.1; there = refl; is = f }

      later : IsThere rest time → IsThere (entry ∷ rest) time
      later found = record { place = suc found.place; path = found.path; task = found.task; there = found.there; is = found.is }

      by : (first second : Option ℕ) → time_of entry.1.phase ≡ first → least_of time_of rest ≡ second → (least_of time_of rest ≡ Some time → IsThere (entry ∷ rest) time) → IsThere (entry ∷ rest) time
      by None second f g further = further (sym (ap (λ d. earlier d (least_of time_of rest)) f) ∙ e)
      by (Some first) None f g further = here (f ∙ ((λ i. earlier (sym f i) (sym g i)) ∙ e))
      by (Some first) (Some second) f g further = go (nat_eq first time) refl
        where
          is : Some (min first second) ≡ Some time
          is = (λ i. earlier (sym f i) (sym g i)) ∙ e

          least : min first second ≡ time
          least = let k : Some (min first second) ≡ Some time = is in cc

          go : (b : Bool) → nat_eq first time ≡ b → IsThere (entry ∷ rest) time
          go true h = here (f ∙ ap Some (grind (arith, nat_tests)))
          go false h = further (g ∙ ap Some (let l = least in grind (arith, nat_tests)))

  -- ---- of the live tasks

  module _ (slots : Slots) (table : Table) (listed : ℕ → ℕ → Bool) (are : AreTable slots table)
      (exact : (time number : ℕ) → listed time number ≡ ends_at time (time_of_slot time_of (slot_at slots number))) where
    -- the slot of a listed time
    record TimedSlot (time number : ℕ) : Type 0 where
      slot : Slot
      there : slot_at slots number ≡ Some slot
      is : time_of slot.task.phase ≡ Some time

    slot_is : (time number : ℕ) → listed time number ≡ true → TimedSlot time number
    slot_is time number has = by (slot_at slots number) refl (sym (exact time number) ∙ has)
      where
        by : (found : Option Slot) → slot_at slots number ≡ found → ends_at time (time_of_slot time_of (slot_at slots number)) ≡ true → TimedSlot time number
        by None e f = absurd (false≢true (ap (λ o. ends_at time (time_of_slot time_of o)) (sym e) ∙ f))
        by (Some slot) e f = go (time_of slot.task.phase) refl (ap (λ o. ends_at time (time_of_slot time_of o)) (sym e) ∙ f)
          where
            go : (d : Option ℕ) → time_of slot.task.phase ≡ d → ends_at time (time_of slot.task.phase) ≡ true → TimedSlot time number
            go None g h = absurd (false≢true (ap (ends_at time) (sym g) ∙ h))
            go (Some until) g h =
                let k : nat_eq until time ≡ true = ap (ends_at time) (sym g) ∙ h in
                record { slot = slot; there = e; is = g ∙ ap Some (grind (arith, nat_tests)) }

    most : (time number : ℕ) → listed time number ≡ true → AtMost (least_of time_of table) time
    most time number has = let one = slot_is time number has in least_most table one.slot.path one.slot.task time (are.tasks number one.slot one.there) one.is

    least_listed : (time : ℕ) → least_of time_of table ≡ Some time → (number : ℕ) × (listed time number ≡ true)
    least_listed time e =
        let one = least_there table time e in
        let at = stands_at table one.place one.path one.task are.order one.there in
        let has = are.each one.path one.task at in
        let f : Some has.slot.task ≡ Some one.task = sym (are.tasks has.number has.slot has.there) ∙ ap (task_at table) has.is ∙ at in
        let g : has.slot.task ≡ one.task = cc in (
          has.number,
          exact time has.number ∙ ap (λ o. ends_at time (time_of_slot time_of o)) has.there ∙ ap (λ (t : Task). ends_at time (time_of t.phase)) g ∙ ap (ends_at time) one.is ∙ itself time,
        )

    -- the least that is listed is the least of the table
    pub least_is : (found : Option ℕ) → IsLeastTime listed found → found ≡ least_of time_of table
    least_is None none = by (least_of time_of table) refl
      where
        by : (least : Option ℕ) → least_of time_of table ≡ least → None ≡ least_of time_of table
        by None e = sym e
        by (Some time) e = let one = least_listed time e in absurd (false≢true (sym (none time one.0) ∙ one.1))
    least_is (Some time) is =
        let one = most time is.0.0 is.0.1 in
        let two = least_listed one.0 one.1 in
        let a = is.1 one.0 two.0 two.1 in
        let b = one.2 in
        sym (one.1 ∙ ap Some (omega (arith, a, b)))

    -- none is listed before a time that is not after the least of the table
    pub none_before : (now : ℕ) → IsUpToTime now (least_of time_of table) → IsNoneBefore now listed
    none_before now up time number has =
        let one = most time number has in
        let a : now ≤ one.0 = subst (IsUpToTime now) one.1 up in
        let b = one.2 in
        omega (arith, a, b)

    -- and the time of each task is not before it
    pub up_to_each : (now : ℕ) → IsUpToTime now (least_of time_of table) → (number : ℕ) → IsUpToTime now (time_of_slot time_of (slot_at slots number))
    up_to_each now up number = by (time_of_slot time_of (slot_at slots number)) refl
      where
        by : (found : Option ℕ) → time_of_slot time_of (slot_at slots number) ≡ found → IsUpToTime now found
        by None e = tt
        by (Some time) e = none_before now up time number (exact time number ∙ ap (ends_at time) e ∙ itself time)

-- ---- the ends of delays

delay_of_slot_is : (found : Option Slot) → delay_of_slot found ≡ time_of_slot delay_in found
delay_of_slot_is None = refl
delay_of_slot_is (Some slot) = refl

module _ (slots : Slots) (table : Table) (delays : List DelayEnd) (are : AreTable slots table) (listed : AreDelays slots delays) where
  delay_exact : (time number : ℕ) → has_delay delays time number ≡ ends_at time (time_of_slot delay_in (slot_at slots number))
  delay_exact time number = listed.exact time number ∙ ap (ends_at time) (delay_of_slot_is (slot_at slots number))

  pub least_end_is : (found : Option ℕ) → IsLeastTime (has_delay delays) found → found ≡ least_delay table
  least_end_is found least = least_is delay_in slots table (has_delay delays) are delay_exact found least ∙ sym (least_delay_is table)

  pub none_ends_before : (now : ℕ) → IsUpToTime now (least_delay table) → IsNoneBefore now (has_delay delays)
  none_ends_before now up = none_before delay_in slots table (has_delay delays) are delay_exact now (subst (IsUpToTime now) (least_delay_is table) up)
