-- The next time splits into delays and waits, and is the same by number.
use Rattle.std.proofs.Common.{◌≡◌, ℕ, zero, suc, ◌≤◌, min, cond, List, [], ◌∷◌, Option, Some, None, slice_get, refl, sym, ap, ◌∙◌, arith}
use Rattle.std.specs.declared.cmp.Ordering.{Ordering}
use Rattle.std.specs.declared.cmp.Ordering.TheVariants.{Less, Equal, Greater}
use Rattle.std.specs.Ordering.{is_eq}
use Rattle.aerie_base.specs.Paths.{path_cmp}
use Rattle.aerie_base.specs.TimeOrder.{earlier}
use Rattle.effect_cells.specs.declared.effects.CellState.{CellState}
use Rattle.run_data.specs.Fresh.{due_time, least_due}
use Rattle.run_data.specs.Tasks.{TaskPhase, anchored, ready, delayed, waiting, calling, over, Task, Table, task_at, with_task}
use Rattle.run_data.specs.laws.NextTimes.{delay_in, least_delay, wake_in, least_wake, DueSplits, LeastDelayByNumber, LeastWakeByNumber, NoneDueBefore, LeastDueIs, NoneIsDue}
use Rattle.run_data.specs.laws.NumberedTasks.{sorted_tasks, Distinct}
use Rattle.run_data.specs.NumberLaws.{none_at, first_apart, distinct_rest}

-- ---- the least time of tasks, by number and in order

earlier_swap : (a b c : Option ℕ) → earlier a (earlier b c) ≡ earlier b (earlier a c)
earlier_swap None b c = refl
earlier_swap (Some a) None c = refl
earlier_swap (Some a) (Some b) None = let k : min a b ≡ min b a = omega arith in ap Some k
earlier_swap (Some a) (Some b) (Some c) = let k : min a (min b c) ≡ min b (min a c) = omega arith in ap Some k

module _ (time_of : TaskPhase → Option ℕ) where
  abbrev least : Table → Option ℕ
  least [] = None
  least (entry ∷ rest) = earlier (time_of entry.1.phase) (least rest)

  least_with : (table : Table) (p : List ℕ) (a : Task) → task_at table p ≡ None → least (with_task table p a) ≡ earlier (time_of a.phase) (least table)
  least_with [] p a none = refl
  least_with (entry ∷ rest) p a none = by (path_cmp p entry.0) refl none (least_with rest p a)
    where
      by : (order : Ordering) → path_cmp p entry.0 ≡ order → cond (is_eq order) (Some entry.1) (task_at rest p) ≡ None →
          (task_at rest p ≡ None → least (with_task rest p a) ≡ earlier (time_of a.phase) (least rest)) →
          least (with_task (entry ∷ rest) p a) ≡ earlier (time_of a.phase) (least (entry ∷ rest))
      by Less e n further = rw e refl
      by Equal e n further = absurd (cc)
      by Greater e n further = rw (e, further n) (earlier_swap (time_of entry.1.phase) (time_of a.phase) (least rest))

  least_in_order : (tasks : Table) → Distinct tasks → least (sorted_tasks tasks) ≡ least tasks
  least_in_order [] distinct = refl
  least_in_order (entry ∷ rest) distinct =
      least_with (sorted_tasks rest) entry.0 entry.1 (none_at rest entry.0 (first_apart entry rest distinct))
      ∙ ap (earlier (time_of entry.1.phase)) (least_in_order rest (distinct_rest entry rest distinct))

delay_is : (tasks : Table) → least delay_in tasks ≡ least_delay tasks
delay_is [] = refl
delay_is (entry ∷ rest) = ap (earlier (delay_in entry.1.phase)) (delay_is rest)

wake_is : (now horizon : ℕ) (cells : List CellState) (tasks : Table) → least (wake_in now horizon cells) tasks ≡ least_wake now horizon cells tasks
wake_is now horizon cells [] = refl
wake_is now horizon cells (entry ∷ rest) = ap (earlier (wake_in now horizon cells entry.1.phase)) (wake_is now horizon cells rest)

pub least_delay_by_number : LeastDelayByNumber
least_delay_by_number tasks distinct = sym (delay_is (sorted_tasks tasks)) ∙ least_in_order delay_in tasks distinct ∙ delay_is tasks

pub least_wake_by_number : LeastWakeByNumber
least_wake_by_number now horizon cells tasks distinct =
    sym (wake_is now horizon cells (sorted_tasks tasks)) ∙ least_in_order (wake_in now horizon cells) tasks distinct ∙ wake_is now horizon cells tasks

-- ---- delays and waits

earlier_mixed : (a b c d : Option ℕ) → earlier (earlier a b) (earlier c d) ≡ earlier (earlier a c) (earlier b d)
earlier_mixed None None c d = refl
earlier_mixed None (Some b) None None = refl
earlier_mixed None (Some b) None (Some d) = refl
earlier_mixed None (Some b) (Some c) None = let k : min b c ≡ min c b = omega arith in ap Some k
earlier_mixed None (Some b) (Some c) (Some d) = let k : min b (min c d) ≡ min c (min b d) = omega arith in ap Some k
earlier_mixed (Some a) None None None = refl
earlier_mixed (Some a) None None (Some d) = refl
earlier_mixed (Some a) None (Some c) None = refl
earlier_mixed (Some a) None (Some c) (Some d) = let k : min a (min c d) ≡ min (min a c) d = omega arith in ap Some k
earlier_mixed (Some a) (Some b) None None = refl
earlier_mixed (Some a) (Some b) None (Some d) = let k : min (min a b) d ≡ min a (min b d) = omega arith in ap Some k
earlier_mixed (Some a) (Some b) (Some c) None = let k : min (min a b) c ≡ min (min a c) b = omega arith in ap Some k
earlier_mixed (Some a) (Some b) (Some c) (Some d) = let k : min (min a b) (min c d) ≡ min (min a c) (min b d) = omega arith in ap Some k

due_is : (now horizon : ℕ) (cells : List CellState) (phase : TaskPhase) → due_time now horizon cells phase ≡ earlier (delay_in phase) (wake_in now horizon cells phase)
due_is now horizon cells (delayed until state) = refl
due_is now horizon cells (waiting condition state) = refl
due_is now horizon cells (anchored to edge start state) = refl
due_is now horizon cells (ready state) = refl
due_is now horizon cells (calling child into state) = refl
due_is now horizon cells (over result) = refl

pub due_splits : DueSplits
due_splits now horizon cells [] = refl
due_splits now horizon cells (entry ∷ rest) =
    rw (due_is now horizon cells entry.1.phase, due_splits now horizon cells rest)
    (earlier_mixed (delay_in entry.1.phase) (wake_in now horizon cells entry.1.phase) (least_delay rest) (least_wake now horizon cells rest))

-- ---- the least of all times

least_upto : (now horizon : ℕ) (cells : List CellState) (table : Table) (time number : ℕ) (entry : List ℕ × Task) → slice_get table number ≡ Some entry → due_time now horizon cells entry.1.phase ≡ Some time → (m : ℕ) × ((least_due now horizon cells table ≡ Some m) × (m ≤ time))
least_upto now horizon cells [] time number entry at is = absurd (cc)
least_upto now horizon cells (first ∷ rest) time zero entry at is =
    let same : first ≡ entry = cc in
    let here : due_time now horizon cells first.1.phase ≡ Some time = ap (λ (e : List ℕ × Task). due_time now horizon cells e.1.phase) same ∙ is in
    rw here (join (least_due now horizon cells rest))
  where
    join : (o : Option ℕ) → (m : ℕ) × ((earlier (Some time) o ≡ Some m) × (m ≤ time))
    join None = (time, (refl, omega arith))
    join (Some b) = (min time b, (refl, omega arith))
least_upto now horizon cells (first ∷ rest) time (suc n) entry at is =
    let found = least_upto now horizon cells rest time n entry at is in
    rw found.1.0 (join (due_time now horizon cells first.1.phase) found.0 found.1.1)
  where
    join : (o : Option ℕ) (m : ℕ) → m ≤ time → (k : ℕ) × ((earlier o (Some m) ≡ Some k) × (k ≤ time))
    join None m l = (m, (refl, l))
    join (Some a) m l = (min a m, (refl, omega (arith, l)))

least_from : (now horizon : ℕ) (cells : List CellState) (table : Table) (time m : ℕ) → NoneDueBefore now horizon cells table time → least_due now horizon cells table ≡ Some m → time ≤ m
least_from now horizon cells [] time m none e = absurd (cc)
least_from now horizon cells (first ∷ rest) time m none e =
    by (due_time now horizon cells first.1.phase) (least_due now horizon cells rest) refl refl e (λ k. least_from now horizon cells rest time k (λ n entry other at is. none (suc n) entry other at is))
  where
    by : (a b : Option ℕ) → due_time now horizon cells first.1.phase ≡ a → least_due now horizon cells rest ≡ b → earlier a b ≡ Some m → ((k : ℕ) → least_due now horizon cells rest ≡ Some k → time ≤ k) → time ≤ m
    by None b x y e further = further m (y ∙ e)
    by (Some a) None x y e further = let same : a ≡ m = cc in omega (arith, none 0 first a refl x, same)
    by (Some a) (Some b) x y e further = let same : min a b ≡ m = cc in omega (arith, none 0 first a refl x, further b y, same)

pub least_due_is : LeastDueIs
least_due_is now horizon cells table time some none =
    let found = least_upto now horizon cells table time some.number some.entry some.there some.is in
    let from = least_from now horizon cells table time found.0 none found.1.0 in
    let same : found.0 ≡ time = omega (arith, found.1.1, from) in found.1.0 ∙ ap Some same

pub none_is_due : NoneIsDue
none_is_due now horizon cells [] none = refl
none_is_due now horizon cells (first ∷ rest) none =
    let here : due_time now horizon cells first.1.phase ≡ None = none 0 first refl in
    rw here (none_is_due now horizon cells rest (λ n entry at. none (suc n) entry at))
