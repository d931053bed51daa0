-- The frames of a batch are taken, one after another.
use Rattle.std.proofs.Common.{◌≡◌, ◌≢◌, ◌⊎◌, inl, inr, ℕ, ◌+◌, Bool, true, false, cond, List, ◌∷◌, Option, Some, None, refl, sym, ap, ◌∙◌, subst, arith}
use Rattle.std.specs.BTreeMap.{is_at}
use Rattle.std.specs.Ordering.{is_eq}
use Rattle.aerie_base.specs.Paths.{path_cmp, child_path}
use Rattle.run_data.specs.TaskFrames.{Frame}
use Rattle.run_data.specs.Tasks.{Task, Table, task_at, with_task, task_after, after_frame, children_made, children_in}
use Rattle.run_data.specs.TableLaws.{at_with, is_same, path_itself, order_with}
use Rattle.live_tasks.specs.declared.slots.Slot.{Slot}
use Rattle.live_tasks.specs.Slots.{Slots, slot_at, Becomes, StandsUnder, under, child_in, live_children_of, IsForest, HasSlot}
use Rattle.live_tasks.specs.Endings.{slot_has_ended, IsNumberAmong, StaysThere, IsTaking, slot_after_step, HasTakenFrame}
use Rattle.live_tasks.proofs.Counts.{count_becomes}
use Rattle.live_tasks.proofs.Forests.{same_or_not}

at_itself : (path : List ℕ) → is_at (path_cmp path) path ≡ true
at_itself path = ap is_eq (path_itself path)

pub put_here : (table : Table) (path : List ℕ) (task : Task) → task_at (with_task table path task) path ≡ Some task
put_here table path task = at_with table path path task ∙ ap (λ b. cond b (Some task) (task_at table path)) (at_itself path)

pub put_there : (table : Table) (path other : List ℕ) (task : Task) → other ≢ path → task_at (with_task table path task) other ≡ task_at table other
put_there table path other task apart = at_with table path other task ∙ by (is_at (path_cmp other) path) refl
  where
    by : (b : Bool) → is_at (path_cmp other) path ≡ b → cond b (Some task) (task_at table other) ≡ task_at table other
    by true e = absurd (apart (is_same other path e))
    by false e = refl

pub path_or_not : (path other : List ℕ) → (path ≡ other) ⊎ (path ≢ other)
path_or_not path other = by (is_at (path_cmp path) other) refl
  where
    apart : is_at (path_cmp path) other ≡ false → path ≢ other
    apart e f = let k : true ≡ false = sym (at_itself path) ∙ ap (λ p. is_at (path_cmp path) p) f ∙ e in absurd (cc)

    by : (b : Bool) → is_at (path_cmp path) other ≡ b → (path ≡ other) ⊎ (path ≢ other)
    by true e = inl (is_same path other e)
    by false e = inr (apart e)

pub still_through : (old new : Slots) (number : ℕ) (slot : Slot) → StaysThere old number slot → ((n : ℕ) (s : Slot) → slot_at old n ≡ Some s → StaysThere new n s) → StaysThere new number slot
still_through old new number slot still forward =
    let f = forward number still.next still.there in
    record { next = f.next; there = f.there; path = f.path ∙ still.path; own = f.own ∙ still.own; parent = f.parent ∙ still.parent }

pub has_through : (old new : Slots) (path : List ℕ) → HasSlot old path → ((n : ℕ) (s : Slot) → slot_at old n ≡ Some s → StaysThere new n s) → HasSlot new path
has_through old new path found forward =
    let f = forward found.number found.slot found.there in record { number = found.number; slot = f.next; there = f.there; is = f.path ∙ found.is }

pub stands_through : (old new : Slots) (path : List ℕ) (own : ℕ) (parent : Option ℕ) → ((n : ℕ) (s : Slot) → slot_at old n ≡ Some s → StaysThere new n s) → StandsUnder old path own parent → StandsUnder new path own parent
stands_through old new path own None forward stands = stands
stands_through old new path own (Some parent) forward below =
    let f = forward parent below.above below.there in
    record { above = f.next; there = f.there; is = below.is ∙ ap (λ p. child_path p own) (sym f.path) }

-- ---- a step of a task that is there

module _ (now : ℕ) (frame : Frame) (first : Slots) (numbers : List ℕ) (table : Table) (old new : Slots) (number : ℕ) (slot : Slot) (here : slot_at old number ≡ Some slot) (its : slot.path ≡ frame.path)
    (is : IsTaking first numbers table old) (steps : Becomes old new number (Some (slot_after_step now frame slot))) where
  abbrev after : Slot
  after = slot_after_step now frame slot

  data Now (n : ℕ) (s : Slot) : Type 0 where
    at_number : n ≡ number → s ≡ after → Now n s
    as_before : n ≢ number → slot_at old n ≡ Some s → Now n s

  now_at : (n : ℕ) (s : Slot) → slot_at new n ≡ Some s → Now n s
  now_at n s at = by (same_or_not n number)
    where
      by : (n ≡ number) ⊎ (n ≢ number) → Now n s
      by (inl e) = let f : Some s ≡ Some after = sym at ∙ ap (slot_at new) e ∙ steps.is_there in at_number e (cc)
      by (inr apart) = as_before apart (sym (steps.others n apart) ∙ at)

  forward : (n : ℕ) (s : Slot) → slot_at old n ≡ Some s → StaysThere new n s
  forward n s at = by (same_or_not n number)
    where
      by : (n ≡ number) ⊎ (n ≢ number) → StaysThere new n s
      by (inl e) =
          let f : Some slot ≡ Some s = sym here ∙ ap (slot_at old) (sym e) ∙ at in
          let g : slot ≡ s = cc in
          record {
            next = after;
            there = ap (slot_at new) e ∙ steps.is_there;
            path = ap (λ (s : Slot). s.path) g;
            own = ap (λ (s : Slot). s.own) g;
            parent = ap (λ (s : Slot). s.parent) g;
          }
      by (inr apart) = record { next = s; there = steps.others n apart ∙ at; path = refl; own = refl; parent = refl }

  -- what stood there before
  record Was (n : ℕ) (s : Slot) : Type 0 where
    before : Slot
    there : slot_at old n ≡ Some before
    path : s.path ≡ before.path
    own : s.own ≡ before.own
    parent : s.parent ≡ before.parent
    below : s.live_below ≡ before.live_below

  was : (n : ℕ) (s : Slot) → Now n s → Was n s
  was n s (at_number e same) = record {
    before = slot;
    there = ap (slot_at old) e ∙ here;
    path = ap (λ (s : Slot). s.path) same;
    own = ap (λ (s : Slot). s.own) same;
    parent = ap (λ (s : Slot). s.parent) same;
    below = ap (λ (s : Slot). s.live_below) same;
  }
  was n s (as_before apart at) = record { before = s; there = at; path = refl; own = refl; parent = refl; below = refl }

  count_same : (n : ℕ) → live_children_of n new ≡ live_children_of n old
  count_same n =
      let a : live_children_of n new + child_in n (slot_at old number) ≡ live_children_of n old + under n slot.parent = count_becomes n number old new (Some after) steps in
      let b : child_in n (slot_at old number) ≡ under n slot.parent = ap (child_in n) here in
      omega (arith, a, b)

  forest : IsForest new
  forest = record {
    distinct = λ n m s t at again same.
        let a = was n s (now_at n s at) in
        let b = was m t (now_at m t again) in
        is.forest.distinct n m a.before b.before a.there b.there (sym a.path ∙ same ∙ b.path);
    stands = λ n s at.
        let a = was n s (now_at n s at) in
        subst (λ p. StandsUnder new p s.own s.parent) (sym a.path)
        (subst (λ o. StandsUnder new a.before.path o s.parent) (sym a.own)
        (subst (StandsUnder new a.before.path a.before.own) (sym a.parent)
        (stands_through old new a.before.path a.before.own a.before.parent forward (is.forest.stands n a.before a.there))));
    counts = λ n s at. let a = was n s (now_at n s at) in a.below ∙ is.forest.counts n a.before a.there ∙ sym (count_same n);
  }

  made_is : children_made (task_at table frame.path) ≡ slot.task.made
  made_is = ap children_made (ap (task_at table) (sym its) ∙ is.are.tasks number slot here)

  new_is : Some (task_after now frame.status (children_made (task_at table frame.path) + children_in frame.items)) ≡ Some after.task
  new_is = ap (λ m. Some (task_after now frame.status (m + children_in frame.items))) made_is

  tasks : (n : ℕ) (s : Slot) → slot_at new n ≡ Some s → task_at (after_frame now frame table) s.path ≡ Some s.task
  tasks n s at = by (now_at n s at)
    where
      by : Now n s → task_at (after_frame now frame table) s.path ≡ Some s.task
      by (at_number e same) =
          ap (task_at (after_frame now frame table)) (ap (λ (s : Slot). s.path) same ∙ its)
          ∙ put_here table frame.path (task_after now frame.status (children_made (task_at table frame.path) + children_in frame.items)) ∙ new_is ∙ ap (λ (s : Slot). Some s.task) (sym same)
      by (as_before apart before) =
          put_there table frame.path s.path (task_after now frame.status (children_made (task_at table frame.path) + children_in frame.items))
          (λ e. apart (is.forest.distinct n number s slot before here (e ∙ sym its))) ∙ is.are.tasks n s before

  each : (path : List ℕ) (task : Task) → task_at (after_frame now frame table) path ≡ Some task → HasSlot new path
  each path task at = by (path_or_not path frame.path)
    where
      by : (path ≡ frame.path) ⊎ (path ≢ frame.path) → HasSlot new path
      by (inl e) = record { number = number; slot = after; there = steps.is_there; is = its ∙ sym e }
      by (inr apart) =
          has_through old new path
          (is.are.each path task (sym (put_there table frame.path path (task_after now frame.status (children_made (task_at table frame.path) + children_in frame.items)) apart) ∙ at)) forward

  pub step_taken : IsTaking first (number ∷ numbers) (after_frame now frame table) new
  step_taken = record {
    forest = forest;
    are = record {
      order = order_with table frame.path (task_after now frame.status (children_made (task_at table frame.path) + children_in frame.items)) is.are.order;
      tasks = tasks;
      each = each;
    };
    grown = λ n s at. still_through old new n s (is.grown n s at) forward;
    settled = settled;
  }
    where
      settled : (n : ℕ) (s : Slot) → slot_at new n ≡ Some s → (slot_has_ended (Some s) ≡ false) ⊎ IsNumberAmong n (number ∷ numbers)
      settled n s at = by (now_at n s at)
        where
          by : Now n s → (slot_has_ended (Some s) ≡ false) ⊎ IsNumberAmong n (number ∷ numbers)
          by (at_number e same) = inr (inl e)
          by (as_before apart before) = go (is.settled n s before)
            where
              go : (slot_has_ended (Some s) ≡ false) ⊎ IsNumberAmong n numbers → (slot_has_ended (Some s) ≡ false) ⊎ IsNumberAmong n (number ∷ numbers)
              go (inl e) = inl e
              go (inr e) = inr (inr e)

  pub step_took : HasTakenFrame now first numbers table frame old new number
  step_took = record { taking = step_taken; still = forward; slot = after; there = steps.is_there; path = its }
