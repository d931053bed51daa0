-- A child begins with its first frame.
use Rattle.std.proofs.Common.{◌≡◌, ◌≢◌, ◌⊎◌, inl, inr, ℕ, ◌+◌, Bool, true, false, not, ◌&&◌, nat_eq, List, ◌∷◌, Option, Some, None, refl, sym, ap, ◌∙◌, subst, arith}
use Rattle.std.proofs.lemmas.Bool.Decides.{nat_tests}
use Rattle.aerie_base.specs.Paths.{child_path}
use Rattle.run_data.specs.TaskFrames.{Frame}
use Rattle.run_data.specs.Endings.{is_open}
use Rattle.run_data.specs.Tasks.{Task, Table, task_at, task_after, after_frame, children_made, children_in}
use Rattle.run_data.specs.TableLaws.{order_with}
use Rattle.live_tasks.specs.declared.slots.Slot.{Slot}
use Rattle.live_tasks.specs.Slots.{Slots, slot_at, Becomes, StandsUnder, under, child_in, live_children_of, HasSlot}
use Rattle.live_tasks.specs.Endings.{slot_has_ended, IsNumberAmong, StaysThere, IsTaking, slot_with_child, BeginsChild, HasTakenFrame}
use Rattle.live_tasks.proofs.Counts.{count_becomes, under_itself, under_other}
use Rattle.live_tasks.proofs.Forests.{same_or_not}
use Rattle.live_tasks.proofs.Settled.{HasChild, some_child}
use Rattle.live_tasks.proofs.Taking.{put_here, put_there, path_or_not, still_through, has_through, stands_through}

more_not_zero : (n : ℕ) → nat_eq (n + 1) 0 ≡ false
more_not_zero n = grind (arith, nat_tests)

both_false : (b : Bool) → (b && false) ≡ false
both_false true = refl
both_false false = refl

module _ (now : ℕ) (frame : Frame) (first : Slots) (numbers : List ℕ) (table : Table) (old new : Slots) (parent own number : ℕ) (above : Slot) (there : slot_at old parent ≡ Some above)
    (path_is : frame.path ≡ child_path above.path own) (fresh : task_at table frame.path ≡ None) (is : IsTaking first numbers table old) (begins : BeginsChild now frame parent own old new number) where
  abbrev child : Slot
  child = begins.child

  apart : parent ≢ number
  apart e = let f : Some above ≡ None = sym there ∙ ap (slot_at old) e ∙ begins.vacant in cc

  still_there : slot_at begins.between parent ≡ Some above
  still_there = begins.inserted.others parent apart ∙ there

  counted : Becomes begins.between new parent (Some (slot_with_child above))
  counted = begins.counted above still_there

  at_child : slot_at new number ≡ Some child
  at_child = counted.others number (λ e. apart (sym e)) ∙ begins.inserted.is_there

  data Now (n : ℕ) (s : Slot) : Type 0 where
    at_number : n ≡ number → s ≡ child → Now n s
    at_parent : n ≡ parent → s ≡ slot_with_child above → Now n s
    as_before : n ≢ number → n ≢ parent → slot_at old n ≡ Some s → Now n s

  now_at : (n : ℕ) (s : Slot) → slot_at new n ≡ Some s → Now n s
  now_at n s at = by (same_or_not n number) (same_or_not n parent)
    where
      by : (n ≡ number) ⊎ (n ≢ number) → (n ≡ parent) ⊎ (n ≢ parent) → Now n s
      by (inl e) any = let f : Some s ≡ Some begins.child = sym at ∙ ap (slot_at new) e ∙ at_child in at_number e (cc)
      by (inr other) (inl e) = let f : Some s ≡ Some (slot_with_child above) = sym at ∙ ap (slot_at new) e ∙ counted.is_there in at_parent e (cc)
      by (inr other) (inr below) = as_before other below (sym (counted.others n below ∙ begins.inserted.others n other) ∙ at)

  forward : (n : ℕ) (s : Slot) → slot_at old n ≡ Some s → StaysThere new n s
  forward n s at = by (same_or_not n number) (same_or_not n parent)
    where
      by : (n ≡ number) ⊎ (n ≢ number) → (n ≡ parent) ⊎ (n ≢ parent) → StaysThere new n s
      by (inl e) any = let f : Some s ≡ None = sym at ∙ ap (slot_at old) e ∙ begins.vacant in absurd (cc)
      by (inr other) (inl e) =
          let f : Some above ≡ Some s = sym there ∙ ap (slot_at old) (sym e) ∙ at in
          let g : above ≡ s = cc in
          record {
            next = slot_with_child above;
            there = ap (slot_at new) e ∙ counted.is_there;
            path = ap (λ (s : Slot). s.path) g;
            own = ap (λ (s : Slot). s.own) g;
            parent = ap (λ (s : Slot). s.parent) g;
          }
      by (inr other) (inr below) = record { next = s; there = counted.others n below ∙ begins.inserted.others n other ∙ at; path = refl; own = refl; parent = refl }

  -- ---- what stood there, where it is not the child

  record Was (n : ℕ) (s : Slot) : Type 0 where
    before : Slot
    at : slot_at old n ≡ Some before
    path : s.path ≡ before.path
    own_ : s.own ≡ before.own
    parent_ : s.parent ≡ before.parent

  is_or_was : (n : ℕ) (s : Slot) → Now n s → ((n ≡ number) × (s ≡ child)) ⊎ Was n s
  is_or_was n s (at_number e same) = inl (e, same)
  is_or_was n s (at_parent e same) =
      inr (record {
        before = above;
        at = ap (slot_at old) e ∙ there;
        path = ap (λ (s : Slot). s.path) same;
        own_ = ap (λ (s : Slot). s.own) same;
        parent_ = ap (λ (s : Slot). s.parent) same;
      })
  is_or_was n s (as_before other below at) = inr (record { before = s; at = at; path = refl; own_ = refl; parent_ = refl })

  -- no task had this path
  none_was : (n : ℕ) (s : Slot) → slot_at old n ≡ Some s → s.path ≡ frame.path → ⊥
  none_was n s at e = let f : Some s.task ≡ None = sym (is.are.tasks n s at) ∙ ap (task_at table) e ∙ fresh in cc

  distinct : (n m : ℕ) (s t : Slot) → slot_at new n ≡ Some s → slot_at new m ≡ Some t → s.path ≡ t.path → n ≡ m
  distinct n m s t at again same = by (is_or_was n s (now_at n s at)) (is_or_was m t (now_at m t again))
    where
      by : ((n ≡ number) × (s ≡ child)) ⊎ Was n s → ((m ≡ number) × (t ≡ child)) ⊎ Was m t → n ≡ m
      by (inl a) (inl b) = a.0 ∙ sym b.0
      by (inl a) (inr b) = absurd (none_was m b.before b.at (sym (ap (λ (s : Slot). s.path) (sym a.1) ∙ same ∙ b.path) ∙ begins.first.path))
      by (inr a) (inl b) = absurd (none_was n a.before a.at (sym a.path ∙ same ∙ ap (λ (s : Slot). s.path) b.1 ∙ begins.first.path))
      by (inr a) (inr b) = is.forest.distinct n m a.before b.before a.at b.at (sym a.path ∙ same ∙ b.path)

  stands : (n : ℕ) (s : Slot) → slot_at new n ≡ Some s → StandsUnder new s.path s.own s.parent
  stands n s at = by (is_or_was n s (now_at n s at))
    where
      child_stands : StandsUnder new child.path child.own child.parent
      child_stands =
          subst (StandsUnder new child.path child.own) (sym begins.first.parent_is)
          (record { above = slot_with_child above; there = counted.is_there; is = begins.first.path ∙ path_is ∙ ap (child_path above.path) (sym begins.first.own_is) })

      by : ((n ≡ number) × (s ≡ child)) ⊎ Was n s → StandsUnder new s.path s.own s.parent
      by (inl a) = subst (λ (s : Slot). StandsUnder new s.path s.own s.parent) (sym a.1) child_stands
      by (inr a) =
          subst (λ p. StandsUnder new p s.own s.parent) (sym a.path)
          (subst (λ o. StandsUnder new a.before.path o s.parent) (sym a.own_)
          (subst (StandsUnder new a.before.path a.before.own) (sym a.parent_)
          (stands_through old new a.before.path a.before.own a.before.parent forward (is.forest.stands n a.before a.at))))

  -- ---- counts

  none_under : live_children_of number old ≡ 0
  none_under = by (some_child number old)
    where
      at_parent_of : (second : Slot) (o : Option ℕ) → o ≡ Some number → StandsUnder old second.path second.own o → ⊥
      at_parent_of second None e below = cc
      at_parent_of second (Some p) e below =
          let k : p ≡ number = cc in
          let f : Some below.above ≡ None = sym below.there ∙ ap (slot_at old) k ∙ begins.vacant in cc

      by : (live_children_of number old ≡ 0) ⊎ HasChild old number → live_children_of number old ≡ 0
      by (inl e) = e
      by (inr has) = absurd (at_parent_of has.slot has.slot.parent has.is (is.forest.stands has.number has.slot has.there))

  counts_all : (n : ℕ) → live_children_of n new ≡ live_children_of n old + under n (Some parent)
  counts_all n =
      let a : live_children_of n begins.between + child_in n (slot_at old number) ≡ live_children_of n old + under n child.parent = count_becomes n number old begins.between (Some child) begins.inserted in
      let b : child_in n (slot_at old number) ≡ 0 = ap (child_in n) begins.vacant in
      let c : under n child.parent ≡ under n (Some parent) = ap (under n) begins.first.parent_is in
      let d : live_children_of n new + child_in n (slot_at begins.between parent) ≡ live_children_of n begins.between + under n above.parent = count_becomes n parent begins.between new (Some (slot_with_child above)) counted in
      let e : child_in n (slot_at begins.between parent) ≡ under n above.parent = ap (child_in n) still_there in
      omega (arith, a, b, c, d, e)

  counts : (n : ℕ) (s : Slot) → slot_at new n ≡ Some s → s.live_below ≡ live_children_of n new
  counts n s at = by (now_at n s at)
    where
      all : live_children_of n new ≡ live_children_of n old + under n (Some parent)
      all = counts_all n

      by : Now n s → s.live_below ≡ live_children_of n new
      by (at_number e same) =
          let a : under n (Some parent) ≡ 0 = under_other n (Some parent) (λ f. apart (let k : parent ≡ n = cc in k ∙ e)) in
          let b : live_children_of n old ≡ 0 = ap (λ m. live_children_of m old) e ∙ none_under in
          let c : s.live_below ≡ 0 = ap (λ (s : Slot). s.live_below) same ∙ begins.first.none in
          let d = all in
          omega (arith, a, b, c, d)
      by (at_parent e same) =
          let a : under n (Some parent) ≡ 1 = under_itself n (Some parent) (ap Some (sym e)) in
          let b : above.live_below ≡ live_children_of n old = is.forest.counts parent above there ∙ ap (λ m. live_children_of m old) (sym e) in
          let c : s.live_below ≡ above.live_below + 1 = ap (λ (s : Slot). s.live_below) same in
          let d = all in
          omega (arith, a, b, c, d)
      by (as_before other below before) =
          let a : under n (Some parent) ≡ 0 = under_other n (Some parent) (λ f. below (let k : parent ≡ n = cc in sym k)) in
          let b = is.forest.counts n s before in
          let d = all in
          omega (arith, a, b, d)

  -- ---- the table

  abbrev new_task : Task
  new_task = task_after now frame.status (children_made (task_at table frame.path) + children_in frame.items)

  new_is : child.task ≡ new_task
  new_is =
      let a : children_in frame.items ≡ children_made (task_at table frame.path) + children_in frame.items = (let b : children_made (task_at table frame.path) ≡ 0 = ap children_made fresh in omega (arith, b)) in
      begins.first.task ∙ ap (task_after now frame.status) a

  tasks : (n : ℕ) (s : Slot) → slot_at new n ≡ Some s → task_at (after_frame now frame table) s.path ≡ Some s.task
  tasks n s at = by (now_at n s at)
    where
      by : Now n s → task_at (after_frame now frame table) s.path ≡ Some s.task
      by (at_number e same) =
          ap (task_at (after_frame now frame table)) (ap (λ (s : Slot). s.path) same ∙ begins.first.path) ∙ put_here table frame.path new_task ∙ ap Some (sym new_is) ∙ ap (λ (s : Slot). Some s.task) (sym same)
      by (at_parent e same) =
          ap (task_at (after_frame now frame table)) (ap (λ (s : Slot). s.path) same) ∙ put_there table frame.path above.path new_task (none_was parent above there) ∙ is.are.tasks parent above there
          ∙ ap (λ (s : Slot). Some s.task) (sym same)
      by (as_before other below before) = put_there table frame.path s.path new_task (none_was n s before) ∙ is.are.tasks n s before

  each : (path : List ℕ) (task : Task) → task_at (after_frame now frame table) path ≡ Some task → HasSlot new path
  each path task at = by (path_or_not path frame.path)
    where
      by : (path ≡ frame.path) ⊎ (path ≢ frame.path) → HasSlot new path
      by (inl e) = record { number = number; slot = child; there = at_child; is = begins.first.path ∙ sym e }
      by (inr other) = has_through old new path (is.are.each path task (sym (put_there table frame.path path new_task other) ∙ at)) forward

  settled : (n : ℕ) (s : Slot) → slot_at new n ≡ Some s → (slot_has_ended (Some s) ≡ false) ⊎ IsNumberAmong n (number ∷ numbers)
  settled n s at = by (now_at n s at)
    where
      by : Now n s → (slot_has_ended (Some s) ≡ false) ⊎ IsNumberAmong n (number ∷ numbers)
      by (at_number e same) = inr (inl e)
      by (at_parent e same) =
          inl (ap (λ (s : Slot). slot_has_ended (Some s)) same ∙ ap (λ b. not (is_open above.task.phase) && b) (more_not_zero above.live_below) ∙ both_false (not (is_open above.task.phase)))
      by (as_before other below before) = go (is.settled n s before)
        where
          go : (slot_has_ended (Some s) ≡ false) ⊎ IsNumberAmong n numbers → (slot_has_ended (Some s) ≡ false) ⊎ IsNumberAmong n (number ∷ numbers)
          go (inl e) = inl e
          go (inr e) = inr (inr e)

  pub child_taken : IsTaking first (number ∷ numbers) (after_frame now frame table) new
  child_taken = record {
    forest = record { distinct = distinct; stands = stands; counts = counts };
    are = record { order = order_with table frame.path new_task is.are.order; tasks = tasks; each = each };
    grown = λ n s at. still_through old new n s (is.grown n s at) forward;
    settled = settled;
  }

  pub child_took : HasTakenFrame now first numbers table frame old new number
  child_took = record { taking = child_taken; still = forward; slot = child; there = at_child; path = begins.first.path }
