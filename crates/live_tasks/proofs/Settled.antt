-- Once all have told each other, the tasks are the live part of the table after the batch.
use Rattle.std.proofs.Common.{◌≡◌, ◌⊎◌, inl, inr, ℕ, zero, suc, ◌+◌, ◌<◌, ◌≤◌, Bool, true, false, not, ◌&&◌, nat_eq, List, [], ◌∷◌, length, Option, Some, None, refl, sym, ap, ◌∙◌, arith, if◌then◌else◌}
use Rattle.std.proofs.lemmas.Bool.{false≢true}
use Rattle.aerie_base.specs.declared.plans.Edge.TheVariants.{Start, End}
use Rattle.aerie_base.specs.Paths.{root, child_path, is_prefix}
use Rattle.run_data.specs.Endings.{is_open, has_ended, has_begun, gone_on}
use Rattle.run_data.specs.Tasks.{TaskPhase, anchored, ready, delayed, waiting, calling, over, Task, Table, task_at, on_each}
use Rattle.run_data.specs.laws.BatchFrames.{HasPath}
use Rattle.run_data.specs.laws.GoingOn.{IsQuiet}
use Rattle.run_data.specs.laws.EndedTaskLaws.{open_stops, ended_below}
use Rattle.run_data.specs.laws.PathsUnder.{same_number, under_itself, under_shorter}
use Rattle.run_data.specs.TableLaws.{order_each}
use Rattle.run_data.specs.laws.QuietTasks.{ended_each}
use Rattle.run_data.specs.laws.LiveParts.{is_live, live}
use Rattle.run_data.specs.laws.TableParts.{order_part, part_at, part_none, same_tables, each_at, changed_at}
use Rattle.live_tasks.specs.declared.slots.Slot.{Slot}
use Rattle.live_tasks.specs.Slots.{Slots, slot_at, StandsUnder, under, child_in, live_children_of, AreTable}
use Rattle.live_tasks.specs.Endings.{slot_has_ended, IsNumberAmong, IsOf, IsEnding}
use Rattle.live_tasks.proofs.Forests.{below_length}
use Rattle.live_tasks.proofs.Going.{same_open, gone_open, quiet_is}

-- ---- lengths

abbrev total : Slots → ℕ
total [] = 0
total (None ∷ rest) = total rest
total (Some slot ∷ rest) = length slot.path + total rest

within : (slots : Slots) (number : ℕ) (slot : Slot) → slot_at slots number ≡ Some slot → length slot.path ≤ total slots
within [] number slot at = absurd (cc)
within (None ∷ rest) zero slot at = absurd (cc)
within (Some one ∷ rest) zero slot at =
    let e : one ≡ slot = cc in
    let l : length one.path ≡ length slot.path = ap (λ (s : Slot). length s.path) e in omega (arith, l)
within (None ∷ rest) (suc number) slot at = within rest number slot at
within (Some one ∷ rest) (suc number) slot at = let w = within rest number slot at in omega (arith, w)

-- ---- a child

pub record HasChild (slots : Slots) (parent : ℕ) : Type 0 where
  pub number : ℕ
  pub slot : Slot
  pub there : slot_at slots number ≡ Some slot
  pub is : slot.parent ≡ Some parent

some_under : (parent : ℕ) (o : Option ℕ) → (under parent o ≡ 0) ⊎ (o ≡ Some parent)
some_under parent None = inl refl
some_under parent (Some number) = by (nat_eq number parent) refl
  where
    by : (b : Bool) → nat_eq number parent ≡ b → (◌≡◌ {A = ℕ} (if b then 1 else 0) 0) ⊎ (Some number ≡ Some parent)
    by true e = inr (ap Some (same_number number parent e))
    by false e = inl refl

pub some_child : (parent : ℕ) (slots : Slots) → (live_children_of parent slots ≡ 0) ⊎ HasChild slots parent
some_child parent [] = inl refl
some_child parent (found ∷ rest) = by (some_child parent rest)
  where
    here : (o : Option Slot) → found ≡ o → (child_in parent found ≡ 0) ⊎ HasChild (found ∷ rest) parent
    here None e = inl (ap (child_in parent) e)
    here (Some slot) e = go (some_under parent slot.parent)
      where
        go : (under parent slot.parent ≡ 0) ⊎ (slot.parent ≡ Some parent) → (child_in parent found ≡ 0) ⊎ HasChild (found ∷ rest) parent
        go (inl f) = inl (ap (child_in parent) e ∙ f)
        go (inr f) = inr (record { number = 0; slot = slot; there = e; is = f })

    both : (live_children_of parent rest ≡ 0) → (child_in parent found ≡ 0) ⊎ HasChild (found ∷ rest) parent → (live_children_of parent (found ∷ rest) ≡ 0) ⊎ HasChild (found ∷ rest) parent
    both e (inl f) = inl (omega (arith, e, f))
    both e (inr f) = inr f

    by : (live_children_of parent rest ≡ 0) ⊎ HasChild rest parent → (live_children_of parent (found ∷ rest) ≡ 0) ⊎ HasChild (found ∷ rest) parent
    by (inl e) = both e (here found refl)
    by (inr has) = inr (record { number = suc has.number; slot = has.slot; there = has.there; is = has.is })

zero_is : (n : ℕ) → n ≡ 0 → nat_eq n 0 ≡ true
zero_is n e = grind arith

module _ (now : ℕ) (whole : Table) (slots : Slots) (is : IsEnding now whole [] [] slots) where
  -- ---- each is live

  pub undone : (number : ℕ) (slot : Slot) → slot_at slots number ≡ Some slot → slot_has_ended (Some slot) ≡ false
  undone number slot at = by (is.settled number slot at)
    where
      by : (slot_has_ended (Some slot) ≡ false) ⊎ IsNumberAmong number [] → slot_has_ended (Some slot) ≡ false
      by (inl e) = e
      by (inr never) = absurd never

  child_is : (number : ℕ) (slot : Slot) → slot_at slots number ≡ Some slot → (child : ℕ) (second : Slot) → slot_at slots child ≡ Some second → second.parent ≡ Some number →
      second.path ≡ child_path slot.path second.own
  child_is number slot at child second there e = by second.parent e (is.forest.stands child second there)
    where
      by : (parent : Option ℕ) → parent ≡ Some number → StandsUnder slots second.path second.own parent → second.path ≡ child_path slot.path second.own
      by None f stands = absurd (cc)
      by (Some parent) f below =
          let k : parent ≡ number = cc in
          let g : Some below.above ≡ Some slot = sym below.there ∙ ap (slot_at slots) k ∙ at in
          let h : below.above ≡ slot = cc in
          below.is ∙ ap (λ (s : Slot). child_path s.path second.own) h

  live_by : (gap number : ℕ) (slot : Slot) → slot_at slots number ≡ Some slot → total slots < gap + length slot.path → has_ended whole slot.path ≡ false
  live_by zero number slot at less = absurd (let w = within slots number slot at in omega (arith, w, less))
  live_by (suc gap) number slot at less = by (λ n s there short. live_by gap n s there short) (is_open slot.task.phase) refl
    where
      of : IsOf now whole slot
      of = is.tasks number slot at

      child_live : ((n : ℕ) (s : Slot) → slot_at slots n ≡ Some s → total slots < gap + length s.path → has_ended whole s.path ≡ false) → HasChild slots number → has_ended whole slot.path ≡ false
      child_live shorter has = go (has_ended whole slot.path) refl
        where
          path_is : has.slot.path ≡ child_path slot.path has.slot.own
          path_is = child_is number slot at has.number has.slot has.there has.is

          further : has_ended whole has.slot.path ≡ false
          further = let l = below_length has.slot.path slot.path has.slot.own path_is in shorter has.number has.slot has.there (omega (arith, l, less))

          up : is_prefix slot.path has.slot.path ≡ true
          up = under_shorter slot.path (has.slot.own ∷ []) has.slot.path (ap (λ p. is_prefix p has.slot.path) (sym path_is) ∙ under_itself has.slot.path)

          go : (b : Bool) → has_ended whole slot.path ≡ b → b ≡ false
          go false e = refl
          go true e = absurd (false≢true (sym further ∙ ended_below whole slot.path has.slot.path up e))

      closed_live : ((n : ℕ) (s : Slot) → slot_at slots n ≡ Some s → total slots < gap + length s.path → has_ended whole s.path ≡ false) → is_open slot.task.phase ≡ false → (live_children_of number slots ≡ 0) ⊎ HasChild slots number → has_ended whole slot.path ≡ false
      closed_live shorter e (inr has) = child_live shorter has
      closed_live shorter e (inl none) =
          let f : nat_eq slot.live_below 0 ≡ true = zero_is slot.live_below (is.forest.counts number slot at ∙ none) in
          let g : slot_has_ended (Some slot) ≡ true = λ i. not (e i) && f i in
          absurd (false≢true (sym (undone number slot at) ∙ g))

      by : ((n : ℕ) (s : Slot) → slot_at slots n ≡ Some s → total slots < gap + length s.path → has_ended whole s.path ≡ false) → (b : Bool) → is_open slot.task.phase ≡ b → has_ended whole slot.path ≡ false
      by shorter true e = open_stops slot.path slot.path of.first (under_itself slot.path) (sym (same_open whole now slot.path slot.task of.first of.same) ∙ e) whole of.there
      by shorter false e = closed_live shorter e (some_child number slots)

  pub slot_live : (number : ℕ) (slot : Slot) → slot_at slots number ≡ Some slot → has_ended whole slot.path ≡ false
  slot_live number slot at = live_by (suc (total slots)) number slot at (omega arith)

  -- ---- each has gone on

  quiet : (number : ℕ) (slot : Slot) → slot_at slots number ≡ Some slot → (phase : TaskPhase) → slot.task.phase ≡ phase → IsQuiet whole slot.path phase
  quiet number slot at (calling child into state) e =
      let callee = is.calls number slot at child into state e in
      ap (has_ended whole) (ap (child_path slot.path) (sym callee.own_is) ∙ sym (child_is number slot at callee.number callee.slot callee.there callee.parent_is)) ∙ slot_live callee.number callee.slot callee.there
  quiet number slot at (anchored to End start state) e =
      let found = is.follows number slot at to start state e in ap (has_ended whole) (sym found.is) ∙ slot_live found.number found.slot found.there
  quiet number slot at (anchored to Start start state) e = by (is.starts number slot at to start state e)
    where
      by : (has_begun (task_at whole (root to)) ≡ false) ⊎ HasPath (root to) [] → has_begun (task_at whole (root to)) ≡ false
      by (inl f) = f
      by (inr never) = absurd never
  quiet number slot at (ready state) e = tt
  quiet number slot at (delayed until state) e = tt
  quiet number slot at (waiting condition state) e = tt
  quiet number slot at (over result) e = tt

  pub task_is : (number : ℕ) (slot : Slot) → slot_at slots number ≡ Some slot → (first : Task) → task_at whole slot.path ≡ Some first → slot.task ≡ gone_on whole now slot.path first
  task_is number slot at first there =
      let of = is.tasks number slot at in
      let e : Some of.first ≡ Some first = sym of.there ∙ there in
      let f : of.first ≡ first = cc in
      sym (quiet_is whole now slot.path slot.task (quiet number slot at slot.task.phase refl)) ∙ of.same ∙ ap (gone_on whole now slot.path) f

  -- ---- the table

  abbrev gone : Table
  gone = on_each (gone_on whole now) whole

  gone_ended : (path : List ℕ) → has_ended gone path ≡ has_ended whole path
  gone_ended path = ended_each (gone_on whole now) (gone_open whole now) (λ p t. refl) whole path

  module _ (table : Table) (are : AreTable slots table) where
    same_at : (path : List ℕ) → task_at table path ≡ task_at (live gone) path
    same_at path = by (has_ended whole path) refl
      where
        out : has_ended whole path ≡ true → (found : Option Task) → task_at table path ≡ found → found ≡ None
        out e None f = refl
        out e (Some task) f =
            let has = are.each path task f in
            absurd (false≢true (sym (slot_live has.number has.slot has.there) ∙ ap (has_ended whole) has.is ∙ e))

        none : task_at whole path ≡ None → (found : Option Task) → task_at table path ≡ found → found ≡ None
        none e None f = refl
        none e (Some task) f =
            let has = are.each path task f in
            let of = is.tasks has.number has.slot has.there in
            let g : Some of.first ≡ None = sym of.there ∙ ap (task_at whole) has.is ∙ e in absurd (cc)

        there : has_ended whole path ≡ false → (found : Option Task) → task_at whole path ≡ found → task_at table path ≡ changed_at (gone_on whole now) path found
        there e None f = none f (task_at table path) refl
        there e (Some first) f =
            let has = is.kept path first f e in
            let g : task_at whole has.slot.path ≡ Some first = ap (task_at whole) has.is ∙ f in
            ap (task_at table) (sym has.is) ∙ are.tasks has.number has.slot has.there
            ∙ ap Some (task_is has.number has.slot has.there first g ∙ ap (λ p. gone_on whole now p first) has.is)

        by : (b : Bool) → has_ended whole path ≡ b → task_at table path ≡ task_at (live gone) path
        by true e = out e (task_at table path) refl ∙ sym (part_none (is_live gone) gone path (ap not (gone_ended path ∙ e)))
        by false e =
            there e (task_at whole path) refl ∙ sym (each_at (gone_on whole now) whole path) ∙ sym (part_at (is_live gone) gone path (ap not (gone_ended path ∙ e)))

    pub is_live_part : table ≡ live (on_each (gone_on whole now) whole)
    is_live_part = same_tables table (live gone) are.order (order_part (is_live gone) gone (order_each (gone_on whole now) whole is.order)) same_at
