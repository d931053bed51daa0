-- A task that has ended among live ones.
use Rattle.std.proofs.Common.{◌≡◌, ◌⊎◌, inl, inr, ℕ, ◌≤◌, Bool, true, false, not, nat_eq, List, Some, refl, sym, ap, ◌∙◌, arith, IsTrue}
use Rattle.std.proofs.lemmas.Bool.{false≢true}
use Rattle.aerie_base.specs.Paths.{is_prefix}
use Rattle.run_data.specs.TaskFrames.{Frame}
use Rattle.run_data.specs.Endings.{is_open, has_ended, result_of, result_of_phase}
use Rattle.run_data.specs.Tasks.{Task, Table, task_at}
use Rattle.run_data.specs.laws.EndedTasks.{open_is}
use Rattle.run_data.specs.laws.EndedTaskLaws.{open_stops, open_some, ended_by_open_bodies}
use Rattle.run_data.specs.laws.PathsUnder.{both_true, same_number, under_itself}
use Rattle.live_tasks.specs.declared.slots.Slot.{Slot}
use Rattle.live_tasks.specs.Slots.{Slots, slot_at, live_children_of, HasSlot}
use Rattle.live_tasks.specs.Endings.{slot_has_ended, IsOf, IsEnding}
use Rattle.live_tasks.proofs.Counts.{child_counts}
use Rattle.live_tasks.proofs.Forests.{below_child}
use Rattle.live_tasks.proofs.Going.{same_open, same_result}

not_true : (b : Bool) → not b ≡ true → b ≡ false
not_true true e = absurd (cc)
not_true false e = refl

module _ (now : ℕ) (whole : Table) (frames : List Frame) (todo : List ℕ) (old : Slots) (number : ℕ) (slot : Slot) (here : slot_at old number ≡ Some slot) (done : slot_has_ended (Some slot) ≡ true)
    (is : IsEnding now whole frames todo old) where
  fit : (not (is_open slot.task.phase) ≡ true) × (nat_eq slot.live_below 0 ≡ true)
  fit = both_true (not (is_open slot.task.phase)) (nat_eq slot.live_below 0) done

  closed : is_open slot.task.phase ≡ false
  closed = not_true (is_open slot.task.phase) fit.0

  pub none_below : live_children_of number old ≡ 0
  none_below = sym (is.forest.counts number slot here) ∙ same_number slot.live_below 0 fit.1

  pub no_child : (other : ℕ) (second : Slot) → slot_at old other ≡ Some second → second.parent ≡ Some number → ⊥
  no_child other second at e = let c = child_counts number old other second at e in absurd (omega (arith, c, none_below))

  pub not_live : has_ended whole slot.path ≡ false → ⊥
  not_live live = by (below_child old is.forest number slot here found.number found.slot found.there (ap (is_prefix slot.path) found.is ∙ any.2))
    where
      any : (other : List ℕ) × IsTrue (open_is (task_at whole other)) × IsTrue (is_prefix slot.path other)
      any = (ended_by_open_bodies whole slot.path is.order).0 live

      v : (task : Task) × (task_at whole any.0 ≡ Some task) × (is_open task.phase ≡ true)
      v = open_some any.0 (task_at whole any.0) any.1

      found : HasSlot old any.0
      found = is.kept any.0 v.0 v.1 (open_stops any.0 any.0 v.0 (under_itself any.0) v.2 whole v.1)

      of : IsOf now whole found.slot
      of = is.tasks found.number found.slot found.there

      opened : is_open found.slot.task.phase ≡ true
      opened =
          let e : Some of.first ≡ Some v.0 = sym of.there ∙ ap (task_at whole) found.is ∙ v.1 in
          let t : of.first ≡ v.0 = cc in
          same_open whole now found.slot.path found.slot.task of.first of.same ∙ ap (λ (t : Task). is_open t.phase) t ∙ v.2

      by : (number ≡ found.number) ⊎ (1 ≤ live_children_of number old) → ⊥
      by (inl same) =
          let e : Some slot ≡ Some found.slot = sym here ∙ ap (slot_at old) same ∙ found.there in
          let s : slot ≡ found.slot = cc in
          false≢true (sym closed ∙ ap (λ (s : Slot). is_open s.task.phase) s ∙ opened)
      by (inr c) = omega (arith, c, none_below)

  pub has_done : has_ended whole slot.path ≡ true
  has_done = by (has_ended whole slot.path) refl
    where
      by : (b : Bool) → has_ended whole slot.path ≡ b → b ≡ true
      by true e = refl
      by false e = absurd (not_live e)

  pub result_is : result_of (task_at whole slot.path) ≡ result_of_phase slot.task.phase
  result_is = let of = is.tasks number slot here in ap result_of of.there ∙ sym (same_result whole now slot.path slot.task of.first of.same)
