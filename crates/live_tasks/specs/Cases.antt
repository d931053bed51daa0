-- Worked cases: two directives, of which the second waits for the end of the first, and a child that the first calls.
use Rattle.std.specs.Prelude.{◌≡◌, ℕ, true, false, List, [], ◌∷◌, Option, Some, None, refl}
use Rattle.aerie_base.specs.declared.plans.Edge.TheVariants.{Start, End}
use Rattle.aerie_base.specs.Paths.{root, child_path}
use Rattle.run_data.specs.declared.tasks.TaskState.{TaskState}
use Rattle.run_data.specs.Tasks.{TaskPhase, anchored, ready, delayed, calling, over}
use Rattle.live_tasks.specs.declared.slots.Slot.{Slot}
use Rattle.live_tasks.specs.Phases.{phase_with_return, phase_when_due}
use Rattle.live_tasks.specs.Slots.{Slots, live_children_of, table_of}
use Rattle.live_tasks.specs.Endings.{slot_has_ended, slot_after_child_end}
use Rattle.live_tasks.specs.Listing.{ready_among}

module _ (state : TaskState) where
  abbrev pub slot_of : List ℕ → TaskPhase → Option ℕ → ℕ → Slot
  slot_of path phase parent live_below =
      record { path = path; task = record { phase = phase; made = 0; begun = true }; parent = parent; own = 0; live_below = live_below }

  -- the caller, which has one live child; the number 1 is free; the child; the follower
  abbrev pub three_slots : Slots
  three_slots =
      Some (slot_of (root 1) (calling 0 None state) None 1) ∷ None ∷ Some (slot_of (child_path (root 1) 0) (ready state) (Some 0) 0)
      ∷ Some (slot_of (root 0) (anchored 1 End 5 state) None 0) ∷ []

  pub the_caller_has_one_child : live_children_of 0 three_slots ≡ 1
  the_caller_has_one_child = refl

  pub the_child_has_none : live_children_of 2 three_slots ≡ 0
  the_child_has_none = refl

  pub only_the_child_is_ready : ready_among three_slots (0 ∷ 1 ∷ 2 ∷ 3 ∷ []) ≡ 2 ∷ []
  only_the_child_is_ready = refl

  pub the_table_is_in_order_of_path :
      table_of three_slots ≡
      (root 0, record { phase = anchored 1 End 5 state; made = 0; begun = true }) ∷ (root 1, record { phase = calling 0 None state; made = 0; begun = true })
      ∷ (child_path (root 1) 0, record { phase = ready state; made = 0; begun = true }) ∷ []
  the_table_is_in_order_of_path = refl

  -- ---- the child ends

  pub the_caller_goes_on : slot_after_child_end 0 None (slot_of (root 1) (calling 0 None state) None 1) ≡ slot_of (root 1) (ready state) None 0
  the_caller_goes_on = refl

  pub for_another_child_it_waits_on : phase_with_return 1 None (calling 0 None state) ≡ calling 0 None state
  for_another_child_it_waits_on = refl

  -- ---- the caller ends

  pub over_with_a_live_child_it_has_not_ended : slot_has_ended (Some (slot_of (root 1) (over None) None 1)) ≡ false
  over_with_a_live_child_it_has_not_ended = refl

  pub over_without_one_it_has : slot_has_ended (Some (slot_of (root 1) (over None) None 0)) ≡ true
  over_without_one_it_has = refl

  pub the_follower_is_due : phase_when_due 10 1 End (anchored 1 End 5 state) ≡ delayed 15 state
  the_follower_is_due = refl

  pub at_once_without_a_delay : phase_when_due 10 1 End (anchored 1 End 0 state) ≡ ready state
  at_once_without_a_delay = refl

  pub not_by_another_edge : phase_when_due 10 1 Start (anchored 1 End 5 state) ≡ anchored 1 End 5 state
  not_by_another_edge = refl
