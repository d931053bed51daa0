-- Who is anchored to which directive: numbers of tasks in order of the ids of directives.
use Rattle.std.specs.Prelude.{◌≡◌, ◌⊎◌, ℕ, ◌≤◌, List, [], ◌∷◌, Some, length}
use Rattle.std.specs.List.{AllWithin}
use Rattle.std.specs.List.Sorted.{IsNonDecreasingBy}
use Rattle.aerie_base.specs.declared.plans.Edge.{Edge}
use Rattle.run_data.specs.declared.tasks.TaskState.{TaskState}
use Rattle.run_data.specs.Tasks.{anchored}
use Rattle.live_tasks.specs.declared.followers.Follower.{Follower}
use Rattle.live_tasks.specs.declared.slots.Slot.{Slot}
use Rattle.live_tasks.specs.Slots.{Slots, slot_at}

-- a number is among those that follow the directive with an id
abbrev pub Follows : ℕ → ℕ → List Follower → Type 0
Follows number to [] = ⊥
Follows number to (first ∷ rest) = ((first.to ≡ to) × (first.number ≡ number)) ⊎ Follows number to rest

-- followers are in order of the ids
abbrev pub AreById : List Follower → Type 0
AreById followers = IsNonDecreasingBy (λ (follower : Follower). follower.to) followers

-- each that is anchored is among the followers
pub record AreFollowers (slots : Slots) (followers : List Follower) : Type 0 where
  pub by_id : AreById followers
  pub all : (number : ℕ) (slot : Slot) → slot_at slots number ≡ Some slot → (to : ℕ) (edge : Edge) (start : ℕ) (state : TaskState) →
      slot.task.phase ≡ anchored to edge start state → Follows number to followers

-- each that is anchored to one directive is among the followers, none of whom follows one with an id below
pub record AreFollowersOf (to : ℕ) (slots : Slots) (followers : List Follower) : Type 0 where
  pub by_id : AreById followers
  pub from : AllWithin (λ (follower : Follower). to ≤ follower.to) followers 0 (length followers)
  pub all : (number : ℕ) (slot : Slot) → slot_at slots number ≡ Some slot → (edge : Edge) (start : ℕ) (state : TaskState) →
      slot.task.phase ≡ anchored to edge start state → Follows number to followers
