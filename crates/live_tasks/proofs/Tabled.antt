-- The tasks of a forest are those of a table.
use Rattle.std.proofs.Common.{◌≡◌, ◌≢◌, ◌⊎◌, inl, inr, ℕ, zero, suc, List, [], ◌∷◌, Option, Some, None, refl, sym, ◌∙◌, subst}
use Rattle.run_data.specs.Tasks.{Task, task_at}
use Rattle.run_data.specs.NumberLaws.{in_order_sorted}
use Rattle.live_tasks.specs.declared.slots.Slot.{Slot}
use Rattle.live_tasks.specs.Slots.{Slots, slot_at, IsForest, HasSlot, AreTable, slot_entries, table_of}
use Rattle.live_tasks.proofs.Taking.{put_here, put_there, path_or_not}

abbrev Apart : Slots → Type 0
Apart slots = (number other : ℕ) (slot second : Slot) → slot_at slots number ≡ Some slot → slot_at slots other ≡ Some second → slot.path ≡ second.path → number ≡ other

rest_apart : (found : Option Slot) (rest : Slots) → Apart (found ∷ rest) → Apart rest
rest_apart found rest apart n m s t at again same = let k : suc n ≡ suc m = apart (suc n) (suc m) s t at again same in cc

tasks_at : (slots : Slots) → Apart slots → (number : ℕ) (slot : Slot) → slot_at slots number ≡ Some slot → task_at (table_of slots) slot.path ≡ Some slot.task
tasks_at [] apart number slot at = absurd (cc)
tasks_at (None ∷ rest) apart zero slot at = absurd (cc)
tasks_at (None ∷ rest) apart (suc number) slot at = tasks_at rest (rest_apart None rest apart) number slot at
tasks_at (Some one ∷ rest) apart zero slot at =
    let k : one ≡ slot = cc in
    subst (λ (s : Slot). task_at (table_of (Some one ∷ rest)) s.path ≡ Some s.task) k (put_here (table_of rest) one.path one.task)
tasks_at (Some one ∷ rest) apart (suc number) slot at =
    put_there (table_of rest) one.path slot.path one.task (λ e. let k : suc number ≡ zero = apart (suc number) zero slot one at refl e in cc)
    ∙ tasks_at rest (rest_apart (Some one) rest apart) number slot at

each_at : (slots : Slots) (path : List ℕ) (task : Task) → task_at (table_of slots) path ≡ Some task → HasSlot slots path
each_at [] path task at = absurd (cc)
each_at (None ∷ rest) path task at =
    let found = each_at rest path task at in record { number = suc found.number; slot = found.slot; there = found.there; is = found.is }
each_at (Some one ∷ rest) path task at = by (path_or_not path one.path) (λ e. each_at rest path task e)
  where
    by : (path ≡ one.path) ⊎ (path ≢ one.path) → (task_at (table_of rest) path ≡ Some task → HasSlot rest path) → HasSlot (Some one ∷ rest) path
    by (inl e) further = record { number = 0; slot = one; there = refl; is = sym e }
    by (inr apart) further =
        let found = further (sym (put_there (table_of rest) one.path path one.task apart) ∙ at) in
        record { number = suc found.number; slot = found.slot; there = found.there; is = found.is }

pub are_table : (slots : Slots) → IsForest slots → AreTable slots (table_of slots)
are_table slots forest = record {
  order = in_order_sorted (slot_entries slots);
  tasks = tasks_at slots forest.distinct;
  each = each_at slots;
}
