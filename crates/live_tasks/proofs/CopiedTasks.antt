-- What is copied is as right as what it was copied from.
use Rattle.std.proofs.Common.{◌≡◌, ℕ, List, [], ◌∷◌, length, Option, Some, None, is_some, refl, sym, ap, ◌∙◌, subst}
use Rattle.std.specs.BTreeSet as set
use Rattle.std.specs.BTreeSet.{BTreeSet}
use Rattle.std.specs.List.{AllZip}
use Rattle.slab.specs.Slab.{IsSlotClone}
use Rattle.effect_cells.specs.ReadCells.{reads_cell}
use Rattle.live_tasks.specs.declared.followers.Follower.{Follower}
use Rattle.live_tasks.specs.declared.slots.Slot.{Slot}
use Rattle.live_tasks.specs.declared.tasks.LiveTasks.{LiveTasks}
use Rattle.live_tasks.specs.declared.wake_times.Wait.{Wait}
use Rattle.live_tasks.specs.declared.wake_times.Watcher.{Watcher}
use Rattle.live_tasks.specs.declared.waits.Waits.{Waits}
use Rattle.live_tasks.specs.Endings.{IsNumberAmong, AreLive}
use Rattle.live_tasks.specs.Followers.{AreFollowers}
use Rattle.live_tasks.specs.InStep.{slots_in, IsInStep}
use Rattle.live_tasks.specs.ListedSlots.{ListsExactly}
use Rattle.live_tasks.specs.Listing.{DelayEnd, has_delay, ends_at, HaveAllReady, AreReadyAlone, IsDelayHeap, AreDelays, AreOnlyListed}
use Rattle.live_tasks.specs.Slots.{Slots, table_of}
use Rattle.live_tasks.specs.WakeTimes.{numbered_wait, kept_time, is_stale, wake_cmp, has_wake}
use Rattle.live_tasks.specs.Waits.{watcher_of, KeepsRight}
use Rattle.live_tasks.specs.Watchers.{Watches}

-- ---- slots

same_slot : (found copy : Option Slot) → IsSlotClone (λ (slot copied : Slot). copied ≡ slot) found copy → copy ≡ found
same_slot None copy e = e
same_slot (Some slot) None never = absurd never
same_slot (Some slot) (Some copied) e = ap Some e

pub same_slots : (slots copy : Slots) → AllZip (IsSlotClone (λ (slot copied : Slot). copied ≡ slot)) slots copy → copy ≡ slots
same_slots [] [] e = refl
same_slots [] (one ∷ copy) never = absurd never
same_slots (found ∷ rest) [] never = absurd never
same_slots (found ∷ rest) (one ∷ copy) e = λ i. same_slot found one e.0 i ∷ same_slots rest copy e.1 i

-- ---- lists

pub copied_listed : (slots new : Slots) (readies more : List ℕ) (ends after : List DelayEnd) → new ≡ slots → more ≡ readies → ((time number : ℕ) → has_delay after time number ≡ has_delay ends time number) →
    (IsDelayHeap ends → IsDelayHeap after) → AreOnlyListed slots readies ends → AreOnlyListed new more after
copied_listed slots new readies more ends after same again delays heap listed = record {
  all = record {
    readies_ = subst (λ s. HaveAllReady s more) (sym same) (subst (HaveAllReady slots) (sym again) listed.all.readies_);
    delays_ = subst (λ s. AreDelays s after) (sym same) (record { heap = heap listed.all.delays_.heap; exact = λ time number. delays time number ∙ listed.all.delays_.exact time number });
  };
  alone = subst (λ s. AreReadyAlone s more) (sym same) (subst (AreReadyAlone slots) (sym again) listed.alone);
}

-- ---- waits

pub copied_waits : (old new : Waits) → new.times.by_number.items ≡ old.times.by_number.items → new.times.wakes ≡ old.times.wakes → new.times.stale.items ≡ old.times.stale.items →
    new.watchers ≡ old.watchers → KeepsRight old new
copied_waits old new numbers wakes stale watchers now horizon cells conditions kept = record {
  times = record {
    sorted = subst (λ (w : BTreeSet (ℕ × ℕ)). set.IsOrdered wake_cmp w) (sym wakes) kept.times.sorted;
    exact = λ t n. ap (λ (w : BTreeSet (ℕ × ℕ)). has_wake w t n) wakes ∙ kept.times.exact t n ∙ ap (λ (items : List (Option Wait)). ends_at t (kept_time (numbered_wait items n))) (sym numbers);
    stale_ = λ n e.
        subst (λ (items : List ℕ). IsNumberAmong n items) (sym stale) (kept.times.stale_ n (ap (λ (items : List (Option Wait)). is_stale (numbered_wait items n)) (sym numbers) ∙ e));
  };
  who = λ n. ap (λ (items : List (Option Wait)). is_some (numbered_wait items n)) numbers ∙ kept.who n;
  right = λ n e.
      ap (λ (items : List (Option Wait)). kept_time (numbered_wait items n)) numbers
      ∙ kept.right n (ap (λ (items : List (Option Wait)). is_stale (numbered_wait items n)) (sym numbers) ∙ e);
  watched = λ n wait condition at e.
      subst (λ (all : List (List Watcher)). Watches (reads_cell condition) (watcher_of n wait) all) (sym watchers)
      (kept.watched n wait condition (ap (λ (items : List (Option Wait)). numbered_wait items n) (sym numbers) ∙ at) e);
  by_cell = ap (λ (all : List (List Watcher)). length all) watchers ∙ kept.by_cell;
}

-- ---- all of it

pub copied_in_step : (old new : LiveTasks) → slots_in new ≡ slots_in old → new.followers.items ≡ old.followers.items → ListsExactly new.tables → IsInStep old → IsInStep new
copied_in_step old new same again listed in_step = record {
  live_ = subst (λ (s : Slots). AreLive (table_of s) s) (sym same) in_step.live_;
  followers_ = subst (λ (s : Slots). AreFollowers s new.followers.items) (sym same) (subst (λ (f : List Follower). AreFollowers (slots_in old) f) (sym again) in_step.followers_);
  listed = listed;
}
