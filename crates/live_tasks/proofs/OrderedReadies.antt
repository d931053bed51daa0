-- Numbers whose tasks rise by path, each compared with the next one; their jobs; and that they are listed.
use Rattle.std.proofs.Common.{◌≡◌, inl, inr, ℕ, zero, suc, ◌+◌, true, List, [], ◌∷◌, ◌++◌, length, get_or, Option, Some, None, is_some, refl, sym, ap, ◌∙◌, subst, arith, slice_get, append_assoc}
use Rattle.std.proofs.lemmas.Bool.{false≢true}
use Rattle.std.specs.List.{AllAdjacentBelow}
use Rattle.std.specs.Ordering.{is_lt}
use Rattle.std.specs.declared.cmp.Ordering.{Ordering}
use Rattle.std.specs.declared.cmp.Ordering.TheVariants.{Less, Equal, Greater}
use Rattle.aerie_base.specs.Paths.{path_cmp}
use Rattle.effect_cells.specs.declared.effects.CellState.{CellState}
use Rattle.run_data.specs.declared.jobs.Job.{Job}
use Rattle.run_data.specs.TableLaws.{above_all, path_itself}
use Rattle.run_data.specs.Tasks.{TaskPhase, anchored, ready, delayed, waiting, calling, over, Task, Table, job_if_ready, ready_jobs}
use Rattle.run_data.specs.laws.OrderedTables.{Above, IsOrderedTable}
use Rattle.run_data.specs.laws.ReadyTasks.{is_ready_phase}
use Rattle.live_tasks.specs.declared.slots.Slot.{Slot}
use Rattle.live_tasks.specs.Slots.{Slots, slot_at}
use Rattle.live_tasks.specs.Endings.{IsNumberAmong}
use Rattle.live_tasks.specs.Listing.{is_ready_slot, HaveNoRepeats, HaveAllReady, AreReadyAlone}
use Rattle.live_tasks.specs.Readies.{slot_entry, entries_at, is_slot_before, AreReadyNumbers}
use Rattle.live_tasks.proofs.ReadyTasks.{in_at}

pub less_is : (order : Ordering) → is_lt order ≡ true → order ≡ Less
less_is Less e = refl
less_is Equal e = absurd (false≢true e)
less_is Greater e = absurd (false≢true e)

module _ (slots : Slots) where
  -- ---- in order

  abbrev pub Before : ℕ → ℕ → Type 0
  Before number other = is_slot_before (slot_at slots number) (slot_at slots other) ≡ true

  one_rises : (found : Option Slot) → IsOrderedTable (slot_entry found [])
  one_rises None = tt
  one_rises (Some slot) = (tt, tt)

  head_rises : (found second : Option Slot) (rest : Table) → is_slot_before found second ≡ true → IsOrderedTable (slot_entry second rest) → IsOrderedTable (slot_entry found (slot_entry second rest))
  head_rises None second rest before rise = absurd (false≢true before)
  head_rises (Some slot) None rest before rise = absurd (false≢true before)
  head_rises (Some slot) (Some second) rest before rise =
      let less : path_cmp slot.path second.path ≡ Less = less_is (path_cmp slot.path second.path) before in
      ((less, above_all slot.path second.path rest less rise.0), rise)

  pub rising : (numbers : List ℕ) → AllAdjacentBelow Before numbers (length numbers) → IsOrderedTable (entries_at slots numbers)
  rising [] adjacent = tt
  rising (number ∷ []) adjacent = one_rises (slot_at slots number)
  rising (number ∷ other ∷ rest) adjacent =
      head_rises (slot_at slots number) (slot_at slots other) (entries_at slots rest) (adjacent 0 number (omega arith))
      (rising (other ∷ rest) (λ k d less. subst (λ n. Before (get_or (number ∷ other ∷ rest) (suc k) d) (get_or (number ∷ other ∷ rest) n d)) (next k) (adjacent (suc k) d (omega (arith, less)))))
    where
      next : (k : ℕ) → suc k + 1 ≡ suc (k + 1)
      next k = omega arith

  -- ---- listed

  pub above_at : (path : List ℕ) (table : Table) (place : ℕ) (other : List ℕ) (task : Task) → Above path table → slice_get table place ≡ Some (other, task) → path_cmp path other ≡ Less
  above_at path [] place other task above at = absurd (cc)
  above_at path (entry ∷ rest) zero other task above at = let k : entry ≡ (other, task) = cc in ap (λ (e : List ℕ × Task). path_cmp path e.0) (sym k) ∙ above.0
  above_at path (entry ∷ rest) (suc place) other task above at = above_at path rest place other task above.1 at

  module _ (all : List ℕ) (each : (number : ℕ) → IsNumberAmong number all → (slot : Slot) × (slot_at slots number ≡ Some slot) × (is_ready_phase slot.task.phase ≡ true)) where
    once : (numbers : List ℕ) → ((number : ℕ) → IsNumberAmong number numbers → IsNumberAmong number all) → IsOrderedTable (entries_at slots numbers) → HaveNoRepeats numbers
    once [] within rise = tt
    once (number ∷ rest) within rise = by (slot_at slots number) refl rise (λ order. once rest (λ n a. within n (inr a)) order)
      where
        by : (found : Option Slot) → slot_at slots number ≡ found → IsOrderedTable (slot_entry found (entries_at slots rest)) → (IsOrderedTable (entries_at slots rest) → HaveNoRepeats rest) → HaveNoRepeats (number ∷ rest)
        by None e order further = let one = each number (within number (inl refl)) in let f : Some one.0 ≡ None = sym one.1 ∙ e in absurd (cc)
        by (Some slot) e order further = (apart, further order.1)
          where
            apart : IsNumberAmong number rest → ⊥
            apart among =
                let found = in_at slots rest number slot among e in
                let less : path_cmp slot.path slot.path ≡ Less = above_at slot.path (entries_at slots rest) found.0 slot.path slot.task order.0 found.1 in
                let f : ◌≡◌ {A = Ordering} Less Equal = sym less ∙ path_itself slot.path in
                cc

  pub numbers_alone : (numbers : List ℕ) → AreReadyNumbers slots numbers → AreReadyAlone slots numbers
  numbers_alone numbers are number among = let one = are.each number among in ap is_ready_slot one.1 ∙ one.2

  pub numbers_all : (numbers : List ℕ) → AreReadyNumbers slots numbers → HaveAllReady slots numbers
  numbers_all numbers are = record {
    there = λ number among. ap is_some (are.each number among).1;
    all = λ number e. by number (slot_at slots number) refl e;
    once = once numbers are.each numbers (λ n a. a) are.sorted;
  }
    where
      by : (number : ℕ) (found : Option Slot) → slot_at slots number ≡ found → is_ready_slot (slot_at slots number) ≡ true → IsNumberAmong number numbers
      by number None e f = absurd (false≢true (ap is_ready_slot (sym e) ∙ f))
      by number (Some slot) e f = are.all number slot e (ap is_ready_slot (sym e) ∙ f)

  -- the numbers that are listed, where their paths rise
  pub listed_rise : (numbers : List ℕ) → HaveAllReady slots numbers → AreReadyAlone slots numbers → IsOrderedTable (entries_at slots numbers) → AreReadyNumbers slots numbers
  listed_rise numbers have alone rise = record {
    sorted = rise;
    each = λ number among. by number (slot_at slots number) refl (alone number among);
    all = λ number slot at e. have.all number (ap is_ready_slot at ∙ e);
  }
    where
      by : (number : ℕ) (found : Option Slot) → slot_at slots number ≡ found → is_ready_slot (slot_at slots number) ≡ true → (slot : Slot) × (slot_at slots number ≡ Some slot) × (is_ready_phase slot.task.phase ≡ true)
      by number None e f = absurd (false≢true (ap is_ready_slot (sym e) ∙ f))
      by number (Some slot) e f = (slot, e, ap is_ready_slot (sym e) ∙ f)

-- ---- their jobs

phase_split : (cells : List CellState) (path : List ℕ) (task : Task) (phase : TaskPhase) (rest : List (ℕ × Job)) →
    job_if_ready cells path task phase rest ≡ job_if_ready cells path task phase [] ++ rest
phase_split cells path task (ready state) rest = refl
phase_split cells path task (anchored to edge start state) rest = refl
phase_split cells path task (delayed until state) rest = refl
phase_split cells path task (waiting condition state) rest = refl
phase_split cells path task (calling child into state) rest = refl
phase_split cells path task (over result) rest = refl

jobs_split : (cells : List CellState) (found : Option Slot) (rest : Table) → ready_jobs cells (slot_entry found rest) ≡ ready_jobs cells (slot_entry found []) ++ ready_jobs cells rest
jobs_split cells None rest = refl
jobs_split cells (Some slot) rest = phase_split cells slot.path slot.task slot.task.phase (ready_jobs cells rest)

-- one more job behind some
pub jobs_next : (cells : List CellState) (slots : Slots) (jobs : List (ℕ × Job)) (number : ℕ) (rest : List ℕ) →
    (jobs ++ ready_jobs cells (slot_entry (slot_at slots number) [])) ++ ready_jobs cells (entries_at slots rest) ≡ jobs ++ ready_jobs cells (entries_at slots (number ∷ rest))
jobs_next cells slots jobs number rest =
    append_assoc jobs (ready_jobs cells (slot_entry (slot_at slots number) [])) (ready_jobs cells (entries_at slots rest))
    ∙ ap (λ all. jobs ++ all) (sym (jobs_split cells (slot_at slots number) (entries_at slots rest)))

pub nothing_behind : (jobs : List (ℕ × Job)) → jobs ++ [] ≡ jobs
nothing_behind [] = refl
nothing_behind (job ∷ rest) = ap (λ all. job ∷ all) (nothing_behind rest)
