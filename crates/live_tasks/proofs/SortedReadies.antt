-- The ready tasks put in order of path.
use Rattle.std.proofs.Common.{◌≡◌, ◌≢◌, ◌⊎◌, inl, inr, ℕ, suc, ◌<◌, ◌≤◌, nat_eq, Bool, true, false, List, [], ◌∷◌, length, get_or, Option, Some, None, refl, sym, ap, ◌∙◌, subst, arith}
use Rattle.std.proofs.lemmas.Bool.{false≢true}
use Rattle.std.proofs.lemmas.Bool.Decides.{nat_tests}
use Rattle.std.proofs.lemmas.List.Sorted.{ranks_by, sorted_far, IsPermutation-sym, All-permutation}
use Rattle.std.proofs.lemmas.List.Elements.{All-from_recursion, recursion_from_All}
use Rattle.std.proofs.lemmas.Map.Keys.{IsDistinct-IsPermutation}
use Rattle.std.proofs.lemmas.Map.Lookups.{exact_bytes}
use Rattle.std.specs.Cmp.{IsStrictWeakOrder}
use Rattle.std.specs.Cmp.Lexicographic.{nat_list_cmp_total}
use Rattle.std.specs.List.{AllByRecursion, IsDistinct}
use Rattle.std.specs.List.Sorted.{IsPermutation}
use Rattle.std.specs.Ordering.{is_lt}
use Rattle.std.specs.declared.cmp.Ordering.{Ordering}
use Rattle.std.specs.declared.cmp.Ordering.TheVariants.{Less, Equal, Greater}
use Rattle.aerie_base.specs.Paths.{path_cmp}
use Rattle.run_data.specs.TableLaws.{reversed}
use Rattle.run_data.specs.laws.OrderedTables.{Above, IsOrderedTable}
use Rattle.run_data.specs.laws.ReadyTasks.{is_ready_phase}
use Rattle.live_tasks.specs.declared.readies.ReadyTask.{ReadyTask}
use Rattle.live_tasks.specs.declared.slots.Slot.{Slot}
use Rattle.live_tasks.specs.Slots.{Slots, slot_at, IsForest}
use Rattle.live_tasks.specs.Endings.{IsNumberAmong}
use Rattle.live_tasks.specs.Sorting.{precedes, RiseByPath}
use Rattle.live_tasks.specs.Readies.{slot_entry, entries_at, with_ready, ready_tasks, numbers_of_tasks, HasItsPath, AreReadyTasks}
use Rattle.live_tasks.specs.Listing.{is_ready_slot, HaveNoRepeats}
use Rattle.live_tasks.proofs.Forests.{same_or_not}

abbrev same_number : ReadyTask → ReadyTask → Bool
same_number one other = nat_eq one.number other.number

flips : (one other : ReadyTask) → same_number one other ≡ same_number other one
flips one other = let m = one.number in let n = other.number in grind (arith, nat_tests)

module _ (slots : Slots) where
  -- ---- as they are listed

  abbrev AreReady : List ℕ → Type 0
  AreReady numbers = (number : ℕ) → IsNumberAmong number numbers → is_ready_slot (slot_at slots number) ≡ true

  pub have_paths : (numbers : List ℕ) → AreReady numbers → AllByRecursion (HasItsPath slots) (ready_tasks slots numbers)
  have_paths [] ready = tt
  have_paths (number ∷ rest) ready = by (slot_at slots number) refl (ready number (inl refl)) (have_paths rest (λ n a. ready n (inr a)))
    where
      by : (found : Option Slot) → slot_at slots number ≡ found → is_ready_slot (slot_at slots number) ≡ true → AllByRecursion (HasItsPath slots) (ready_tasks slots rest) →
          AllByRecursion (HasItsPath slots) (with_ready number found (ready_tasks slots rest))
      by None e f further = further
      by (Some slot) e f further = ((slot, e, refl, ap is_ready_slot (sym e) ∙ f), further)

  pub same_numbers : (numbers : List ℕ) → AreReady numbers → numbers_of_tasks (ready_tasks slots numbers) ≡ numbers
  same_numbers [] ready = refl
  same_numbers (number ∷ rest) ready = by (slot_at slots number) refl (ready number (inl refl)) (same_numbers rest (λ n a. ready n (inr a)))
    where
      by : (found : Option Slot) → slot_at slots number ≡ found → is_ready_slot (slot_at slots number) ≡ true → numbers_of_tasks (ready_tasks slots rest) ≡ rest →
          numbers_of_tasks (with_ready number found (ready_tasks slots rest)) ≡ number ∷ rest
      by None e f further = absurd (false≢true (ap is_ready_slot (sym e) ∙ f))
      by (Some slot) e f further = ap (λ all. number ∷ all) further

-- ---- numbers that come once

apart_from : (one : ReadyTask) (rest : List ReadyTask) → (IsNumberAmong one.number (numbers_of_tasks rest) → ⊥) → AllByRecursion (λ other. same_number one other ≡ false) rest
apart_from one [] apart = tt
apart_from one (other ∷ rest) apart = (by (same_or_not one.number other.number), apart_from one rest (λ a. apart (inr a)))
  where
    by : (one.number ≡ other.number) ⊎ (one.number ≢ other.number) → same_number one other ≡ false
    by (inl e) = absurd (apart (inl e))
    by (inr e) = let m = one.number in let n = other.number in grind (arith, nat_tests)

distinct_from : (ready : List ReadyTask) → HaveNoRepeats (numbers_of_tasks ready) → IsDistinct same_number ready
unfolding IsDistinct
distinct_from [] once = tt
distinct_from (one ∷ rest) once = (apart_from one rest once.0, distinct_from rest once.1)

among_itself : (all ready : List ReadyTask) → ((number : ℕ) → IsNumberAmong number (numbers_of_tasks ready) → IsNumberAmong number (numbers_of_tasks all)) → AllByRecursion (λ one. IsNumberAmong one.number (numbers_of_tasks all)) ready
among_itself all [] within = tt
among_itself all (one ∷ rest) within = (within one.number (inl refl), among_itself all rest (λ n a. within n (inr a)))

among_all : (all ready : List ReadyTask) → AllByRecursion (λ one. IsNumberAmong one.number (numbers_of_tasks all)) ready → (number : ℕ) → IsNumberAmong number (numbers_of_tasks ready) → IsNumberAmong number (numbers_of_tasks all)
among_all all [] each number never = absurd never
among_all all (one ∷ rest) each number (inl e) = subst (λ n. IsNumberAmong n (numbers_of_tasks all)) (sym e) each.0
among_all all (one ∷ rest) each number (inr a) = among_all all rest each.1 number a

-- ---- in order

order : IsStrictWeakOrder precedes
order = ranks_by nat_list_cmp_total (λ (one : ReadyTask). one.path)

each_from : (P : ReadyTask → Type 0) (ready : List ReadyTask) → ((j : ℕ) (d : ReadyTask) → j < length ready → P (get_or ready j d)) → AllByRecursion P ready
each_from P [] h = tt
each_from P (one ∷ rest) h = (h 0 one (omega arith), each_from P rest (λ j d less. h (suc j) d (omega (arith, less))))

abbrev AreInOrder : List ReadyTask → Type 0
AreInOrder [] = Unit {0}
AreInOrder (one ∷ rest) = AllByRecursion (λ other. precedes other one ≡ false) rest × AreInOrder rest

in_order_from : (ready : List ReadyTask) → ((i j : ℕ) (d : ReadyTask) → i ≤ j → j < length ready → precedes (get_or ready j d) (get_or ready i d) ≡ false) → AreInOrder ready
in_order_from [] h = tt
in_order_from (one ∷ rest) h = (
  each_from (λ other. precedes other one ≡ false) rest (λ j d less. h 0 (suc j) d (omega arith) (omega (arith, less))),
  in_order_from rest (λ i j d most less. h (suc i) (suc j) d (omega (arith, most)) (omega (arith, less))),
)

pub strictly : (p q : List ℕ) → is_lt (path_cmp q p) ≡ false → (p ≡ q → ⊥) → path_cmp p q ≡ Less
strictly p q not_less apart = by (path_cmp p q) refl
  where
    by : (o : Ordering) → path_cmp p q ≡ o → path_cmp p q ≡ Less
    by Less e = e
    by Equal e = absurd (apart (exact_bytes p q e))
    by Greater e = absurd (false≢true (sym not_less ∙ ap is_lt (reversed p q Greater e)))

module _ (slots : Slots) (forest : IsForest slots) where
  above_rest : (one : ReadyTask) (rest : List ReadyTask) → HasItsPath slots one → AllByRecursion (HasItsPath slots) rest → AllByRecursion (λ other. precedes other one ≡ false) rest →
      AllByRecursion (λ other. same_number one other ≡ false) rest → Above one.path (entries_at slots (numbers_of_tasks rest))
  above_rest one [] its paths ordered distinct = tt
  above_rest one (other ∷ rest) its paths ordered distinct = by (slot_at slots other.number) (paths.0.1) (above_rest one rest its paths.1 ordered.1 distinct.1)
    where
      apart : one.path ≡ other.path → ⊥
      apart e =
          let same = forest.distinct one.number other.number its.0 paths.0.0 its.1 paths.0.1 (its.2 ∙ e ∙ sym paths.0.2) in
          let k : nat_eq one.number other.number ≡ true = grind (arith, nat_tests) in false≢true (sym distinct.0 ∙ k)

      by : (found : Option Slot) → found ≡ Some paths.0.0 → Above one.path (entries_at slots (numbers_of_tasks rest)) → Above one.path (slot_entry found (entries_at slots (numbers_of_tasks rest)))
      by None e further = absurd (cc)
      by (Some slot) e further =
          let k : slot ≡ paths.0.0 = cc in
          (strictly one.path slot.path (ap (λ p. is_lt (path_cmp p one.path)) (ap (λ (s : Slot). s.path) k ∙ paths.0.2) ∙ ordered.0) (λ f. apart (f ∙ ap (λ (s : Slot). s.path) k ∙ paths.0.2)), further)

  rises : (ready : List ReadyTask) → AllByRecursion (HasItsPath slots) ready → AreInOrder ready → IsDistinct same_number ready → IsOrderedTable (entries_at slots (numbers_of_tasks ready))
  unfolding IsDistinct
  rises [] paths ordered distinct = tt
  rises (one ∷ rest) paths ordered distinct = by (slot_at slots one.number) paths.0.1 (above_rest one rest paths.0 paths.1 ordered.0 distinct.0) (rises rest paths.1 ordered.1 distinct.1)
    where
      by : (found : Option Slot) → found ≡ Some paths.0.0 → Above one.path (entries_at slots (numbers_of_tasks rest)) → IsOrderedTable (entries_at slots (numbers_of_tasks rest)) →
          IsOrderedTable (slot_entry found (entries_at slots (numbers_of_tasks rest)))
      by None e above further = further
      by (Some slot) e above further =
          let k : slot ≡ paths.0.0 = cc in (subst (λ p. Above p (entries_at slots (numbers_of_tasks rest))) (sym (ap (λ (s : Slot). s.path) k ∙ paths.0.2)) above, further)

  each_ready : (ready : List ReadyTask) → AllByRecursion (HasItsPath slots) ready → (number : ℕ) → IsNumberAmong number (numbers_of_tasks ready) → (slot : Slot) × (slot_at slots number ≡ Some slot) × (is_ready_phase slot.task.phase ≡ true)
  each_ready [] paths number never = absurd never
  each_ready (one ∷ rest) paths number (inl e) = (paths.0.0, ap (slot_at slots) e ∙ paths.0.1, paths.0.3)
  each_ready (one ∷ rest) paths number (inr a) = each_ready rest paths.1 number a

  pub sorted_ready : (readies : List ℕ) (listed : (number : ℕ) → is_ready_slot (slot_at slots number) ≡ true → IsNumberAmong number readies) → HaveNoRepeats readies → AreReady slots readies → (sorted : List ReadyTask) →
      IsPermutation (ready_tasks slots readies) sorted → RiseByPath sorted → AreReadyTasks slots sorted
  sorted_ready readies listed once ready sorted permuted rise = record {
    numbers = record {
      sorted = rises sorted paths (in_order_from sorted (sorted_far precedes order sorted rise)) distinct;
      each = each_ready sorted paths;
      all = λ number slot at e. among_all sorted (ready_tasks slots readies) within number (subst (IsNumberAmong number) (sym same) (listed number (ap is_ready_slot at ∙ e)));
    };
    paths = paths;
  }
    where
      same : numbers_of_tasks (ready_tasks slots readies) ≡ readies
      same = same_numbers slots readies ready

      paths : AllByRecursion (HasItsPath slots) sorted
      paths = recursion_from_All (HasItsPath slots) sorted (All-permutation (HasItsPath slots) (ready_tasks slots readies) sorted permuted (All-from_recursion (HasItsPath slots) (ready_tasks slots readies) (have_paths slots readies ready)))

      distinct : IsDistinct same_number sorted
      distinct = IsDistinct-IsPermutation same_number flips (ready_tasks slots readies) sorted permuted (distinct_from (ready_tasks slots readies) (subst HaveNoRepeats (sym same) once))

      within : AllByRecursion (λ one. IsNumberAmong one.number (numbers_of_tasks sorted)) (ready_tasks slots readies)
      within =
          recursion_from_All (λ (one : ReadyTask). IsNumberAmong one.number (numbers_of_tasks sorted)) (ready_tasks slots readies)
          (All-permutation (λ (one : ReadyTask). IsNumberAmong one.number (numbers_of_tasks sorted)) sorted (ready_tasks slots readies) (IsPermutation-sym (ready_tasks slots readies) sorted permuted) (All-from_recursion (λ (one : ReadyTask). IsNumberAmong one.number (numbers_of_tasks sorted)) sorted (among_itself sorted sorted (λ n a. a))))

-- ---- whether there is one

pub none_or_first : (slots : Slots) (readies : List ℕ) → AreReady slots readies → (readies ≡ [] → ⊥) → (number : ℕ) × (is_ready_slot (slot_at slots number) ≡ true)
none_or_first slots [] ready some = absurd (some refl)
none_or_first slots (number ∷ rest) ready some = (number, ready number (inl refl))

pub none_ready : (slots : Slots) (readies : List ℕ) → ((number : ℕ) → is_ready_slot (slot_at slots number) ≡ true → IsNumberAmong number readies) → readies ≡ [] →
    (number : ℕ) → is_ready_slot (slot_at slots number) ≡ false
none_ready slots readies all none number = by (is_ready_slot (slot_at slots number)) refl
  where
    by : (b : Bool) → is_ready_slot (slot_at slots number) ≡ b → b ≡ false
    by false e = refl
    by true e = absurd (subst (IsNumberAmong number) none (all number e))

pub no_length : (readies : List ℕ) → length readies ≡ 0 → readies ≡ []
no_length [] e = refl
no_length (first ∷ rest) e = absurd (omega (arith, e))
