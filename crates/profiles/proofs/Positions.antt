-- Positions that cover instants: those of one cell, those of several.
use Rattle.std.proofs.Common.{◌≡◌, ◌⊎◌, inl, inr, ℕ, zero, suc, ◌+◌, ◌<◌, ◌≤◌, true, false, cond, List, [], ◌∷◌, length, drop, get_or, Option, Some, None, is_some, nat_eq, nat_lt, slice_get, refl, sym, ap, subst, ◌∙◌, arith, add-one, drop-cons}
use Rattle.std.proofs.lemmas.Bool.Decides.{nat_tests}
use Rattle.effect_cells.specs.declared.effects.CellState.{CellState}
use Rattle.run_data.specs.declared.runs.Instant.{Instant}
use Rattle.profiles.specs.States.{changed_state}
use Rattle.profiles.specs.Touches.{CoversTouches, IsUntouched, merge, positions_behind_first, touching_from}
use Rattle.profiles.proofs.Walks.{cut_at}

module _ (On : ℕ → Type 0) where
  pub covers_from : (at : ℕ) (instants : List Instant) (position : ℕ) (positions : List ℕ) → CoversTouches On at instants (position ∷ positions) → at ≤ position
  covers_from at [] position positions covers = absurd covers
  covers_from at (instant ∷ rest) position positions (inl here) = let same = here.0 in omega (arith, same)
  covers_from at (instant ∷ rest) position positions (inr beyond) = let above = beyond.0 in omega (arith, above)

  pub covers_skip : (at : ℕ) (instant : Instant) (rest : List Instant) (positions : List ℕ) → IsUntouched On instant → CoversTouches On (suc at) rest positions → CoversTouches On at (instant ∷ rest) positions
  covers_skip at instant rest [] untouched covers = (untouched, covers)
  covers_skip at instant rest (position ∷ positions) untouched covers =
      let from = covers_from (suc at) rest position positions covers in inr (omega (arith, from), untouched, covers)

pub covers_less : (On Less : ℕ → Type 0) → ((k : ℕ) → Less k → On k) → (at : ℕ) (instants : List Instant) (positions : List ℕ) → CoversTouches On at instants positions → CoversTouches Less at instants positions
covers_less On Less less at [] [] covers = tt
covers_less On Less less at [] (position ∷ positions) covers = absurd covers
covers_less On Less less at (instant ∷ rest) [] covers = ((λ k is. covers.0 k (less k is)), covers_less On Less less (suc at) rest [] covers.1)
covers_less On Less less at (instant ∷ rest) (position ∷ positions) (inl here) = inl (here.0, covers_less On Less less (suc at) rest positions here.1)
covers_less On Less less at (instant ∷ rest) (position ∷ positions) (inr beyond) =
    inr (beyond.0, (λ k is. beyond.1 k (less k is)), covers_less On Less less (suc at) rest (position ∷ positions) beyond.2)

-- ---- one cell

pub covers_touching : (cell at : ℕ) (instants : List Instant) → CoversTouches (λ k. k ≡ cell) at instants (touching_from cell at instants)
covers_touching cell at [] = tt
covers_touching cell at (instant ∷ rest) = by (changed_state instant.changed cell) refl (covers_touching cell (suc at) rest)
  where
    by : (o : Option CellState) → changed_state instant.changed cell ≡ o → CoversTouches (λ k. k ≡ cell) (suc at) rest (touching_from cell (suc at) rest) →
        CoversTouches (λ k. k ≡ cell) at (instant ∷ rest) (cond (is_some o) (at ∷ touching_from cell (suc at) rest) (touching_from cell (suc at) rest))
    by None e further =
        covers_skip (λ k. k ≡ cell) at instant rest (touching_from cell (suc at) rest) (λ k same. ap (changed_state instant.changed) same ∙ e) further
    by (Some state) e further = inl (refl, further)

-- ---- two

merge_none : (positions : List ℕ) → merge positions [] ≡ positions
merge_none [] = refl
merge_none (position ∷ positions) = refl

module _ (On Also : ℕ → Type 0) where
  abbrev Both : ℕ → Type 0
  Both k = On k ⊎ Also k

  neither : (instant : Instant) → IsUntouched On instant → IsUntouched Also instant → IsUntouched Both instant
  neither instant one other k (inl is) = one k is
  neither instant one other k (inr is) = other k is

  pub covers_merge : (at : ℕ) (instants : List Instant) (positions others : List ℕ) → CoversTouches On at instants positions → CoversTouches Also at instants others →
      CoversTouches Both at instants (merge positions others)
  covers_merge at [] [] [] one other = tt
  covers_merge at [] [] (q ∷ others) one other = absurd other
  covers_merge at [] (p ∷ positions) others one other = absurd one
  covers_merge at (instant ∷ rest) [] [] one other = (neither instant one.0 other.0, covers_merge (suc at) rest [] [] one.1 other.1)
  covers_merge at (instant ∷ rest) [] (q ∷ others) one (inl here) = inl (here.0, covers_merge (suc at) rest [] others one.1 here.1)
  covers_merge at (instant ∷ rest) [] (q ∷ others) one (inr beyond) =
      inr (beyond.0, neither instant one.0 beyond.1, covers_merge (suc at) rest [] (q ∷ others) one.1 beyond.2)
  covers_merge at (instant ∷ rest) (p ∷ positions) [] (inl here) other =
      inl (here.0, subst (CoversTouches Both (suc at) rest) (merge_none positions) (covers_merge (suc at) rest positions [] here.1 other.1))
  covers_merge at (instant ∷ rest) (p ∷ positions) [] (inr beyond) other =
      inr (beyond.0, neither instant beyond.1 other.0, covers_merge (suc at) rest (p ∷ positions) [] beyond.2 other.1)
  covers_merge at (instant ∷ rest) (p ∷ positions) (q ∷ others) (inl here) (inl there) =
      let one : nat_lt p q ≡ false = (let first = here.0 in let second = there.0 in grind (arith, nat_tests)) in
      let two : nat_lt q p ≡ false = (let first = here.0 in let second = there.0 in grind (arith, nat_tests)) in
      rw (one, two) (inl (here.0, covers_merge (suc at) rest positions others here.1 there.1))
  covers_merge at (instant ∷ rest) (p ∷ positions) (q ∷ others) (inl here) (inr beyond) =
      let one : nat_lt p q ≡ true = (let first = here.0 in let second = beyond.0 in grind (arith, nat_tests)) in
      rw one (inl (here.0, covers_merge (suc at) rest positions (q ∷ others) here.1 beyond.2))
  covers_merge at (instant ∷ rest) (p ∷ positions) (q ∷ others) (inr beyond) (inl there) =
      let one : nat_lt p q ≡ false = (let first = beyond.0 in let second = there.0 in grind (arith, nat_tests)) in
      let two : nat_lt q p ≡ true = (let first = beyond.0 in let second = there.0 in grind (arith, nat_tests)) in
      rw (one, two) (inl (there.0, covers_merge (suc at) rest (p ∷ positions) others beyond.2 there.1))
  covers_merge at (instant ∷ rest) (p ∷ positions) (q ∷ others) (inr beyond) (inr further) =
      covers_skip Both at instant rest (merge (p ∷ positions) (q ∷ others)) (neither instant beyond.1 further.1)
      (covers_merge (suc at) rest (p ∷ positions) (q ∷ others) beyond.2 further.2)

-- ---- none

pub covers_nothing : (at : ℕ) (instants : List Instant) → CoversTouches (λ k. ⊥) at instants []
covers_nothing at [] = tt
covers_nothing at (instant ∷ rest) = ((λ k is. absurd is), covers_nothing (suc at) rest)

-- ---- behind the first

pub covers_behind_first : (On : ℕ → Type 0) (first : Instant) (rest : List Instant) (positions : List ℕ) → CoversTouches On 0 (first ∷ rest) positions → CoversTouches On 1 rest (positions_behind_first positions)
covers_behind_first On first rest [] covers = covers.1
covers_behind_first On first rest (position ∷ positions) (inl here) = rw here.0 here.1
covers_behind_first On first rest (position ∷ positions) (inr beyond) =
    let apart : nat_eq position 0 ≡ false = (let above = beyond.0 in grind (arith, nat_tests)) in rw apart beyond.2

-- ---- items behind a place

pub got : {A : Type 0} (items : List A) (i : ℕ) (item : A) → slice_get items i ≡ Some item → item ≡ get_or items i item
got [] i item is = absurd (cc)
got (first ∷ items) zero item is = let same : first ≡ item = cc in sym same
got (first ∷ items) (suc i) item is = got items i item is

inside_of : (items : List Instant) (i : ℕ) (first : Instant) (more : List Instant) → first ∷ more ≡ drop i items → i < length items
inside_of [] zero first more is = absurd (cc)
inside_of [] (suc i) first more is = absurd (cc)
inside_of (item ∷ items) zero first more is = omega arith
inside_of (item ∷ items) (suc i) first more is = let further = inside_of items i first more is in omega (arith, further)

tail_of : (items : List Instant) (i : ℕ) (first : Instant) (more : List Instant) → first ∷ more ≡ drop i items → more ≡ drop (suc i) items
tail_of [] zero first more is = absurd (cc)
tail_of [] (suc i) first more is = absurd (cc)
tail_of (item ∷ items) zero first more is = let same : more ≡ items = cc in same
tail_of (item ∷ items) (suc i) first more is = tail_of items i first more is

-- ---- a walk that goes from position to position

module _ (Walks : List Instant → Type 0) (On : ℕ → Type 0) (instants : List Instant) where
  -- it stands before the instants of these positions
  pub record StandsBefore (positions : List ℕ) : Type 0 where
    pub at : ℕ
    pub walk : Walks (drop at instants)
    pub covered : CoversTouches On at (drop at instants) positions

  -- it stands at the instant of a position, and is to go on to those of these
  pub record IsThere (position : ℕ) (positions : List ℕ) : Type 0 where
    pub walk : Walks (drop position instants)
    pub within : position < length instants
    pub covered : CoversTouches On (suc position) (drop (suc position) instants) positions

module _ (Walks : List Instant → Type 0) (On : ℕ → Type 0) (still : (instant : Instant) (rest : List Instant) → IsUntouched On instant → Walks (instant ∷ rest) → Walks rest)
    (instants : List Instant) where
  to_next : (left : List Instant) (at position : ℕ) (positions : List ℕ) → left ≡ drop at instants → Walks left → CoversTouches On at left (position ∷ positions) →
      IsThere Walks On instants position positions
  to_next [] at position positions is walk covers = absurd covers
  to_next (instant ∷ rest) at position positions is walk (inl here) = record {
    walk = subst (λ n. Walks (drop n instants)) (sym here.0) (subst Walks is walk);
    within = subst (λ n. n < length instants) (sym here.0) (inside_of instants at instant rest is);
    covered = subst (λ n. CoversTouches On (suc n) (drop (suc n) instants) positions) (sym here.0)
        (subst (λ (l : List Instant). CoversTouches On (suc at) l positions) (tail_of instants at instant rest is) here.1);
  }
  to_next (instant ∷ rest) at position positions is walk (inr beyond) =
      to_next rest (suc at) position positions (tail_of instants at instant rest is) (still instant rest beyond.1 walk) beyond.2

  pub is_there : (position : ℕ) (positions : List ℕ) → StandsBefore Walks On instants (position ∷ positions) → IsThere Walks On instants position positions
  is_there position positions stands = to_next (drop stands.at instants) stands.at position positions refl stands.walk stands.covered

  to_end : (left : List Instant) (at : ℕ) → Walks left → CoversTouches On at left [] → Walks []
  to_end [] at walk covers = walk
  to_end (instant ∷ rest) at walk covers = to_end rest (suc at) (still instant rest covers.0 walk) covers.1

  pub at_end : StandsBefore Walks On instants [] → Walks []
  at_end stands = to_end (drop stands.at instants) stands.at stands.walk stands.covered

  -- in a loop over positions: the instant of this one, and those behind it
  module _ (items : List ℕ) (i : ℕ) (below : i < length items) (stands : StandsBefore Walks On instants (drop i items)) where
    cut : drop i items ≡ get_or items i 0 ∷ drop (i + 1) items
    cut = rw add-one (drop-cons items i 0 below)

    there : IsThere Walks On instants (get_or items i 0) (drop (i + 1) items)
    there = is_there (get_or items i 0) (drop (i + 1) items) (subst (StandsBefore Walks On instants) cut stands)

    pub within_all : get_or items i 0 < length instants
    within_all = there.within

    pub walk_there : (instant : Instant) → slice_get instants (get_or items i 0) ≡ Some instant → Walks (instant ∷ drop (get_or items i 0 + 1) instants)
    walk_there instant at = subst Walks (cut_at instants (get_or items i 0) instant there.within (got instants (get_or items i 0) instant at)) there.walk

    pub covered_there : CoversTouches On (get_or items i 0 + 1) (drop (get_or items i 0 + 1) instants) (drop (i + 1) items)
    covered_there =
        let same : suc (get_or items i 0) ≡ get_or items i 0 + 1 = omega arith in
        subst (λ n. CoversTouches On n (drop n instants) (drop (i + 1) items)) same there.covered
