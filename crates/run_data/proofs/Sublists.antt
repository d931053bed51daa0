-- A part of a list that stands in the whole from some place on.
use Rattle.std.proofs.Common.{◌≡◌, ℕ, suc, ◌+◌, List, [], ◌∷◌, ◌++◌, Some, length, slice_get, refl, sym, subst, arith, add-zero}

module _ {A : Type 0} (whole : List A) where
  -- each element stands at its place
  abbrev pub StandsAt : ℕ → List A → Type 0
  StandsAt at [] = Unit {0}
  StandsAt at (x ∷ rest) = (slice_get whole at ≡ Some x) × StandsAt (at + 1) rest

  pub standing_first : (at : ℕ) (front back : List A) → StandsAt at (front ++ back) → StandsAt at front
  standing_first at [] back h = tt
  standing_first at (x ∷ front) back h = (h.0, standing_first (at + 1) front back h.1)

  pub standing_last : (at : ℕ) (front back : List A) → StandsAt at (front ++ back) → StandsAt (at + length front) back
  standing_last at [] back h = subst (λ (n : ℕ). StandsAt n back) (sym (add-zero at)) h
  standing_last at (x ∷ front) back h =
      let place : (at + 1) + length front ≡ at + length (x ∷ front) = omega arith in
      subst (λ (n : ℕ). StandsAt n back) place (standing_last (at + 1) front back h.1)

-- what stands in a list stands one place later behind an element more
further : {A : Type 0} (first : A) (whole : List A) (at : ℕ) (part : List A) → StandsAt whole at part → StandsAt (first ∷ whole) (at + 1) part
further first whole at [] h = tt
further first whole at (x ∷ rest) h =
    let place : suc at ≡ at + 1 = omega arith in
    (subst (λ (n : ℕ). slice_get (first ∷ whole) n ≡ Some x) place h.0, further first whole (at + 1) rest h.1)

-- a list stands in itself
pub standing_whole : {A : Type 0} (whole : List A) → StandsAt whole 0 whole
standing_whole [] = tt
standing_whole (x ∷ rest) = (refl, further x rest 0 rest (standing_whole rest))

-- two parts one behind the other, of which the first has so many elements
pub standing_parts : {A : Type 0} (whole : List A) (at count : ℕ) (front back : List A) → length front ≡ count → StandsAt whole at (front ++ back) →
    StandsAt whole at front × StandsAt whole (at + count) back
standing_parts whole at count front back e h =
    (standing_first whole at front back h, subst (λ (n : ℕ). StandsAt whole (at + n) back) e (standing_last whole at front back h))
