-- Models, each with its constraints.
use Rattle.std.proofs.Common.{◌≡◌, ℕ, suc, ◌<◌, ◌≤◌, Bool, List, [], ◌∷◌, length, drop, take, get_or, refl, sym, ap, ◌∙◌, arith}
use Rattle.std.specs.List.{zip}
use Rattle.std.proofs.lemmas.List.{drop_all, take_all}
use Rattle.std.proofs.lemmas.Slice.Zip.{length-zip, get_or-zip}
use Rattle.session_judge.specs.OfModels.{AreEach}

-- each part has one entry
pub as_many : {P A : Type 0} (test : P → A → Bool) (parts : List P) (rules : List A) → AreEach test parts rules → length rules ≡ length parts
as_many test [] [] are = refl
as_many test [] (one ∷ rules) are = absurd are
as_many test (part ∷ parts) [] are = absurd are
as_many test (part ∷ parts) (one ∷ rules) are = ap suc (as_many test parts rules are.1)

module _ {P B : Type 0} (parts : List P) (beside : List B) (same : length beside ≡ length parts) where
  pub pair_within : (i : ℕ) → i < length parts → i < length (zip parts beside)
  pair_within i within = omega (arith, length-zip parts beside, same, within)

  pub pair_at : (i : ℕ) (part : P) (one : B) → i < length parts → part ≡ get_or parts i part → one ≡ get_or beside i one
      → (part, one) ≡ get_or (zip parts beside) i (part, one)
  pair_at i part one within is_part is_one =
      ap (λ (p : P). (p, one)) is_part
      ∙ ap (λ (b : B). (get_or parts i part, b)) is_one
      ∙ sym (get_or-zip parts beside i (part, one) within (omega (arith, same, within)))

  pub no_pair : (i : ℕ) → length parts ≤ i → drop i (zip parts beside) ≡ []
  no_pair i over = drop_all i (zip parts beside) (omega (arith, length-zip parts beside, same, over))

  pub all_pairs : (i : ℕ) → length parts ≤ i → take i (zip parts beside) ≡ zip parts beside
  all_pairs i over = take_all i (zip parts beside) (omega (arith, length-zip parts beside, same, over))

-- what each pair has belongs to its part
pub of_parts : {P B A : Type 0} (test : P → A → Bool) (parts : List P) (beside : List B) (rules : List A) → length beside ≡ length parts
    → AreEach (λ pair. test pair.0) (zip parts beside) rules → AreEach test parts rules
of_parts test [] beside [] same are = tt
of_parts test [] beside (one ∷ rules) same are = absurd are
of_parts test (part ∷ parts) [] rules same are = absurd cc
of_parts test (part ∷ parts) (b ∷ beside) [] same are = absurd are
of_parts test (part ∷ parts) (b ∷ beside) (one ∷ rules) same are = (are.0, of_parts test parts beside rules (omega (arith, same)) are.1)
