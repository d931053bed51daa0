-- How a number is put where its name belongs, by a look at one number after another.
use Rattle.std.proofs.Common.{◌≡◌, ◌<◌, ◌++◌, ◌∷◌, [], ℕ, zero, suc, ap, append_assoc, arith, drop, get_or, length, refl, sym, take, ◌∙◌}
use Rattle.std.specs.Prelude.{List, slice_set, Ok, Err}
use Rattle.std.specs.Ordering.{match_ordering, nat_cmp}
use Rattle.std.specs.Cmp.Lexicographic.{slice_cmp}
use Rattle.std.specs.declared.cmp.Ordering.{Ordering}
use Rattle.std.specs.declared.cmp.Ordering.TheVariants.{Less, Equal, Greater}
use Rattle.std.proofs.Math.Seq.{drop-cons, drop-length, take-suc}
use Rattle.report_text.specs.ArgumentOrder.{name_numbered, put_number, with_number}

set_split : {A : Type 0} (xs : List A) (at : ℕ) (x : A) → at < length xs → slice_set xs at x ≡ take at xs ++ x ∷ drop (suc at) xs
set_split [] at x less = absurd (omega (arith, less))
set_split (y ∷ ys) zero x less = refl
set_split (y ∷ ys) (suc at) x less = ap (λ zs. y ∷ zs) (set_split ys at x (omega (arith, less)))

module _ (names : List (List ℕ)) (number : ℕ) (order : List ℕ) where
  -- all numbers before this position have lesser names
  abbrev pub Passes : ℕ → Type 0
  Passes at = put_number names number order ≡ take at order ++ put_number names number (drop at order)

  abbrev beside : ℕ → Ordering
  beside other = slice_cmp nat_cmp (name_numbered names number) (name_numbered names other)

  abbrev by : ℕ → Ordering → List ℕ
  by at o =
      take at order ++ match_ordering o (number ∷ get_or order at 0 ∷ drop (suc at) order) (number ∷ drop (suc at) order)
      (get_or order at 0 ∷ put_number names number (drop (suc at) order))

  looked : (at : ℕ) (o : Ordering) → at < length order → Passes at → beside (get_or order at 0) ≡ o → put_number names number order ≡ by at o
  looked at o within passes is =
      passes ∙ ap (λ (xs : List ℕ). take at order ++ put_number names number xs) (drop-cons order at 0 within) ∙ ap (by at) is

  pub before : (at : ℕ) → at < length order → Passes at → beside (get_or order at 0) ≡ Less → with_number order number (Err at) ≡ put_number names number order
  before at within passes is =
      sym (looked at Less within passes is ∙ ap (λ (xs : List ℕ). take at order ++ number ∷ xs) (sym (drop-cons order at 0 within)))

  pub same : (at : ℕ) → at < length order → Passes at → beside (get_or order at 0) ≡ Equal → with_number order number (Ok at) ≡ put_number names number order
  same at within passes is = set_split order at number within ∙ sym (looked at Equal within passes is)

  pub behind : (at : ℕ) → at < length order → Passes at → beside (get_or order at 0) ≡ Greater → Passes (suc at)
  behind at within passes is =
      looked at Greater within passes is
      ∙ sym (append_assoc (take at order) (get_or order at 0 ∷ []) (put_number names number (drop (suc at) order)))
      ∙ ap (λ (xs : List ℕ). xs ++ put_number names number (drop (suc at) order)) (sym (take-suc order at 0 within))

  pub at_the_end : Passes (length order) → with_number order number (Err (length order)) ≡ put_number names number order
  at_the_end passes =
      ap (λ (xs : List ℕ). take (length order) order ++ number ∷ xs) (drop-length order)
      ∙ ap (λ (xs : List ℕ). take (length order) order ++ put_number names number xs) (sym (drop-length order))
      ∙ sym passes
