-- A list that is made of another one, item by item.
use Rattle.std.proofs.Common.{◌≡◌, ℕ, zero, suc, ◌+◌, ◌<◌, ◌≤◌, List, [], ◌∷◌, ◌++◌, length, take, map, get_or, refl, sym, ap, ◌∙◌, arith}
use Rattle.std.proofs.lemmas.List.{take_more}

module _ {A B : Type 0} (f : A → B) where
  append_map : (front : List A) (x : A) → map f (front ++ x ∷ []) ≡ map f front ++ f x ∷ []
  append_map [] x = refl
  append_map (first ∷ front) x = ap (λ l. f first ∷ l) (append_map front x)

  pub mapped_more : (items : List A) (i : ℕ) (item : A) (made new : List B) (piece : B) → i < length items → item ≡ get_or items i item → piece ≡ f item → new ≡ made ++ piece ∷ [] →
      made ≡ map f (take i items) → new ≡ map f (take (i + 1) items)
  mapped_more items i item made new piece within is piece_is pushed before =
      pushed ∙ (λ j. before j ++ piece_is j ∷ []) ∙ sym (append_map (take i items) item)
      ∙ ap (λ l. map f l) (sym (take_more items i item within ∙ ap (λ x. take i items ++ x ∷ []) (sym is)))

  take_past : (items : List A) (i : ℕ) → length items ≤ i → take i items ≡ items
  take_past [] zero past = refl
  take_past [] (suc i) past = refl
  take_past (x ∷ xs) zero past = absurd (omega arith)
  take_past (x ∷ xs) (suc i) past = ap (λ l. x ∷ l) (take_past xs i (omega arith))

  pub mapped_all : (items : List A) (i : ℕ) (made : List B) → length items ≤ i → made ≡ map f (take i items) → made ≡ map f items
  mapped_all items i made past before = before ∙ ap (λ l. map f l) (take_past items i past)
