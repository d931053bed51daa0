-- A file of lemmas: what it proves need not be read to trust a clause.
--
-- What is made of the items of a list in order: the first of all, then one more.
use Rattle.std.proofs.Common.{◌≡◌, ℕ, ◌+◌, ◌<◌, ◌++◌, ◌∷◌, ◌∙◌, [], ap, arith, get_or, length, map, refl, sym, take}
use Rattle.std.specs.Prelude.{List, Some, option_map, slice_get}
use Rattle.std.proofs.lemmas.List.{length-map, take_more}
use Rattle.std.proofs.lemmas.Option.{get_or_from_slice_get, slice_get-map, slice_get_read}

module _ {A B : Type 0} (f : A → B) (items : List A) where
  one_more : (i : ℕ) (made new : List B) (piece : B) → i < length (map f items) → slice_get (map f items) i ≡ Some piece → new ≡ made ++ piece ∷ [] →
      made ≡ take i (map f items) → new ≡ take (i + 1) (map f items)
  one_more i made new piece within here pushed before =
      pushed ∙ ap (λ front. front ++ piece ∷ []) before
      ∙ ap (λ last. take i (map f items) ++ last ∷ []) (sym (get_or_from_slice_get (map f items) i piece piece here)) ∙ sym (take_more (map f items) i piece within)

  -- by the item at a place, where there is one
  pub made_at : (i : ℕ) (made new : List B) (piece : B) → i < length items → Some piece ≡ option_map f (slice_get items i) → new ≡ made ++ piece ∷ [] →
      made ≡ take i (map f items) → new ≡ take (i + 1) (map f items)
  made_at i made new piece within is pushed before =
      one_more i made new piece (omega (arith, within, length-map items f)) (slice_get-map f items i ∙ sym is) pushed before

  -- by the item there
  pub made_of : (i : ℕ) (item : A) (made new : List B) (piece : B) → i < length items → item ≡ get_or items i item → piece ≡ f item → new ≡ made ++ piece ∷ [] →
      made ≡ take i (map f items) → new ≡ take (i + 1) (map f items)
  made_of i item made new piece within there is pushed before =
      made_at i made new piece within (ap Some is ∙ sym (ap (option_map f) (slice_get_read items (length items) i item refl within there))) pushed before
