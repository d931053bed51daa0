-- What was found of the items of a list stands at their places.
use Rattle.std.proofs.Common.{◌≡◌, ℕ, ◌<◌, ◌∙◌, ap, get_or, length, map, refl}
use Rattle.std.specs.Prelude.{List, option_map}
use Rattle.std.proofs.lemmas.Option.{get_or_from_slice_get, slice_get-map, slice_get_read}

pub found_at : {A B : Type 0} (f : A → B) (items : List A) (found : List B) (i : ℕ) (item : A) (one : B) → found ≡ map f items → i < length items →
    item ≡ get_or items i item → one ≡ get_or found i one → one ≡ f item
found_at f items found i item one are within there is =
    is ∙ ap (λ all. get_or all i one) are
    ∙ get_or_from_slice_get (map f items) i (f item) one (slice_get-map f items i ∙ ap (option_map f) (slice_get_read items (length items) i item refl within there))
