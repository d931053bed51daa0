-- The first text among some that is no instant, one after another.
use Rattle.std.proofs.Common.{◌≡◌, ℕ, ◌+◌, ◌<◌, true, false, List, Option, Some, None, is_some, length, get_or, drop, refl, sym, ap, ◌∙◌, true≢false}
use Rattle.aerie_base.specs.declared.places.Place.{Place}
use Rattle.diagnostics.specs.Iterations.{next_left}
use Rattle.session_reader.specs.Times.{first_misread, place_or}

none_before : (found later : Option Place) → is_some found ≡ false → place_or found later ≡ later
none_before None later e = refl
none_before (Some place) later e = absurd (true≢false e)

one_before : (found later : Option Place) → is_some found ≡ true → place_or found later ≡ found
one_before None later e = absurd (true≢false (sym e))
one_before (Some place) later e = refl

module _ {X : Type 0} (misread : X → Option Place) (xs : List X) (i : ℕ) (x : X) (within : i < length xs) (is : x ≡ get_or xs i x) (so_far : first_misread misread xs ≡ first_misread misread (drop i xs)) where
  here : first_misread misread xs ≡ place_or (misread x) (first_misread misread (drop (i + 1) xs))
  here = so_far ∙ ap (first_misread misread) (next_left xs i x within is)

  -- the next one is an instant
  pub passed : (found : Option Place) → found ≡ misread x → is_some found ≡ false → first_misread misread xs ≡ first_misread misread (drop (i + 1) xs)
  passed found e none = here ∙ (ap (λ (place : Option Place). place_or place (first_misread misread (drop (i + 1) xs))) (sym e) ∙ none_before found (first_misread misread (drop (i + 1) xs)) none)

  -- the next one is none
  pub met : (found : Option Place) → found ≡ misread x → is_some found ≡ true → found ≡ first_misread misread xs
  met found e some = sym (here ∙ (ap (λ (place : Option Place). place_or place (first_misread misread (drop (i + 1) xs))) (sym e) ∙ one_before found (first_misread misread (drop (i + 1) xs)) some))
