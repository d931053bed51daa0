-- A stable sort gives what putting one after another in its place gives.
use Rattle.std.proofs.Common.{◌≡◌, ℕ, suc, ◌<◌, ◌≤◌, Bool, true, false, not, cond, ◌&&◌, List, [], ◌∷◌, length, get_or, refl, sym, ap, ◌∙◌, arith}
use Rattle.std.specs.Cmp.{IsStrictWeakOrder}
use Rattle.std.specs.List.{filter}
use Rattle.std.specs.List.Sorted.{ties, IsStableBy, IsSortedBy}
use Rattle.std.proofs.lemmas.List.Sorted.{sorted_far}
use Rattle.std.proofs.lemmas.Bool.{false≢true, and_parts, not-true}

module _ (X : Type 0) (lt : X → X → Bool) (o : IsStrictWeakOrder lt) where
  -- none of these comes before it
  abbrev NoneBefore : X → List X → Type 0
  NoneBefore x [] = Unit {0}
  NoneBefore x (y ∷ ys) = (lt y x ≡ false) × NoneBefore x ys

  abbrev InSteps : List X → Type 0
  InSteps [] = Unit {0}
  InSteps (x ∷ xs) = NoneBefore x xs × InSteps xs

  abbrev tied : X → List X → List X
  tied w xs = filter (ties lt w) xs

  -- ---- from places

  none_from : (x : X) (xs : List X) → ((j : ℕ) (d : X) → j < length xs → lt (get_or xs j d) x ≡ false) → NoneBefore x xs
  none_from x [] all = tt
  none_from x (y ∷ ys) all = (all 0 y (omega arith), none_from x ys (λ j d below. all (suc j) d (omega arith)))

  steps_from : (xs : List X) → ((i j : ℕ) (d : X) → i ≤ j → j < length xs → lt (get_or xs j d) (get_or xs i d) ≡ false) → InSteps xs
  steps_from [] far = tt
  steps_from (x ∷ xs) far =
      (none_from x xs (λ j d below. far 0 (suc j) d (omega arith) (omega arith)), steps_from xs (λ i j d upto below. far (suc i) (suc j) d (omega arith) (omega arith)))

  -- ---- one more in its place

  abbrev pub put : X → List X → List X
  put a [] = a ∷ []
  put a (b ∷ rest) = cond (lt b a) (b ∷ put a rest) (a ∷ b ∷ rest)

  none_put : (x a : X) (xs : List X) → lt a x ≡ false → NoneBefore x xs → NoneBefore x (put a xs)
  none_put x a [] e none = (e, tt)
  none_put x a (b ∷ rest) e none = go (lt b a) (none_put x a rest e none.1)
    where
      go : (c : Bool) → NoneBefore x (put a rest) → NoneBefore x (cond c (b ∷ put a rest) (a ∷ b ∷ rest))
      go true after = (none.0, after)
      go false after = (e, none)

  none_chain : (a b : X) (xs : List X) → lt b a ≡ false → NoneBefore b xs → NoneBefore a xs
  none_chain a b [] e none = tt
  none_chain a b (z ∷ xs) e none = (o.chain z b a none.0 e, none_chain a b xs e none.1)

  put_steps : (a : X) (xs : List X) → InSteps xs → InSteps (put a xs)
  put_steps a [] steps = (tt, tt)
  put_steps a (b ∷ rest) steps = go (lt b a) refl (put_steps a rest steps.1)
    where
      go : (c : Bool) → lt b a ≡ c → InSteps (put a rest) → InSteps (cond c (b ∷ put a rest) (a ∷ b ∷ rest))
      go true e after = (none_put b a rest (o.one_way b a e) steps.0, after)
      go false e after = ((e, none_chain a b rest e steps.0), steps)

  apart : (w a b : X) → lt b a ≡ true → ties lt w a ≡ true → ties lt w b ≡ true → ⊥
  apart w a b e ta tb =
      let one = and_parts (not (lt w a)) (not (lt a w)) ta in
      let other = and_parts (not (lt w b)) (not (lt b w)) tb in
      false≢true (sym (o.chain b w a (not-true (lt b w) other.1) (not-true (lt w a) one.0)) ∙ e)

  put_same : (w a : X) (xs : List X) → tied w (put a xs) ≡ tied w (a ∷ xs)
  put_same w a [] = refl
  put_same w a (b ∷ rest) = go (lt b a) refl (put_same w a rest)
    where
      swapped : (ta tb : Bool) (f : List X) → (ta ≡ true → tb ≡ true → ⊥) → cond tb (b ∷ cond ta (a ∷ f) f) (cond ta (a ∷ f) f) ≡ cond ta (a ∷ cond tb (b ∷ f) f) (cond tb (b ∷ f) f)
      swapped true true f never = absurd (never refl refl)
      swapped true false f never = refl
      swapped false true f never = refl
      swapped false false f never = refl

      go : (c : Bool) → lt b a ≡ c → tied w (put a rest) ≡ tied w (a ∷ rest) → tied w (cond c (b ∷ put a rest) (a ∷ b ∷ rest)) ≡ tied w (a ∷ b ∷ rest)
      go true e after =
          ap (λ f. cond (ties lt w b) (b ∷ f) f) after
          ∙ swapped (ties lt w a) (ties lt w b) (tied w rest) (λ ta tb. apart w a b e ta tb)
      go false e after = refl

  -- ---- all in their places

  abbrev pub all_put : List X → List X
  all_put [] = []
  all_put (x ∷ xs) = put x (all_put xs)

  all_steps : (xs : List X) → InSteps (all_put xs)
  all_steps [] = tt
  all_steps (x ∷ xs) = put_steps x (all_put xs) (all_steps xs)

  all_same : (w : X) (xs : List X) → tied w (all_put xs) ≡ tied w xs
  all_same w [] = refl
  all_same w (x ∷ xs) = put_same w x (all_put xs) ∙ ap (λ f. cond (ties lt w x) (x ∷ f) f) (all_same w xs)

  -- ---- two lists in order in which the ties come alike are one

  not_itself : (x : X) → lt x x ≡ false
  not_itself x = go (lt x x) refl
    where
      go : (c : Bool) → lt x x ≡ c → lt x x ≡ false
      go true e = o.one_way x x e
      go false e = e

  ties_both : (x y : X) → lt x y ≡ false → lt y x ≡ false → ties lt x y ≡ true
  ties_both x y e f = ap (λ b. not b && not (lt y x)) e ∙ ap not f

  none_tied : (w x : X) (xs : List X) → lt w x ≡ true → NoneBefore x xs → tied w xs ≡ []
  none_tied w x [] e none = refl
  none_tied w x (z ∷ xs) e none =
      go (ties lt w z) refl (none_tied w x xs e none.1)
    where
      go : (c : Bool) → ties lt w z ≡ c → tied w xs ≡ [] → cond c (z ∷ tied w xs) (tied w xs) ≡ []
      go true t rest =
          let one = and_parts (not (lt w z)) (not (lt z w)) t in
          absurd (false≢true (sym (o.chain w z x (not-true (lt w z) one.0) none.0) ∙ e))
      go false t rest = rest

  some_tied : (y : X) (ys : List X) → tied y (y ∷ ys) ≡ y ∷ tied y ys
  some_tied y ys = ap (λ c. cond c (y ∷ tied y ys) (tied y ys)) (ties_both y y (not_itself y) (not_itself y))

  full : (y : X) (ys : List X) → y ∷ ys ≡ [] → ⊥
  full y ys e = cc

  first_not_after : (x y : X) (xs ys : List X) → NoneBefore x xs → tied y (x ∷ xs) ≡ tied y (y ∷ ys) → lt y x ≡ false
  first_not_after x y xs ys none same = go (lt y x) refl
    where
      go : (c : Bool) → lt y x ≡ c → lt y x ≡ false
      go true e = absurd (full y (tied y ys) (sym (some_tied y ys) ∙ (sym same ∙ none_tied y x (x ∷ xs) e (not_itself x, none))))
      go false e = e

  same_first : (x y : X) (xs ys : List X) → x ∷ xs ≡ y ∷ ys → x ≡ y
  same_first x y xs ys e = cc

  same_later : (c : Bool) (x : X) (f g : List X) → cond c (x ∷ f) f ≡ cond c (x ∷ g) g → f ≡ g
  same_later true x f g e = cc
  same_later false x f g e = e

  later_same : (x y : X) (xs ys : List X) → x ≡ y → ((w : X) → tied w (x ∷ xs) ≡ tied w (y ∷ ys)) → (w : X) → tied w xs ≡ tied w ys
  later_same x y xs ys is same w =
      same_later (ties lt w x) x (tied w xs) (tied w ys) (same w ∙ ap (λ z. cond (ties lt w z) (z ∷ tied w ys) (tied w ys)) (sym is))

  one_order : (xs ys : List X) → InSteps xs → InSteps ys → ((w : X) → tied w xs ≡ tied w ys) → xs ≡ ys
  one_order [] [] steps others same = refl
  one_order [] (y ∷ ys) steps others same = absurd (full y (tied y ys) (sym (some_tied y ys) ∙ sym (same y)))
  one_order (x ∷ xs) [] steps others same = absurd (full x (tied x xs) (sym (some_tied x xs) ∙ same x))
  one_order (x ∷ xs) (y ∷ ys) steps others same =
      let before : lt y x ≡ false = first_not_after x y xs ys steps.0 (same y) in
      let after : lt x y ≡ false = first_not_after y x ys xs others.0 (sym (same x)) in
      let tie : tied x (y ∷ ys) ≡ y ∷ tied x ys = ap (λ c. cond c (y ∷ tied x ys) (tied x ys)) (ties_both x y after before) in
      let is : x ≡ y = same_first x y (tied x xs) (tied x ys) (sym (some_tied x xs) ∙ (same x ∙ tie)) in
      ap (λ z. z ∷ xs) is ∙ ap (λ l. y ∷ l) (one_order xs ys steps.1 others.1 (later_same x y xs ys is same))

  -- what a stable sort gives
  pub sorted_is : (xs ys : List X) → IsSortedBy lt ys → IsStableBy lt xs ys → ys ≡ all_put xs
  sorted_is xs ys up stable =
      one_order ys (all_put xs) (steps_from ys (sorted_far lt o ys up)) (all_steps xs) (λ w. stable w ∙ sym (all_same w xs))
