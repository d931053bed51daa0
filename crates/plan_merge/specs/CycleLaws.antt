-- A file of lemmas: what it proves need not be read to trust a clause.
--
-- A directive is on a cycle exactly where it is reached from one by more anchors than there are directives.
use Rattle.std.proofs.Common.{◌≡◌, ℕ, zero, suc, ◌+◌, ◌*◌, ◌<◌, ◌≤◌, ◌-◌, ◌||◌, ◌⊎◌, inl, inr, Bool, true, false, List, [], ◌∷◌, Option, Some, None, option_and_then, is_some, map, length, nat_eq, refl, sym, ap, ◌∙◌, if◌then◌else◌, eqb-true, eq-eqb, true≢false, arith}
use Rattle.std.specs.List.{list_any, IsDistinct, AllByRecursion}
use Rattle.std.proofs.lemmas.Bool.{eqb-false}
use Rattle.std.proofs.lemmas.List.{length-map}
use Rattle.std.proofs.lemmas.Option.{none-some, same_Some}
use Rattle.std.proofs.lemmas.Map.Made.{length-le_from_is_member}
use Rattle.std.proofs.lemmas.Cmp.{nat_eq_equiv}
use Rattle.aerie_base.specs.declared.plans.Directive.{Directive}
use Rattle.aerie_base.specs.plans.OfModel.{followed, with_id, anchor_of, ids_of}
use Rattle.aerie_base.specs.plans.FoundById.{among}
use Rattle.aerie_base.specs.plans.FollowedAnchors.{followed_on, nowhere}
use Rattle.plan_merge.specs.Reached.{reached_after}
use Rattle.plan_merge.specs.Merging.{is_at, returns_within}

-- no id comes twice in front of no id
none_twice : IsDistinct nat_eq []
unfolding IsDistinct
none_twice = tt

apart_from : (first : ℕ) (ids : List ℕ) → list_any (nat_eq first) ids ≡ false → AllByRecursion (λ (y : ℕ). nat_eq first y ≡ false) ids
apart_from first [] h = tt
apart_from first (id ∷ ids) h = (left_false (nat_eq first id) (list_any (nat_eq first) ids) h, apart_from first ids (right_false (nat_eq first id) (list_any (nat_eq first) ids) h))
  where
    left_false : (a b : Bool) → (a || b) ≡ false → a ≡ false
    left_false true b h = h
    left_false false b h = refl

    right_false : (a b : Bool) → (a || b) ≡ false → b ≡ false
    right_false true b h = absurd (true≢false h)
    right_false false b h = h

one_more : (first : ℕ) (ids : List ℕ) → list_any (nat_eq first) ids ≡ false → IsDistinct nat_eq ids → IsDistinct nat_eq (first ∷ ids)
unfolding IsDistinct
one_more first ids once distinct = (apart_from first ids once, distinct)

module _ (ds : List Directive) where
  -- so many ids that are reached one after another, the first being given
  abbrev trail : ℕ → Option ℕ → List ℕ
  trail zero reached_one = []
  trail (suc count) None = []
  trail (suc count) (Some id) = id ∷ trail count (anchor_of ds id)

  member : (count : ℕ) (reached_one : Option ℕ) (id : ℕ) → list_any (nat_eq id) (trail count reached_one) ≡ true →
      (steps : ℕ) × ((steps < count) × (option_and_then (followed ds steps) reached_one ≡ Some id))
  member zero reached_one id h = absurd (true≢false (sym h))
  member (suc count) None id h = absurd (true≢false (sym h))
  member (suc count) (Some first) id h = go (member count (anchor_of ds first) id) (nat_eq id first) refl h
    where
      go : (list_any (nat_eq id) (trail count (anchor_of ds first)) ≡ true → (steps : ℕ) × ((steps < count) × (option_and_then (followed ds steps) (anchor_of ds first) ≡ Some id))) →
          (t : Bool) → nat_eq id first ≡ t → (t || list_any (nat_eq id) (trail count (anchor_of ds first))) ≡ true →
          (steps : ℕ) × ((steps < suc count) × (followed ds steps first ≡ Some id))
      go others true same h = (0, (omega arith, ap Some (sym (eqb-true id first same))))
      go others false same h = let one = others h in (suc one.0, (omega (arith, one.1.0), one.1.1))

  trail_long : (count more : ℕ) (reached_one : Option ℕ) (id : ℕ) → option_and_then (followed ds (count + more)) reached_one ≡ Some id → length (trail count reached_one) ≡ count
  trail_long zero more reached_one id h = refl
  trail_long (suc count) more None id h = absurd (none-some id h)
  trail_long (suc count) more (Some first) id h =
      ap suc (trail_long count more (anchor_of ds first) id (sym (ap (λ (n : ℕ). followed ds n first) (suc_plus count more)) ∙ h))
    where
      suc_plus : (m n : ℕ) → suc m + n ≡ suc (m + n)
      suc_plus m n = omega arith

  -- from where an anchor is followed there is a directive
  anchored_from : (steps first id : ℕ) → followed ds (suc steps) first ≡ Some id → list_any (nat_eq first) (ids_of ds) ≡ true
  anchored_from steps first id h = go (with_id ds first) refl
    where
      go : (found : Option Directive) → with_id ds first ≡ found → list_any (nat_eq first) (ids_of ds) ≡ true
      go None none = absurd (none-some id (sym (nowhere ds steps first none) ∙ h))
      go (Some found) here = sym (among ds first) ∙ ap is_some here

  suc-plus : (m n : ℕ) → suc m + n ≡ suc (m + n)
  suc-plus m n = omega arith

  trail_in : (count more : ℕ) (reached_one : Option ℕ) (id : ℕ) → option_and_then (followed ds (count + more)) reached_one ≡ Some id →
      (q : ℕ) → list_any (nat_eq q) (trail count reached_one) ≡ true → list_any (nat_eq q) (ids_of ds) ≡ true
  trail_in zero more reached_one id h q in_it = absurd (true≢false (sym in_it))
  trail_in (suc count) more None id h q in_it = absurd (true≢false (sym in_it))
  trail_in (suc count) more (Some first) id h q in_it =
      let on = sym (ap (λ (n : ℕ). followed ds n first) (suc-plus count more)) ∙ h in
      go (trail_in count more (anchor_of ds first) id on q) (anchored_from (count + more) first id on) (nat_eq q first) refl in_it
    where
      go : (list_any (nat_eq q) (trail count (anchor_of ds first)) ≡ true → list_any (nat_eq q) (ids_of ds) ≡ true) → list_any (nat_eq first) (ids_of ds) ≡ true →
          (t : Bool) → nat_eq q first ≡ t → (t || list_any (nat_eq q) (trail count (anchor_of ds first))) ≡ true → list_any (nat_eq q) (ids_of ds) ≡ true
      go others here true same h = ap (λ (i : ℕ). list_any (nat_eq i) (ids_of ds)) (eqb-true q first same) ∙ here
      go others here false same h = others h

  -- where following anchors returns to one, it returns to each that they reach
  goes_round : (steps far first id : ℕ) → followed ds (suc steps) first ≡ Some first → followed ds far first ≡ Some id → followed ds (suc steps) id ≡ Some id
  goes_round steps far first id round there =
      sym (ap (option_and_then (followed ds (suc steps))) there)
      ∙ sym (followed_on ds far (suc steps) first)
      ∙ ap (λ (n : ℕ). followed ds n first) (swapped far (suc steps))
      ∙ followed_on ds (suc steps) far first
      ∙ ap (option_and_then (followed ds far)) round ∙ there
    where
      swapped : (m n : ℕ) → m + n ≡ n + m
      swapped m n = omega arith

  -- either no id comes twice, or following anchors returns
  walk : (count more : ℕ) (reached_one : Option ℕ) (id : ℕ) → option_and_then (followed ds (count + more)) reached_one ≡ Some id →
      IsDistinct nat_eq (trail count reached_one) ⊎ ((steps : ℕ) × ((suc steps < count) × (followed ds (suc steps) id ≡ Some id)))
  walk zero more reached_one id h = inl none_twice
  walk (suc count) more None id h = absurd (none-some id h)
  walk (suc count) more (Some first) id h =
      let on = sym (ap (λ (n : ℕ). followed ds n first) (suc-plus count more)) ∙ h in
      go (walk count more (anchor_of ds first) id on) (list_any (nat_eq first) (trail count (anchor_of ds first))) refl (member count (anchor_of ds first) first)
    where
      go : (IsDistinct nat_eq (trail count (anchor_of ds first)) ⊎ ((steps : ℕ) × ((suc steps < count) × (followed ds (suc steps) id ≡ Some id)))) →
          (t : Bool) → list_any (nat_eq first) (trail count (anchor_of ds first)) ≡ t →
          (list_any (nat_eq first) (trail count (anchor_of ds first)) ≡ true → (steps : ℕ) × ((steps < count) × (option_and_then (followed ds steps) (anchor_of ds first) ≡ Some first))) →
          IsDistinct nat_eq (first ∷ trail count (anchor_of ds first)) ⊎ ((steps : ℕ) × ((suc steps < suc count) × (followed ds (suc steps) id ≡ Some id)))
      go others true again back =
          let one = back again in
          inr (one.0, (omega (arith, one.1.0), goes_round one.0 (suc count + more) first id one.1.1 h))
      go (inl distinct) false once back = inl (one_more first (trail count (anchor_of ds first)) once distinct)
      go (inr round) false once back = inr (round.0, (omega (arith, round.1.0), round.1.1))

  -- where more anchors than there are directives reach an id, following anchors returns to it
  pub far_round : (more first id : ℕ) → followed ds (suc (length ds) + more) first ≡ Some id → (steps : ℕ) × ((suc steps < suc (length ds)) × (followed ds (suc steps) id ≡ Some id))
  far_round more first id h = go (walk (suc (length ds)) more (Some first) id h)
    where
      go : (IsDistinct nat_eq (trail (suc (length ds)) (Some first)) ⊎ ((steps : ℕ) × ((suc steps < suc (length ds)) × (followed ds (suc steps) id ≡ Some id)))) →
          (steps : ℕ) × ((suc steps < suc (length ds)) × (followed ds (suc steps) id ≡ Some id))
      go (inr round) = round
      go (inl distinct) =
          let few = length-le_from_is_member nat_eq_equiv (trail (suc (length ds)) (Some first)) (ids_of ds) distinct (trail_in (suc (length ds)) more (Some first) id h) in
          let long = trail_long (suc (length ds)) more (Some first) id h in
          let ids = length-map ds (λ (d : Directive). d.id) in
          absurd (omega (arith, few, long, ids))

  -- ---- returning, as a test

  at_true : (id : ℕ) (reached_one : Option ℕ) → is_at id reached_one ≡ true → reached_one ≡ Some id
  at_true id None h = absurd (true≢false (sym h))
  at_true id (Some other) h = ap Some (eqb-true other id h)

  at_so : (id : ℕ) (reached_one : Option ℕ) → reached_one ≡ Some id → is_at id reached_one ≡ true
  at_so id None h = absurd (none-some id h)
  at_so id (Some other) h = eq-eqb other id (same_Some other id h)

  within_so : (id most steps : ℕ) → steps < most → followed ds (suc steps) id ≡ Some id → returns_within ds id most ≡ true
  within_so id zero steps less h = absurd (omega (arith, less))
  within_so id (suc most) steps less h = go (within_so id most steps) (nat_eq steps most) refl
    where
      or_so : (a b : Bool) → b ≡ true → (a || b) ≡ true
      or_so true b k = refl
      or_so false b k = k

      go : (steps < most → followed ds (suc steps) id ≡ Some id → returns_within ds id most ≡ true) → (t : Bool) → nat_eq steps most ≡ t →
          (is_at id (followed ds (suc most) id) || returns_within ds id most) ≡ true
      go others true same =
          ap (λ (t : Bool). t || returns_within ds id most) (at_so id (followed ds (suc most) id) (ap (λ (n : ℕ). followed ds (suc n) id) (sym (eqb-true steps most same)) ∙ h))
      go others false apart =
          let differ = eqb-false steps most apart in
          or_so (is_at id (followed ds (suc most) id)) (returns_within ds id most) (others (lesser differ) h)
        where
          lesser : (steps ≡ most → ⊥) → steps < most
          lesser differ = omega (arith, less, differ)

  pub within_true : (id most : ℕ) → returns_within ds id most ≡ true → (steps : ℕ) × (followed ds (suc steps) id ≡ Some id)
  within_true id zero h = absurd (true≢false (sym h))
  within_true id (suc most) h = go (within_true id most) (is_at id (followed ds (suc most) id)) refl h
    where
      go : (returns_within ds id most ≡ true → (steps : ℕ) × (followed ds (suc steps) id ≡ Some id)) → (t : Bool) → is_at id (followed ds (suc most) id) ≡ t →
          (t || returns_within ds id most) ≡ true → (steps : ℕ) × (followed ds (suc steps) id ≡ Some id)
      go others true here k = (most, at_true id (followed ds (suc most) id) here)
      go others false here k = others k

  -- ---- being reached, as a test

  any_reached : (f : ℕ → Option ℕ) (id : ℕ) (some : List Directive) → list_any (is_at id) (map (λ (d : Directive). f d.id) some) ≡ true → (first : ℕ) × (f first ≡ Some id)
  any_reached f id [] h = absurd (true≢false (sym h))
  any_reached f id (d ∷ rest) h = go (any_reached f id rest) (is_at id (f d.id)) refl h
    where
      go : (list_any (is_at id) (map (λ (d : Directive). f d.id) rest) ≡ true → (first : ℕ) × (f first ≡ Some id)) → (t : Bool) → is_at id (f d.id) ≡ t →
          (t || list_any (is_at id) (map (λ (d : Directive). f d.id) rest)) ≡ true → (first : ℕ) × (f first ≡ Some id)
      go others true here k = (d.id, at_true id (f d.id) here)
      go others false here k = others k

  reached_so : (f : ℕ → Option ℕ) (id first : ℕ) (some : List Directive) (found : Directive) → with_id some first ≡ Some found → f first ≡ Some id →
      list_any (is_at id) (map (λ (d : Directive). f d.id) some) ≡ true
  reached_so f id first [] found there h = absurd (none-some found there)
  reached_so f id first (d ∷ rest) found there h = go (reached_so f id first rest found) (nat_eq d.id first) refl there
    where
      or_so : (a b : Bool) → b ≡ true → (a || b) ≡ true
      or_so true b k = refl
      or_so false b k = k

      go : (with_id rest first ≡ Some found → f first ≡ Some id → list_any (is_at id) (map (λ (d : Directive). f d.id) rest) ≡ true) → (t : Bool) → nat_eq d.id first ≡ t →
          (if t then Some d else with_id rest first) ≡ Some found → (is_at id (f d.id) || list_any (is_at id) (map (λ (d : Directive). f d.id) rest)) ≡ true
      go others true same there =
          ap (λ (t : Bool). t || list_any (is_at id) (map (λ (d : Directive). f d.id) rest)) (at_so id (f d.id) (ap f (eqb-true d.id first same) ∙ h))
      go others false apart there = or_so (is_at id (f d.id)) (list_any (is_at id) (map (λ (d : Directive). f d.id) rest)) (others there h)

  -- many times round
  pub rounds : (steps id times : ℕ) → followed ds (suc steps) id ≡ Some id → followed ds (times * suc steps) id ≡ Some id
  rounds steps id zero h = ap (λ (n : ℕ). followed ds n id) (none_of (suc steps))
    where
      none_of : (n : ℕ) → 0 * n ≡ 0
      none_of n = grind arith
  rounds steps id (suc times) h =
      ap (λ (n : ℕ). followed ds n id) (more_of times (suc steps)) ∙ followed_on ds (suc steps) (times * suc steps) id ∙ ap (option_and_then (followed ds (times * suc steps))) h ∙ rounds steps id times h
    where
      more_of : (t n : ℕ) → suc t * n ≡ n + t * n
      more_of t n = grind arith

  -- an id on a cycle is reached by as many anchors as one likes
  reached_by_many : (steps far id : ℕ) → followed ds (suc steps) id ≡ Some id → (first : ℕ) × (followed ds far first ≡ Some id)
  reached_by_many steps far id h =
      go (followed ds (far * steps) id) refl (sym (followed_on ds (far * steps) far id) ∙ ap (λ (n : ℕ). followed ds n id) (split far steps) ∙ rounds steps id far h)
    where
      split : (m n : ℕ) → m * n + m ≡ m * suc n
      split m n = grind arith

      go : (there : Option ℕ) → followed ds (far * steps) id ≡ there → option_and_then (followed ds far) (followed ds (far * steps) id) ≡ Some id → (first : ℕ) × (followed ds far first ≡ Some id)
      go None none k = absurd (none-some id (sym (ap (option_and_then (followed ds far)) none) ∙ k))
      go (Some first) here k = (first, sym (ap (option_and_then (followed ds far)) here) ∙ k)

  -- where following anchors returns at all, it does so within as many as there are directives
  pub round_within : (steps id : ℕ) → followed ds (suc steps) id ≡ Some id → returns_within ds id (length ds) ≡ true
  round_within steps id h =
      let one = reached_by_many steps (suc (length ds) + 0) id h in
      let round = far_round 0 one.0 id one.1 in
      within_so id (length ds) round.0 (omega (arith, round.1.0)) round.1.1

  -- the two tests agree
  pub reached_is_round : (steps id : ℕ) → length ds ≤ steps → list_any (is_at id) (reached_after ds (suc steps)) ≡ returns_within ds id (length ds)
  reached_is_round steps id enough = alike (list_any (is_at id) (reached_after ds (suc steps))) (returns_within ds id (length ds)) there back
    where
      alike : (a b : Bool) → (a ≡ true → b ≡ true) → (b ≡ true → a ≡ true) → a ≡ b
      alike true b to from = sym (to refl)
      alike false true to from = from refl
      alike false false to from = refl

      there : list_any (is_at id) (reached_after ds (suc steps)) ≡ true → returns_within ds id (length ds) ≡ true
      there h =
          let one = any_reached (followed ds (suc steps)) id ds h in
          let split : suc (length ds) + (steps - length ds) ≡ suc steps = omega (arith, enough) in
          let round = far_round (steps - length ds) one.0 id (ap (λ (n : ℕ). followed ds n one.0) split ∙ one.1) in
          within_so id (length ds) round.0 (omega (arith, round.1.0)) round.1.1

      back : returns_within ds id (length ds) ≡ true → list_any (is_at id) (reached_after ds (suc steps)) ≡ true
      back h =
          let round = within_true id (length ds) h in
          let one = reached_by_many round.0 (suc steps) id round.1 in
          from one.0 one.1 (with_id ds one.0) refl
        where
          from : (first : ℕ) → followed ds (suc steps) first ≡ Some id → (found : Option Directive) → with_id ds first ≡ found → list_any (is_at id) (reached_after ds (suc steps)) ≡ true
          from first reach None none = absurd (none-some id (sym (nowhere ds steps first none) ∙ reach))
          from first reach (Some found) here = reached_so (followed ds (suc steps)) id first ds found here reach
