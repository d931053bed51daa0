-- A walk over the items with a key, from the last to the first: what it has passed, and what is left.
use Rattle.std.proofs.Common.{◌≡◌, ℕ, ◌+◌, ◌<◌, ◌≤◌, List, length, Option, Some, None, take, slice_get, inl, inr, ◌⊎◌, refl, ap, sym, subst, ◌∙◌, arith}
use Rattle.std.proofs.lemmas.Bool.{cases_lt}
use Rattle.std.proofs.lemmas.List.{length-take, take_all}
use Rattle.std.proofs.lemmas.Option.{slice_get_within}
use Rattle.std.specs.Prelude.{IfSome}
use Rattle.std.specs.Option.{option_map}
use Rattle.record_book.specs.KeyedItems.{keyed_item, last_with}
use Rattle.record_book.proofs.LastWith.{first_get, last_has_key, last_within, none_behind, none_has_key}

-- how many steps a walk has left at most
abbrev pub steps_left : Option ℕ → ℕ
steps_left None = 0
steps_left (Some at) = at + 1

module _ {T : Type 0} where
  -- the next item of the walk, behind which none passes that has the key
  pub record IsWalk (items : List (ℕ × T)) (key : ℕ) (Passes : ℕ → T → Type 0) (next : Option ℕ) : Type 0 where
    pub from : ℕ
    pub is_next : next ≡ last_with key (take from items)
    pub passed : (at : ℕ) (item : T) → from ≤ at → slice_get items at ≡ Some (key, item) → Passes at item → ⊥

  pub walk_begins : (items : List (ℕ × T)) (key : ℕ) (Passes : ℕ → T → Type 0) (next : Option ℕ) → next ≡ last_with key items → IsWalk items key Passes next
  walk_begins items key Passes next e = record {
    from = length items;
    is_next = e ∙ ap (last_with key) (sym (take_all (length items) items (omega arith)));
    passed = λ at item le there passes. let within : at < length items = slice_get_within items at (key, item) there in omega arith;
  }

  -- it stands at an item with the key
  pub walk_at : (items : List (ℕ × T)) (key : ℕ) (Passes : ℕ → T → Type 0) (at : ℕ) → IsWalk items key Passes (Some at) → (item : T) × (slice_get items at ≡ Some (key, item))
  walk_at items key Passes at walk = (has.0, sym (first_get walk.from at items below) ∙ has.1)
    where
      is : last_with key (take walk.from items) ≡ Some at
      is = sym walk.is_next

      has : (item : T) × (slice_get (take walk.from items) at ≡ Some (key, item))
      has = last_has_key key at (take walk.from items) is

      below : at < walk.from
      below = omega (arith, last_within key at (take walk.from items) is, length-take walk.from items)

  pub walk_within : (items : List (ℕ × T)) (key : ℕ) (Passes : ℕ → T → Type 0) (at : ℕ) → IsWalk items key Passes (Some at) → at < length items
  walk_within items key Passes at walk = let there = walk_at items key Passes at walk in slice_get_within items at (key, there.0) there.1

  -- none passes behind the item at which it stands
  pub walk_passed : (items : List (ℕ × T)) (key : ℕ) (Passes : ℕ → T → Type 0) (at : ℕ) → IsWalk items key Passes (Some at) →
      (other : ℕ) (item : T) → at < other → slice_get items other ≡ Some (key, item) → Passes other item → ⊥
  walk_passed items key Passes at walk other item lt there passes = elim (cases_lt other walk.from) [
    | inl below ↦ none_behind key at other item (take walk.from items) (sym walk.is_next) lt (first_get walk.from other items below ∙ there)
    | inr le ↦ walk.passed other item le there passes
  ]

  pub walk_goes_on : (items : List (ℕ × T)) (key : ℕ) (Passes : ℕ → T → Type 0) (at : ℕ) (next : Option ℕ) → IsWalk items key Passes (Some at) →
      ((item : T) → slice_get items at ≡ Some (key, item) → Passes at item → ⊥) → next ≡ last_with key (take at items) → IsWalk items key Passes next
  walk_goes_on items key Passes at next walk here e = record { from = at; is_next = e; passed = passed }
    where
      passed : (other : ℕ) (item : T) → at ≤ other → slice_get items other ≡ Some (key, item) → Passes other item → ⊥
      passed other item le there passes = by (cases_lt at other)
        where
          by : (at < other) ⊎ (other ≤ at) → ⊥
          by (inl lt) = walk_passed items key Passes at walk other item lt there passes
          by (inr ge) =
              let same : at ≡ other = omega arith in
              here item (ap (slice_get items) same ∙ there) (subst (λ n. Passes n item) (sym same) passes)

  -- none that has the key passes where the walk has ended
  pub walk_ended : (items : List (ℕ × T)) (key : ℕ) (Passes : ℕ → T → Type 0) → IsWalk items key Passes None →
      (at : ℕ) (item : T) → slice_get items at ≡ Some (key, item) → Passes at item → ⊥
  walk_ended items key Passes walk at item there passes = by (cases_lt at walk.from)
    where
      by : (at < walk.from) ⊎ (walk.from ≤ at) → ⊥
      by (inl lt) = none_has_key key at item (take walk.from items) (sym walk.is_next) (first_get walk.from at items lt ∙ there)
      by (inr le) = walk.passed at item le there passes

  -- the walk has fewer steps left
  pub walk_falls : (items : List (ℕ × T)) (key at : ℕ) (next : Option ℕ) → next ≡ last_with key (take at items) → steps_left next < at + 1
  walk_falls items key at None e = omega arith
  walk_falls items key at (Some n) e = omega (arith, last_within key n (take at items) (sym e), length-take at items)

  -- the item at which it stands
  pub walk_item : (items : List (ℕ × T)) (key : ℕ) (Passes : ℕ → T → Type 0) (at : ℕ) (one : T) → IsWalk items key Passes (Some at) → keyed_item items at ≡ Some one →
      slice_get items at ≡ Some (key, one)
  walk_item items key Passes at one walk is =
      let there = walk_at items key Passes at walk in
      let same : Some there.0 ≡ Some one = sym (ap (option_map (λ (entry : ℕ × T). entry.1)) there.1) ∙ is in
      there.1 ∙ ap (option_map (λ (item : T). (key, item))) same

  -- the position before it
  pub walk_older : (items : List (ℕ × T)) (key at : ℕ) (one : T) (next : Option ℕ) → slice_get items at ≡ Some (key, one) →
      IfSome (slice_get items at) (λ entry. next ≡ last_with entry.0 (take at items)) → next ≡ last_with key (take at items)
  walk_older items key at one next there older = subst (λ entry. IfSome entry (λ (entry : ℕ × T). next ≡ last_with entry.0 (take at items))) there older

  -- an item with its key
  pub item_keyed : (items : List (ℕ × T)) (at : ℕ) (one : T) → keyed_item items at ≡ Some one → (key : ℕ) × (slice_get items at ≡ Some (key, one))
  item_keyed items at one is = by (slice_get items at) is
    where
      by : (entry : Option (ℕ × T)) → option_map (λ entry. entry.1) entry ≡ Some one → (key : ℕ) × (entry ≡ Some (key, one))
      by (Some entry) e = let same : entry.1 ≡ one = cc in (entry.0, ap (λ (item : T). Some (entry.0, item)) same)
      by None e = absurd (cc)

  -- it stands where the next item is
  pub walk_stands : (items : List (ℕ × T)) (key : ℕ) (Passes : ℕ → T → Type 0) (next : Option ℕ) (at : ℕ) → next ≡ Some at → IsWalk items key Passes next → IsWalk items key Passes (Some at)
  walk_stands items key Passes next at is walk = subst (IsWalk items key Passes) is walk

  -- where there is no next item the walk has ended
  pub walk_is_over : (items : List (ℕ × T)) (key : ℕ) (Passes : ℕ → T → Type 0) (next : Option ℕ) → ((at : ℕ) → next ≡ Some at → ⊥) → IsWalk items key Passes next →
      (at : ℕ) (item : T) → slice_get items at ≡ Some (key, item) → Passes at item → ⊥
  walk_is_over items key Passes (Some n) never walk = absurd (never n refl)
  walk_is_over items key Passes None never walk = walk_ended items key Passes walk

  -- one item at a position
  pub one_item : (items : List (ℕ × T)) (key at : ℕ) (item one : T) → slice_get items at ≡ Some (key, item) → keyed_item items at ≡ Some one → item ≡ one
  one_item items key at item one there is =
      let same : Some item ≡ Some one = sym (ap (option_map (λ (entry : ℕ × T). entry.1)) there) ∙ is in cc

  -- the walk goes on from where it stands
  module _ (items : List (ℕ × T)) (key : ℕ) (Passes : ℕ → T → Type 0) (now next : Option ℕ) (at : ℕ) (is_now : now ≡ Some at)
      (older : IfSome (slice_get items at) (λ entry. next ≡ last_with entry.0 (take at items))) (walk : IsWalk items key Passes now) where
    stands : IsWalk items key Passes (Some at)
    stands = walk_stands items key Passes now at is_now walk

    is_older : next ≡ last_with key (take at items)
    is_older = let there = walk_at items key Passes at stands in walk_older items key at there.0 next there.1 older

    pub walks_on : (one : T) → keyed_item items at ≡ Some one → (Passes at one → ⊥) → IsWalk items key Passes next
    walks_on one is not =
        walk_goes_on items key Passes at next stands
        (λ item there passes. not (subst (Passes at) (one_item items key at item one there is) passes)) is_older

    pub walks_off : ((item : T) → Passes at item → ⊥) → IsWalk items key Passes next
    walks_off not = walk_goes_on items key Passes at next stands (λ item there. not item) is_older

    pub walk_is_shorter : steps_left next < steps_left now
    walk_is_shorter = subst (λ (n : Option ℕ). steps_left next < steps_left n) (sym is_now) (walk_falls items key at next is_older)

  pub walk_is_within : (items : List (ℕ × T)) (key : ℕ) (Passes : ℕ → T → Type 0) (next : Option ℕ) (at : ℕ) → next ≡ Some at → IsWalk items key Passes next → at < length items
  walk_is_within items key Passes next at is walk = walk_within items key Passes at (walk_stands items key Passes next at is walk)
