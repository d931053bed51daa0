-- The last item with a key.
use Rattle.std.proofs.Common.{◌≡◌, ◌≢◌, ℕ, zero, suc, ◌<◌, ◌≤◌, Bool, true, false, List, [], ◌∷◌, ◌++◌, length, Option, Some, None, nat_eq, take, slice_get, if◌then◌else◌, ◌⊎◌, inl, inr, refl, ap, sym, subst, ◌∙◌, arith}
use Rattle.std.proofs.lemmas.Bool.{cases_lt}
use Rattle.std.proofs.lemmas.Bool.Decides.{nat_tests}
use Rattle.record_book.specs.KeyedItems.{position_behind, last_with}

module _ {T : Type 0} where
  -- ---- one more

  pushed : (key new : ℕ) (item : T) (items : List (ℕ × T)) →
      last_with key (items ++ (new, item) ∷ []) ≡ (if nat_eq key new then Some (length items) else last_with key items)
  pushed key new item [] = by (nat_eq key new)
    where
      by : (b : Bool) → position_behind b None ≡ (if b then Some 0 else None)
      by true = refl
      by false = refl
  pushed key new item (first ∷ rest) = ap (position_behind (nat_eq key first.0)) (pushed key new item rest) ∙ by (nat_eq key new)
    where
      by : (b : Bool) → position_behind (nat_eq key first.0) (if b then Some (length rest) else last_with key rest)
          ≡ (if b then Some (suc (length rest)) else position_behind (nat_eq key first.0) (last_with key rest))
      by true = refl
      by false = refl

  pub pushed_same : (key : ℕ) (item : T) (items : List (ℕ × T)) → last_with key (items ++ (key, item) ∷ []) ≡ Some (length items)
  pushed_same key item items = pushed key key item items ∙ by (nat_eq key key) (grind (arith, nat_tests))
    where
      by : (b : Bool) → b ≡ true → (if b then Some (length items) else last_with key items) ≡ Some (length items)
      by true e = refl
      by false e = absurd (cc)

  pub pushed_other : (key new : ℕ) (item : T) (items : List (ℕ × T)) → key ≢ new → last_with key (items ++ (new, item) ∷ []) ≡ last_with key items
  pushed_other key new item items differ = pushed key new item items ∙ by (nat_eq key new) (grind (arith, nat_tests))
    where
      by : (b : Bool) → b ≡ false → (if b then Some (length items) else last_with key items) ≡ last_with key items
      by true e = absurd (cc)
      by false e = refl

  -- ---- what it is

  pub last_within : (key at : ℕ) (items : List (ℕ × T)) → last_with key items ≡ Some at → at < length items
  last_within key at [] e = absurd (cc)
  last_within key at (first ∷ rest) e = by (nat_eq key first.0) (last_with key rest) (λ n. last_within key n rest) e
    where
      by : (b : Bool) (last : Option ℕ) → ((n : ℕ) → last ≡ Some n → n < length rest) → position_behind b last ≡ Some at → at < suc (length rest)
      by b (Some n) further is = let below : n < length rest = further n refl in let same : suc n ≡ at = cc in omega arith
      by true None further is = let same : 0 ≡ at = cc in omega arith
      by false None further is = absurd (cc)

  pub last_has_key : (key at : ℕ) (items : List (ℕ × T)) → last_with key items ≡ Some at → (item : T) × (slice_get items at ≡ Some (key, item))
  last_has_key key at [] e = absurd (cc)
  last_has_key key at (first ∷ rest) e = by (nat_eq key first.0) refl (last_with key rest) (λ n. last_has_key key n rest) e
    where
      here : key ≡ first.0 → 0 ≡ at → (item : T) × (slice_get (first ∷ rest) at ≡ Some (key, item))
      here is_key is = subst (λ n. (item : T) × (slice_get (first ∷ rest) n ≡ Some (key, item))) is
          (first.1, ap (λ k. Some (k, first.1)) (sym is_key))

      by : (b : Bool) → nat_eq key first.0 ≡ b → (last : Option ℕ) →
          ((n : ℕ) → last ≡ Some n → (item : T) × (slice_get rest n ≡ Some (key, item))) →
          position_behind b last ≡ Some at → (item : T) × (slice_get (first ∷ rest) at ≡ Some (key, item))
      by b is_key (Some n) further is =
          let same : suc n ≡ at = cc in
          subst (λ n. (item : T) × (slice_get (first ∷ rest) n ≡ Some (key, item))) same (further n refl)
      by true is_key None further is = here (grind (arith, nat_tests)) (cc)
      by false is_key None further is = absurd (cc)

  pub none_has_key : (key at : ℕ) (item : T) (items : List (ℕ × T)) → last_with key items ≡ None → slice_get items at ≡ Some (key, item) → ⊥
  none_has_key key at item [] e there = absurd (cc)
  none_has_key key at item (first ∷ rest) e there = by at (nat_eq key first.0) refl (last_with key rest) (λ n. none_has_key key n item rest) e there
    where
      by : (n : ℕ) (b : Bool) → nat_eq key first.0 ≡ b → (last : Option ℕ) →
          ((n : ℕ) → last ≡ None → slice_get rest n ≡ Some (key, item) → ⊥) →
          position_behind b last ≡ None → slice_get (first ∷ rest) n ≡ Some (key, item) → ⊥
      by n b is_key (Some m) further is has = absurd (cc)
      by n true is_key None further is has = absurd (cc)
      by zero false is_key None further is has =
          let pair : first ≡ (key, item) = cc in
          let same : first.0 ≡ key = ap (λ (p : ℕ × T). p.0) pair in grind (arith, nat_tests)
      by (suc n) false is_key None further is has = further n refl has

  pub none_behind : (key at other : ℕ) (item : T) (items : List (ℕ × T)) → last_with key items ≡ Some at → at < other → slice_get items other ≡ Some (key, item) → ⊥
  none_behind key at other item [] e behind there = absurd (cc)
  none_behind key at other item (first ∷ rest) e behind there =
      by other (nat_eq key first.0) (last_with key rest) (λ n m. none_behind key n m item rest) (λ n. none_has_key key n item rest) e behind there
    where
      by : (m : ℕ) (b : Bool) (last : Option ℕ) →
          ((n m : ℕ) → last ≡ Some n → n < m → slice_get rest m ≡ Some (key, item) → ⊥) →
          ((n : ℕ) → last ≡ None → slice_get rest n ≡ Some (key, item) → ⊥) →
          position_behind b last ≡ Some at → at < m → slice_get (first ∷ rest) m ≡ Some (key, item) → ⊥
      by zero b last further none is lt has = omega arith
      by (suc m) b (Some n) further none is lt has = let same : suc n ≡ at = cc in further n m refl (omega arith) has
      by (suc m) true None further none is lt has = none m refl has
      by (suc m) false None further none is lt has = absurd (cc)

  -- ---- among the first items

  pub first_get : (n at : ℕ) (items : List (ℕ × T)) → at < n → slice_get (take n items) at ≡ slice_get items at
  first_get zero at items lt = absurd (omega arith)
  first_get (suc n) at [] lt = refl
  first_get (suc n) zero (first ∷ rest) lt = refl
  first_get (suc n) (suc at) (first ∷ rest) lt = first_get n at rest (omega arith)

  -- ---- which it is

  -- an item with the key behind which none has it is the last
  pub last_is : (key at : ℕ) (item : T) (items : List (ℕ × T)) → slice_get items at ≡ Some (key, item) →
      ((other : ℕ) (one : T) → at < other → slice_get items other ≡ Some (key, one) → ⊥) → last_with key items ≡ Some at
  last_is key at item items there none = by (last_with key items) refl
    where
      same : (n : ℕ) → last_with key items ≡ Some n → (n < at) ⊎ (at ≤ n) → (at < n) ⊎ (n ≤ at) → n ≡ at
      same n is (inl lt) other = absurd (none_behind key n at item items is lt there)
      same n is (inr ge) (inl lt) = let has = last_has_key key n items is in absurd (none n has.0 lt has.1)
      same n is (inr ge) (inr le) = omega arith

      by : (last : Option ℕ) → last_with key items ≡ last → last ≡ Some at
      by None is = absurd (none_has_key key at item items is there)
      by (Some n) is = ap Some (same n is (cases_lt n at) (cases_lt at n))

  -- where none has the key there is no last
  pub last_is_none : (key : ℕ) (items : List (ℕ × T)) → ((at : ℕ) (one : T) → slice_get items at ≡ Some (key, one) → ⊥) → last_with key items ≡ None
  last_is_none key items none = by (last_with key items) refl
    where
      by : (last : Option ℕ) → last_with key items ≡ last → last ≡ None
      by None is = refl
      by (Some n) is = let has = last_has_key key n items is in absurd (none n has.0 has.1)
