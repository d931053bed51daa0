-- Items stay linked where one is put behind them, and where the last is taken out; how a search goes along the links.
use Rattle.std.proofs.Common.{◌≡◌, ◌≢◌, ℕ, zero, suc, ◌+◌, ◌-◌, ◌^◌, ◌<◌, ◌≤◌, List, [], ◌∷◌, ◌++◌, length, map, min, Option, Some, None, take, set, replicate, slice_get, get_or, ◌⊎◌, inl, inr, refl, ap, sym, subst, ◌∙◌, arith, length-append}
use Rattle.std.specs.Prelude.{IfSome}
use Rattle.std.specs.Option.{option_map}
use Rattle.std.proofs.lemmas.Bool.{cases_lt, cases_eq}
use Rattle.std.proofs.lemmas.List.{length-take, length-map, length-set, length-replicate, map-append, map-set, get_or-set_same, get_or-replicate, set-get_or, take_all, take_more, take-map, take-take, take-append-le}
use Rattle.std.proofs.lemmas.Option.{slice_get_within, slice_get-map, slice_get-get_or, get_or_from_slice_get, slice_get_read, same_Some, some_pair_parts}
use Rattle.record_book.specs.KeyedItems.{last_with}
use Rattle.record_book.specs.Chains.{AreChained, AreInBuckets, bucket, in_bucket, last_in_bucket, with_key}
use Rattle.record_book.specs.declared.keyed_items.Keyed.{Keyed}
use Rattle.record_book.proofs.LastWith.{first_get, last_is, last_is_none, pushed_other, pushed_same}
use Rattle.record_book.proofs.Walks.{IsWalk, steps_left, walk_at, walk_begins, walk_falls, walk_goes_on, walk_is_over, walk_is_within, walk_passed, walk_stands}

-- ---- lists with one more, and with another item

pub get_front : {A : Type 0} (items : List A) (last : A) (at : ℕ) → at < length items → slice_get (items ++ last ∷ []) at ≡ slice_get items at
get_front [] last at lt = absurd (omega arith)
get_front (first ∷ rest) last zero lt = refl
get_front (first ∷ rest) last (suc at) lt = get_front rest last at (omega arith)

pub get_last : {A : Type 0} (items : List A) (last : A) → slice_get (items ++ last ∷ []) (length items) ≡ Some last
get_last [] last = refl
get_last (first ∷ rest) last = get_last rest last

get_set_same : {A : Type 0} (items : List A) (at : ℕ) (item : A) → at < length items → slice_get (set items at item) at ≡ Some item
get_set_same items at item lt =
    let within : at < length (set items at item) = omega (arith, length-set items at item) in
    slice_get-get_or (set items at item) at item within ∙ ap Some (get_or-set_same items at item item lt)

get_set_other : {A : Type 0} (items : List A) (at other : ℕ) (item : A) → other ≢ at → slice_get (set items at item) other ≡ slice_get items other
get_set_other [] at other item differ = refl
get_set_other (first ∷ rest) zero zero item differ = absurd (differ refl)
get_set_other (first ∷ rest) zero (suc other) item differ = refl
get_set_other (first ∷ rest) (suc at) zero item differ = refl
get_set_other (first ∷ rest) (suc at) (suc other) item differ = get_set_other rest at other item (λ same. differ (ap suc same))

module _ {T : Type 0} where
  key_at : (items : List (Keyed T)) (at : ℕ) (keyed : Keyed T) → slice_get items at ≡ Some keyed → slice_get (map with_key items) at ≡ Some (with_key keyed)
  key_at items at keyed there = slice_get-map with_key items at ∙ ap (option_map with_key) there

  bucket_at : (count : ℕ) (items : List (ℕ × T)) (at : ℕ) (item : ℕ × T) → slice_get items at ≡ Some item →
      slice_get (map (in_bucket count) items) at ≡ Some (in_bucket count item)
  bucket_at count items at item there = slice_get-map (in_bucket count) items at ∙ ap (option_map (in_bucket count)) there

  -- ---- searches

  module _ (items : List (Keyed T)) (count before key : ℕ) where
    -- the first items in their buckets
    abbrev Front : List (ℕ × (ℕ × T))
    Front = map (in_bucket count) (take before (map with_key items))

    -- a search in the bucket of a key, behind which no item has the key
    abbrev pub IsSearch : Option ℕ → Type 0
    IsSearch next = IsWalk Front (bucket count key) (λ at item. item.0 ≡ key) next

    pub search_begins : (first : Option ℕ) → first ≡ last_in_bucket count (bucket count key) (take before (map with_key items)) → IsSearch first
    search_begins first is = walk_begins Front (bucket count key) (λ at item. item.0 ≡ key) first is

    module _ (next : Option ℕ) (walk : IsSearch next) where
      -- it ends where there is no next item
      pub search_ended : ((at : ℕ) → next ≡ Some at → ⊥) → None ≡ last_with key (take before (map with_key items))
      search_ended never =
          sym (last_is_none key (take before (map with_key items))
          (λ at one there. walk_is_over Front (bucket count key) (λ at item. item.0 ≡ key) next never walk at (key, one)
          (bucket_at count (take before (map with_key items)) at (key, one) there) refl))

      module _ (at : ℕ) (is_next : next ≡ Some at) where
        front_length : length Front ≡ min before (length items)
        front_length =
            length-map (take before (map with_key items)) (in_bucket count) ∙ length-take before (map with_key items)
            ∙ ap (min before) (length-map items with_key)

        pub search_within : at < length items
        search_within = omega (arith, front_length, walk_is_within Front (bucket count key) (λ at item. item.0 ≡ key) next at is_next walk)

        below : at < before
        below = omega (arith, front_length, walk_is_within Front (bucket count key) (λ at item. item.0 ≡ key) next at is_next walk)

        stands : IsWalk Front (bucket count key) (λ at item. item.0 ≡ key) (Some at)
        stands = walk_stands Front (bucket count key) (λ at item. item.0 ≡ key) next at is_next walk

        module _ (keyed : Keyed T) (there : slice_get items at ≡ Some keyed) where
          in_front : slice_get (take before (map with_key items)) at ≡ Some (with_key keyed)
          in_front = first_get before at (map with_key items) below ∙ key_at items at keyed there

          is_there : slice_get Front at ≡ Some (in_bucket count (with_key keyed))
          is_there = bucket_at count (take before (map with_key items)) at (with_key keyed) in_front

          pub search_found : keyed.key ≡ key → Some at ≡ last_with key (take before (map with_key items))
          search_found same =
              sym (last_is key at keyed.item (take before (map with_key items)) (in_front ∙ ap (λ k. Some (k, keyed.item)) same)
              (λ other one lt also. walk_passed Front (bucket count key) (λ at item. item.0 ≡ key) at stands other (key, one) lt
              (bucket_at count (take before (map with_key items)) other (key, one) also) refl))

          module _ (newest : List (Option ℕ)) (linked : AreInBuckets count (length items) items newest) where
            is_bucket : bucket count keyed.key ≡ bucket count key
            is_bucket =
                let found = walk_at Front (bucket count key) (λ at item. item.0 ≡ key) at stands in
                (some_pair_parts (bucket count keyed.key) (bucket count key) (with_key keyed) found.0 (sym is_there ∙ found.1)).0

            is_older : keyed.older ≡ last_with (bucket count key) (take at Front)
            is_older =
                let le : at ≤ before = omega (arith, below) in
                linked.older_ at keyed search_within there
                ∙ ap (λ b. last_in_bucket count b (take at (map with_key items))) is_bucket
                ∙ ap (last_with (bucket count key))
                (sym (take-map (in_bucket count) at (take before (map with_key items)) ∙ ap (map (in_bucket count)) (take-take at before (map with_key items) le)))

            pub search_goes_on : (keyed.key ≡ key → ⊥) → IsSearch keyed.older
            search_goes_on differ = walk_goes_on Front (bucket count key) (λ at item. item.0 ≡ key) at keyed.older stands here is_older
              where
                here : (item : ℕ × T) → slice_get Front at ≡ Some (bucket count key, item) → item.0 ≡ key → ⊥
                here item also has =
                    let same : with_key keyed ≡ item =
                    (some_pair_parts (bucket count keyed.key) (bucket count key) (with_key keyed) item (sym is_there ∙ also)).1 in
                    differ (ap (λ (one : ℕ × T). one.0) same ∙ has)

            pub search_is_shorter : steps_left keyed.older < steps_left next
            search_is_shorter =
                subst (λ (n : Option ℕ). steps_left keyed.older < steps_left n) (sym is_next) (walk_falls Front (bucket count key) at keyed.older is_older)

  -- ---- one more item is linked

  newest_more : (count at b : ℕ) (items : List (ℕ × T)) (item : ℕ × T) (newest : List (Option ℕ)) →
      ((k : ℕ) → k < count → slice_get newest k ≡ Some (last_in_bucket count k (take at items))) → slice_get items at ≡ Some item →
      b ≡ bucket count item.0 → b < length newest →
      (k : ℕ) → k < count → slice_get (set newest b (Some at)) k ≡ Some (last_in_bucket count k (take (at + 1) items))
  newest_more count at b items item newest are there is_b within k lt = by (cases_eq k b) ∙ ap (λ one. Some (last_with k one)) (sym more)
    where
      front : List (ℕ × (ℕ × T))
      front = map (in_bucket count) (take at items)

      is_at : length front ≡ at
      is_at =
          omega (arith, length-map (take at items) (in_bucket count), length-take at items, slice_get_within items at item there)

      more : map (in_bucket count) (take (at + 1) items) ≡ front ++ in_bucket count item ∷ []
      more =
          ap (map (in_bucket count))
          (take_more items at item (slice_get_within items at item there) ∙ ap (λ one. take at items ++ one ∷ []) (get_or_from_slice_get items at item item there))
          ∙ map-append (in_bucket count) (take at items) (item ∷ [])

      by : (k ≡ b) ⊎ (k ≡ b → ⊥) → slice_get (set newest b (Some at)) k ≡ Some (last_with k (front ++ in_bucket count item ∷ []))
      by (inl same) =
          ap (slice_get (set newest b (Some at))) same ∙ get_set_same newest b (Some at) within
          ∙ ap (λ n. Some (Some n)) (sym is_at)
          ∙ ap Some (sym (pushed_same (bucket count item.0) item front))
          ∙ ap (λ n. Some (last_with n (front ++ in_bucket count item ∷ []))) (sym (same ∙ is_b))
      by (inr differ) =
          get_set_other newest b k (Some at) differ ∙ are k lt
          ∙ ap Some (sym (pushed_other k (bucket count item.0) item front (λ same. differ (same ∙ sym is_b))))

  keys_pushed : (items : List (Keyed T)) (keyed : Keyed T) → map with_key (items ++ keyed ∷ []) ≡ map with_key items ++ with_key keyed ∷ []
  keys_pushed items keyed = map-append with_key items (keyed ∷ [])

  front_keys : (items : List (Keyed T)) (keyed : Keyed T) (at : ℕ) → at ≤ length items → take at (map with_key (items ++ keyed ∷ [])) ≡ take at (map with_key items)
  front_keys items keyed at le =
      let fits : at ≤ length (map with_key items) = omega (arith, length-map items with_key) in
      ap (take at) (keys_pushed items keyed) ∙ take-append-le at (map with_key items) (with_key keyed ∷ []) fits

  all_keys : (items : List (Keyed T)) → take (length items) (map with_key items) ≡ map with_key items
  all_keys items = take_all (length items) (map with_key items) (omega (arith, length-map items with_key))

  module _ (count b : ℕ) (items : List (Keyed T)) (newest : List (Option ℕ)) (within : b < count) (len : length newest ≡ count) where
    in_newest : b < length newest
    in_newest = omega arith

    pub linked_pushed : (keyed : Keyed T) → AreInBuckets count (length items) items newest → slice_get newest b ≡ Some keyed.older → b ≡ bucket count keyed.key →
        AreInBuckets count (length items + 1) (items ++ keyed ∷ []) (set newest b (Some (length items)))
    linked_pushed keyed linked is_older is_b = record { newest_ = newest_; older_ = older_ }
      where
        newest_ : (k : ℕ) → k < count → slice_get (set newest b (Some (length items))) k
            ≡ Some (last_in_bucket count k (take (length items + 1) (map with_key (items ++ keyed ∷ []))))
        newest_ =
            newest_more count (length items) b (map with_key (items ++ keyed ∷ [])) (with_key keyed) newest
            (λ k lt. linked.newest_ k lt ∙ ap (λ one. Some (last_in_bucket count k one)) (sym (front_keys items keyed (length items) (omega arith))))
            (key_at (items ++ keyed ∷ []) (length items) keyed (get_last items keyed)) is_b in_newest

        older_ : (n : ℕ) (one : Keyed T) → n < length items + 1 → slice_get (items ++ keyed ∷ []) n ≡ Some one →
            one.older ≡ last_in_bucket count (bucket count one.key) (take n (map with_key (items ++ keyed ∷ [])))
        older_ n one lt there = by (cases_lt n (length items))
          where
            last : n ≡ length items → one ≡ keyed → one.older ≡ last_in_bucket count (bucket count one.key) (take n (map with_key (items ++ keyed ∷ [])))
            last is_last same =
                let known : Some keyed.older ≡ Some (last_in_bucket count b (take (length items) (map with_key items))) = sym is_older ∙ linked.newest_ b within in
                let is : keyed.older ≡ last_in_bucket count b (take (length items) (map with_key items)) = cc in
                ap (λ (k : Keyed T). k.older) same ∙ is
                ∙ ap (λ k. last_in_bucket count k (take (length items) (map with_key items))) (is_b ∙ ap (λ (k : Keyed T). bucket count k.key) (sym same))
                ∙ ap (last_in_bucket count (bucket count one.key))
                (sym (front_keys items keyed (length items) (omega arith)) ∙ ap (λ m. take m (map with_key (items ++ keyed ∷ []))) (sym is_last))

            by : (n < length items) ⊎ (length items ≤ n) → one.older ≡ last_in_bucket count (bucket count one.key) (take n (map with_key (items ++ keyed ∷ [])))
            by (inl lt) =
                let le : n ≤ length items = omega arith in
                linked.older_ n one lt (sym (get_front items keyed n lt) ∙ there)
                ∙ ap (last_in_bucket count (bucket count one.key)) (sym (front_keys items keyed n le))
            by (inr ge) =
                let is_last : n ≡ length items = omega arith in
                let is_keyed : Some one ≡ Some keyed = sym there ∙ ap (slice_get (items ++ keyed ∷ [])) is_last ∙ get_last items keyed in
                last is_last (cc)

    pub linked_popped : (last : Keyed T) → AreInBuckets count (length items + 1) (items ++ last ∷ []) newest → b ≡ bucket count last.key →
        AreInBuckets count (length items) items (set newest b last.older)
    linked_popped last linked is_b = record { newest_ = newest_; older_ = older_ }
      where
        before_last : last.older ≡ last_in_bucket count b (take (length items) (map with_key items))
        before_last =
            linked.older_ (length items) last (omega arith) (get_last items last)
            ∙ (λ i. last_in_bucket count (sym is_b i) (front_keys items last (length items) (omega arith) i))

        newest_ : (k : ℕ) → k < count → slice_get (set newest b last.older) k ≡ Some (last_in_bucket count k (take (length items) (map with_key items)))
        newest_ k lt = by (cases_eq k b)
          where
            whole : take (length items + 1) (map with_key (items ++ last ∷ [])) ≡ map with_key items ++ with_key last ∷ []
            whole =
                take_all (length items + 1) (map with_key (items ++ last ∷ [])) (omega (arith, length-map (items ++ last ∷ []) with_key, length-append items (last ∷ [])))
                ∙ keys_pushed items last

            by : (k ≡ b) ⊎ (k ≡ b → ⊥) → slice_get (set newest b last.older) k ≡ Some (last_in_bucket count k (take (length items) (map with_key items)))
            by (inl same) =
                ap (slice_get (set newest b last.older)) same ∙ get_set_same newest b last.older in_newest ∙ ap Some before_last
                ∙ ap (λ n. Some (last_in_bucket count n (take (length items) (map with_key items)))) (sym same)
            by (inr differ) =
                get_set_other newest b k last.older differ ∙ linked.newest_ k lt
                ∙ ap (λ one. Some (last_in_bucket count k one)) whole
                ∙ ap (λ one. Some (last_with k one)) (map-append (in_bucket count) (map with_key items) (with_key last ∷ []))
                ∙ ap Some (pushed_other k (bucket count last.key) (with_key last) (map (in_bucket count) (map with_key items)) (λ same. differ (same ∙ sym is_b)))
                ∙ ap (λ one. Some (last_in_bucket count k one)) (sym (all_keys items))

        older_ : (n : ℕ) (one : Keyed T) → n < length items → slice_get items n ≡ Some one →
            one.older ≡ last_in_bucket count (bucket count one.key) (take n (map with_key items))
        older_ n one lt there =
            let le : n ≤ length items = omega arith in
            linked.older_ n one (omega arith) (get_front items last n lt ∙ there)
            ∙ ap (last_in_bucket count (bucket count one.key)) (front_keys items last n le)

    -- an item that stands there is linked
    module _ (at : ℕ) (keyed made : Keyed T) (there : slice_get items at ≡ Some keyed) (same : with_key made ≡ with_key keyed) where
      pub same_keys : map with_key (set items at made) ≡ map with_key items
      same_keys =
          map-set with_key items at made
          ∙ ap (set (map with_key items) at)
          (same ∙ sym (get_or_from_slice_get (map with_key items) at (with_key keyed) (with_key keyed) (key_at items at keyed there)))
          ∙ set-get_or (map with_key items) at (with_key keyed)

      pub linked_more : AreInBuckets count at items newest → slice_get newest b ≡ Some made.older → b ≡ bucket count keyed.key →
          AreInBuckets count (at + 1) (set items at made) (set newest b (Some at))
      linked_more linked is_older is_b = record { newest_ = newest_; older_ = older_ }
        where
          newest_ : (k : ℕ) → k < count → slice_get (set newest b (Some at)) k ≡ Some (last_in_bucket count k (take (at + 1) (map with_key (set items at made))))
          newest_ k lt =
              newest_more count at b (map with_key items) (with_key keyed) newest linked.newest_ (key_at items at keyed there) is_b in_newest k lt
              ∙ ap (λ one. Some (last_in_bucket count k (take (at + 1) one))) (sym same_keys)

          older_ : (n : ℕ) (one : Keyed T) → n < at + 1 → slice_get (set items at made) n ≡ Some one →
              one.older ≡ last_in_bucket count (bucket count one.key) (take n (map with_key (set items at made)))
          older_ n one lt is = by (cases_eq n at)
            where
              here : n ≡ at → one ≡ made → one.older ≡ last_in_bucket count (bucket count one.key) (take n (map with_key (set items at made)))
              here is_at is_made =
                  let known : Some made.older ≡ Some (last_in_bucket count b (take at (map with_key items))) = sym is_older ∙ linked.newest_ b within in
                  let is_last : made.older ≡ last_in_bucket count b (take at (map with_key items)) = cc in
                  ap (λ (k : Keyed T). k.older) is_made ∙ is_last
                  ∙ ap (λ k. last_in_bucket count k (take at (map with_key items)))
                  (is_b ∙ ap (λ (k : ℕ × T). bucket count k.0) (sym same) ∙ ap (λ (k : Keyed T). bucket count k.key) (sym is_made))
                  ∙ (λ i. last_in_bucket count (bucket count one.key) (take (sym is_at i) (sym same_keys i)))

              by : (n ≡ at) ⊎ (n ≡ at → ⊥) → one.older ≡ last_in_bucket count (bucket count one.key) (take n (map with_key (set items at made)))
              by (inl is_at) =
                  let within : at < length items = slice_get_within items at keyed there in
                  let is_made : Some one ≡ Some made = sym is ∙ ap (slice_get (set items at made)) is_at ∙ get_set_same items at made within in
                  here is_at (cc)
              by (inr differ) =
                  let below : n < at = omega arith in
                  linked.older_ n one below (sym (get_set_other items at n made differ) ∙ is)
                  ∙ ap (λ k. last_in_bucket count (bucket count one.key) (take n k)) (sym same_keys)

  -- ---- all of them

  -- no item is linked yet
  pub none_linked : (count : ℕ) (items : List (Keyed T)) (newest : List (Option ℕ)) → newest ≡ replicate count None → AreInBuckets count 0 items newest
  none_linked count items newest none = record {
    newest_ = λ at lt.
        ap (λ (n : List (Option ℕ)). slice_get n at) none
        ∙ (let within : at < length (replicate {A = Option ℕ} count None) = omega (arith, length-replicate {A = Option ℕ} count None) in
        slice_get-get_or (replicate count None) at None within)
        ∙ ap Some (get_or-replicate count at None None lt);
    older_ = λ at keyed lt there. absurd (omega arith);
  }

  module _ (items : List (Keyed T)) (newest : List (Option ℕ)) where
    pub all_chained : (count : ℕ) → length newest ≡ count → length items ≤ count → length items ≤ 2 ^ 32 → AreInBuckets count (length items) items newest → AreChained items newest
    all_chained count len room few linked = record {
      linked = subst (λ n. AreInBuckets n (length items) items newest) (sym len) linked;
      room = omega arith;
      few = few;
    }

    module _ (chained : AreChained items newest) where
      -- where there is no bucket there is no item
      pub none_newest : (at : ℕ) → length newest ≡ 0 → None ≡ last_in_bucket (length newest) at (map with_key items)
      none_newest at none = by items (omega (arith, chained.room))
        where
          by : (some : List (Keyed T)) → length some ≡ 0 → None ≡ last_in_bucket (length newest) at (map with_key some)
          by [] e = refl
          by (first ∷ rest) e = absurd (omega arith)

      pub newest_known : (key at : ℕ) (read : Option ℕ) → at ≡ bucket (length newest) key → at < length newest → read ≡ get_or newest at read →
          read ≡ last_in_bucket (length newest) (bucket (length newest) key) (map with_key items)
      newest_known key at read is_at lt is =
          same_Some read (last_in_bucket (length newest) at (map with_key items))
          (sym (slice_get_read newest (length newest) at read refl lt is) ∙ chained.linked.newest_ at lt
          ∙ ap (λ one. Some (last_in_bucket (length newest) at one)) (all_keys items))
          ∙ ap (λ b. last_in_bucket (length newest) b (map with_key items)) is_at

      pub chained_pushed : (b : ℕ) (keyed : Keyed T) → length items < length newest → length items < 2 ^ 32 → b ≡ bucket (length newest) keyed.key → b < length newest →
          keyed.older ≡ get_or newest b keyed.older → AreChained (items ++ keyed ∷ []) (set newest b (Some (length items)))
      chained_pushed b keyed room few is_b lt is =
          all_chained_more
          (linked_pushed (length newest) b items newest lt refl keyed chained.linked (slice_get_read newest (length newest) b keyed.older refl lt is) is_b)
        where
          all_chained_more : AreInBuckets (length newest) (length items + 1) (items ++ keyed ∷ []) (set newest b (Some (length items))) →
              AreChained (items ++ keyed ∷ []) (set newest b (Some (length items)))
          all_chained_more linked = record {
            linked =
                let one : length items + 1 ≡ length (items ++ keyed ∷ []) = omega (arith, length-append items (keyed ∷ [])) in
                subst (λ n. AreInBuckets n (length (items ++ keyed ∷ [])) (items ++ keyed ∷ []) (set newest b (Some (length items))))
                (sym (length-set newest b (Some (length items))))
                (subst (λ n. AreInBuckets (length newest) n (items ++ keyed ∷ []) (set newest b (Some (length items)))) one linked);
            room = omega (arith, length-append items (keyed ∷ []), length-set newest b (Some (length items)));
            few = omega (arith, length-append items (keyed ∷ []));
          }

    pub chained_popped : (b : ℕ) (last : Keyed T) → AreChained (items ++ last ∷ []) newest → b ≡ bucket (length newest) last.key → b < length newest →
        AreChained items (set newest b last.older)
    chained_popped b last chained is_b lt = record {
      linked =
          let one : length (items ++ last ∷ []) ≡ length items + 1 = length-append items (last ∷ []) in
          subst (λ n. AreInBuckets n (length items) items (set newest b last.older)) (sym (length-set newest b last.older))
          (linked_popped (length newest) b items newest lt refl last
          (subst (λ n. AreInBuckets (length newest) n (items ++ last ∷ []) newest) one chained.linked) is_b);
      room = omega (arith, chained.room, length-append items (last ∷ []), length-set newest b last.older);
      few = omega (arith, chained.few, length-append items (last ∷ []));
    }

    -- the item before one with its key
    pub older_is : (view : List (ℕ × T)) (at : ℕ) (keyed : Keyed T) (found : Option ℕ) → map with_key items ≡ view → slice_get items at ≡ Some keyed →
        found ≡ last_with keyed.key (take at (map with_key items)) → IfSome (slice_get view at) (λ item. found ≡ last_with item.0 (take at view))
    older_is view at keyed found is there e =
        subst (λ v. IfSome (slice_get v at) (λ (item : ℕ × T). found ≡ last_with item.0 (take at v))) is
        (subst (λ entry. IfSome entry (λ (item : ℕ × T). found ≡ last_with item.0 (take at (map with_key items)))) (sym (key_at items at keyed there)) e)

-- ---- the first of some

module _ {A : Type 0} (whole : List A) where
  pub cut : (now next : List A) → now ≡ take (length now) whole → next ≡ take (length now - 1) now → next ≡ take (length next) whole
  cut now next is_now is_next =
      is_next ∙ ap (take (length now - 1)) is_now ∙ take-take (length now - 1) (length now) whole (omega arith) ∙ ap (λ n. take n whole) (sym count)
    where
      count : length next ≡ length now - 1
      count = omega (arith, ap length is_next, length-take (length now - 1) now)

  pub cut_whole : whole ≡ take (length whole) whole
  cut_whole = sym (take_all (length whole) whole (omega arith))

  pub cut_ended : (now : List A) (count : ℕ) → now ≡ take (length now) whole → min count (length whole) ≤ length now → length now ≤ count → now ≡ take count whole
  cut_ended now count is_now enough few = by (cases_lt (length whole) count)
    where
      by : (length whole < count) ⊎ (count ≤ length whole) → now ≡ take count whole
      by (inl lt) =
          let le : length whole ≤ length now = omega arith in
          let all : length whole ≤ count = omega arith in
          is_now ∙ take_all (length now) whole le ∙ sym (take_all count whole all)
      by (inr ge) = let same : length now ≡ count = omega arith in is_now ∙ ap (λ n. take n whole) same

  pub cut_enough : (now next : List A) (count : ℕ) → min count (length whole) ≤ length now → count < length now → next ≡ take (length now - 1) now →
      min count (length whole) ≤ length next
  cut_enough now next count enough lt is_next = omega (arith, ap length is_next, length-take (length now - 1) now)
