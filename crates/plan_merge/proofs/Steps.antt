-- One more item of a list.
use Rattle.std.proofs.Common.{◌≡◌, ℕ, ◌+◌, ◌<◌, ◌≤◌, ◌||◌, Bool, true, false, zero, suc, List, [], ◌∷◌, ◌++◌, Option, Some, slice_get, map, filter_map, take, drop, get_or, length, refl, sym, ap, subst, ◌∙◌, arith}
use Rattle.std.specs.List.{cons_option, list_any}
use Rattle.std.proofs.lemmas.List.{map-append, take_all}
use Rattle.std.proofs.lemmas.List.Elements.{filter_map-append}
use Rattle.std.proofs.lemmas.List.Folds.{list_any-append}
use Rattle.std.proofs.Math.Seq.{take-suc}

take_more : {X : Type 0} (xs : List X) (i : ℕ) (x : X) → i < length xs → x ≡ get_or xs i x → take i xs ++ x ∷ [] ≡ take (i + 1) xs
take_more xs i x within here =
    let next : i + 1 ≡ suc i = omega arith in
    ap (λ y. take i xs ++ y ∷ []) here ∙ sym (take-suc xs i x within) ∙ sym (ap (λ (n : ℕ). take n xs) next)

pub filter_map_more : {X Y : Type 0} (h : X → Option Y) (xs : List X) (i : ℕ) (x : X) → i < length xs → x ≡ get_or xs i x →
    filter_map h (take i xs) ++ cons_option (h x) [] ≡ filter_map h (take (i + 1) xs)
filter_map_more h xs i x within here = sym (filter_map-append h (take i xs) (x ∷ [])) ∙ ap (filter_map h) (take_more xs i x within here)

pub map_more : {X Y : Type 0} (h : X → Y) (xs : List X) (i : ℕ) (x : X) → i < length xs → x ≡ get_or xs i x →
    map h (take i xs) ++ h x ∷ [] ≡ map h (take (i + 1) xs)
map_more h xs i x within here = sym (map-append h (take i xs) (x ∷ [])) ∙ ap (map h) (take_more xs i x within here)

-- the same, where what is given is known by the item at the place
pub map_next : {X Y : Type 0} (h : X → Y) (xs : List X) (i : ℕ) (y : Y) → i < length xs → ((x : X) → slice_get xs i ≡ Some x → y ≡ h x) →
    map h (take i xs) ++ y ∷ [] ≡ map h (take (i + 1) xs)
map_next h [] i y within is = absurd (omega (arith, within))
map_next h (x ∷ xs) i y within is =
    let one = item_at (x ∷ xs) i within in
    ap (λ z. map h (take i (x ∷ xs)) ++ z ∷ []) (is one.0 one.1.0) ∙ map_more h (x ∷ xs) i one.0 within one.1.1
  where
    item_at : {Z : Type 0} (zs : List Z) (at : ℕ) → at < length zs → (z : Z) × ((slice_get zs at ≡ Some z) × (z ≡ get_or zs at z))
    item_at [] at within = absurd (omega (arith, within))
    item_at (z ∷ zs) zero within = (z, (refl, refl))
    item_at (z ∷ zs) (suc at) within = item_at zs at (omega (arith, within))

pub map_all : {X Y : Type 0} (h : X → Y) (xs : List X) (i : ℕ) → length xs ≤ i → map h (take i xs) ≡ map h xs
map_all h xs i all = ap (map h) (take_all i xs all)

pub any_more : {X : Type 0} (p : X → Bool) (xs : List X) (i : ℕ) (x : X) → i < length xs → x ≡ get_or xs i x →
    (list_any p (take i xs) || p x) ≡ list_any p (take (i + 1) xs)
any_more p xs i x within here =
    so (list_any p (take i xs)) (p x) ∙ sym (list_any-append p (take i xs) (x ∷ [])) ∙ ap (list_any p) (take_more xs i x within here)
  where
    so : (a b : Bool) → (a || b) ≡ (a || (b || false))
    so true b = refl
    so false true = refl
    so false false = refl

-- the same where the list is equal to another one
pub filter_map_more_of : {X Y : Type 0} (h : X → Option Y) (xs ys : List X) → xs ≡ ys → (i : ℕ) (x : X) → i < length xs → x ≡ get_or xs i x →
    filter_map h (take i ys) ++ cons_option (h x) [] ≡ filter_map h (take (i + 1) ys)
filter_map_more_of h xs ys same i x within here =
    subst (λ zs. filter_map h (take i zs) ++ cons_option (h x) [] ≡ filter_map h (take (i + 1) zs)) same (filter_map_more h xs i x within here)

pub filter_map_all_of : {X Y : Type 0} (h : X → Option Y) (xs ys : List X) → xs ≡ ys → (i : ℕ) → length xs ≤ i → filter_map h (take i ys) ≡ filter_map h ys
filter_map_all_of h xs ys same i all = ap (filter_map h) (take_all i ys (subst (λ zs. length zs ≤ i) same all))

-- whatever stands for an item past the end, an item is the same
pub any_default : {X : Type 0} (xs : List X) (i : ℕ) (d e : X) → i < length xs → get_or xs i d ≡ get_or xs i e
any_default [] i d e within = absurd (omega (arith, within))
any_default (x ∷ xs) zero d e within = refl
any_default (x ∷ xs) (suc i) d e within = any_default xs i d e (omega (arith, within))

pub own_item : {X : Type 0} (xs : List X) (i : ℕ) (d : X) → i < length xs → get_or xs i d ≡ get_or xs i (get_or xs i d)
own_item xs i d within = any_default xs i d (get_or xs i d) within

-- what a function gives of an item
pub mapped_item : {X Y : Type 0} (h : X → Y) (xs : List X) (i : ℕ) (x : X) (d : Y) → i < length xs → x ≡ get_or xs i x → get_or (map h xs) i d ≡ h x
mapped_item h [] i x d within here = absurd (omega (arith, within))
mapped_item h (y ∷ xs) zero x d within here = ap h (sym here)
mapped_item h (y ∷ xs) (suc i) x d within here = mapped_item h xs i x d (omega (arith, within)) here

pub mapped_item_of : {X Y : Type 0} (h : X → Y) (ys : List Y) (xs : List X) → ys ≡ map h xs → (items : List X) → items ≡ xs → (i : ℕ) (x : X) (d : Y) →
    i < length items → x ≡ get_or items i x → get_or ys i d ≡ h x
mapped_item_of h ys xs are items same i x d within here =
    ap (λ zs. get_or zs i d) are ∙ ap (λ zs. get_or (map h zs) i d) (sym same) ∙ mapped_item h items i x d within here

pub drop_all : {X : Type 0} (xs : List X) (i : ℕ) → length xs ≤ i → drop i xs ≡ []
drop_all [] zero all = refl
drop_all [] (suc i) all = refl
drop_all (x ∷ xs) zero all = absurd (omega (arith, all))
drop_all (x ∷ xs) (suc i) all = drop_all xs i (omega (arith, all))
