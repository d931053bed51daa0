-- Paths that are the same, by the tests that compare them.
use Rattle.std.proofs.Common.{◌≡◌, ℕ, nat_eq, Bool, true, false, ◌&&◌, List, [], ◌∷◌, refl, ap}
use Rattle.std.proofs.lemmas.Bool.{eq-eqb, eqb-true}
use Rattle.std.specs.Cmp.Lexicographic.{nat_list_cmp_total}
use Rattle.std.specs.declared.cmp.Ordering.{Ordering}
use Rattle.std.specs.declared.cmp.Ordering.TheVariants.{Less, Equal, Greater}
use Rattle.std.specs.Ordering.{ordering_reverse, is_eq}
use Rattle.std.specs.BTreeMap.{is_at}
use Rattle.std.proofs.lemmas.Map.Lookups.{exact_bytes}
use Rattle.aerie_base.specs.Paths.{path_cmp}
use Rattle.run_data.specs.Spans.{same_path}

-- ---- by their order

equal_is : (order : Ordering) → is_eq order ≡ true → order ≡ Equal
equal_is Less e = absurd (cc)
equal_is Equal e = refl
equal_is Greater e = absurd (cc)

pub at_same : (path other : List ℕ) → is_at (path_cmp path) other ≡ true → path ≡ other
at_same path other e = exact_bytes path other (equal_is (path_cmp path other) e)

itself : (path : List ℕ) → path_cmp path path ≡ Equal
itself path = by (path_cmp path path) (nat_list_cmp_total.antisymm path path)
  where
    by : (order : Ordering) → order ≡ ordering_reverse order → order ≡ Equal
    by Less e = absurd (cc)
    by Equal e = refl
    by Greater e = absurd (cc)

pub at_itself : (path : List ℕ) → is_at (path_cmp path) path ≡ true
at_itself path = ap is_eq (itself path)

-- ---- by their numbers

pub same_itself : (path : List ℕ) → same_path path path ≡ true
same_itself [] = refl
same_itself (number ∷ path) = λ i. eq-eqb number number refl i && same_itself path i

both_true : (first second : Bool) → (first && second) ≡ true → (first ≡ true) × (second ≡ true)
both_true true true h = (refl, refl)
both_true true false h = absurd (cc)
both_true false second h = absurd (cc)

pub same_is : (path other : List ℕ) → same_path path other ≡ true → path ≡ other
same_is [] [] h = refl
same_is [] (number ∷ other) h = absurd (cc)
same_is (number ∷ path) [] h = absurd (cc)
same_is (number ∷ path) (other ∷ rest) h =
    let both = both_true (nat_eq number other) (same_path path rest) h in
    λ i. eqb-true number other both.0 i ∷ same_is path rest both.1 i
