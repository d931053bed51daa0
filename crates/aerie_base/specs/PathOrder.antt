-- A file of lemmas: what it proves need not be read to trust a clause.
--
-- What the order of paths means. A task stands before what was made below it, and that stands together: the paths
-- under one are those from it on, up to the first that is not under it.
use Rattle.std.specs.Prelude.{◌≡◌, ◌↔◌, ℕ, ◌<◌, ◌&&◌, List, [], ◌∷◌, ◌++◌, nat_eq, Bool, true, false, IsTrue, refl}
use Rattle.std.proofs.Common.{◌∙◌, ap, sym}
use Rattle.std.specs.Cmp.{nat_cmp_is, unsigned_tied}
use Rattle.std.specs.Cmp.Lexicographic.{slice_cmp}
use Rattle.std.specs.Ordering.{nat_cmp, is_eq, is_gt, ordering_reverse, ordering_then}
use Rattle.std.specs.declared.cmp.Ordering.{Ordering}
use Rattle.std.specs.declared.cmp.Ordering.TheVariants.{Less, Equal, Greater}
use Rattle.std.specs.declared.ops.Bound.TheVariants.{Included, Unbounded}
use Rattle.std.specs.BTreeSet.{BTreeSet, contains, IsKeyRangeOf}
use Rattle.std.proofs.lemmas.Bool.{true≢false}
use Rattle.std.proofs.lemmas.Bool.Decides.{Decides-eqb}
use Rattle.std.proofs.lemmas.Cmp.{nat_cmp_total}
use Rattle.aerie_base.specs.Paths.{directive_path, daemon_path, child_path, is_prefix, AnyUnder, path_cmp}

-- the first comes at the second or before it
abbrev pub IsUpTo : List ℕ → List ℕ → Type 0
IsUpTo p q = is_gt (path_cmp p q) ≡ false

-- ---- numbers

less : (i j : ℕ) → i < j → nat_cmp i j ≡ Less
less i j before = sym (nat_cmp_is i j Less before)

itself : (i : ℕ) → nat_cmp i i ≡ Equal
itself i = sym (nat_cmp_is i i Equal refl)

same_itself : (i : ℕ) → nat_eq i i ≡ true
same_itself i = (Decides-eqb i i).1 refl

same : (i j : ℕ) → nat_eq i j ≡ true → i ≡ j
same i j = (Decides-eqb i j).0

-- ---- directives and daemons

-- directives stand before daemons
pub directives_before_daemons : (directive daemon : ℕ) (below others : List ℕ) →
    path_cmp (directive_path directive below) (daemon_path daemon others) ≡ Less
directives_before_daemons directive daemon below others = refl

-- smaller ids stand first, whatever is below them
pub smaller_directive_first : (i j : ℕ) (below others : List ℕ) → i < j →
    path_cmp (directive_path i below) (directive_path j others) ≡ Less
smaller_directive_first i j below others before = ap (λ first. ordering_then first (slice_cmp nat_cmp below others)) (less i j before)

pub smaller_daemon_first : (i j : ℕ) (below others : List ℕ) → i < j →
    path_cmp (daemon_path i below) (daemon_path j others) ≡ Less
smaller_daemon_first i j below others before = ap (λ first. ordering_then first (slice_cmp nat_cmp below others)) (less i j before)

-- ---- children

-- a task stands before each of its children
pub before_its_children : (path : List ℕ) (number : ℕ) → path_cmp path (child_path path number) ≡ Less
before_its_children [] number = refl
before_its_children (first ∷ path) number =
    ap (λ o. ordering_then o (path_cmp path (child_path path number))) (itself first) ∙ before_its_children path number

-- and all that is below an earlier child before a later one with all below it
pub earlier_child_first : (path below others : List ℕ) (i j : ℕ) → i < j →
    path_cmp (path ++ i ∷ below) (path ++ j ∷ others) ≡ Less
earlier_child_first [] below others i j before = ap (λ first. ordering_then first (slice_cmp nat_cmp below others)) (less i j before)
earlier_child_first (first ∷ path) below others i j before =
    ap (λ o. ordering_then o (path_cmp (path ++ i ∷ below) (path ++ j ∷ others))) (itself first)
    ∙ earlier_child_first path below others i j before

-- ---- what is under a path

pub under_itself : (path : List ℕ) → is_prefix path path ≡ true
under_itself [] = refl
under_itself (first ∷ path) = ap (λ b. b && is_prefix path path) (same_itself first) ∙ under_itself path

-- a path that goes on from another is under it
pub what_goes_on_is_under : (path rest : List ℕ) → is_prefix path (path ++ rest) ≡ true
what_goes_on_is_under [] rest = refl
what_goes_on_is_under (first ∷ path) rest =
    ap (λ b. b && is_prefix path (path ++ rest)) (same_itself first) ∙ what_goes_on_is_under path rest

pub child_is_under : (path : List ℕ) (number : ℕ) → is_prefix path (child_path path number) ≡ true
child_is_under path number = what_goes_on_is_under path (number ∷ [])

-- what is under a path stands at it or behind it
pub under_is_from : (p q : List ℕ) → is_prefix p q ≡ true → IsUpTo p q
under_is_from [] [] under = refl
under_is_from [] (b ∷ q) under = refl
under_is_from (a ∷ p) [] under = sym under
under_is_from (a ∷ p) (b ∷ q) under = go (nat_eq a b) refl under (under_is_from p q)
  where
    go : (e : Bool) → nat_eq a b ≡ e → (e && is_prefix p q) ≡ true → (is_prefix p q ≡ true → IsUpTo p q) →
        is_gt (ordering_then (nat_cmp a b) (path_cmp p q)) ≡ false
    go true e u behind =
        ap (λ o. is_gt (ordering_then o (path_cmp p q))) (sym (nat_cmp_is a b Equal (same a b e))) ∙ behind u
    go false e u behind = absurd (true≢false (sym u))

-- and nothing else stands between the two
pub between_is_under : (p q r : List ℕ) → IsUpTo p q → IsUpTo q r → is_prefix p r ≡ true → is_prefix p q ≡ true
between_is_under [] q r from upto under = refl
between_is_under (a ∷ p) [] r from upto under = absurd (true≢false from)
between_is_under (a ∷ p) (b ∷ q) [] from upto under = absurd (true≢false (sym under))
between_is_under (a ∷ p) (b ∷ q) (c ∷ r) from upto under =
    go (nat_cmp a b) refl (nat_eq a c) refl from upto under (between_is_under p q r)
  where
    turned : (o : Ordering) → nat_cmp a b ≡ o → nat_eq a c ≡ true → nat_cmp b c ≡ ordering_reverse o
    turned o x e = ap (nat_cmp b) (sym (same a c e)) ∙ nat_cmp_total.antisymm b a ∙ ap ordering_reverse x

    go : (o : Ordering) → nat_cmp a b ≡ o → (e : Bool) → nat_eq a c ≡ e →
        is_gt (ordering_then o (path_cmp p q)) ≡ false → is_gt (ordering_then (nat_cmp b c) (path_cmp q r)) ≡ false →
        (e && is_prefix p r) ≡ true → (IsUpTo p q → IsUpTo q r → is_prefix p r ≡ true → is_prefix p q ≡ true) →
        (nat_eq a b && is_prefix p q) ≡ true
    go o x false e f u h behind = absurd (true≢false (sym h))
    go Greater x true e f u h behind = absurd (true≢false f)
    go Less x true e f u h behind =
        absurd (true≢false (sym (ap (λ o. is_gt (ordering_then o (path_cmp q r))) (turned Less x e)) ∙ u))
    go Equal x true e f u h behind =
        ap (λ s. s && is_prefix p q) (sym (unsigned_tied a b) ∙ ap is_eq x)
        ∙ behind f (sym (ap (λ o. is_gt (ordering_then o (path_cmp q r))) (turned Equal x e)) ∙ u) h

-- ---- whether one of some paths is under another, by the first of them from it on

-- the first of them from p on is under p exactly where one of them is
pub first_from_tells : (Has : List ℕ → Type 0) (p first : List ℕ) → Has first → IsUpTo p first →
    ((q : List ℕ) → IsUpTo p q → Has q → IsUpTo first q) → IsTrue (is_prefix p first) ↔ AnyUnder p Has
first_from_tells Has p first has from least = (
  λ under. (first, has, under),
  λ any. between_is_under p first any.0 from (least any.0 (under_is_from p any.0 any.2) any.1) any.2,
)

-- where there is none of them from p on, none is under p
pub none_from_tells : (Has : List ℕ → Type 0) (p : List ℕ) → ((q : List ℕ) → IsUpTo p q → Has q → ⊥) → AnyUnder p Has → ⊥
none_from_tells Has p none any = none any.0 (under_is_from p any.0 any.2) any.1

-- the same of the range of a set from p on
pub first_in_range_tells : (paths : BTreeSet (List ℕ)) (p first : List ℕ) (rest : List (List ℕ)) →
    IsKeyRangeOf path_cmp (Included p) Unbounded paths (first ∷ rest) →
    IsTrue (is_prefix p first) ↔ AnyUnder p (λ q. IsTrue (contains path_cmp paths q))
first_in_range_tells paths p first rest range =
    first_from_tells (λ q. IsTrue (contains path_cmp paths q)) p first range.1.1 range.1.0.0 (λ q from has. range.2 q (from, tt) has)

pub empty_range_tells : (paths : BTreeSet (List ℕ)) (p : List ℕ) →
    IsKeyRangeOf path_cmp (Included p) Unbounded paths [] → AnyUnder p (λ q. IsTrue (contains path_cmp paths q)) → ⊥
empty_range_tells paths p range =
    none_from_tells (λ q. IsTrue (contains path_cmp paths q)) p (λ q from has. true≢false (sym has ∙ range.5 refl q (from, tt)))
