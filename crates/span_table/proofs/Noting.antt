-- The paths that a path is under, one after another: each takes the time of its step.
use Rattle.std.proofs.Common.{◌≡◌, ℕ, ◌+◌, ◌<◌, ◌≤◌, Bool, true, false, ◌&&◌, ◌||◌, List, [], ◌∷◌, length, get_or, nat_eq, refl, ap, ◌∙◌, arith}
use Rattle.std.proofs.lemmas.Cmp.{nat_eq_equiv}
use Rattle.aerie_base.specs.PathsAbove.{next_child, so_far}
use Rattle.aerie_base.specs.Paths.{path_of, children_of, child_path, is_prefix}
use Rattle.run_data.specs.Spans.{same_path}

-- ---- prefixes

swapped : (a b : ℕ) (x : Bool) → (nat_eq a b && x) ≡ (nat_eq b a && x)
swapped a b x = ap (λ e. e && x) (nat_eq_equiv.symm a b)

alone : (q : List ℕ) → is_prefix q [] ≡ same_path [] q
alone [] = refl
alone (x ∷ q) = refl

shared : (e b s : Bool) → (e && (b || s)) ≡ ((e && b) || (e && s))
shared true b s = refl
shared false b s = refl

-- a path is at or above a child where it is the child or at or above its maker
pub child_prefix : (q above : List ℕ) (number : ℕ) → is_prefix q (child_path above number) ≡ (is_prefix q above || same_path (child_path above number) q)
child_prefix [] [] number = refl
child_prefix [] (a ∷ above) number = refl
child_prefix (x ∷ q) [] number = swapped x number (is_prefix q []) ∙ ap (λ b. nat_eq number x && b) (alone q)
child_prefix (x ∷ q) (a ∷ above) number =
    ap (λ b. nat_eq x a && b) (child_prefix q above number)
    ∙ (shared (nat_eq x a) (is_prefix q above) (same_path (child_path above number) q)
    ∙ ap (λ b. (nat_eq x a && is_prefix q above) || b) (swapped x a (same_path (child_path above number) q)))

-- the path of a directive or a daemon is at or above no other such path
root_prefix : (q : List ℕ) (kind id : ℕ) → 2 ≤ length q → is_prefix q (kind ∷ id ∷ []) ≡ same_path (kind ∷ id ∷ []) q
root_prefix [] kind id long = absurd (omega arith)
root_prefix (x ∷ []) kind id long = absurd (omega arith)
root_prefix (x ∷ y ∷ q) kind id long =
    swapped x kind (nat_eq y id && is_prefix q [])
    ∙ (ap (λ b. nat_eq kind x && b) (swapped y id (is_prefix q []))
    ∙ ap (λ b. nat_eq kind x && (nat_eq id y && b)) (alone q))

pub root_prefix_any : (q path : List ℕ) → 2 ≤ length q → length path ≡ 2 → is_prefix q path ≡ same_path path q
root_prefix_any q [] long two = absurd (omega (arith, two))
root_prefix_any q (kind ∷ []) long two = absurd (omega (arith, two))
root_prefix_any q (kind ∷ id ∷ []) long two = root_prefix q kind id long
root_prefix_any q (kind ∷ id ∷ other ∷ path) long two = absurd (omega (arith, two))

pub root_of_any : (q : List ℕ) (daemon : Bool) (id : ℕ) → 2 ≤ length q → is_prefix q (path_of daemon id []) ≡ same_path (path_of daemon id []) q
root_of_any q true id long = root_prefix q 1 id long
root_of_any q false id long = root_prefix q 0 id long

-- ---- the way down

pub next_is_child : (path items above below : List ℕ) (i : ℕ) → items ≡ children_of path → i < length items →
    above ≡ so_far path i → below ≡ so_far path (i + 1) → below ≡ child_path above (get_or items i 0)
next_is_child path items above below i same within at next = next ∙ next_child path items above i same within at
