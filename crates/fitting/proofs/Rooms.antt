-- The paths of children, and how much room they have.
use Rattle.std.proofs.Common.{◌≡◌, ℕ, suc, ◌-◌, ◌<◌, ◌≤◌, Bool, true, false, IsTrue, if◌then◌else◌, List, [], ◌∷◌, ◌++◌, length, Some, None, refl, ap, length-append, arith}
use Rattle.std.proofs.lemmas.Bool.{ltb-true, ltb-false}
use Rattle.aerie_base.specs.Paths.{child_path, child_limit, children_of, child_of, may_have_children, is_path}
use Rattle.run_data.specs.Frames.{room_of}

pub child_is_less : (path child : List ℕ) (number : ℕ) → IsTrue (is_path path) → length (children_of path) < child_limit → child ≡ child_path path number → room_of path ≡ suc (room_of child)
child_is_less [] child number good less is = absurd (cc)
child_is_less (kind ∷ []) child number good less is = absurd (cc)
child_is_less (kind ∷ id ∷ children) child number good less is =
    let one = length-append children (number ∷ []) in
    let same : room_of child ≡ child_limit - length (children ++ number ∷ []) = ap room_of is in omega (arith, one, less, same)

pub is_child : (path child : List ℕ) (number : ℕ) → Some child ≡ child_of path number → child ≡ child_path path number
is_child path child number e = by (may_have_children path) e
  where
    by : (may : Bool) → Some child ≡ (if may then Some (child_path path number) else None) → child ≡ child_path path number
    by true e = cc
    by false e = absurd (cc)

pub has_child : (path : List ℕ) (number : ℕ) → length (children_of path) < child_limit → None ≡ child_of path number → ⊥
has_child path number less e = by (may_have_children path) refl e
  where
    by : (may : Bool) → may_have_children path ≡ may → None ≡ (if may then Some (child_path path number) else None) → ⊥
    by true x e = cc
    by false x e = (let most = ltb-false (length (children_of path)) child_limit x in absurd (omega (arith, most, less)))

-- a path without a child has no room
pub no_room : (path : List ℕ) (number : ℕ) → None ≡ child_of path number → room_of path ≡ 0
no_room path number e = by (may_have_children path) refl e
  where
    by : (may : Bool) → may_have_children path ≡ may → None ≡ (if may then Some (child_path path number) else None) → room_of path ≡ 0
    by true x e = absurd (cc)
    by false x e = (let most = ltb-false (length (children_of path)) child_limit x in omega (arith, most))

pub room_is_little : (path : List ℕ) → room_of path ≤ child_limit
room_is_little path = omega arith

-- one with a child has some
pub has_room : (path child : List ℕ) (number : ℕ) → Some child ≡ child_of path number → length (children_of path) < child_limit
has_room path child number e = by (may_have_children path) refl e
  where
    by : (may : Bool) → may_have_children path ≡ may → Some child ≡ (if may then Some (child_path path number) else None) → length (children_of path) < child_limit
    by true x e = ltb-true (length (children_of path)) child_limit x
    by false x e = absurd (cc)
