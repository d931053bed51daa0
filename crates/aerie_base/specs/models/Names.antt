-- Names that differ.
use Rattle.std.specs.Prelude.{◌≡◌, ℕ, ◌&&◌, Bool, true, false, not, List, [], ◌∷◌, codes, nat_eq, refl}
use Rattle.std.specs.List.{list_any}
use Rattle.std.specs.Cmp.Lexicographic.{pointwise}

-- whether two names are one; a name is the list of its bytes
abbrev pub same_name : List ℕ → List ℕ → Bool
same_name = pointwise nat_eq

-- whether a name is one of these
abbrev pub is_name_among : List ℕ → List (List ℕ) → Bool
is_name_among name names = list_any (same_name name) names

-- whether no two of these names are one
abbrev pub are_distinct : List (List ℕ) → Bool
are_distinct [] = true
are_distinct (name ∷ rest) = not (is_name_among name rest) && are_distinct rest

-- ---- worked cases

pub three_names : are_distinct (codes "a" ∷ codes "b" ∷ codes "ab" ∷ []) ≡ true
three_names = refl

pub first_again : are_distinct (codes "a" ∷ codes "b" ∷ codes "a" ∷ []) ≡ false
first_again = refl
