-- Names in the order in which they are first seen, and what goes by a name.
use Rattle.std.specs.Prelude.{ℕ, List, [], ◌∷◌, ◌++◌, Option, position, if◌then◌else◌}
use Rattle.aerie_base.specs.models.Names.{same_name, is_name_among}

-- the names with one more, where it is not among them
abbrev pub with_name : List (List ℕ) → List ℕ → List (List ℕ)
with_name names name = if is_name_among name names then names else names ++ name ∷ []

-- the number of a name among different ones
abbrev pub name_number : List ℕ → List (List ℕ) → Option ℕ
name_number name names = position (same_name name) names
