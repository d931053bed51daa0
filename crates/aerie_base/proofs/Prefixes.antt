-- A slice starts with another exactly where it is under it as a path is.
use Rattle.std.proofs.Common.{◌≡◌, ℕ, ◌&&◌, List, [], ◌∷◌, nat_eq, refl, ap}
use Rattle.std.specs.List.{starts_with}
use Rattle.aerie_base.specs.Paths.{is_prefix}

pub starts_is_under : (path above : List ℕ) → starts_with nat_eq path above ≡ is_prefix above path
starts_is_under path [] = refl
starts_is_under [] (number ∷ above) = refl
starts_is_under (other ∷ path) (number ∷ above) = ap (λ same. nat_eq number other && same) (starts_is_under path above)
