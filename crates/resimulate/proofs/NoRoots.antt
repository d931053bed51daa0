-- Where no directive or daemon is noted, none is found.
use Rattle.std.proofs.Common.{◌≡◌, ℕ, false, List, [], ◌∷◌, length, refl}
use Rattle.resimulate.specs.Origins.{has_root}

pub none_has : (roots : List ℕ) (number : ℕ) → length roots ≡ 0 → has_root roots number ≡ false
none_has [] number none = refl
none_has (first ∷ rest) number none = absurd (cc)
