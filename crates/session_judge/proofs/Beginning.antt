-- The place at which a text begins.
use Rattle.std.proofs.Common.{◌≡◌, ℕ, List, refl}
use Rattle.std.specs.Str.{chars}
use Rattle.aerie_base.specs.declared.places.Place.{Place}
use Rattle.aerie_text.specs.Places.{place_of}

pub begins : (text : List ℕ) → ◌≡◌ {A = Place} (record { line = 1; column = 1 }) (place_of text 0)
unfolding chars
begins text = refl
