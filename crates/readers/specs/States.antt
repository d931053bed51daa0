-- What a reader keeps: the tokens that are left, and of the first of them the sort and the place.
use Rattle.std.specs.Prelude.{◌≡◌, ◌<◌, ◌≤◌, ℕ, List, [], ◌∷◌, length}
use Rattle.aerie_base.specs.declared.places.Place.{Place}
use Rattle.aerie_text.specs.Marks.{AreTokensWithin, sort_of}
use Rattle.aerie_text.specs.Places.{place_of}
use Rattle.aerie_text.specs.declared.sorts.Sort.{Sort}
use Rattle.aerie_text.specs.declared.token.Token.{Token}

-- the sort and the place are those of the first of the tokens; where none is left they may be any
abbrev pub AreOfFirst : List ℕ → List Token → Sort → Place → Type 0
AreOfFirst text [] sort at = Unit {0}
AreOfFirst text (token ∷ later) sort at = (sort ≡ sort_of text token) × (at ≡ place_of text token.from)

-- the first of the tokens begins at this byte or behind it
abbrev pub BeginsFrom : ℕ → List Token → Type 0
BeginsFrom from [] = Unit {0}
BeginsFrom from (token ∷ later) = from ≤ token.from

-- a reader of the text stands before these tokens
pub record StandsBefore (text : List ℕ) (tokens : List Token) (sort : Sort) (at : Place) : Type 0 where
  pub short : length text < 4_294_967_295
  pub within : AreTokensWithin text tokens
  pub first : AreOfFirst text tokens sort at
