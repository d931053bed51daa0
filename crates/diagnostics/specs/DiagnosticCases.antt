-- What is told first of two, and names that stand twice, computed.
use Rattle.std.specs.Prelude.{◌≡◌, ℕ, [], ◌∷◌, Some, refl}
use Rattle.aerie_base.specs.declared.places.Place.{Place}
use Rattle.diagnostics.specs.declared.diagnostic.Diagnostic.{Diagnostic}
use Rattle.diagnostics.specs.Diagnostics.{first_by}
use Rattle.diagnostics.specs.RepeatedNames.{repeated_by}

abbrev at : ℕ → ℕ → Place
at line column = record { line = line; column = column }

-- a cause is its rank here
abbrev rank : ℕ → ℕ
rank cause = cause

abbrev wrong : ℕ → ℕ → ℕ → Diagnostic ℕ
wrong line column cause = record { place = at line column; cause = cause }

-- the earlier line, whatever the columns and the ranks
the_earlier_line : first_by rank (wrong 2 1 1 ∷ wrong 1 9 3 ∷ []) ≡ Some (wrong 1 9 3)
the_earlier_line = refl

-- at one place the lesser rank
the_lesser_rank : first_by rank (wrong 1 4 3 ∷ wrong 1 4 2 ∷ wrong 1 4 5 ∷ []) ≡ Some (wrong 1 4 2)
the_lesser_rank = refl

-- of two that are alike the one that was found first stays; the later of two equal names is refused
the_later_name : repeated_by (λ (name : ℕ). name ∷ []) (λ (name : ℕ). at 1 name) 7 [] (5 ∷ 6 ∷ 5 ∷ []) ≡ wrong 1 5 7 ∷ []
the_later_name = refl
