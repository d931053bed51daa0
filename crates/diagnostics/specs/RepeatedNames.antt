-- Names that may stand but once.
use Rattle.std.specs.Prelude.{ℕ, not, List, [], ◌∷◌, ◌++◌}
use Rattle.aerie_base.specs.declared.places.Place.{Place}
use Rattle.aerie_base.specs.models.Names.{is_name_among}
use Rattle.diagnostics.specs.declared.diagnostic.Diagnostic.{Diagnostic}
use Rattle.diagnostics.specs.Diagnostics.{refused_unless}
use Rattle.diagnostics.specs.NameLists.{with_name}

-- a name that is that of an earlier one
abbrev pub repeated_at : {C : Type 0} → C → List (List ℕ) → List ℕ → Place → List (Diagnostic C)
repeated_at cause earlier name place = refused_unless (not (is_name_among name earlier)) cause place

-- each of these whose name is that of an earlier one
abbrev pub repeated_by : {A C : Type 0} → (A → List ℕ) → (A → Place) → C → List (List ℕ) → List A → List (Diagnostic C)
repeated_by name_of place_of cause earlier [] = []
repeated_by name_of place_of cause earlier (one ∷ rest) =
    repeated_at cause earlier (name_of one) (place_of one) ++ repeated_by name_of place_of cause (with_name earlier (name_of one)) rest
