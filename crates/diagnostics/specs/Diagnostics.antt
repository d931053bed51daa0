-- What is wrong with a text that is checked, and what of it comes first: by place, and at one place by the rank of the cause.
use Rattle.std.specs.Prelude.{◌≡◌, ℕ, ◌==◌, Bool, ◌&&◌, ◌||◌, not, List, [], ◌∷◌, ◌++◌, Option, Some, None, nat_lt, if◌then◌else◌}
use Rattle.aerie_base.specs.declared.places.Place.{Place}
use Rattle.diagnostics.specs.declared.diagnostic.Diagnostic.{Diagnostic}

-- ---- the order

-- by line, and in one line by column
abbrev pub is_place_before : Place → Place → Bool
is_place_before one other = nat_lt one.line other.line || (one.line == other.line && nat_lt one.column other.column)

-- by place, and at one place by rank
abbrev pub is_told_before : {C : Type 0} → (C → ℕ) → Diagnostic C → Diagnostic C → Bool
is_told_before rank one other =
    is_place_before one.place other.place
    || (not (is_place_before other.place one.place) && nat_lt (rank one.cause) (rank other.cause))

-- ---- the first one

-- the first of what was found so far and one more
abbrev pub sooner_by : {C : Type 0} → (C → ℕ) → Option (Diagnostic C) → Diagnostic C → Option (Diagnostic C)
sooner_by rank None new = Some new
sooner_by rank (Some old) new = Some (if is_told_before rank new old then new else old)

-- the first of what was found so far and more of them
abbrev pub noted_by : {C : Type 0} → (C → ℕ) → Option (Diagnostic C) → List (Diagnostic C) → Option (Diagnostic C)
noted_by rank found [] = found
noted_by rank found (new ∷ rest) = noted_by rank (sooner_by rank found new) rest

-- the first of them, where there is one
abbrev pub first_by : {C : Type 0} → (C → ℕ) → List (Diagnostic C) → Option (Diagnostic C)
first_by rank = noted_by rank None

-- this was made, and what is wrong with it was noted
abbrev pub MakesBy : {A C : Type 0} → (C → ℕ) → A → List (Diagnostic C) → Option (Diagnostic C) → Option (Diagnostic C) → A → Type 0
MakesBy rank meant wrong before after made = (made ≡ meant) × (after ≡ noted_by rank before wrong)

-- ---- one at a place

abbrev pub at_place : {C : Type 0} → C → Place → List (Diagnostic C)
at_place cause place = record { place = place; cause = cause } ∷ []

-- the same, where something does not hold
abbrev pub refused_unless : {C : Type 0} → Bool → C → Place → List (Diagnostic C)
refused_unless holds cause place = if holds then [] else at_place cause place

-- ---- those of several parts

-- what is wrong with each of these
abbrev pub all_of : {A C : Type 0} → (A → List (Diagnostic C)) → List A → List (Diagnostic C)
all_of of_one [] = []
all_of of_one (part ∷ rest) = of_one part ++ all_of of_one rest
