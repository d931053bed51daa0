-- What is known of the commands of a name that has a spacing: how long after one another they stand at least, and when the last one
-- was sent.
use Rattle.std.specs.Prelude.{◌≡◌, ℕ, ℤ, pos, Bool, true, false, List, [], ◌∷◌, Option, Some, None, max, if◌then◌else◌, refl}
use Rattle.aerie_base.specs.models.Names.{same_name}
use Rattle.seq_expand.specs.declared.closeness.Spaced.{Spaced}
use Rattle.seq_expand.specs.declared.sequence.Sent.{Sent}
use Rattle.seq_expand.specs.Closeness.{is_soon, last_time_of}

-- the longer of two spacings, of which there may be one alone
abbrev pub longer_spacing : Option ℕ → ℕ → ℕ
longer_spacing None least = least
longer_spacing (Some other) least = max other least

-- the longest of the spacings of a name
abbrev pub spacing_of : List (List ℕ × ℕ) → List ℕ → Option ℕ
spacing_of [] name = None
spacing_of (spacing ∷ rest) name = if same_name spacing.0 name then Some (longer_spacing (spacing_of rest name) spacing.1) else spacing_of rest name

-- with one spacing more
abbrev pub widened : Option Spaced → ℕ → Spaced
widened None least = record { least = least; last = None }
widened (Some spaced) least = record { least = max spaced.least least; last = spaced.last }

abbrev pub spaced_with : Option ℤ → Option ℕ → Option Spaced
spaced_with last None = None
spaced_with last (Some least) = Some (record { least = least; last = last })

-- what is known of a name behind some commands, of which the later come first
abbrev pub spaced_behind : List (List ℕ × ℕ) → List Sent → List ℕ → Option Spaced
spaced_behind spacings before name = spaced_with (last_time_of name before) (spacing_of spacings name)

-- whether a command of that name at a time stands too close
abbrev pub is_soon_for : Option Spaced → ℤ → Bool
is_soon_for None at = false
is_soon_for (Some spaced) at = is_soon at spaced.least spaced.last

-- with a command sent
abbrev pub with_last_at : ℤ → Option Spaced → Option Spaced
with_last_at at None = None
with_last_at at (Some spaced) = Some (record { least = spaced.least; last = Some at })

-- ---- worked cases

-- of two spacings of a name the longer one counts: 7 microseconds behind is too close
pub the_longer_counts : is_soon_for (with_last_at (pos 20) (spaced_behind ((83 ∷ [], 9) ∷ (83 ∷ [], 5) ∷ []) [] (83 ∷ []))) (pos 27) ≡ true
the_longer_counts = refl

-- a name without a spacing is never too close
pub no_spacing : is_soon_for (spaced_behind ((83 ∷ [], 9) ∷ []) [] (84 ∷ [])) (pos 0) ≡ false
no_spacing = refl
