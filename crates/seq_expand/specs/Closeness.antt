-- Which commands stand too close behind the one before of their name.
use Rattle.std.specs.Prelude.{ℕ, ◌+◌, ℤ, pos, ◌-ℤ◌, Bool, false, ◌&&◌, List, [], ◌∷◌, Option, Some, None, if◌then◌else◌}
use Rattle.std.specs.List.{list_any}
use Rattle.std.specs.Int.RustNames.{int_lt}
use Rattle.aerie_base.specs.models.Names.{same_name}
use Rattle.seq_expand.specs.declared.sequence.Sent.{Sent}

-- the time of the last command of a name, among some of which the later come first
abbrev pub last_time_of : List ℕ → List Sent → Option ℤ
last_time_of name [] = None
last_time_of name (sent ∷ before) = if same_name sent.name name then Some sent.at else last_time_of name before

-- less than so much behind
abbrev pub is_soon : ℤ → ℕ → Option ℤ → Bool
is_soon at least None = false
is_soon at least (Some before) = int_lt (at -ℤ before) (pos least)

-- whether some spacing is of the command's name, and the last one of that name is too near
abbrev pub is_too_close : List (List ℕ × ℕ) → List Sent → Sent → Bool
is_too_close spacings before sent =
    list_any (λ spacing. same_name spacing.0 sent.name && is_soon sent.at spacing.1 (last_time_of spacing.0 before)) spacings

-- the positions of such commands, counted from one on, behind others of which the later come first
abbrev pub close_from : List (List ℕ × ℕ) → ℕ → List Sent → List Sent → List ℕ
close_from spacings position before [] = []
close_from spacings position before (sent ∷ rest) =
    if is_too_close spacings before sent then position ∷ close_from spacings (position + 1) (sent ∷ before) rest
    else close_from spacings (position + 1) (sent ∷ before) rest

abbrev pub close_positions : List (List ℕ × ℕ) → List Sent → List ℕ
close_positions spacings commands = close_from spacings 0 [] commands
