-- A range of ids: a test of which directives differ.
use Rattle.std.specs.Prelude.{ℕ, Bool, false, nat_lt, if◌then◌else◌}

-- whether an id is in a range: not below its first, and below its end
abbrev pub is_id_between : ℕ → ℕ → ℕ → Bool
is_id_between first past id = if nat_lt id first then false else nat_lt id past
