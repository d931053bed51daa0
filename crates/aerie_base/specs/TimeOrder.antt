-- The earlier and the later of two times, of which each may be none: that is, never.
use Rattle.std.specs.Prelude.{ℕ, Option, Some, None, min, max}

abbrev pub earlier : Option ℕ → Option ℕ → Option ℕ
earlier None other = other
earlier (Some time) None = Some time
earlier (Some time) (Some other) = Some (min time other)

abbrev pub later : Option ℕ → Option ℕ → Option ℕ
later None other = None
later (Some time) None = None
later (Some time) (Some other) = Some (max time other)
