-- Reading all marks.
use Rattle.std.specs.Prelude.{[], ◌∷◌}
use Rattle.readers.specs.Parsed.{Parsed, parsed, failed, over_limit}

-- what is read is all that there is: reading fails at a mark that is left
abbrev pub to_the_end : {A : Type 0} → Parsed A → Parsed A
to_the_end (parsed part []) = parsed part []
to_the_end (parsed part (mark ∷ rest)) = failed (mark ∷ rest)
to_the_end (failed rest) = failed rest
to_the_end (over_limit limit rest) = over_limit limit rest
