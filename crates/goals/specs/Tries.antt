-- Up to where times are tried.
use Rattle.std.specs.Prelude.{ℕ, ℤ, Bool, List, int_le, int_lt}
use Rattle.std.specs.List.{filter}
use Rattle.goals.specs.declared.candidate_times.Bound.{Bound}
use Rattle.goals.specs.declared.candidate_times.Bound.TheVariants.{After, UpTo, Before}
use Rattle.goals.specs.Candidates.{most_tried, spread}

abbrev pub admits : Bound → ℤ → Bool
admits (After least) time = int_lt least time
admits (UpTo most) time = int_le time most
admits (Before end) time = int_lt time end

-- no first time and no step comes further from 0
abbrev pub spread_limit : ℕ
spread_limit = 100_000_000_000_000_000_000

-- those of the first hundred that are within the bound
abbrev pub spread_times : Bound → ℤ → ℤ → List ℤ
spread_times bound first step = filter (admits bound) (spread most_tried first step)
