-- Numbers within bounds.
use Rattle.std.specs.Prelude.{ℕ, ℤ, pos, negsuc, nat_abs, Bool, false, ◌&&◌, nat_le, List, [], ◌∷◌}
use Rattle.aerie_base.specs.declared.places.Place.{Place}
use Rattle.aerie_text.specs.declared.sorts.Sort.{Sort}
use Rattle.readers.specs.Marks.{Mark}
use Rattle.readers.specs.Parsed.{Parsed, failed, is_of, taken}

-- the number is from the least to the most
abbrev pub is_within : ℕ → ℕ → ℤ → Bool
is_within least most (pos number) = nat_le least number && nat_le number most
is_within least most (negsuc number) = false

-- the mark is of the sort, and counts from the least to the most
abbrev pub counts_within : Sort → ℕ → ℕ → Mark → Bool
counts_within sort least most mark = is_of sort mark && is_within least most mark.number

-- a mark of this sort that counts from the least to the most: its place and what it counts
abbrev pub number_within_at : Sort → ℕ → ℕ → List Mark → Parsed (Place × ℕ)
number_within_at sort least most [] = failed []
number_within_at sort least most (mark ∷ rest) = taken (counts_within sort least most mark) (mark.at, nat_abs mark.number) (mark ∷ rest) rest
