-- Flags of cells as bits: a word for each 64 cells, whose lowest bit is of the first of them.
use Rattle.std.specs.Prelude.{◌≡◌, ◌<◌, ◌≤◌, ℕ, ◌/◌, ◌%◌, List, Bool, false, map, nat_eq, slice_index_or}
use Rattle.std.specs.Int.{bit_at}
use Rattle.std.specs.List.{range_with_len}

-- whether the bit of a cell is set
abbrev pub has_bit : List ℕ → ℕ → Bool
has_bit words cell = nat_eq (bit_at (slice_index_or words (cell / 64) 0) (cell % 64)) 1

-- a flag for each of so many cells
abbrev pub flags_of : ℕ → List ℕ → List Bool
flags_of cells words = map (has_bit words) (range_with_len 0 cells)

-- no flag is set from a cell on up to another
abbrev pub HaveNoFlag : List Bool → ℕ → ℕ → Type 0
HaveNoFlag flags from to = (cell : ℕ) → from ≤ cell → cell < to → slice_index_or flags cell false ≡ false
