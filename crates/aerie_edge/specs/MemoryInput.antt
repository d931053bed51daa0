-- A source of bytes in memory whose reads are short and fail where a list says so.
use Rattle.std.specs.Prelude.{ℕ, Bool, List, drop, length, min, if◌then◌else◌}
use Rattle.aerie_edge.specs.Faults.{raised}
use Rattle.aerie_edge.specs.Listed.{is_listed}

pub record MemoryInput : Type 0 where
  -- the bytes still to come
  pub left : List ℕ
  -- the most that one call gives
  pub piece : ℕ
  -- the numbers of the calls that fail, the first call being 1
  pub fails : List ℕ
  -- how many calls were made, and how many of them failed
  pub calls : ℕ
  pub faults : ℕ

-- the list names the next read
abbrev pub read_fails : MemoryInput → Bool
read_fails input = is_listed input.fails (raised input.calls)

-- how many bytes the next read gives into a room of this size
abbrev pub read_count : MemoryInput → ℕ → ℕ
read_count input room = min input.piece (min room (length input.left))

-- the source after a read into a room of this size
abbrev pub after_read : MemoryInput → ℕ → MemoryInput
after_read input room =
    if read_fails input
    then record input { calls = raised input.calls; faults = raised input.faults }
    else record input { left = drop (read_count input room) input.left; calls = raised input.calls }
