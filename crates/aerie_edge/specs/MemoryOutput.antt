-- A sink of bytes in memory whose writes are short and fail where a list says so.
use Rattle.std.specs.Prelude.{ℕ, Bool, List, ◌++◌}
use Rattle.aerie_edge.specs.Faults.{raised}
use Rattle.aerie_edge.specs.Listed.{is_listed}

pub record MemoryOutput : Type 0 where
  -- all bytes that were taken
  pub written : List ℕ
  -- the most that one call takes
  pub piece : ℕ
  -- the numbers of the calls that fail, the first call being 1
  pub fails : List ℕ
  -- how many calls were made, and how many of them failed
  pub calls : ℕ
  pub faults : ℕ

-- the list names the next write
abbrev pub write_fails : MemoryOutput → Bool
write_fails output = is_listed output.fails (raised output.calls)

-- the sink after a write that took these bytes
abbrev pub after_write : MemoryOutput → List ℕ → MemoryOutput
after_write output bytes = record output { written = output.written ++ bytes; calls = raised output.calls }

-- the sink after a write that failed
abbrev pub after_fault : MemoryOutput → MemoryOutput
after_fault output = record output { calls = raised output.calls; faults = raised output.faults }
