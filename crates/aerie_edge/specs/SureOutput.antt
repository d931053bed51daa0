-- A sink without faults that tells what it took for as long as it fits into the room that was reserved.
use Rattle.std.specs.Prelude.{ℕ, ◌+◌, List, ◌++◌, length, leb, Option, None, Some, if◌then◌else◌}

pub record SureOutput : Type 0 where
  -- how many bytes there is room for
  pub room : ℕ
  -- the bytes that were taken, while they fit
  pub told : Option (List ℕ)

-- what is told after one more piece
abbrev pub told_after : ℕ → Option (List ℕ) → List ℕ → Option (List ℕ)
told_after room None piece = None
told_after room (Some bytes) piece = if leb (length bytes + length piece) room then Some (bytes ++ piece) else None

-- the sink after a write of this piece
abbrev pub after_sure_write : SureOutput → List ℕ → SureOutput
after_sure_write output piece = record output { told = told_after output.room output.told piece }
