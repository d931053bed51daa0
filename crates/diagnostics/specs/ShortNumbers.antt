-- Numbers of 16 bits.
use Rattle.std.specs.Prelude.{ℕ, min}

-- the number of an enumeration, a variant or a cell, which has 16 bits: one past its type's end stands at the end
abbrev pub short : ℕ → ℕ
short number = min number 65535
